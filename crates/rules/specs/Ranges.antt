-- Document 01, "The start structure", range rules, and rule 10 of the same ranges. W3: each of the range rules has a number of its own, 18 to 21,
-- and names the row that it is about, counted from 0, the earliest row first.
use Rattle.std.specs.Prelude.{ℕ, suc, ◌%◌, ◌^◌, Bool, ◌||◌, not, List, [], ◌∷◌, ◌++◌, leb, eqb}
use Rattle.rules.specs.Lists.{all, some_below}
use Rattle.rules.specs.Refusals.{Test, ◌else◌, ◌place◌, passes}
use Rattle.rules.specs.Settings.{unit_size}
use Rattle.rules.specs.Units.{end_of}
use Rattle.rules.specs.declared.Range.{Range}
use Rattle.rules.specs.declared.Settings.{Settings}

-- 19, 20 and 21 for one range: its length is at least 1, its start is a multiple of the unit, and it ends at most at 2^64
abbrev pub row_tests : ℕ → ℕ → Range → List Test
row_tests g row r =
    (leb 1 r.length else 19 place row)
    ∷ (eqb (r.start % unit_size g) 0 else 20 place row)
    ∷ (leb (end_of (unit_size g) r) (2 ^ 64) else 21 place row)
    ∷ []

-- whether a range passes these
abbrev pub row_ok : ℕ → Range → Bool
row_ok g r = passes (row_tests g 0 r)

-- whether each of some ranges does
abbrev pub rows_ok : ℕ → List Range → Bool
rows_ok g rs = all (row_ok g) rs

-- all ranges, the earliest row first
abbrev pub rows_tests : ℕ → ℕ → List Range → List Test
rows_tests g row [] = []
rows_tests g row (r ∷ rs) = row_tests g row r ++ rows_tests g (suc row) rs

-- 18 to 21 for n ranges: the count is 1 to 16; each range by itself. They may overlap (W2)
unfoldable pub range_tests : ℕ → ℕ → List Range → List Test
range_tests g n rs =
    (leb 1 n else 18)
    ∷ (leb n 16 else 18)
    ∷ rows_tests g 0 rs

-- whether a length is a power of two
abbrev pub is_power : ℕ → Bool
is_power n = some_below 32 (λ k. eqb n (2 ^ k))

-- 10: the power-of-two rule is off, or each length is a power of two
unfoldable pub powers_ok : Settings → List Range → Bool
powers_ok s rs = not s.powers || all (λ (r : Range). is_power r.length) rs

-- 18 to 21, and 10
abbrev pub list_tests : Settings → ℕ → ℕ → List Range → List Test
list_tests s g n rs = range_tests g n rs ++ (powers_ok s rs else 10) ∷ []
