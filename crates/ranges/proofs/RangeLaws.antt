-- Laws of the range rules (18 to 21, and 10) as the code asks them: one range, the rows, the whole table; how many units ranges have; and what ranges
-- that pass are known by (`HeldFacts`). All of it is the library's interface. Assumes nothing.
use Prim.Native.Nat.{ℕ, zero, suc, ◌-◌, ◌*◌, ◌%◌, ◌^◌, ◌<◌, ◌≤◌}
use mathlib.Core.Path.{◌≡◌, refl, sym, ap, ◌∙◌}
use mathlib.Core.Logic.{◌≢◌}
use mathlib.Core.Bool.{Bool, true, false, not, ◌&&◌, ◌||◌, and-true, and-false, cond}
use mathlib.Core.List.{List, [], ◌∷◌, ◌++◌}
use native.Mathlib.Omega.{arith}
use native.Mathlib.Nat.{mul-le-mul_left}
use lib.Dec.{leb, eqb}
use Rattle.std.specs.declared.option.Option.TheVariants.{None}
use lib.ListN.{length, get_or}
use borrow.Author.Tests.{leb-true, le-leb, lt-leb, eq-eqb}
use Rattle.rules.specs.Lists.{all, keep}
use Rattle.rules.specs.Refusals.{Test, ◌else◌, passes, refusal, Refused, refusal_at}
use Rattle.rules.specs.Settings.{most_units, granularity_ok, unit_size, bytes_of}
use Rattle.rules.specs.Units.{end_of, units_of_row, uncovered, units_from, units}
use Rattle.rules.specs.Ranges.{row_tests, row_ok, rows_ok, rows_tests, range_tests, is_power, powers_ok, list_tests}
use Rattle.rules.specs.StartData.{no_range}
use Rattle.rules.specs.declared.Range.{Range}
use Rattle.rules.specs.declared.Settings.{Settings}
use Rattle.rules.proofs.ListLaws.{All, All-append, and_left, and_right}
use Rattle.rules.proofs.RefusalLaws.{Passed, Passed-left, Passed-right, refusal-none, refusal_at-is, verdict-first, verdict-rest, passes-all, passes_append}
use Rattle.rules.proofs.RowLaws.{row_ok-facts, rows_tests-passes}
use Rattle.rules.proofs.UnitLaws.{units_from-length}
use Rattle.measures.proofs.MeasureLaws.{unit_size-least, bytes_of-pos}
use Rattle.settings.proofs.SettingsLaws.{granularity_ok-greatest}
use Rattle.ranges.specs.Kept.{lengths_of, most_of, kept_by, kept_of}

-- ---- one range

module _ (g : ℕ) (r : Range) where
  -- the first of its rules that it breaks
  pub row-empty : r.length < 1 → refusal (row_tests g 0 r) ≡ 19
  row-empty h = rw (lt-leb 1 r.length h)

  module _ (some : 1 ≤ r.length) where
    pub row-askew : eqb (r.start % unit_size g) 0 ≡ false → refusal (row_tests g 0 r) ≡ 20
    row-askew e = rw (le-leb 1 r.length some, e)

    -- where it ends is asked without a sum: its last byte stands at most at the last address
    module _ (e : eqb (r.start % unit_size g) 0 ≡ true) (b : ℕ) (k : b ≡ bytes_of g r.length) (l : r.start < 2 ^ 64) where
      pub row-past : 18446744073709551615 - r.start < b - 1 → refusal (row_tests g 0 r) ≡ 21
      row-past h = rw (le-leb 1 r.length some, e, lt-leb (end_of (unit_size g) r) (2 ^ 64) (omega (arith, bytes_of-pos g r.length some)))

      pub row_within : b - 1 ≤ 18446744073709551615 - r.start → refusal (row_tests g 0 r) ≡ 0
      row_within h = rw (le-leb 1 r.length some, e, le-leb (end_of (unit_size g) r) (2 ^ 64) (omega (arith, bytes_of-pos g r.length some)))

-- ---- 10

-- where the rule is off, and where it is on
pub powers_ok-off : (s : Settings) (rs : List Range) → s.powers ≡ false → powers_ok s rs ≡ true
unfolding powers_ok
powers_ok-off s rs e = rw e

pub powers_ok-on : (s : Settings) (rs : List Range) → s.powers ≡ true → powers_ok s rs ≡ all (λ (r : Range). is_power r.length) rs
unfolding powers_ok
powers_ok-on s rs e = rw e

-- ---- 18 to 21: the rows, and the whole table, as the code tests them

-- the first n rows, from the one at i on: it breaks a rule, or those behind it answer
module _ (g : ℕ) (rs : List Range) (n i : ℕ) (inside : i < n) (there : i < length rs) (k : ℕ) (e : k ≡ refusal (row_tests g 0 (get_or rs i no_range))) where
  abbrev none : Refused
  none = record { number = 0; row = 0 }

  abbrev at : ℕ → ℕ → Refused
  at number row = record { number = number; row = row }

-- no test has the number 0
rows_tests-numbers : (g row : ℕ) (rs : List Range) → All (λ (t : Test). 1 ≤ t.number) (rows_tests g row rs)
rows_tests-numbers g row [] = tt
rows_tests-numbers g row (r ∷ rs) = (omega arith, (omega arith, (omega arith, rows_tests-numbers g (suc row) rs)))

-- so the number 0 says that each row passes
pub rows_none : (g : ℕ) (rs : List Range) (r : Refused) → r ≡ refusal_at (rows_tests g 0 rs) → r.number ≡ 0 → rows_ok g rs ≡ true
rows_none g rs r e h =
    sym (rows_tests-passes g 0 rs) ∙ sym (refusal-none (rows_tests g 0 rs) (rows_tests-numbers g 0 rs))
    ∙ eq-eqb (refusal (rows_tests g 0 rs)) 0 (sym (ap (λ (q : Refused). q.number) (e ∙ refusal_at-is (rows_tests g 0 rs))) ∙ h)

-- ---- the whole table

module _ (s : Settings) (g n : ℕ) (rs : List Range) where
  -- what follows the rows: 10
  abbrev others : List Test
  others = (powers_ok s rs else 10) ∷ []

  pub list-empty : n < 1 → refusal_at (list_tests s g n rs) ≡ record { number = 18; row = 0 }
  unfolding range_tests
  list-empty h = rw (lt-leb 1 n h)

  pub list-many : 16 < n → refusal_at (list_tests s g n rs) ≡ record { number = 18; row = 0 }
  unfolding range_tests
  list-many h = rw (le-leb 1 n (omega arith), lt-leb n 16 h)

  module _ (some : 1 ≤ n) (few : n ≤ 16) where
    -- past the count the rows answer, and then 10
    past-count : refusal_at (list_tests s g n rs) ≡ refusal_at (rows_tests g 0 rs ++ others)
    unfolding range_tests
    past-count = rw (le-leb 1 n some, le-leb n 16 few)

    pub list-rows : (r : Refused) → r ≡ refusal_at (rows_tests g 0 rs) → r.number ≢ 0 → r ≡ refusal_at (list_tests s g n rs)
    list-rows r e h =
        e ∙ sym (past-count ∙ verdict-first (rows_tests g 0 rs) others _ _ _ (λ z. h (ap (λ (q : Refused). q.number) (e ∙ refusal_at-is (rows_tests g 0 rs)) ∙ z)))

    module _ (rows : rows_ok g rs ≡ true) where
      past-rows : refusal_at (list_tests s g n rs) ≡ refusal_at others
      past-rows = past-count ∙ verdict-rest (rows_tests g 0 rs) others _ _ (rows_tests-passes g 0 rs ∙ rows)

      pub list-ten : powers_ok s rs ≡ false → refusal_at (list_tests s g n rs) ≡ record { number = 10; row = 0 }
      list-ten e = past-rows ∙ rw e

      pub list_done : powers_ok s rs ≡ true → refusal_at (list_tests s g n rs) ≡ record { number = 0; row = 0 }
      list_done e = past-rows ∙ rw e

  -- no test has the number 0
  pub list_tests-numbers : All (λ (t : Test). 1 ≤ t.number) (list_tests s g n rs)
  unfolding range_tests
  list_tests-numbers =
      All-append (λ (t : Test). 1 ≤ t.number) (range_tests g n rs) others (omega arith, (omega arith, rows_tests-numbers g 0 rs)) (omega arith, tt)

-- ---- 18 to 21 and 10 in one pass

-- what is asked of each range by itself: the rules of a row, and 10
abbrev pub each_ok : Settings → ℕ → Range → Bool
each_ok s g r = row_ok g r && powers_ok s (r ∷ [])

-- all ranges by themselves
each_all : (s : Settings) (g : ℕ) (rs : List Range) → all (each_ok s g) rs ≡ (rows_ok g rs && powers_ok s rs)
unfolding powers_ok
each_all s g rs = go s.powers rs
  where
    step : (a b c d : Bool) → ((a && (b && true)) && (c && d)) ≡ ((a && c) && (b && d))
    step true true c d = refl
    step true false c d = sym (and-false c)
    step false b c d = refl

    go : (p : Bool) (rs : List Range)
        → all (λ r. row_ok g r && (not p || all (λ (q : Range). is_power q.length) (r ∷ []))) rs ≡ (rows_ok g rs && (not p || all (λ (q : Range). is_power q.length) rs))
    go true [] = refl
    go false [] = refl
    go true (r ∷ rs) = rw (go true rs) (step (row_ok g r) (is_power r.length) (rows_ok g rs) (all (λ (q : Range). is_power q.length) rs))
    go false (r ∷ rs) = rw (go false rs) (step (row_ok g r) true (rows_ok g rs) true)

module _ (s : Settings) (g n : ℕ) (rs : List Range) where
  pub kept-empty : n < 1 → kept_of s g n rs ≡ None
  unfolding range_tests
  kept-empty h = rw (lt-leb 1 n h)

  pub kept-many : 16 < n → kept_of s g n rs ≡ None
  unfolding range_tests
  kept-many h = rw (le-leb 1 n (omega arith), lt-leb n 16 h)

  -- of 1 to 16 ranges each is asked by itself
  module _ (some : 1 ≤ n) (few : n ≤ 16) where
    passes-each : passes (list_tests s g n rs) ≡ all (each_ok s g) rs
    unfolding range_tests
    passes-each =
        rw (le-leb 1 n some, le-leb n 16 few, passes_append (rows_tests g 0 rs) (others s g n rs), rows_tests-passes g 0 rs, each_all s g rs, and-true (powers_ok s rs))

    pub kept-not : all (each_ok s g) rs ≡ false → kept_of s g n rs ≡ None
    kept-not e = rw (passes-each, e)

    -- kept, with lengths that are within the pool, or not
    pub kept-few : all (each_ok s g) rs ≡ true → lengths_of rs ≤ most_units → kept_of s g n rs ≡ kept_by true (lengths_of rs)
    kept-few e h = rw (passes-each, e, le-leb (lengths_of rs) most_units h)

    pub kept-counted : all (each_ok s g) rs ≡ true → most_units < lengths_of rs → kept_of s g n rs ≡ kept_by true (length (units g rs))
    kept-counted e h = rw (passes-each, e, lt-leb (lengths_of rs) most_units h)

-- ranges that are kept each keep the rules of a row
pub each_rows : (s : Settings) (g : ℕ) (rs : List Range) → all (each_ok s g) rs ≡ true → rows_ok g rs ≡ true
each_rows s g rs e = and_left (rows_ok g rs) (powers_ok s rs) (sym (each_all s g rs) ∙ e)

-- ---- how many units ranges have

-- there are no more different ones than the lengths say
pub units-lengths : (g : ℕ) (rs : List Range) → length (units g rs) ≤ lengths_of rs
units-lengths g rs = units_from-length (unit_size g) 0 [] rs

pub units-most : (g : ℕ) (rs : List Range) → length (units g rs) ≤ most_of g rs
units-most g rs = go (leb (lengths_of rs) most_units)
  where
    go : (b : Bool) → length (units g rs) ≤ cond b (lengths_of rs) (length (units g rs))
    go true = units-lengths g rs
    go false = omega arith

-- a unit has 4 KiB at least, so of a range that ends at most at 2^64 there are at most 2^52
row_small : (g : ℕ) (r : Range) → row_ok g r ≡ true → r.length ≤ 2 ^ 52
row_small g r e = omega (arith, (row_ok-facts g r e).within, mul-le-mul_left {m = 4096} {n = unit_size g} r.length (unit_size-least g))

pub lengths-small : (g : ℕ) (rs : List Range) → rows_ok g rs ≡ true → lengths_of rs ≤ 2 ^ 52 * length rs
lengths-small g [] e = omega arith
lengths-small g (r ∷ rs) e =
    omega (arith, row_small g r (and_left (row_ok g r) (rows_ok g rs) e), lengths-small g rs (and_right (row_ok g r) (rows_ok g rs) e))

-- and ranges that break no rule of a row have some
pub units-some : (g : ℕ) (rs : List Range) → rows_ok g rs ≡ true → 1 ≤ length rs → 1 ≤ length (units g rs)
units-some g [] e h = absurd (omega arith)
units-some g (r ∷ rs) e h = go r.length (row_ok-facts g r (and_left (row_ok g r) (rows_ok g rs) e)).some
  where
    go : (n : ℕ) → 1 ≤ n → 1 ≤ length (keep (uncovered (unit_size g) []) (units_of_row 0 (unit_size g) r.start n) ++ units_from (unit_size g) 1 (r ∷ []) rs)
    go zero l = absurd (omega arith)
    go (suc n) l = omega arith

-- ---- what ranges that pass all of it at a granularity that passes 7 are known by

-- the granularity passes 7 and is small; there are some ranges, and few; each breaks no rule of a row; 10
pub record HeldFacts (s : Settings) (g n : ℕ) (rs : List Range) : Type 0 where
  pub granularity : granularity_ok s g ≡ true
  pub small : g ≤ 20
  pub some : 1 ≤ n
  pub few : n ≤ 16
  pub rows : rows_ok g rs ≡ true
  pub powers : powers_ok s rs ≡ true

module _ (s : Settings) (g n : ℕ) (rs : List Range) where
  pub list_tests-facts : s.greatest ≤ 20 → granularity_ok s g ≡ true → Passed (list_tests s g n rs) → HeldFacts s g n rs
  unfolding range_tests
  list_tests-facts h e p =
      let rules = Passed-left (range_tests g n rs) (others s g n rs) p in
      let rest = Passed-right (range_tests g n rs) (others s g n rs) p in
      record {
        granularity = e;
        small = omega (arith, granularity_ok-greatest s g e);
        some = leb-true 1 n rules.0;
        few = leb-true n 16 rules.1.0;
        rows = sym (rows_tests-passes g 0 rs) ∙ passes-all (rows_tests g 0 rs) rules.1.1;
        powers = rest.0;
      }
