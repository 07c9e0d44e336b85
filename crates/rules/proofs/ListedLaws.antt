-- The units of ranges that begin at multiples of the unit: each is there once, in the row of the earliest listed range that covers it, and they stand in order.
-- Assumes nothing.
use mathlib.Core.Path.{◌≡◌, refl, sym, ap, subst, ◌∙◌}
use mathlib.Core.Logic.{◌⊎◌, inl, inr}
use mathlib.Core.Bool.{Bool, true, false, ◌||◌, not, cond, true≢false}
use mathlib.Core.List.{List, [], ◌∷◌, ◌++◌, append_assoc}
use Prim.Native.Nat.{ℕ, zero, suc, ◌+◌, ◌*◌, ◌%◌, ◌≤◌, ◌<◌}
use native.Mathlib.Omega.{arith}
use native.Mathlib.Nat.{suc-mul, zero-mul, add-mod_right}
use native.Mathlib.Decide.{dec_lt}
use lib.Dec.{leb, ltb, eqb}
use lib.ListN.{length, take, get_or, length-append}
use lib.Seq.{get_or_at, take_at}
use borrow.Author.Tests.{le-leb, lt-ltb, leb-true, ltb-true, eq-eqb, eqb-true, not-true}
use Rattle.rules.specs.Lists.{any, keep}
use Rattle.rules.specs.Settings.{unit_size}
use Rattle.rules.specs.Units.{Unit, units_of_row, end_of, covers, uncovered, units_from, units}
use Rattle.rules.specs.Ranges.{row_ok, rows_ok}
use Rattle.rules.specs.StartData.{no_range}
use Rattle.rules.specs.Demands.{InRange, UnitsListed}
use Rattle.rules.specs.declared.Range.{Range}
use Rattle.rules.proofs.ListLaws.{All, All-map, All-both, All-append, All-keep, All-kept, All-at, Pairwise, Pairwise-append, Pairwise-keep, Pairwise-at, and_left, and_right, and_intro, or-intro-left, or-intro-right, or-neither, any_snoc, any-none-at, any-from, any_where}
use Rattle.rules.proofs.RowLaws.{row_ok-facts}
use Rattle.rules.proofs.UnitLaws.{Apart-at, Aligned, aligned-gap, unit_size-pos, units_of_row-row, units_of_row-within, units_from-sized, units_from-aligned, units_from-apart}

-- ---- a unit stands in the row of the earliest range that covers it

abbrev Own : ℕ → List Range → Unit → Type 0
Own s rs u = (covers s (get_or rs u.row no_range) u.address ≡ true) × (any (λ r. covers s r u.address) (take u.row rs) ≡ false)

own-from : (s row : ℕ) (before rs : List Range) → 0 < s → length before ≡ row → All (Own s (before ++ rs)) (units_from s row before rs)
own-from s row before [] z e = tt
own-from s row before (r ∷ rs) z e =
    All-append (Own s (before ++ r ∷ rs)) (keep (uncovered s before) us) (units_from s (suc row) (before ++ r ∷ []) rs)
    (All-map one (keep (uncovered s before) us)
    (All-both (λ u. uncovered s before u ≡ true) (λ u. (u.row ≡ row) × (covers s r u.address ≡ true)) (keep (uncovered s before) us) (All-kept (uncovered s before) us)
    (All-keep (λ u. (u.row ≡ row) × (covers s r u.address ≡ true)) (uncovered s before) us
    (All-both (λ u. u.row ≡ row) (λ u. covers s r u.address ≡ true) us (units_of_row-row row s r.start r.length) (All-map within us (units_of_row-within row s r))))))
    (subst (λ l. All (Own s l) (units_from s (suc row) (before ++ r ∷ []) rs)) (append_assoc before (r ∷ []) rs)
    (own-from s (suc row) (before ++ r ∷ []) rs z (length-append before (r ∷ []) ∙ omega (arith, e))))
  where
    us : List Unit
    us = units_of_row row s r.start r.length

    within : (u : Unit) → (r.start ≤ u.address) × (u.address + u.size ≤ r.start + r.length * s) × (u.size ≡ s) → covers s r u.address ≡ true
    within u w =
        and_intro (leb r.start u.address) (ltb u.address (r.start + r.length * s)) (le-leb r.start u.address w.0)
        (lt-ltb u.address (r.start + r.length * s) (omega (arith, w.1, w.2, z)))

    one : (u : Unit) → (uncovered s before u ≡ true) × ((u.row ≡ row) × (covers s r u.address ≡ true)) → Own s (before ++ r ∷ rs) u
    one u h =
        let here : length before ≡ u.row = e ∙ sym h.1.0 in (
          ap (λ q. covers s q u.address) (get_or_at before r rs no_range u.row here) ∙ h.1.1,
          ap (any (λ q. covers s q u.address)) (take_at before (r ∷ rs) u.row here) ∙ not-true (any (λ q. covers s q u.address) before) h.0,
        )

-- ---- each unit that a range covers is there

abbrev begins : ℕ → List Unit → Bool
begins x us = any (λ (u : Unit). eqb u.address x) us

begins-left : (x : ℕ) (us vs : List Unit) → begins x us ≡ true → begins x (us ++ vs) ≡ true
begins-left x [] vs e = absurd (true≢false (sym e))
begins-left x (u ∷ us) vs e = go (begins-left x us vs) (eqb u.address x) e
  where
    go : (begins x us ≡ true → begins x (us ++ vs) ≡ true) → (b : Bool) → (b || begins x us) ≡ true → (b || begins x (us ++ vs)) ≡ true
    go f true h = refl
    go f false h = f h

begins-right : (x : ℕ) (us vs : List Unit) → begins x vs ≡ true → begins x (us ++ vs) ≡ true
begins-right x [] vs e = e
begins-right x (u ∷ us) vs e = or-intro-right (eqb u.address x) (begins x (us ++ vs)) (begins-right x us vs e)

row-begins : (f : Unit → Bool) (row s a n x : ℕ) → 0 < s → a % s ≡ 0 → x % s ≡ 0 → ((u : Unit) → u.address ≡ x → f u ≡ true) → a ≤ x → x < a + n * s
    → begins x (keep f (units_of_row row s a n)) ≡ true
row-begins f row s a zero x z e d free h k = absurd (omega (arith, k, h, zero-mul s))
row-begins f row s a (suc n) x z e d free h k = go (row-begins f row s (a + s) n x z (add-mod_right a s ∙ e) d free) (dec_lt a x)
  where
    first : Unit
    first = record { row = row; address = a; size = s }

    rest : List Unit
    rest = keep f (units_of_row row s (a + s) n)

    later : begins x rest ≡ true → (b : Bool) → begins x (cond b (first ∷ rest) rest) ≡ true
    later g true = or-intro-right (eqb a x) (begins x rest) g
    later g false = g

    go : (a + s ≤ x → x < a + s + n * s → begins x rest ≡ true) → Dec (a < x) → begins x (keep f (units_of_row row s a (suc n))) ≡ true
    go g (yes l) = later (g (aligned-gap s a x z e d l) (omega (arith, k, suc-mul n s))) (f first)
    go g (no l) = let q : a ≡ x = omega arith in rw (free first q) (or-intro-left (eqb a x) (begins x rest) (eq-eqb a x q))

all-begin : (s row : ℕ) (before rs : List Range) (x : ℕ) → 0 < s → All (Aligned s) rs → x % s ≡ 0 → any (λ r. covers s r x) before ≡ false → any (λ r. covers s r x) rs ≡ true
    → begins x (units_from s row before rs) ≡ true
all-begin s row before [] x z h d free e = absurd (true≢false (sym e))
all-begin s row before (r ∷ rs) x z h d free e = go (all-begin s (suc row) (before ++ r ∷ []) rs x z h.1 d) (covers s r x) refl e
  where
    own : List Unit
    own = keep (uncovered s before) (units_of_row row s r.start r.length)

    go : (any (λ q. covers s q x) (before ++ r ∷ []) ≡ false → any (λ q. covers s q x) rs ≡ true → begins x (units_from s (suc row) (before ++ r ∷ []) rs) ≡ true)
        → (b : Bool) → covers s r x ≡ b → (b || any (λ q. covers s q x) rs) ≡ true → begins x (own ++ units_from s (suc row) (before ++ r ∷ []) rs) ≡ true
    go g true c k =
        begins-left x own (units_from s (suc row) (before ++ r ∷ []) rs)
        (row-begins (uncovered s before) row s r.start r.length x z h.0 d (λ u q. ap not (ap (λ a. any (λ p. covers s p a) before) q ∙ free))
        (leb-true r.start x (and_left (leb r.start x) (ltb x (r.start + r.length * s)) c)) (ltb-true x (r.start + r.length * s) (and_right (leb r.start x) (ltb x (r.start + r.length * s)) c)))
    go g false c k = begins-right x own (units_from s (suc row) (before ++ r ∷ []) rs) (g (any_snoc (λ q. covers s q x) before r ∙ or-neither (any (λ q. covers s q x) before) (covers s r x) free c) k)

-- ---- in order: by row, then by address

abbrev Before : Unit → Unit → Type 0
Before u v = (u.row < v.row) ⊎ ((u.row ≡ v.row) × (u.address < v.address))

row-ordered : (row s a n : ℕ) → 0 < s → Pairwise Before (units_of_row row s a n)
row-ordered row s a zero z = tt
row-ordered row s a (suc n) z = (
  All-map (λ v w. inr (sym w.0, omega (arith, w.1.0)))
      (units_of_row row s (a + s) n)
      (All-both (λ v. v.row ≡ row) (λ v. (a + s ≤ v.address) × (v.address + v.size ≤ a + s + n * s) × (v.size ≡ s)) (units_of_row row s (a + s) n)
      (units_of_row-row row s (a + s) n) (units_of_row-within row s (record { start = a + s; length = n }))),
  row-ordered row s (a + s) n z,
)

from_row : (s row : ℕ) (before rs : List Range) → All (λ v. row ≤ v.row) (units_from s row before rs)
from_row s row before [] = tt
from_row s row before (r ∷ rs) =
    All-append (λ v. row ≤ v.row) (keep (uncovered s before) us) later
    (All-keep (λ v. row ≤ v.row) (uncovered s before) us (All-map (λ v e. omega (arith, e)) us (units_of_row-row row s r.start r.length)))
    (All-map (λ v h. omega (arith, h)) later (from_row s (suc row) (before ++ r ∷ []) rs))
  where
    us : List Unit
    us = units_of_row row s r.start r.length

    later : List Unit
    later = units_from s (suc row) (before ++ r ∷ []) rs

units-ordered : (s row : ℕ) (before rs : List Range) → 0 < s → Pairwise Before (units_from s row before rs)
units-ordered s row before [] z = tt
units-ordered s row before (r ∷ rs) z =
    Pairwise-append Before (keep (uncovered s before) us) later
    (Pairwise-keep Before (uncovered s before) us (row-ordered row s r.start r.length z))
    (units-ordered s (suc row) (before ++ r ∷ []) rs z)
    (All-map (λ u e. All-map (λ v h. inl (omega (arith, e, h))) later (from_row s (suc row) (before ++ r ∷ []) rs)) (keep (uncovered s before) us)
    (All-keep (λ u. u.row ≡ row) (uncovered s before) us (units_of_row-row row s r.start r.length)))
  where
    us : List Unit
    us = units_of_row row s r.start r.length

    later : List Unit
    later = units_from s (suc row) (before ++ r ∷ []) rs

-- ---- a range covers what lies in it

covers-in : (g : ℕ) (r : Range) (x : ℕ) → covers (unit_size g) r x ≡ true → InRange g r x
covers-in g r x e = (
  leb-true r.start x (and_left (leb r.start x) (ltb x (end_of (unit_size g) r)) e),
  ltb-true x (end_of (unit_size g) r) (and_right (leb r.start x) (ltb x (end_of (unit_size g) r)) e),
)

in-covers : (g : ℕ) (r : Range) (x : ℕ) → InRange g r x → covers (unit_size g) r x ≡ true
in-covers g r x w =
    and_intro (leb r.start x) (ltb x (end_of (unit_size g) r)) (le-leb r.start x w.0) (lt-ltb x (end_of (unit_size g) r) w.1)

-- past the last range there is none, of length 0
in-listed : (g : ℕ) (rs : List Range) (j x : ℕ) → InRange g (get_or rs j no_range) x → j < length rs
in-listed g [] j x w = absurd (omega (arith, w.0, w.1, zero-mul (unit_size g)))
in-listed g (r ∷ rs) zero x w = omega arith
in-listed g (r ∷ rs) (suc j) x w = omega (arith, in-listed g rs j x w)

-- ---- all of it

aligned-of : (g : ℕ) (rs : List Range) → rows_ok g rs ≡ true → All (Aligned (unit_size g)) rs
aligned-of g [] e = tt
aligned-of g (r ∷ rs) e = ((row_ok-facts g r (and_left (row_ok g r) (rows_ok g rs) e)).aligned, aligned-of g rs (and_right (row_ok g r) (rows_ok g rs) e))

pub units-listed : (g : ℕ) (rs : List Range) → rows_ok g rs ≡ true → UnitsListed g rs
units-listed g rs e =
    let s = unit_size g in
    let h = aligned-of g rs e in
    let o = own-from s 0 [] rs (unit_size-pos g) refl in
    record {
      sized = λ m u q. All-at (λ v. v.size ≡ s) (units g rs) m u (units_from-sized s 0 [] rs) q;
      multiple = λ m u q. All-at (λ v. v.address % s ≡ 0) (units g rs) m u (units_from-aligned s 0 [] rs h) q;
      in_order = λ m n u v l p q. Pairwise-at Before (units g rs) (units-ordered s 0 [] rs (unit_size-pos g)) m n u v l p q;
      own = λ m u q. covers-in g (get_or rs u.row no_range) u.address (All-at (Own s rs) (units g rs) m u o q).0;
      earliest = λ m u q j l w.
          true≢false (sym (in-covers g (get_or rs j no_range) u.address w)
          ∙ any-none-at (λ r. covers s r u.address) rs u.row j no_range (All-at (Own s rs) (units g rs) m u o q).1 l (in-listed g rs j u.address w));
      there = λ x j d w.
          let c = any-from (λ r. covers s r x) rs j no_range (in-listed g rs j x w) (in-covers g (get_or rs j no_range) x w) in
          let f = any_where (λ (u : Unit). eqb u.address x) (units g rs) (all-begin s 0 [] rs x (unit_size-pos g) h d refl c) in
          (f.0, f.1, f.2, eqb-true f.1.address x f.3);
      apart = λ m n u v p q x i j. Apart-at (units g rs) (units_from-apart s 0 [] rs (unit_size-pos g) h) m n u v p q x i j;
    }
