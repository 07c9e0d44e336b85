-- Laws of the calls' tables: what is known where all tests of a table are passed. Assumes nothing.
use mathlib.Core.Path.{◌≡◌, refl, sym, ap, ◌∙◌}
use mathlib.Core.Bool.{Bool, true, false, ◌&&◌, ◌||◌, not, cond, true≢false}
use mathlib.Core.List.{List, [], ◌∷◌, ◌++◌}
use Rattle.std.specs.declared.option.Option.{Option}
use Rattle.std.specs.declared.option.Option.TheVariants.{None, Some}
use Prim.Native.Nat.{ℕ, suc, ◌+◌, ◌*◌, ◌%◌, ◌≤◌}
use native.Mathlib.Omega.{arith}
use lib.Dec.{leb, ltb, eqb}
use lib.ListN.{length, length-append}
use borrow.Author.Tests.{leb-true, le-leb, ltb-true, eqb-true}
use Rattle.rules.specs.Refusals.{Test, ◌else◌}
use Rattle.rules.specs.Lists.{is_some}
use Rattle.rules.specs.Settings.{most_units, is_manager, limit_of, granularity_ok, unit_size}
use Rattle.rules.specs.Units.{units}
use Rattle.rules.specs.Ranges.{rows_tests, range_tests, list_tests, powers_ok}
use Rattle.rules.specs.StartData.{granularity_of, count_of, ranges_of}
use Rattle.rules.specs.ControllerState.{state_most, state_ok}
use Rattle.rules.specs.Order.{Seen, start_shared, start_order, Arriving, Part, offset_of, is_first, is_last, offset_ok, data_ok, follows_on, follows, so_far, joined_with, joined_ok, part_order}
use Rattle.rules.specs.Device.{front_ok}
use Rattle.rules.specs.declared.Range.{Range}
use Rattle.rules.specs.declared.Settings.{Settings}
use Rattle.rules.proofs.ListLaws.{All, All-left, All-right, and_left, and_right}
use Rattle.rules.proofs.UnitLaws.{Aligned}
use Rattle.rules.proofs.RefusalLaws.{Passed}

-- ---- ranges

rows_tests-aligned : (g row : ℕ) (rs : List Range) → Passed (rows_tests g row rs) → All (Aligned (unit_size g)) rs
rows_tests-aligned g row [] h = tt
rows_tests-aligned g row (r ∷ rs) h = (eqb-true (r.start % unit_size g) 0 h.1.0, rows_tests-aligned g (suc row) rs h.1.1.1)

range_tests-aligned : (g n : ℕ) (rs : List Range) → Passed (range_tests g n rs) → All (Aligned (unit_size g)) rs
unfolding range_tests
range_tests-aligned g n rs h = rows_tests-aligned g 0 rs h.1.1

-- ---- a start

-- what the tests of a start say of its manager, the start structure and the limits, where they are passed
pub record StartPassed (s : Settings) (m : ℕ) (v : Seen) (x : List ℕ) : Type 0 where
  pub manager : is_manager s m ≡ true
  pub untracked : not (is_some v.tracker) ≡ true
  pub granularity : granularity_ok s (granularity_of x) ≡ true
  pub list : Passed (list_tests s (granularity_of x) (count_of x) (ranges_of x))
  pub room : length (units (granularity_of x) (ranges_of x)) + v.units ≤ most_units
  pub limit : count_of x + v.managed m ≤ limit_of s m
  pub shelf : count_of x + v.counts ≤ s.shelf

pub start_order-passed : (s : Settings) (m : ℕ) (v : Seen) (x : List ℕ) → Passed (start_order s m v x) → StartPassed s m v x
start_order-passed s m v x h =
    record {
      manager = h.1.0;
      untracked = h.1.1.1.1.0;
      granularity = h.1.1.1.1.1.1.1.0;
      list = All-left (λ (t : Test). t.ok ≡ true) tests last rest;
      room = leb-true (length (units (granularity_of x) (ranges_of x)) + v.units) most_units (All-right (λ (t : Test). t.ok ≡ true) tests last rest).0;
      limit = leb-true (count_of x + v.managed m) (limit_of s m) (All-right (λ (t : Test). t.ok ≡ true) tests last rest).1.0;
      shelf = leb-true (count_of x + v.counts) s.shelf (All-right (λ (t : Test). t.ok ≡ true) tests last rest).1.1.0;
    }
  where
    tests : List Test
    tests = list_tests s (granularity_of x) (count_of x) (ranges_of x)

    last : List Test
    last = start_shared s m v.units (v.managed m) v.counts x

    rest : Passed (tests ++ last)
    rest = h.1.1.1.1.1.1.1.1.1

pub list_tests-aligned : (s : Settings) (g n : ℕ) (rs : List Range) → Passed (list_tests s g n rs) → All (Aligned (unit_size g)) rs
list_tests-aligned s g n rs h =
    range_tests-aligned g n rs (All-left (λ (t : Test). t.ok ≡ true) (range_tests g n rs) ((powers_ok s rs else 10) ∷ []) h)

-- ---- W6: a part of a state

-- what the tests of a part say, where they are passed
pub record PartPassed (v : Seen) (a : Arriving) (p : Part) : Type 0 where
  pub suspended : v.suspended ≡ true
  pub alone : not a.others ≡ true
  pub offset : offset_ok p ≡ true
  pub bytes : data_ok p ≡ true
  pub follow : follows a.front p ≡ true
  pub within : joined_ok a.front p ≡ true

pub part_order-passed : (s : Settings) (m : ℕ) (v : Seen) (a : Arriving) (p : Part) → Passed (part_order s m v a p) → PartPassed v a p
part_order-passed s m v a p h =
    let r = h.1.1.1 in
    record { suspended = r.0; alone = r.1.0; offset = r.1.1.0; bytes = r.1.1.1.0; follow = r.1.1.1.1.0; within = r.1.1.1.1.1.0 }

-- a part that does not end its sequence has whole dwords, and one at least
more-dwords : (p : Part) → is_last p ≡ false → data_ok p ≡ true → (length p.bytes ≡ 4 * p.count) × (1 ≤ p.count)
more-dwords p l d =
    let r = and_right (leb p.indicator 3) _ d in
    let Some = and_left (ltb 0 p.count || eqb p.indicator 2) _ r in (
      eqb-true (length p.bytes) (4 * p.count) (and_right (ltb 0 p.count || eqb p.indicator 2) _ r),
      go (ltb 0 p.count) refl (eqb p.indicator 2) (or-false-left (eqb p.indicator 2) (eqb p.indicator 3) l) Some,
    )
  where
    or-false-left : (x y : Bool) → (x || y) ≡ false → x ≡ false
    or-false-left false y e = refl
    or-false-left true y e = absurd (true≢false e)

    go : (x : Bool) → ltb 0 p.count ≡ x → (y : Bool) → y ≡ false → (x || y) ≡ true → 1 ≤ p.count
    go true e y z o = let k = ltb-true 0 p.count e in omega arith
    go false e y z o = absurd (true≢false (sym o ∙ z))

-- after one that does not end it, its sequence is as long as one can be
pub joined-front : (v : Seen) (a : Arriving) (p : Part) → PartPassed v a p → is_last p ≡ false → ((f : List ℕ) → a.front ≡ Some f → length f % 4 ≡ 0)
    → front_ok (length (joined_with a.front p)) ≡ true
joined-front v a p q l whole = go (is_first p) a.front refl q.follow q.within
  where
    d : (length p.bytes ≡ 4 * p.count) × (1 ≤ p.count)
    d = more-dwords p l q.bytes

    fits : (n : ℕ) → 4 ≤ n → leb n state_most ≡ true → n % 4 ≡ 0 → front_ok n ≡ true
    fits n h e m = rw (le-leb 4 n h, e, m)

    go : (b : Bool) (f : Option (List ℕ)) → a.front ≡ f → cond b (eqb (offset_of p) 0) (follows_on f p) ≡ true
        → (leb (length (cond b p.bytes (so_far f ++ p.bytes))) state_most && (not (is_last p) || state_ok (cond b p.bytes (so_far f ++ p.bytes)))) ≡ true
        → front_ok (length (cond b p.bytes (so_far f ++ p.bytes))) ≡ true
    go true f e o w = fits (length p.bytes) (omega (arith, d.0, d.1)) (and_left _ _ w) (omega (arith, d.0))
    go false None e o w = absurd (true≢false (sym o))
    go false (Some x) e o w =
        let n : length (x ++ p.bytes) ≡ length x + 4 * p.count = length-append x p.bytes ∙ ap (λ k. length x + k) d.0 in
        fits (length (x ++ p.bytes)) (omega (arith, n, d.1)) (and_left _ _ w) (omega (arith, n, whole x e))
