-- Laws of the count of pending units: it is that of the rules, and a loop takes it unit by unit. Assumes nothing.
use mathlib.Core.Path.{◌≡◌, refl, ap}
use mathlib.Core.Bool.{Bool, true, false, cond}
use mathlib.Core.List.{List, [], ◌∷◌}
use Prim.Native.Nat.{ℕ, suc, ◌+◌, ◌-◌, ◌≤◌, ◌<◌}
use native.Mathlib.Nat.{zero-add}
use native.Mathlib.Omega.{arith}
use lib.ListN.{length, take, drop, get_or, length-take, length-map}
use lib.Seq.{drop-cons}
use Rattle.rules.specs.Lists.{keep}
use Rattle.rules.specs.Units.{Unit, pending}
use Rattle.plain_marks.specs.Plain.{mark_of, marks_of, marks_set}
use Rattle.plain_marks.proofs.ListLaws.{mark_set}

-- ---- what it counts

pub marks_set-le : (p : List Bool) → marks_set p ≤ length p
marks_set-le [] = omega arith
marks_set-le (b ∷ p) = go b (marks_set-le p)
  where
    go : (b : Bool) → marks_set p ≤ length p → length (cond b (b ∷ keep (λ x. x) p) (keep (λ x. x) p)) ≤ suc (length p)
    go true h = omega arith
    go false h = omega arith

-- the pending units, where the marks are theirs
pub marks_set-pending : (us : List Unit) (p : List Bool) → length p ≤ length us → marks_set p ≡ length (pending us p)
marks_set-pending us [] h = go us
  where
    go : (us : List Unit) → 0 ≡ length (pending us [])
    go [] = refl
    go (u ∷ us) = refl
marks_set-pending [] (b ∷ p) h = absurd (omega arith)
marks_set-pending (u ∷ us) (true ∷ p) h = ap suc (marks_set-pending us p (omega arith))
marks_set-pending (u ∷ us) (false ∷ p) h = marks_set-pending us p (omega arith)

-- of n units at most n
pub marks-few : (area : List ℕ) (base n : ℕ) → length (marks_of area base n) ≤ n
marks-few area base n = omega (arith, length-map (take n (drop base area)) mark_of, length-take n (drop base area))

-- ---- the loop: unit i of n, and those after it

module _ (area : List ℕ) (base n : ℕ) where
  pub count-within : marks_set (marks_of area base n) ≤ n
  count-within = omega (arith, marks_set-le (marks_of area base n), marks-few area base n)

  pub count-start : 0 + marks_set (marks_of area (base + 0) (n - 0)) ≡ marks_set (marks_of area base n)
  count-start =
      let e : base + 0 ≡ base = omega arith in
      let f : n - 0 ≡ n = omega arith in
      rw (e, f) (zero-add _)

  module _ (i : ℕ) (h : i < n) (l : base + n ≤ length area) where
    next : marks_of area (base + i) (n - i) ≡ mark_of (get_or area (base + i) 0) ∷ marks_of area (base + (i + 1)) (n - (i + 1))
    next =
        let e : n - i ≡ suc (n - (i + 1)) = omega arith in
        let f : base + (i + 1) ≡ suc (base + i) = omega arith in
        rw (e, f, drop-cons area (base + i) 0 (omega arith))

    pub count-hit : (get_or area (base + i) 0 ≡ 0 → ⊥) → marks_set (marks_of area (base + i) (n - i)) ≡ 1 + marks_set (marks_of area (base + (i + 1)) (n - (i + 1)))
    count-hit z = rw (next, mark_set (get_or area (base + i) 0) z) (omega arith)

    pub count-miss : get_or area (base + i) 0 ≡ 0 → marks_set (marks_of area (base + i) (n - i)) ≡ marks_set (marks_of area (base + (i + 1)) (n - (i + 1)))
    count-miss z = rw (next, z)

  pub count-end : (i : ℕ) → n ≤ i → marks_set (marks_of area (base + i) (n - i)) ≡ 0
  count-end i h = let e : n - i ≡ 0 = omega arith in rw e
