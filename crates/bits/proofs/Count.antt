-- Laws of `marks_set`, for callers and for the loop over a span.
-- Assumes nothing.
use mathlib.Core.Path.{◌≡◌, refl, sym, ap, ap₂, ◌∙◌}
use mathlib.Core.Bool.{Bool, true, false, cond}
use mathlib.Core.List.{List, [], ◌∷◌, ◌++◌}
use Prim.Native.Nat.{ℕ, suc, ◌+◌, ◌-◌, ◌≤◌, ◌<◌, min}
use native.Mathlib.Nat.{zero-add, add_assoc}
use native.Mathlib.Decide.{dec_lt}
use native.Mathlib.Omega.{arith}
use lib.ListN.{length, get_or, take, drop, length-take, length-drop}
use Rattle.bits.specs.Share.{get_share}
use Rattle.bits.specs.Count.{marks_set}
use Rattle.bits.proofs.Share.{get_share-add}

-- none of no marks
pub marks_set-nil : marks_set [] ≡ 0
unfolding marks_set
marks_set-nil = refl

pub marks_set-cons : (b : Bool) (l : List Bool) → marks_set (b ∷ l) ≡ cond b 1 0 + marks_set l
unfolding marks_set
marks_set-cons b l = refl

pub marks_set-append : (l l' : List Bool) → marks_set (l ++ l') ≡ marks_set l + marks_set l'
unfolding marks_set
marks_set-append [] l' = sym (zero-add (marks_set l'))
marks_set-append (b ∷ l) l' = ap (λ (n : ℕ). cond b 1 0 + n) (marks_set-append l l') ∙ sym (add_assoc (cond b 1 0) (marks_set l) (marks_set l'))

pub marks_set-le : (l : List Bool) → marks_set l ≤ length l
unfolding marks_set
marks_set-le [] = omega arith
marks_set-le (b ∷ l) = one b (marks_set-le l)
  where
    one : (b : Bool) → marks_set l ≤ length l → cond b 1 0 + marks_set l ≤ suc (length l)
    one true h = omega arith
    one false h = omega arith

-- none is where all are clear
pub marks_set-none : (l : List Bool) → ((j : ℕ) → j < length l → get_or l j false ≡ false) → marks_set l ≡ 0
unfolding marks_set
marks_set-none [] h = refl
marks_set-none (b ∷ l) h = ap₂ (λ (x : Bool) (n : ℕ). cond x 1 0 + n) (h 0 (omega arith)) (marks_set-none l (λ j g. h (suc j) (omega arith)))

-- ---- of a share

module _ (l : List Bool) (from : ℕ) where
  pub share-le : (n : ℕ) → marks_set (get_share l from n) ≤ n
  unfolding get_share
  share-le n = omega (arith, marks_set-le (take n (drop from l)), length-take n (drop from l))

  pub share-empty : (to : ℕ) → to ≤ from → marks_set (get_share l from (to - from)) ≡ 0
  unfolding get_share marks_set
  share-empty to h = let e : to - from ≡ 0 = omega arith in rw e

  pub share-past : (n : ℕ) → length l ≤ from → marks_set (get_share l from n) ≡ 0
  unfolding get_share
  share-past n h = omega (arith, marks_set-le (take n (drop from l)), length-take n (drop from l), length-drop from l)

  pub share-done : (to : ℕ) → min (length l) to ≤ from → marks_set (get_share l from (to - from)) ≡ 0
  share-done to h = go (dec_lt from to)
    where
      go : Dec (from < to) → marks_set (get_share l from (to - from)) ≡ 0
      go (yes g) = share-past (to - from) (omega arith)
      go (no g) = share-empty to (omega arith)

  -- a turn of a loop: those of the first n places and those of the rest up to `to` are all
  pub share-turn : (n to : ℕ) → n ≤ to - from → marks_set (get_share l from n) + marks_set (get_share l (from + n) (to - (from + n))) ≡ marks_set (get_share l from (to - from))
  share-turn n to h =
      let e : to - from ≡ n + (to - (from + n)) = omega arith in
      sym (ap (λ (x : ℕ). marks_set (get_share l from x)) e ∙ ap marks_set (get_share-add l from n (to - (from + n))) ∙ marks_set-append (get_share l from n) (get_share l (from + n) (to - (from + n))))
