-- Laws of a loop over the first n elements of an array: what is left of the work at a place i, one turn of it, and its end.
-- All of it is the library's interface. Assumes nothing.
use Prim.Native.Nat.{ℕ, zero, suc, ◌+◌, ◌<◌, ◌≤◌, min}
use mathlib.Core.Path.{◌≡◌, sym, ◌∙◌}
use mathlib.Core.Bool.{Bool, true, false, ◌&&◌}
use mathlib.Core.List.{List, [], ◌∷◌, map}
use Rattle.std.specs.declared.option.Option.TheVariants.{None, Some}
use native.Mathlib.Numerals.{add-one}
use native.Mathlib.Omega.{arith}
use borrow.Author.Tests.{eq-eqb, ne_eqb}
use lib.ListN.{length, get_or, take, drop, length-take, length-map}
use lib.Seq.{get_or-take}
use Rattle.rules.specs.Lists.{all, any, pairs, sum, place_from}
use Rattle.rules.proofs.ListLaws.{All, all-at, front_at, front-end}

-- ---- a test of each

module _ {A : Type 0} (p : A → Bool) (xs : List A) (n i : ℕ) where
  pub all-miss : (d : A) → i < n → i < length xs → p (get_or xs i d) ≡ false → all p (drop i (take n xs)) ≡ false
  all-miss d h k e = rw (front_at xs n i d h k, e)

  pub all-next : (d : A) → i < n → i < length xs → p (get_or xs i d) ≡ true → all p (drop i (take n xs)) ≡ all p (drop (i + 1) (take n xs))
  all-next d h k e = rw (front_at xs n i d h k, e)

  pub all_end : min n (length xs) ≤ i → all p (drop i (take n xs)) ≡ true
  all_end h = rw (front-end xs n i h)

  -- where it holds of each of the first n, it holds of the one at i
  pub all-front : (d : A) → i < n → i < length xs → all p (take n xs) ≡ true → p (get_or xs i d) ≡ true
  all-front d h k e =
      let l : i < length (take n xs) = simp length-take (omega arith) in
      rw (get_or-take n xs i d h) at (all-at p (take n xs) i d e l)

-- a fact of each of the first n, at i
pub All-front : {A : Type 0} (P : A → Type 0) (xs : List A) (n i : ℕ) (d : A) → All P (take n xs) → i < n → i < length xs → P (get_or xs i d)
All-front P xs zero i d h l k = absurd (omega arith)
All-front P [] (suc n) i d h l k = absurd (omega arith)
All-front P (x ∷ xs) (suc n) zero d h l k = h.0
All-front P (x ∷ xs) (suc n) (suc i) d h l k = All-front P xs n i d h.1 (omega arith) (omega arith)

-- ---- a test of some

module _ {A : Type 0} (p : A → Bool) (xs : List A) (n i : ℕ) where
  pub any-hit : (d : A) → i < n → i < length xs → p (get_or xs i d) ≡ true → any p (drop i (take n xs)) ≡ true
  any-hit d h k e = rw (front_at xs n i d h k, e)

  pub any_next : (d : A) → i < n → i < length xs → p (get_or xs i d) ≡ false → any p (drop i (take n xs)) ≡ any p (drop (i + 1) (take n xs))
  any_next d h k e = rw (front_at xs n i d h k, e)

  pub any-end : min n (length xs) ≤ i → any p (drop i (take n xs)) ≡ false
  any-end h = rw (front-end xs n i h)

-- ---- a test of each two

module _ {A : Type 0} (p : A → A → Bool) (xs : List A) (n i : ℕ) where
  -- the element at i with each later one, and then each two later ones
  pub pairs-at : (d : A) → i < n → i < length xs → pairs p (drop i (take n xs)) ≡ (all (p (get_or xs i d)) (drop (i + 1) (take n xs)) && pairs p (drop (i + 1) (take n xs)))
  pairs-at d h k = rw (front_at xs n i d h k)

  pub pairs-miss : (d : A) → i < n → i < length xs → all (p (get_or xs i d)) (drop (i + 1) (take n xs)) ≡ false → pairs p (drop i (take n xs)) ≡ false
  pairs-miss d h k e = rw (pairs-at d h k, e)

  pub pairs_next : (d : A) → i < n → i < length xs → all (p (get_or xs i d)) (drop (i + 1) (take n xs)) ≡ true → pairs p (drop i (take n xs)) ≡ pairs p (drop (i + 1) (take n xs))
  pairs_next d h k e = rw (pairs-at d h k, e)

  pub pairs_end : min n (length xs) ≤ i → pairs p (drop i (take n xs)) ≡ true
  pairs_end h = rw (front-end xs n i h)

-- ---- a sum

module _ {A : Type 0} (f : A → ℕ) (xs : List A) (n i : ℕ) where
  pub sum-next : (d : A) → i < n → i < length xs → sum (map f (drop i (take n xs))) ≡ f (get_or xs i d) + sum (map f (drop (i + 1) (take n xs)))
  sum-next d h k = rw (front_at xs n i d h k)

  pub sum-end : min n (length xs) ≤ i → sum (map f (drop i (take n xs))) ≡ 0
  sum-end h = rw (front-end xs n i h)

-- ---- a search

module _ (x : ℕ) (xs : List ℕ) (n i : ℕ) where
  pub place_from-hit : i < n → i < length xs → get_or xs i 0 ≡ x → place_from i (drop i (take n xs)) x ≡ Some i
  place_from-hit h k e = rw (front_at xs n i 0 h k, eq-eqb _ _ e)

  pub place_from-next : i < n → i < length xs → (get_or xs i 0 ≡ x → ⊥) → place_from i (drop i (take n xs)) x ≡ place_from (i + 1) (drop (i + 1) (take n xs)) x
  place_from-next h k e = rw (front_at xs n i 0 h k, ne_eqb _ _ e, add-one)

  pub place_from-end : min n (length xs) ≤ i → place_from i (drop i (take n xs)) x ≡ None
  place_from-end h = rw (front-end xs n i h)

-- ---- arrays

-- an array of structs in a struct is known by its elements mapped
pub length-mapped : (X Y : Type 0) (f : X → Y) (l : List X) (n : ℕ) → length (map f l) ≡ n → length l ≡ n
length-mapped X Y f l n e = sym (length-map l f) ∙ e
