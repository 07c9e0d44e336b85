-- Laws of `put`, what a store leaves in a lent buffer: what stands where, that all else is unchanged, stores one after another.
-- All but `put-set` is the library's interface. Assumes nothing.
use Prim.Native.Nat.{ℕ, suc, ◌+◌, ◌≤◌, ◌<◌}
use mathlib.Core.Path.{◌≡◌, refl, sym, ap, ◌∙◌}
use mathlib.Core.List.{List, [], ◌∷◌, ◌++◌, append_assoc}
use native.Mathlib.Nat.{zero-add, suc-add, add-zero, add-suc}
use native.Mathlib.Omega.{arith}
use borrow.Rule.Slice.PartMut.{put_mid}
use lib.ListN.{length, get_or, take, drop, set, get_or-append}
use lib.Seq.{sets-eq, length-sets, set_comm, drop_at, take_at, drop-drop, take-set-le, drop-set-lt, get_or-take, get_or-drop, length-take-le}
use Rattle.little.specs.Little.{put}

module _ {ℓ} {A : Type ℓ} where
  -- ---- what stands where

  -- the list in three parts, where what is stored fits
  pub put_is : (l : List A) (at : ℕ) (vs : List A) → at + length vs ≤ length l → put l at vs ≡ take at l ++ vs ++ drop (at + length vs) l
  unfolding put
  put_is l at vs fits = sets-eq vs l at fits

  pub put-length : (l : List A) (at : ℕ) (vs : List A) → length (put l at vs) ≡ length l
  unfolding put
  put-length l at vs = length-sets l at vs

  -- from `at` on: what was stored, and then what stood after it
  pub put-drop : (l : List A) (at : ℕ) (vs : List A) → at + length vs ≤ length l → drop at (put l at vs) ≡ vs ++ drop (at + length vs) l
  put-drop l at vs fits =
      rw (put_is l at vs fits, append_assoc) (drop_at (take at l) (vs ++ drop (at + length vs) l) at (length-take-le at l (omega arith)))

  -- an array whose first n are stored
  pub put-take-front : (l : List A) (n : ℕ) (vs : List A) → length vs ≡ n → n ≤ length l → take n (put l 0 vs) ≡ vs
  put-take-front l n vs e fits = rw (put_is l 0 vs (omega arith)) (take_at vs (drop (0 + length vs) l) n e)

  -- before `at`, and past what was stored, all is as it was
  pub put-take-before : (l : List A) (at : ℕ) (vs : List A) (n : ℕ) → n ≤ at → take n (put l at vs) ≡ take n l
  unfolding put
  put-take-before l at [] n h = refl
  put-take-before l at (v ∷ vs) n h = put-take-before (set l at v) (suc at) vs n (omega arith) ∙ take-set-le n l at v h

  pub put-drop-after : (l : List A) (at : ℕ) (vs : List A) (n : ℕ) → at + length vs ≤ n → drop n (put l at vs) ≡ drop n l
  unfolding put
  put-drop-after l at [] n h = refl
  put-drop-after l at (v ∷ vs) n h =
      put-drop-after (set l at v) (suc at) vs n (omega arith) ∙ drop-set-lt n l at v (omega arith)

  -- the same, element by element
  pub put-at : (l : List A) (at : ℕ) (vs : List A) (k : ℕ) (d : A) → at + length vs ≤ length l → k < length vs → get_or (put l at vs) (at + k) d ≡ get_or vs k d
  put-at l at vs k d fits h =
      sym (get_or-drop at (put l at vs) k d) ∙ rw (put-drop l at vs fits) (get_or-append vs (drop (at + length vs) l) d k h)

  pub put-at-before : (l : List A) (at : ℕ) (vs : List A) (k : ℕ) (d : A) → k < at → get_or (put l at vs) k d ≡ get_or l k d
  put-at-before l at vs k d h =
      sym (get_or-take at (put l at vs) k d h) ∙ rw (put-take-before l at vs at (omega arith)) (get_or-take at l k d h)

  pub put-at-after : (l : List A) (at : ℕ) (vs : List A) (k : ℕ) (d : A) → at + length vs ≤ k → get_or (put l at vs) k d ≡ get_or l k d
  put-at-after l at vs k d h =
      ap (λ (j : ℕ). get_or (put l at vs) j d) (sym (add-zero k)) ∙ sym (get_or-drop k (put l at vs) 0 d) ∙ rw (put-drop-after l at vs k h) (get_or-drop k l 0 d ∙ rw add-zero)

  -- ---- stores one after another

  pub put-nil : (l : List A) (at : ℕ) → put l at [] ≡ l
  unfolding put
  put-nil l at = refl

  pub put_one : (l : List A) (at : ℕ) (v : A) → put l at (v ∷ []) ≡ set l at v
  unfolding put
  put_one l at v = refl

  pub put-cons : (l : List A) (at : ℕ) (v : A) (vs : List A) → put l at (v ∷ vs) ≡ put (set l at v) (suc at) vs
  unfolding put
  put-cons l at v vs = refl

  pub put-append : (l : List A) (at : ℕ) (a b : List A) → put l at (a ++ b) ≡ put (put l at a) (at + length a) b
  unfolding put
  put-append l at [] b = rw add-zero
  put-append l at (x ∷ a) b = put-append (set l at x) (suc at) a b ∙ simp (suc-add, add-suc)

  -- one element before a run of stores, in either order
  put-set : (l : List A) (i j : ℕ) (x : A) (b : List A) → i < j → set (put l j b) i x ≡ put (set l i x) j b
  unfolding put
  put-set l i j x [] h = refl
  put-set l i j x (y ∷ b) h =
      put-set (set l j y) i (suc j) x b (omega arith) ∙ ap (λ r. put r (suc j) b) (set_comm l j i y x (λ e. omega arith))

  -- two runs of stores apart from each other, in either order
  pub put-swap : (l : List A) (i j : ℕ) (a b : List A) → i + length a ≤ j → put (put l j b) i a ≡ put (put l i a) j b
  unfolding put
  put-swap l i j [] b h = refl
  put-swap l i j (x ∷ a) b h =
      ap (λ r. put r (suc i) a) (put-set l i j x b (omega arith)) ∙ put-swap (set l i x) (suc i) j a b (omega arith)

  -- what comes first, written last
  pub put_front : (l : List A) (n : ℕ) (a b : List A) → length a ≡ n → put (put l n b) 0 a ≡ put l 0 (a ++ b)
  put_front l n a b e =
      put-swap l 0 n a b (omega arith) ∙ ap (λ (k : ℕ). put (put l 0 a) k b) (sym e ∙ sym (zero-add (length a))) ∙ sym (put-append l 0 a b)

-- what a copy to `l[at..at + k]` leaves of l, where the part holds `vs` after it
pub put_mid-put : {A : Type 0} (l : List A) (at k : ℕ) (vs : List A) → length vs ≡ k → at + k ≤ length l → put_mid at k l vs ≡ put l at vs
put_mid-put l at k vs e fits = sym (rw (put_is l at vs (omega arith), append_assoc, e, ← drop-drop k at l))
