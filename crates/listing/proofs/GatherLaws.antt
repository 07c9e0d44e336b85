-- Laws of `gathered`: the loop that reads a line's numbers, and what it comes to. The crate's own. Assumes nothing.
use Prim.Native.Nat.{ℕ, zero, suc, ◌+◌, ◌≤◌, ◌<◌}
use mathlib.Core.Path.{◌≡◌, refl, sym, ap}
use mathlib.Core.Bool.{Bool, true, false, ◌&&◌, cond}
use mathlib.Core.List.{List, [], ◌∷◌, map}
use native.Mathlib.Nat.{add-zero}
use native.Mathlib.Numerals.{add-one}
use native.Mathlib.Omega.{arith}
use borrow.Author.Tests.{lt-ltb, le-ltb, ltb-true, ltb-false}
use lib.Dec.{ltb}
use lib.ListN.{length, get_or, set}
use Rattle.little.specs.Little.{put}
use Rattle.little.proofs.Put.{put-cons, put-nil}
use Rattle.rules.proofs.ListLaws.{and_left, and_right}
use Rattle.fields.specs.Fields.{value, is_number, number_of}
use Rattle.listing.specs.Listing.{most_at, fitting}
use Rattle.listing.specs.Inner.{Reading, gathered}
use Rattle.std.proofs.Common.{Option, Some, None}
use Rattle.listing.specs.declared.Word.{Word}
use Rattle.fields.proofs.NumberLaws.{number-none, number_is, number-value, is_number-fits}

-- ---- the loop

-- an answer and places that a reading answers and leaves
abbrev pub Leaves : Option ℕ → List ℕ → Reading → Type 0
Leaves r a whole = (r ≡ whole.answer) × (a ≡ whole.values)

leaves : (r : Option ℕ) (a : List ℕ) (whole : Reading) → (record { answer = r; values = a }) ≡ whole → Leaves r a whole
leaves r a whole e = (ap (λ (x : Reading). x.answer) e, ap (λ (x : Reading). x.values) e)

module _ (w : Word) (i : ℕ) (a : List ℕ) (whole : Reading) where
  pub gathered-over : gathered w i a [] ≡ whole → Leaves (Some i) a whole
  unfolding gathered
  gathered-over inv = leaves _ _ _ inv

  module _ (f : List ℕ) (fs : List (List ℕ)) (inv : gathered w i a (f ∷ fs) ≡ whole) where
    pub gathered-many : 34 ≤ i → Leaves None a whole
    unfolding gathered
    gathered-many many = leaves _ _ _ (rw (le-ltb i 34 many) at inv)

    module _ (m : ℕ) (few : i < 34) (most : m ≡ most_at w i) where
      pub gathered_none : None ≡ number_of m f → Leaves None a whole
      unfolding gathered
      gathered_none n = leaves _ _ _ (rw (lt-ltb i 34 few, number-none (most_at w i) f (rw most at (sym n))) at inv)

      pub gathered-again : (v : ℕ) → Some v ≡ number_of m f → gathered w (i + 1) (set a i v) fs ≡ whole
      unfolding gathered
      gathered-again v n =
          let e = rw most at (sym n) in
          rw (number-value (most_at w i) f v e) (rw (lt-ltb i 34 few, number_is (most_at w i) f v e) at inv)

-- ---- what it comes to

-- the numbers, where there are at most 34 fields and each fits; or that this is not so
pub data Gathered (w : Word) (i : ℕ) (a : List ℕ) (fs : List (List ℕ)) (r : Option ℕ) (vs : List ℕ) : Type 0 where
  all_fit : i + length fs ≤ 34 → fitting w i fs ≡ true → r ≡ Some (i + length fs) → vs ≡ put a i (map value fs) → Gathered w i a fs r vs
  too_many : 34 < i + length fs → r ≡ None → Gathered w i a fs r vs
  unfit : fitting w i fs ≡ false → r ≡ None → Gathered w i a fs r vs

-- of a reading
abbrev Comes : Word → ℕ → List ℕ → List (List ℕ) → Reading → Type 0
Comes w i a fs x = Gathered w i a fs x.answer x.values

pub gathered-cases : (w : Word) (i : ℕ) (a : List ℕ) (fs : List (List ℕ)) → i ≤ 34 → Comes w i a fs (gathered w i a fs)
unfolding gathered fitting
gathered-cases w i a [] h = all_fit (omega arith) refl (rw add-zero) (rw (put-nil a i))
gathered-cases w i a (f ∷ fs) h = go (ltb i 34) (is_number (most_at w i) f) refl refl (λ few. gathered-cases w (i + 1) (set a i (value f)) fs few)
  where
    later : (x : Reading) → Comes w (i + 1) (set a i (value f)) fs x → is_number (most_at w i) f ≡ true → Comes w i a (f ∷ fs) x
    later x (all_fit few fit e v) n =
        let c : i + suc (length fs) ≡ i + 1 + length fs = omega arith in
        all_fit (omega arith) (rw (n, fit)) (rw c e) (rw (put-cons, ← add-one) v)
    later x (too_many many e) n = too_many (omega arith) e
    later x (unfit bad e) n = unfit (rw (n, bad)) e

    go : (t u : Bool) → ltb i 34 ≡ t → is_number (most_at w i) f ≡ u
        → (i + 1 ≤ 34 → Comes w (i + 1) (set a i (value f)) fs (gathered w (i + 1) (set a i (value f)) fs))
        → Comes w i a (f ∷ fs) (cond (t && u) (gathered w (i + 1) (set a i (value f)) fs) (record { answer = None; values = a }))
    go false u p q rest = too_many (omega (arith, ltb-false i 34 p)) refl
    go true false p q rest = unfit (rw q) refl
    go true true p q rest = later _ (rest (omega (arith, ltb-true i 34 p))) q

-- each of them fits
pub fitting-at : (w : Word) (i : ℕ) (fs : List (List ℕ)) (k : ℕ) → fitting w i fs ≡ true → k < length fs → get_or (map value fs) k 0 ≤ most_at w (i + k)
unfolding fitting
fitting-at w i [] k e h = absurd (omega arith)
fitting-at w i (f ∷ fs) zero e h = rw add-zero (is_number-fits (most_at w i) f (and_left (is_number (most_at w i) f) (fitting w (i + 1) fs) e))
fitting-at w i (f ∷ fs) (suc k) e h =
    let n : i + suc k ≡ i + 1 + k = omega arith in
    rw n (fitting-at w (i + 1) fs k (and_right (is_number (most_at w i) f) (fitting w (i + 1) fs) e) (omega arith))
