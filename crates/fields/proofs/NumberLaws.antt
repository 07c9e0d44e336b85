-- Laws of numbers in fields, and of the loop that reads one. The crate's own. Assumes nothing.
use Prim.Native.Nat.{ℕ, ◌+◌, ◌-◌, ◌*◌, ◌≤◌, ◌<◌}
use mathlib.Core.Path.{◌≡◌, refl, sym, ap, ◌∙◌}
use mathlib.Core.Logic.{◌≢◌}
use mathlib.Core.Bool.{Bool, true, false, ◌&&◌, not, cond}
use mathlib.Core.List.{List, [], ◌∷◌}
use native.Mathlib.Numerals.{add-one}
use native.Mathlib.Omega.{arith}
use borrow.Author.Tests.{le-leb, lt-leb, leb-true, eq-eqb, eqb-true}
use lib.Dec.{leb, eqb}
use lib.ListN.{length, get_or, drop, drop_of_length-le}
use lib.Seq.{drop-cons}
use Rattle.rules.specs.Lists.{all}
use Rattle.rules.proofs.ListLaws.{every-at, every-not}
use Rattle.fields.specs.Fields.{is_digit, leading_zero, spelled, value, number_rules, is_number, number_of}
use Rattle.std.proofs.Common.{Some, None}

-- more digits spell no smaller number
pub spelled-least : (v : ℕ) (s : List ℕ) → v ≤ spelled v s
unfolding spelled
spelled-least v [] = omega arith
spelled-least v (b ∷ s) = omega (arith, spelled-least (10 * v + (b - 48)) s)

-- ---- a zero before another byte

pub leading_zero-is : (f : List ℕ) → 2 ≤ length f → get_or f 0 0 ≡ 48 → leading_zero f ≡ true
leading_zero-is f h e = rw (le-leb 2 (length f) h, eq-eqb (get_or f 0 0) 48 e)

pub no_leading_zero : (f : List ℕ) → (2 ≤ length f → get_or f 0 0 ≢ 48) → leading_zero f ≡ false
no_leading_zero f h = go (leb 2 (length f)) (eqb (get_or f 0 0) 48) refl refl
  where
    go : (t u : Bool) → leb 2 (length f) ≡ t → eqb (get_or f 0 0) 48 ≡ u → (t && u) ≡ false
    go false u p q = refl
    go true false p q = refl
    go true true p q = absurd (h (leb-true 2 (length f) p) (eqb-true (get_or f 0 0) 48 q))

-- ---- a field that is no number

module _ (most : ℕ) (f : List ℕ) where
  number-breaks : (k : ℕ) → get_or (number_rules most f) k true ≡ false → None ≡ number_of most f
  unfolding number_of is_number
  number-breaks k e = rw (every-not (number_rules most f) k e)

  pub number-empty : length f ≡ 0 → None ≡ number_of most f
  number-empty e = number-breaks 0 (lt-leb 1 (length f) (omega arith))

  pub number-zero : leading_zero f ≡ true → None ≡ number_of most f
  number-zero e = number-breaks 1 (ap not e)

  -- ---- the loop over its bytes: what is known before byte i, and a turn's ways out
  module _ (v i : ℕ) where
    digits_step : i < length f → all is_digit (drop i f) ≡ (is_digit (get_or f i 0) && all is_digit (drop (i + 1) f))
    digits_step h = rw (drop-cons f i 0 h, add-one)

    spelled_step : i < length f → spelled v (drop i f) ≡ spelled (10 * v + (get_or f i 0 - 48)) (drop (i + 1) f)
    unfolding spelled
    spelled_step h = rw (drop-cons f i 0 h, add-one)

    pub number-other : i < length f → is_digit (get_or f i 0) ≡ false → all is_digit (drop i f) ≡ all is_digit f → None ≡ number_of most f
    number-other h e inv = number-breaks 2 (sym inv ∙ digits_step h ∙ rw e)

    pub number-over : i < length f → most < 10 * v + (get_or f i 0 - 48) → spelled v (drop i f) ≡ value f → None ≡ number_of most f
    number-over h big inv =
        let least = spelled-least (10 * v + (get_or f i 0 - 48)) (drop (i + 1) f) in
        let same = sym (spelled_step h) ∙ inv in
        number-breaks 3 (lt-leb (value f) most (omega arith))

    pub digits-again : i < length f → is_digit (get_or f i 0) ≡ true → all is_digit (drop i f) ≡ all is_digit f → all is_digit (drop (i + 1) f) ≡ all is_digit f
    digits-again h e inv = rw (digits_step h, e) at inv

    pub spelled-again : (d : ℕ) → i < length f → d ≡ get_or f i 0 - 48 → spelled v (drop i f) ≡ value f → spelled (10 * v + d) (drop (i + 1) f) ≡ value f
    spelled-again d h e inv = rw e (sym (spelled_step h) ∙ inv)

    pub number-whole : length f ≤ i → 1 ≤ length f → leading_zero f ≡ false → v ≤ most → spelled v (drop i f) ≡ value f → all is_digit (drop i f) ≡ all is_digit f
        → Some v ≡ number_of most f
    unfolding number_of is_number spelled
    number-whole h some front fits inv digits =
        let p : v ≡ value f = rw (drop_of_length-le f h) at inv in
        let q : true ≡ all is_digit f = rw (drop_of_length-le f h) at digits in
        rw (le-leb 1 (length f) some, front, ← q, ← p, le-leb v most fits)

-- ---- what a field said

module _ (most : ℕ) (f : List ℕ) where
  pub number-none : number_of most f ≡ None → is_number most f ≡ false
  unfolding number_of
  number-none = go (is_number most f)
    where
      go : (t : Bool) → cond t (Some (value f)) None ≡ None → t ≡ false
      go true e = let z : ◌≡◌ {A = ℕ} 0 1 = cc in absurd (omega arith)
      go false e = refl

  pub number_is : (v : ℕ) → number_of most f ≡ Some v → is_number most f ≡ true
  unfolding number_of
  number_is v = go (is_number most f)
    where
      go : (t : Bool) → cond t (Some (value f)) None ≡ Some v → t ≡ true
      go true e = refl
      go false e = let z : ◌≡◌ {A = ℕ} 0 1 = cc in absurd (omega arith)

  pub number-value : (v : ℕ) → number_of most f ≡ Some v → v ≡ value f
  unfolding number_of
  number-value v = go (is_number most f)
    where
      go : (t : Bool) → cond t (Some (value f)) None ≡ Some v → v ≡ value f
      go true e = cc
      go false e = let z : ◌≡◌ {A = ℕ} 0 1 = cc in absurd (omega arith)

  pub is_number-fits : is_number most f ≡ true → value f ≤ most
  unfolding is_number
  is_number-fits e = leb-true (value f) most (every-at (number_rules most f) 3 e)
