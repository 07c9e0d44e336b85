-- Laws of `first_field`, `later_fields` and `same_bytes`: where a field ends, and what follows it. The crate's own.
-- Assumes nothing.
use Prim.Native.Nat.{ℕ, suc, ◌+◌, ◌≤◌}
use mathlib.Core.Path.{◌≡◌, refl, sym, ap, ◌∙◌}
use mathlib.Core.Bool.{Bool, true, false, ◌&&◌, cond}
use mathlib.Core.List.{List, [], ◌∷◌}
use native.Mathlib.Omega.{arith}
use borrow.Author.Tests.{ltb-false, ne_eqb}
use lib.Dec.{eqb, ltb}
use lib.ListN.{length, take, drop, drop_of_length-le}
use Rattle.std.proofs.Common.{unwrap_or, bytes_eq, Some, None}
use Rattle.std.specs.List.{position, position_or_len}
use Rattle.std.proofs.lemmas.List.Recursion.{is_position_or_len}
use Rattle.fields.specs.Fields.{first_field, later_fields, same_bytes}

-- ---- first_field

pub first_field-length : (s : List ℕ) → length (first_field s) ≤ length s
unfolding first_field
first_field-length [] = omega arith
first_field-length (b ∷ s) = go (eqb b 32) (first_field-length s)
  where
    go : (t : Bool) → length (first_field s) ≤ length s → length (cond t [] (b ∷ first_field s)) ≤ suc (length s)
    go true ih = omega arith
    go false ih = omega arith

pub first_field-take : (s : List ℕ) → take (length (first_field s)) s ≡ first_field s
unfolding first_field
first_field-take [] = refl
first_field-take (b ∷ s) = go (eqb b 32) (first_field-take s)
  where
    go : (t : Bool) → take (length (first_field s)) s ≡ first_field s → take (length (cond t [] (b ∷ first_field s))) (b ∷ s) ≡ cond t [] (b ∷ first_field s)
    go true ih = refl
    go false ih = ap (λ l. b ∷ l) ih

-- where the first field ends, another one is empty: there is a space, or nothing
pub first_field-stop : (s : List ℕ) → first_field (drop (length (first_field s)) s) ≡ []
unfolding first_field
first_field-stop [] = refl
first_field-stop (b ∷ s) = go (eqb b 32) refl (first_field-stop s)
  where
    go : (t : Bool) → eqb b 32 ≡ t → first_field (drop (length (first_field s)) s) ≡ [] → first_field (drop (length (cond t [] (b ∷ first_field s))) (b ∷ s)) ≡ []
    go true e ih = rw e
    go false e ih = ih

-- where it ends: at the first space, or at the end
pub first_field-space : (s : List ℕ) → length (first_field s) ≡ position_or_len (λ b. eqb b 32) s
unfolding first_field
first_field-space s = is_position_or_len (λ l. length (first_field l)) (λ b. eqb b 32) refl (λ b l. step (eqb b 32) b l) s
  where
    step : (t : Bool) (b : ℕ) (l : List ℕ) → length (cond t [] (b ∷ first_field l)) ≡ cond t 0 (1 + length (first_field l))
    step true b l = refl
    step false b l = omega arith

pub first_field-found : (s : List ℕ) → unwrap_or (position (λ b. eqb b 32) s) (length s) ≡ length (first_field s)
first_field-found s = go (ltb (position_or_len (λ b. eqb b 32) s) (length s)) refl
  where
    go : (t : Bool) → ltb (position_or_len (λ b. eqb b 32) s) (length s) ≡ t → unwrap_or (cond t (Some (position_or_len (λ b. eqb b 32) s)) None) (length s) ≡ length (first_field s)
    go true e = sym (first_field-space s)
    go false e = omega (arith, ltb-false (position_or_len (λ b. eqb b 32) s) (length s) e, first_field-space s, first_field-length s)

-- ---- later_fields

pub later_fields-skip : (s : List ℕ) → later_fields s ≡ later_fields (drop (length (first_field s)) s)
unfolding first_field later_fields
later_fields-skip [] = refl
later_fields-skip (b ∷ s) = go (eqb b 32) refl (later_fields-skip s)
  where
    go : (t : Bool) → eqb b 32 ≡ t → later_fields s ≡ later_fields (drop (length (first_field s)) s)
        → cond t (first_field s ∷ later_fields s) (later_fields s) ≡ later_fields (drop (length (cond t [] (b ∷ first_field s))) (b ∷ s))
    go true e ih = rw e
    go false e ih = ih

pub later_fields-over : (s : List ℕ) (at : ℕ) → length s ≤ at → later_fields (drop at s) ≡ []
unfolding later_fields
later_fields-over s at h = rw (drop_of_length-le s h)

-- ---- the fields that are left

pub later_fields_none : (s : List ℕ) → length s ≡ 0 → later_fields s ≡ []
later_fields_none s e = later_fields-over s 0 (omega arith)

-- what is left is empty, or begins with a space, behind which the next field stands
module _ (s after : List ℕ) (b : ℕ) (whole : s ≡ b ∷ after) (stop : first_field s ≡ []) where
  space : eqb b 32 ≡ true
  unfolding first_field
  space = go (eqb b 32) (rw whole at stop)
    where
      go : (t : Bool) → cond t [] (b ∷ first_field after) ≡ [] → t ≡ true
      go true q = refl
      go false q = cc

  pub field_next : (n : ℕ) → n ≡ length (first_field after) → later_fields s ≡ take n after ∷ later_fields (drop n after)
  unfolding first_field later_fields
  field_next n e = rw (whole, space, e, first_field-take after, ← later_fields-skip after)

  pub field_rest : later_fields s ≡ first_field after ∷ later_fields after
  unfolding first_field later_fields
  field_rest = rw (whole, space)

pub fields-empty : (s : List ℕ) → first_field s ≡ [] → eqb (length s) 0 ≡ eqb (length (later_fields s)) 0
unfolding later_fields
fields-empty [] stop = refl
fields-empty (b ∷ s) stop = some (length s) ∙ sym (rw (field_rest (b ∷ s) s b refl stop) (some (length (later_fields s))))
  where
    some : (n : ℕ) → eqb (suc n) 0 ≡ false
    some n = ne_eqb (suc n) 0 (λ e. absurd (omega arith))

pub field-stop : (s : List ℕ) (n : ℕ) → n ≡ length (first_field s) → first_field (drop n s) ≡ []
field-stop s n e = rw e (first_field-stop s)

-- ---- same_bytes

pub same_bytes-is : (a b : List ℕ) → same_bytes a b ≡ bytes_eq a b
unfolding same_bytes
same_bytes-is [] [] = refl
same_bytes-is [] (y ∷ b) = refl
same_bytes-is (x ∷ a) [] = refl
same_bytes-is (x ∷ a) (y ∷ b) = ap (λ t. eqb x y && t) (same_bytes-is a b)
