-- Laws of `assembled`: which byte of the whole is whose, and what a store leaves. All of it is the library's interface. Assumes nothing.
use Prim.Native.Nat.{ℕ, ◌+◌, ◌≤◌, ◌<◌}
use mathlib.Core.Path.{◌≡◌, sym, ap, ◌∙◌}
use mathlib.Core.List.{List, ◌++◌}
use native.Mathlib.Omega.{arith}
use lib.ListN.{length, get_or, take, drop, length-append, get_or-append, get_or-eq_default}
use lib.Seq.{length-take-le, take_at, get_or-take, get_or-append-add}
use Rattle.little.specs.Little.{put}
use Rattle.little.proofs.Put.{put_is}
use Rattle.state_bytes.specs.Parts.{assembled}

module _ (area : List ℕ) (offset : ℕ) (bytes : List ℕ) where
  pub assembled-length : offset ≤ length area → length (assembled area offset bytes) ≡ offset + length bytes
  unfolding assembled
  assembled-length fits = rw (length-append, length-take-le offset area fits)

  -- before the part it is the area's byte, from there on the part's, and past that 0
  pub assembled-before : (i : ℕ) → offset ≤ length area → i < offset → get_or (assembled area offset bytes) i 0 ≡ get_or area i 0
  unfolding assembled
  assembled-before i fits h =
      let inside : i < length (take offset area) = omega (arith, length-take-le offset area fits) in
      get_or-append (take offset area) bytes 0 i inside ∙ get_or-take offset area i 0 h

  pub assembled-at : (k : ℕ) → offset ≤ length area → get_or (assembled area offset bytes) (offset + k) 0 ≡ get_or bytes k 0
  unfolding assembled
  assembled-at k fits =
      ap (λ (n : ℕ). get_or (take offset area ++ bytes) (n + k) 0) (sym (length-take-le offset area fits)) ∙ get_or-append-add (take offset area) bytes k 0

  pub assembled-past : (i : ℕ) → offset ≤ length area → offset + length bytes ≤ i → get_or (assembled area offset bytes) i 0 ≡ 0
  assembled-past i fits h = get_or-eq_default (assembled area offset bytes) 0 (omega (arith, assembled-length fits))

  -- a store makes the first bytes of the area the whole
  pub assembled-put : offset + length bytes ≤ length area → take (offset + length bytes) (put area offset bytes) ≡ assembled area offset bytes
  unfolding assembled
  assembled-put fits =
      let front : length (take offset area ++ bytes) ≡ offset + length bytes = rw (length-append, length-take-le offset area (omega arith)) in
      rw (put_is area offset bytes fits) (take_at (take offset area ++ bytes) (drop (offset + length bytes) area) (offset + length bytes) front)
