-- The marks of some units that are set are as many as are pending. Assumes nothing.
use mathlib.Core.Path.{◌≡◌, refl}
use mathlib.Core.Bool.{Bool, true, false}
use mathlib.Core.List.{List, [], ◌∷◌}
use Prim.Native.Nat.{ℕ, ◌-◌, ◌≤◌}
use native.Mathlib.Omega.{arith}
use lib.ListN.{length, drop, length-take}
use Rattle.bits.specs.Flat.{flat}
use Rattle.bits.specs.Share.{get_share}
use Rattle.bits.specs.Count.{marks_set}
use Rattle.rules.specs.Units.{Unit, pending}

set-pending : (us : List Unit) (p : List Bool) → length p ≤ length us → marks_set p ≡ length (pending us p)
unfolding marks_set
set-pending us [] h = go us
  where
    go : (us : List Unit) → 0 ≡ length (pending us [])
    go [] = refl
    go (u ∷ us) = refl
set-pending [] (b ∷ p) h = absurd (omega arith)
set-pending (u ∷ us) (true ∷ p) h = omega (arith, set-pending us p (omega arith))
set-pending (u ∷ us) (false ∷ p) h = omega (arith, set-pending us p (omega arith))

-- so are those of a share, counted from its first bit to its end
pub share-counted : (ws : List ℕ) (base end n : ℕ) (us : List Unit) → end - base ≡ n → n ≡ length us
    → marks_set (get_share (flat ws) base (end - base)) ≡ length (pending us (get_share (flat ws) base (length us)))
unfolding get_share
share-counted ws base end n us e f = rw (e, f) (set-pending us (get_share (flat ws) base (length us)) (omega (arith, length-take (length us) (drop base (flat ws)))))
