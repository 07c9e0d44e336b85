-- Laws of the two measures: what fits 64 bits at every granularity from 0 to 20, and when an address is a multiple of the unit. All of it is the
-- library's interface. Assumes nothing.
use mathlib.Core.Path.{◌≡◌}
use Prim.Native.Nat.{ℕ, ◌*◌, ◌/◌, ◌%◌, ◌+◌, ◌^◌, ◌≤◌, ◌<◌}
use native.Mathlib.Omega.{arith}
use native.Mathlib.Nat.{mul-pos, mul-le-mul_left, lt_of_lt_of_le, div-add-mod'}
use lib.Dec.{eqb}
use lib.Pow.{pow_pos, pow_mono, shl_lt}
use borrow.Author.Tests.{eq-eqb, eqb-true}
use Rattle.rules.specs.Settings.{unit_size, bytes_of, whole_units}
use Rattle.rules.proofs.ListLaws.{bool-ext}

-- a unit is 4 KiB at least
pub unit_size-least : (g : ℕ) → 4096 ≤ unit_size g
unit_size-least g = pow_mono {i = 12} {j = 12 + g} (omega arith)

-- the bytes of fewer than 2^32 units fit 64 bits
pub bytes_of-fits : (g u : ℕ) → g ≤ 20 → u < 2 ^ 32 → bytes_of g u < 2 ^ 64
bytes_of-fits g u h k = lt_of_lt_of_le (shl_lt 32 (12 + g) k) (pow_mono {i = 32 + (12 + g)} {j = 64} (omega arith))

-- some units are some bytes
pub bytes_of-pos : (g u : ℕ) → 1 ≤ u → 1 ≤ bytes_of g u
bytes_of-pos g u h = mul-pos h (pow_pos (12 + g))

module _ (size x : ℕ) where
  -- what the whole units leave over
  quotient_le : x / size * size ≤ x
  quotient_le = omega (arith, div-add-mod' x size)

  quotient-whole : eqb (x / size * size) x ≡ eqb (x % size) 0
  quotient-whole =
      bool-ext (eqb (x / size * size) x) (eqb (x % size) 0)
      (λ e. eq-eqb (x % size) 0 (omega (arith, div-add-mod' x size, eqb-true (x / size * size) x e)))
      (λ e. eq-eqb (x / size * size) x (omega (arith, div-add-mod' x size, eqb-true (x % size) 0 e)))

  quotient-small : 4096 ≤ size → x < 2 ^ 64 → x / size < 2 ^ 52
  quotient-small h l = omega (arith, l, div-add-mod' x size, mul-le-mul_left {m = 4096} {n = size} (x / size) h)

-- they are no more bytes than there were, as many exactly for a multiple of the unit
pub whole_units-le : (g x : ℕ) → bytes_of g (whole_units g x) ≤ x
whole_units-le g x = quotient_le (unit_size g) x

pub whole_units-whole : (g x : ℕ) → eqb (bytes_of g (whole_units g x)) x ≡ eqb (x % unit_size g) 0
whole_units-whole g x = quotient-whole (unit_size g) x

-- the units before an address are few enough that a range's length can be added
pub whole_units-small : (g x : ℕ) → x < 2 ^ 64 → whole_units g x < 2 ^ 52
whole_units-small g x l = quotient-small (unit_size g) x (unit_size-least g) l
