-- The units of a report's descriptors, summed one after another; and a report that was stored lists its own. Assumes nothing.
use mathlib.Core.Path.{◌≡◌}
use mathlib.Core.List.{List, map}
use Prim.Native.Nat.{ℕ, suc, ◌+◌, ◌-◌, ◌*◌, ◌≤◌, ◌<◌}
use native.Mathlib.Nat.{zero-add}
use native.Mathlib.Omega.{arith}
use Rattle.little.specs.Little.{number_at, records_at}
use Rattle.rules.specs.Lists.{sum}
use Rattle.rules.specs.Report.{Descriptor}
use Rattle.rules.specs.ReportReader.{descriptor_at}
use Rattle.booking.specs.Booking.{units_listed}

module _ (x : List ℕ) (n : ℕ) where
  -- the lengths of descriptor i of the first n, and of those after it
  abbrev pub units_from : ℕ → ℕ
  units_from i = sum (map (λ (d : Descriptor). d.length) (records_at descriptor_at 16 x (16 + 16 * i) (n - i)))

  pub units-start : 0 + units_from 0 ≡ units_listed x n
  units-start =
      let e : 16 + 16 * 0 ≡ 16 = omega arith in
      let f : n - 0 ≡ n = omega arith in
      rw (e, f) (zero-add _)

  pub units-next : (i : ℕ) → i < n → units_from i ≡ number_at x (24 + 16 * i) 4 + units_from (i + 1)
  unfolding records_at
  units-next i h =
      let e : n - i ≡ suc (n - (i + 1)) = omega arith in
      let f : 16 + 16 * (i + 1) ≡ 16 + 16 * i + 16 = omega arith in
      let g : 24 + 16 * i ≡ 16 + 16 * i + 8 = omega arith in
      rw (e, f, g)

  pub units-end : (i : ℕ) → n ≤ i → units_from i ≡ 0
  unfolding records_at
  units-end i h = let e : n - i ≡ 0 = omega arith in rw e
