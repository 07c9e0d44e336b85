-- `booking::units_in` is right because it adds each descriptor's length once. The loop's invariant: the sum so far and the lengths from descriptor i on are all. Assumes nothing.
use mathlib.Core.Path.{◌≡◌}
use Prim.Native.Nat.{◌+◌}
use Rattle.booking.specs.Booking.{units_listed}
use Rattle.booking.proofs.ListedLaws.{units_from}
use Rattle.booking.proofs.units_in.Given as goal

abbrev pub invariant-loop-i : goal.invariant-loop-i
invariant-loop-i l = l.units + units_from l.report l.n l.i ≡ units_listed l.report l.n
