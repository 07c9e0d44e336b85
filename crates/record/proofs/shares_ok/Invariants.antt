-- `record::shares_ok` is right because it asks each share by itself and with each later one.
-- The loop's invariant: all shares pass exactly if those from `i` on do. The measure is how many are left.
use mathlib.Core.Path.{◌≡◌}
use Prim.Native.Nat.{◌-◌}
use lib.ListN.{length, drop}
use Rattle.rules.specs.Device.{shares_ok}
use Rattle.record.proofs.shares_ok.Given as goal

abbrev pub invariant-loop-i : goal.invariant-loop-i
invariant-loop-i l = (length l.shares ≡ 8) × (shares_ok l.shares ≡ shares_ok (drop l.i l.shares))

abbrev pub decreases-loop-i : goal.decreases-loop-i
decreases-loop-i l = 8 - l.i
