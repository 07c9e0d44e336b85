-- `record::apart_from` is right because it asks each share from the place on.
-- The loop's invariant: those from `from` on pass exactly if those from `i` on do. The measure is how many are left.
use mathlib.Core.Path.{◌≡◌}
use Prim.Native.Nat.{◌-◌}
use lib.ListN.{length, drop}
use Rattle.rules.specs.Lists.{all}
use Rattle.rules.specs.Device.{are_apart}
use Rattle.record.proofs.apart_from.Given as goal

abbrev pub invariant-loop-i : goal.invariant-loop-i
invariant-loop-i l = (length l.shares ≡ 8) × (all (are_apart l.a) (drop l.from l.shares) ≡ all (are_apart l.a) (drop l.i l.shares))

abbrev pub decreases-loop-i : goal.decreases-loop-i
decreases-loop-i l = 8 - l.i
