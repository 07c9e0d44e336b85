-- `record::shares` is right because it takes the share of each controller in use.
-- The loop's invariant: the shares of the first `i` controllers stand in their places, and none in the others. The measure is how many are left.
use mathlib.Core.Path.{◌≡◌}
use Prim.Native.Nat.{◌≤◌, ◌-◌}
use lib.ListN.{length}
use Rattle.record.proofs.RecordLaws.{shares_to}
use Rattle.record.proofs.shares.Given as goal

abbrev pub invariant-loop-i : goal.invariant-loop-i
invariant-loop-i l = (l.d.settings.count ≡ l.n) × (l.n ≤ 8) × (length l.d.controllers ≡ 8) × (l.i ≤ l.n) × (l.shares ≡ shares_to l.d l.i)

abbrev pub decreases-loop-i : goal.decreases-loop-i
decreases-loop-i l = l.n - l.i
