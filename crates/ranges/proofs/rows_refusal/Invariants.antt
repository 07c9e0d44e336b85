-- `ranges::rows_refusal` is right because it asks row after row, and the first that breaks a rule answers.
-- The loop's invariant: the rows from `i` on answer what all of the first n answer. The measure is how many are left.
use mathlib.Core.Path.{◌≡◌}
use Prim.Native.Nat.{◌≤◌, ◌-◌}
use lib.ListN.{length, take, drop}
use Rattle.rules.specs.Refusals.{refusal_at}
use Rattle.rules.specs.Ranges.{rows_tests}
use Rattle.ranges.proofs.rows_refusal.Given as goal

abbrev pub invariant-loop-i : goal.invariant-loop-i
invariant-loop-i l =
    (length l.ranges ≡ 16) × (l.n ≤ 16) × (refusal_at (rows_tests l.g 0 (take l.n l.ranges)) ≡ refusal_at (rows_tests l.g l.i (drop l.i (take l.n l.ranges))))

abbrev pub decreases-loop-i : goal.decreases-loop-i
decreases-loop-i l = l.n - l.i
