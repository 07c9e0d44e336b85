-- `pieces::stretch_from` is right because it asks each earlier range: one that covers the first unit ends the search, any other cuts the stretch where it
-- begins. The loop's invariant: `Stretching`, as far as the first i ranges go. The measure is the ranges left.
use mathlib.Core.Path.{◌≡◌}
use Prim.Native.Nat.{◌≤◌, ◌<◌}
use lib.ListN.{length, take}
use Rattle.rules.specs.Settings.{unit_size}
use Rattle.pieces.specs.Pieces.{row_of}
use Rattle.pieces.proofs.PieceLaws.{Stretching}
use Rattle.pieces.proofs.stretch_from.Given as goal

abbrev pub invariant-loop-i : goal.invariant-loop-i
invariant-loop-i l = (length l.rows.ranges ≡ 16) × (l.i ≤ l.row) × (l.row < 16) × Stretching (unit_size l.rows.granularity) (take l.i l.rows.ranges) (row_of l.rows.ranges l.row) l.at.0 l.to.0
