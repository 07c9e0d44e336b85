-- `ranges::units_in` is right because the pieces are all the units, each once. The loop's invariant: what was counted and what is left are all units. The
-- measure is the units that are left.
use mathlib.Core.Path.{◌≡◌}
use Prim.Native.Nat.{◌≤◌, ◌+◌}
use lib.ListN.{length, take}
use Rattle.rules.specs.Settings.{unit_size}
use Rattle.rules.specs.Units.{units}
use Rattle.pieces.specs.Pieces.{row_of, units_left}
use Rattle.ranges.proofs.units_in.Given as goal

abbrev pub invariant-loop-piece : goal.invariant-loop-piece
invariant-loop-piece l =
    (l.unit.0 ≤ (row_of (take l.rows.count l.rows.ranges) l.row).length) × (l.total + length (units_left (unit_size l.rows.granularity) (take l.rows.count l.rows.ranges) l.row l.unit.0) ≡ length (units l.rows.granularity (take l.rows.count l.rows.ranges)))

abbrev pub decreases-loop-piece : goal.decreases-loop-piece
decreases-loop-piece l = length (units_left (unit_size l.rows.granularity) (take l.rows.count l.rows.ranges) l.row l.unit.0)
