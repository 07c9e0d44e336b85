-- `pieces::next_piece` is right because it goes from stretch to stretch, and from row to row, until a stretch belongs to its row. The loop's invariant: as
-- much is left as at the start. The measure counts 2^32 for each row that is left, less the units of this row that were passed.
use mathlib.Core.Path.{◌≡◌}
use Prim.Native.Nat.{◌-◌, ◌*◌, ◌≤◌}
use lib.ListN.{length, take}
use Rattle.rules.specs.Settings.{unit_size}
use Rattle.pieces.specs.Pieces.{row_of, units_left}
use Rattle.pieces.proofs.next_piece.Given as goal

abbrev pub invariant-loop-i : goal.invariant-loop-i
invariant-loop-i l =
    (length l.rows.ranges ≡ 16) × (l.j.0 ≤ (row_of (take l.rows.count l.rows.ranges) l.i).length) × (units_left (unit_size l.rows.granularity) (take l.rows.count l.rows.ranges) l.row l.initial.j.0 ≡ units_left (unit_size l.rows.granularity) (take l.rows.count l.rows.ranges) l.i l.j.0)

abbrev pub decreases-loop-i : goal.decreases-loop-i
decreases-loop-i l = (l.rows.count - l.i) * 4294967296 - l.j.0
