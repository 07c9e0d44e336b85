-- `marking::mark_pieces` is right because piece after piece is marked. The loop's invariant (`Marking`): what is still to be marked makes of the marks and
-- the count as they are now what is promised. The measure is the units that are left. Assumes nothing.
use mathlib.Core.Path.{◌≡◌}
use Prim.Native.Nat.{◌≤◌}
use lib.ListN.{length, take}
use Rattle.bits.specs.Flat.{flat}
use Rattle.rules.specs.Settings.{unit_size}
use Rattle.pieces.specs.Pieces.{row_of, units_left}
use Rattle.marking.specs.Note.{write_to, mark_in, newly_in}
use Rattle.marking.proofs.NoteLaws.{Marking}
use Rattle.marking.proofs.mark_pieces.Given as goal

abbrev pub invariant-loop-piece : goal.invariant-loop-piece
invariant-loop-piece l =
    (length l.marks ≡ length l.initial.marks) × (l.unit.0 ≤ (row_of (take l.rows.count l.rows.ranges) l.i).length)
    × Marking (write_to l.written.at l.written.last) (units_left (unit_size l.rows.granularity) (take l.rows.count l.rows.ranges) l.i l.unit.0) l.marks l.bit l.sum
    (mark_in (write_to l.written.at l.written.last) (units_left (unit_size l.rows.granularity) (take l.rows.count l.rows.ranges) l.row 0) (flat l.initial.marks) l.from)
    (newly_in (write_to l.written.at l.written.last) (units_left (unit_size l.rows.granularity) (take l.rows.count l.rows.ranges) l.row 0) (flat l.initial.marks) l.from)

abbrev pub decreases-loop-piece : goal.decreases-loop-piece
decreases-loop-piece l = length (units_left (unit_size l.rows.granularity) (take l.rows.count l.rows.ranges) l.i l.unit.0)
