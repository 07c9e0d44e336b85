-- `marking::mark_ranges` is right because a row that begins where all rows before it have ended is one piece, and what is left from the first other row on
-- is marked piece by piece. The loop's invariant: `Marking`, as in `mark_pieces`, and all rows so far have ended at `end`.
-- Assumes nothing.
use mathlib.Core.Path.{◌≡◌}
use lib.ListN.{length, take}
use Rattle.bits.specs.Flat.{flat}
use Rattle.rules.specs.Settings.{unit_size}
use Rattle.rules.specs.Units.{units}
use Rattle.pieces.specs.Pieces.{units_left}
use Rattle.pieces.proofs.PieceLaws.{EndBy}
use Rattle.marking.specs.Note.{write_to, mark_in, newly_in}
use Rattle.marking.proofs.NoteLaws.{Marking}
use Rattle.marking.proofs.mark_ranges.Given as goal

abbrev pub invariant-loop-row : goal.invariant-loop-row
invariant-loop-row l =
    (length l.marks ≡ length l.initial.marks) × (length l.rows.ranges ≡ 16) × EndBy (unit_size l.rows.granularity) l.end.0 (take l.row (take l.rows.count l.rows.ranges))
    × Marking (write_to l.written.at l.written.last) (units_left (unit_size l.rows.granularity) (take l.rows.count l.rows.ranges) l.row 0) l.marks l.from l.count
    (mark_in (write_to l.written.at l.written.last) (units l.rows.granularity (take l.rows.count l.rows.ranges)) (flat l.initial.marks) l.base)
    (newly_in (write_to l.written.at l.written.last) (units l.rows.granularity (take l.rows.count l.rows.ranges)) (flat l.initial.marks) l.base)
