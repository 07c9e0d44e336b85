-- `scan::next_pending` is right: piece by piece the next set mark is looked for. The loop's invariant (`Scanned`): all marks
-- from `pos` to where it stands are clear. The measure is the units that are left. Assumes nothing.
use lib.ListN.{length, take}
use Rattle.bits.specs.Flat.{flat}
use Rattle.bits.specs.Share.{get_share}
use Rattle.rules.specs.Settings.{unit_size}
use Rattle.rules.specs.Units.{units}
use Rattle.pieces.specs.Pieces.{units_left}
use Rattle.scan.specs.Scan.{Scanned}
use Rattle.scan.proofs.next_pending.Given as goal

abbrev pub invariant-loop-piece : goal.invariant-loop-piece
invariant-loop-piece l =
    Scanned l.rows.granularity (take l.rows.count l.rows.ranges) (get_share (flat l.marks) l.base (length (units l.rows.granularity (take l.rows.count l.rows.ranges)))) l.pos l.i l.u.0 l.at

abbrev pub decreases-loop-piece : goal.decreases-loop-piece
decreases-loop-piece l = length (units_left (unit_size l.rows.granularity) (take l.rows.count l.rows.ranges) l.i l.u.0)
