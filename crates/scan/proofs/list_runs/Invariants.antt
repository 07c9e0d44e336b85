-- `scan::list_runs` is right: each turn finds the next run, makes it clear and stores its descriptor. The loop's invariant (`Listing`): what is listed are
-- the first runs, what was passed is clear, and the later runs are left. The measure is the room that is left. Assumes nothing.
use mathlib.Core.Path.{◌≡◌}
use Prim.Native.Nat.{◌-◌, ◌+◌}
use lib.ListN.{length, take}
use Rattle.bits.specs.Flat.{flat}
use Rattle.scan.proofs.ListSteps.{Listing}
use Rattle.scan.proofs.list_runs.Given as goal

abbrev pub invariant-loop-found : goal.invariant-loop-found
invariant-loop-found l =
    (length l.marks ≡ length l.initial.marks) × (length l.buffer ≡ length l.initial.buffer)
    × Listing l.rows.granularity (take l.rows.count l.rows.ranges) (flat l.initial.marks) l.base l.initial.buffer l.room (flat l.marks) l.buffer l.runs l.row l.unit.0 l.pos

abbrev pub decreases-loop-found : goal.decreases-loop-found
decreases-loop-found l = l.room + 1 - l.runs
