-- `writes::batch_on` is right: what is left, from the batch as it has come so far, gives what is promised of the whole (`Going`). Assumes nothing.
use Rattle.writes.proofs.Turns.{Going}
use Rattle.writes.proofs.batch_on.Given as goal

abbrev pub invariant-loop-w : goal.invariant-loop-w
invariant-loop-w g l = Going g.E.Notes.engine l.d (g.E.Notes.area l.initial.marks) l.list l.w-index l.b (g.E.Notes.area l.marks)
