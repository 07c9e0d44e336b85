-- `logged::batch_of_on` is right: each note is done and booked as a write alone is. The loop's invariant is that of the batch itself, and that what is left of the notes makes
-- of the log what the whole batch does. Assumes nothing.
use Rattle.logged.proofs.BatchLaws.{Logs}
use Rattle.logged.proofs.batch_of_on.Given as goal

abbrev pub invariant-loop-w : goal.invariant-loop-w
invariant-loop-w g l = Logs g.E.Notes.engine l.d (g.E.Notes.area l.initial.marks) l.initial.log l.notes l.w-index l.answer (g.E.Notes.area l.marks) l.log
