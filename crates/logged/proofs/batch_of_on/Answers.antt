-- What `BatchLaws` says of a turn, at what the calls in it answer.
use mathlib.Core.Path.{◌≡◌, sym, ◌∙◌}
use lib.ListN.{length}
use borrow.Author.Rules.{rules}
use Rattle.rules.proofs.LoopLaws.{length-mapped}
use Rattle.writes.proofs.Turns.{going-sound, going-fits}
use Rattle.logged.proofs.BatchLaws.{logs-first, logs-stops, logs-over, logs-next, logged_of}
use Rattle.logged.proofs.batch_of_on.Goals as goal
use Rattle.logged.proofs.batch_of_on.Given.{Over}
use Rattle.logged.proofs.batch_of_on.Goals.{Start}

long : (g : Over) (c : Start g) → length c.args.list ≡ 1025
long g c = search (length-mapped, rules)

pub loop-w-init : goal.loop-w-init
loop-w-init g c = logs-first g.E.Notes.engine _ _ _ _ _ (rw c.words.ensures at c.begin-answer.ensures)

pub returns-then-not-due : goal.returns-then-not-due
returns-then-not-due g c =
    logged_of g.E.Notes.engine _ _ _ _ _ _ _ _ _ (long g (goal.at.returns-then-not-due g c).Start) c.min.ensures
    (logs-stops g.E.Notes.engine _ _ _ _ _ _ _ _ c.loop-w.invariant (sym c.due.ensures ∙ c.if-not-due.true))

pub note-r-requires : goal.note-r-requires
note-r-requires g c = going-sound g.E.Notes.engine _ _ _ _ _ _ c.loop-w.invariant.going (sym c.due.ensures ∙ c.if-not-due.false)

pub tally-answer-requires : goal.tally-answer-requires
tally-answer-requires g c =
    going-fits g.E.Notes.engine _ _ _ _ _ _ c.loop-w.invariant.going (sym c.due.ensures ∙ c.if-not-due.false) _ _ c.note-r.ensures.0 c.note-r.ensures.1 c.note-r.ensures.3

pub loop-w-preserved : goal.loop-w-preserved
loop-w-preserved g c =
    let i = c.loop-w.invariant in
    logs-next g.E.Notes.engine _ _ _ _ _ _ _ _ i (sym c.due.ensures ∙ c.if-not-due.false) _ _ c.note-r.ensures.0 c.note-r.ensures.1 c.note-r.ensures.3 _ c.book-log.ensures _ c.tally-answer.ensures
    (c.note-r.ensures.2 ∙ i.going.same)

pub returns : goal.returns
returns g c =
    logged_of g.E.Notes.engine _ _ _ _ _ _ _ _ _ (long g (goal.at.returns g c).Start) c.min.ensures
    (logs-over g.E.Notes.engine _ _ _ _ _ _ _ _ c.loop-w.invariant c.loop-w-test.false)
