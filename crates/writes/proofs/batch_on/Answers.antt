-- What `Turns` says of a turn, at what the calls in it answer.
use mathlib.Core.Path.{sym, ◌∙◌}
use Rattle.writes.proofs.Turns.{going-first, going-stops, going-sound, going-fits, going-next, going-over}
use Rattle.writes.proofs.batch_on.Goals as goal

pub loop-w-init : goal.loop-w-init
loop-w-init g c = going-first g.E.Notes.engine _ _ _ _ (rw c.words.ensures at c.begin-b.ensures)

pub returns-then-not-due : goal.returns-then-not-due
returns-then-not-due g c = going-stops g.E.Notes.engine _ _ _ _ _ _ c.loop-w.invariant (sym c.due.ensures ∙ c.if-not-due.true)

pub note-requires : goal.note-requires
note-requires g c = going-sound g.E.Notes.engine _ _ _ _ _ _ c.loop-w.invariant (sym c.due.ensures ∙ c.if-not-due.false)

pub tally-b-requires : goal.tally-b-requires
tally-b-requires g c =
    going-fits g.E.Notes.engine _ _ _ _ _ _ c.loop-w.invariant (sym c.due.ensures ∙ c.if-not-due.false) _ _ c.note.ensures.0 c.note.ensures.1 c.note.ensures.3

pub loop-w-preserved : goal.loop-w-preserved
loop-w-preserved g c =
    let i = c.loop-w.invariant in
    going-next g.E.Notes.engine _ _ _ _ _ _ i (sym c.due.ensures ∙ c.if-not-due.false) _ _ c.note.ensures.0 c.note.ensures.1 c.note.ensures.3 _ c.tally-b.ensures (c.note.ensures.2 ∙ i.same)

pub returns : goal.returns
returns g c = going-over g.E.Notes.engine _ _ _ _ _ _ c.loop-w.invariant c.loop-w-test.false
