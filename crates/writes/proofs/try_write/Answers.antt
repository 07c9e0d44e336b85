-- `writes::try_write` is right: past refusal 1 it is the note on a sound record. Assumes nothing.
use mathlib.Core.Path.{refl, sym, ◌∙◌}
use Rattle.calls.proofs.Answers.{leaves}
use Rattle.writes.proofs.WriteLaws.{unsound-place, write-refused}
use Rattle.writes.proofs.try_write.Goals as goal

pub try_note-requires : goal.try_note-requires
try_note-requires c = sym c.ready.ensures ∙ c.if-ready.true

pub returns-else-ready : goal.returns-else-ready
returns-else-ready c = leaves _ _ _ _ _ (write-refused _ _ _ _ _ _ (unsound-place _ _ _ (sym c.ready.ensures ∙ c.if-ready.false))) refl refl
