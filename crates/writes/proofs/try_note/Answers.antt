-- `writes::try_note` is right: it refuses an identifier that is not in the settings, and else is the note of the controller at its place. Assumes nothing.
use mathlib.Core.Path.{◌≡◌, refl, sym, ◌∙◌}
use Prim.Native.Nat.{◌<◌}
use lib.ListN.{length}
use Rattle.record.specs.Record.{where_is}
use Rattle.std.specs.declared.result.Result.TheVariants.{Ok}
use Rattle.record.proofs.RecordLaws.{where_is-at}
use Rattle.calls.proofs.Answers.{leaves, leaves-as}
use Rattle.writes.proofs.WriteLaws.{sound-found, sound-nothing, write-refused, write-on, may-note}
use Rattle.writes.proofs.try_note.Goals as goal
use Rattle.writes.proofs.try_note.Goals.{In-Some}

-- the place that was found
found : (c : In-Some)
    → let a = c.args in
    where_is a.d.now (length a.marks.now) a.id ≡ Ok c.in-Some.i
found c = sound-found _ _ _ c.requires _ (sym c.find.ensures ∙ c.in-Some.is)

below : (c : In-Some) → c.in-Some.i < 8
below c = (where_is-at _ _ _ _ (found c)).below

pub returns-in_default : goal.returns-in_default
returns-in_default c = leaves _ _ _ _ _ (write-refused _ _ _ _ _ _ (sound-nothing _ _ _ c.requires (sym c.find.ensures ∙ c.in_default.is))) refl refl

pub controller_at-requires : goal.controller_at-requires
controller_at-requires c = below (goal.at.controller_at-requires c).In-Some

pub note_on-requires : goal.note_on-requires
note_on-requires c = rw c.controller_at.ensures (may-note _ _ _ _ (found (goal.at.note_on-requires c).In-Some))

pub returns : goal.returns
returns c =
    leaves-as _ _ _ _ (rw c.controller_at.ensures (write-on _ _ _ _ _ (found (goal.at.returns c).In-Some) _)) c.note_on.ensures
