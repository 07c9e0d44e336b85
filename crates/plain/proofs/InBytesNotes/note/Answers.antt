-- The engine that holds marks in bytes notes as a batch asks. Assumes nothing.
use mathlib.Core.Path.{ap}
use Rattle.writes.proofs.Turns.{note-most}
use Rattle.plain.specs.Bytes.{words_for, in_bytes}
use Rattle.plain.proofs.BatchLaws.{bytes-most}
use Rattle.plain.proofs.InBytesNotes.note.Goals as goal

pub returns : goal.returns
returns c =
    let a = c.args in
    let w = c.write in
    let most = note-most in_bytes a.d a.area.now (bytes-most a.d a.area.now c.requires) a.id (record { address = a.at; bytes = a.bytes.0 }) in
    (w.ensures.0, w.ensures.1, ap words_for w.auto.area, rw w.ensures.0 most)
