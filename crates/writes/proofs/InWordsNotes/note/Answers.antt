-- The engine that holds marks in words notes as a batch asks. Assumes nothing.
use Rattle.calls.specs.Calls.{in_words}
use Rattle.writes.proofs.Turns.{note-most, words-most}
use Rattle.writes.proofs.InWordsNotes.note.Goals as goal

pub returns : goal.returns
returns c =
    let a = c.args in
    let n = c.note in
    let most = note-most in_words a.d a.marks.now (words-most a.d a.marks.now c.requires) a.id (record { address = a.at; bytes = a.bytes.0 }) in
    (n.ensures.0, n.ensures.1, n.auto.marks, rw n.ensures.0 most)
