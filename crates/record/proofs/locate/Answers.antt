-- `record::locate` is right because it refuses in the order of the rule: 1 for the words and for the record, then 2; and the search's place is the answer's.
use mathlib.Core.Path.{sym, ◌∙◌}
use borrow.Author.Tests.{not-true, not-false}
use Rattle.record.proofs.RecordLaws.{where_is-words, where_is-unsound, where_is-nothing, where_is-found}
use Rattle.record.proofs.locate.Goals as goal

pub returns-then-words-ne-MARK_WORDS : goal.returns-then-words-ne-MARK_WORDS
returns-then-words-ne-MARK_WORDS c = sym (where_is-words _ _ _ c.if-words-ne-MARK_WORDS.true)

pub returns-then-not-sound : goal.returns-then-not-sound
returns-then-not-sound c = sym (where_is-unsound _ _ _ (sym c.sound.ensures ∙ not-true _ c.if-not-sound.true-raw))

pub returns-in_default : goal.returns-in_default
returns-in_default c =
    sym (where_is-nothing _ _ _ c.if-words-ne-MARK_WORDS.false (sym c.sound.ensures ∙ not-false _ c.if-not-sound.false-raw) (sym c.find.ensures ∙ c.in_default.is))

pub returns : goal.returns
returns c =
    sym (where_is-found _ _ _ _ c.if-words-ne-MARK_WORDS.false (sym c.sound.ensures ∙ not-false _ c.if-not-sound.false-raw) (sym c.find.ensures ∙ c.in-Some.is))
