-- `writes::ready` is right: it asks both parts of refusal 1. Assumes nothing.
use mathlib.Core.Path.{sym, ◌∙◌}
use borrow.Author.Tests.{ne_eqb}
use Rattle.writes.proofs.WriteLaws.{few-words, right-words}
use Rattle.writes.proofs.ready.Goals as goal

pub returns-then-words-eq-MARK_WORDS : goal.returns-then-words-eq-MARK_WORDS
returns-then-words-eq-MARK_WORDS c = c.sound.ensures ∙ sym (right-words _ _ c.if-words-eq-MARK_WORDS.true)

pub returns-else-words-eq-MARK_WORDS : goal.returns-else-words-eq-MARK_WORDS
returns-else-words-eq-MARK_WORDS c = ne_eqb _ _ c.if-words-eq-MARK_WORDS.false ∙ sym (few-words _ _ c.if-words-eq-MARK_WORDS.false)
