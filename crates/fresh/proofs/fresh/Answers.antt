-- `fresh::fresh` is right: refused, no mark changes; done, all are clear. Assumes nothing.
use mathlib.Core.Path.{refl, ◌∙◌}
use borrow.Author.Rules.{rules}
use Rattle.rules.specs.Settings.{mark_words}
use Rattle.calls.proofs.Answers.{leaves}
use Rattle.fresh.proofs.FreshLaws.{clear-words, fresh-refused, fresh-whole, fresh-done}
use Rattle.fresh.proofs.fresh.Goals as goal

pub returns-then-answer-ne0 : goal.returns-then-answer-ne0
returns-then-answer-ne0 c =
    let m = c.made-answer.ensures in
    leaves _ _ _ _ _ (fresh-refused _ _ _ (rw m at c.if-answer-ne0.true)) m refl

pub returns : goal.returns
returns c =
    let m = c.made-answer.ensures in
    let a = c.args in
    let z = rw m at c.if-answer-ne0.false in
    let w = fresh-whole a.s _ z in
    leaves _ _ _ _ _ (fresh-done _ a.s a.marks.now z) m
    (clear-words mark_words a.marks.now _ w (λ i. search rules) c.clear_span.ensures ∙ rw w)
