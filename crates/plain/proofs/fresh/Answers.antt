-- `plain::fresh` is right: refused, no byte changes; done, all are 0. Assumes nothing.
use mathlib.Core.Path.{refl, ◌∙◌}
use Rattle.calls.proofs.Answers.{leaves}
use Rattle.fresh.proofs.FreshLaws.{fresh-refused, fresh-done}
use Rattle.plain.specs.Bytes.{in_bytes}
use Rattle.plain.proofs.ClearLaws.{cleared-all}
use Rattle.plain.proofs.fresh.Goals as goal

pub returns-then-answer-ne0 : goal.returns-then-answer-ne0
returns-then-answer-ne0 c =
    let a = c.args in
    let m = rw c.words_for.ensures at c.made-answer.ensures in
    leaves _ _ _ _ _ (fresh-refused in_bytes a.s a.area.now (rw m at c.if-answer-ne0.true)) m refl

pub returns : goal.returns
returns c =
    let a = c.args in
    let m = rw c.words_for.ensures at c.made-answer.ensures in
    leaves _ _ _ _ _ (fresh-done in_bytes a.s a.area.now (rw m at c.if-answer-ne0.false)) m (c.clear.ensures ∙ cleared-all a.area.now)
