-- `record::end_after` is right, case by case (`end_after-none`, `end_after-early`, `end_after-behind`).
use mathlib.Core.Path.{sym}
use Rattle.record.proofs.WalkLaws.{end_after-none, end_after-early, end_after-behind}
use Rattle.record.proofs.end_after.Goals as goal

pub returns-then-size-eq0 : goal.returns-then-size-eq0
returns-then-size-eq0 c = sym (end_after-none _ _ _ c.if-size-eq0.true)

pub returns-then-b-end : goal.returns-then-b-end
returns-then-b-end c = sym (end_after-early _ _ _ c.if-size-eq0.false c.if-b-end.true)

pub returns : goal.returns
returns c = sym (end_after-behind _ _ _ c.if-size-eq0.false c.if-b-end.false)
