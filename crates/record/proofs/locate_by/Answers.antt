-- `record::locate_by` is right because it asks for the manager where a place was found, and 2 is the answer to both.
use mathlib.Core.Path.{sym, ◌∙◌}
use borrow.Author.Tests.{not-true, not-false}
use Rattle.rules.proofs.RefusalLaws.{handed_on}
use Rattle.record.proofs.RecordLaws.{where_by-refused, where_by-stray, where_by-found}
use Rattle.record.proofs.locate_by.Goals as goal

pub returns-in_err-place : goal.returns-in_err-place
returns-in_err-place c =
    let a = c.args in
    handed_on _ _ c.from_residual.ensures.1 ∙ sym c.in_err-place.was ∙ where_by-refused a.d a.words a.m a.id _ _ c.locate.ensures c.in_err-place.was

pub returns-then-not-is_manager : goal.returns-then-not-is_manager
returns-then-not-is_manager c =
    let a = c.args in
    sym
    (where_by-stray a.d a.words a.m a.id c.in_ok-place.place (sym c.locate.ensures ∙ c.in_ok-place.was)
    (sym c.is_manager.ensures ∙ not-true _ c.if-not-is_manager.true-raw))

pub returns : goal.returns
returns c =
    let a = c.args in
    sym c.in_ok-place.was ∙ c.locate.ensures ∙ sym (where_by-found a.d a.words a.m a.id (sym c.is_manager.ensures ∙ not-false _ c.if-not-is_manager.false-raw))
