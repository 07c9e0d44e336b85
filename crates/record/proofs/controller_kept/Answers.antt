-- `record::controller_kept` is right because it asks nothing of a controller that is off, and of one that is on whether its manager is in the settings, 7, and then the
-- list's rules.
use mathlib.Core.Path.{sym, ◌∙◌}
use native.Mathlib.Omega.{arith}
use borrow.Author.Tests.{not-true, not-false}
use Rattle.settings.proofs.SettingsLaws.{granularity_ok-greatest}
use Rattle.record.proofs.RecordLaws.{kept_in-off, kept_in-stray, kept_in-seven, kept_in-on}
use Rattle.record.proofs.controller_kept.Goals as goal

pub returns-in_default : goal.returns-in_default
returns-in_default c = (sym (kept_in-off _ _ _ _ c.in_default.is), omega arith)

pub returns-then-not-is_manager : goal.returns-then-not-is_manager
returns-then-not-is_manager c =
    (sym (kept_in-stray _ _ _ _ _ _ c.in-On.is (sym c.is_manager.ensures ∙ not-true _ c.if-not-is_manager.true-raw)), omega arith)

pub returns-then-not-granularity_ok : goal.returns-then-not-granularity_ok
returns-then-not-granularity_ok c =
    let m = sym c.is_manager.ensures ∙ not-false _ c.if-not-is_manager.false-raw in
    (sym (kept_in-seven _ _ _ _ _ _ c.in-On.is m (sym c.granularity_ok.ensures ∙ not-true _ c.if-not-granularity_ok.true-raw)), omega arith)

pub list_kept-requires : goal.list_kept-requires
list_kept-requires c =
    omega (arith, granularity_ok-greatest _ _ (sym c.granularity_ok.ensures ∙ not-false _ c.if-not-granularity_ok.false-raw))

pub returns : goal.returns
returns c =
    let m = sym c.is_manager.ensures ∙ not-false _ c.if-not-is_manager.false-raw in
    (c.list_kept.ensures.0 ∙ sym (kept_in-on _ _ _ _ _ _ c.in-On.is m (sym c.granularity_ok.ensures ∙ not-false _ c.if-not-granularity_ok.false-raw)), c.list_kept.ensures.1)
