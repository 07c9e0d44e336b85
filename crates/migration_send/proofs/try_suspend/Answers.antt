-- `migration_send::try_suspend` is right: it refuses in the order of its table, and changes the flag alone. Assumes nothing.
use mathlib.Core.Path.{◌≡◌, sym, ◌∙◌}
use native.Mathlib.Omega.{arith}
use Rattle.std.specs.declared.result.Result.TheVariants.{Ok}
use Rattle.record.specs.Record.{where_by}
use Rattle.calls.proofs.OutcomeLaws.{changed-refused}
use Rattle.calls.proofs.PlaceLaws.{placed_by}
use Rattle.migration_send.proofs.FlagLaws.{suspend-refused, suspend-type, suspend-notice, suspend-done}
use Rattle.migration_send.proofs.try_suspend.Goals as goal
use Rattle.migration_send.proofs.try_suspend.Goals.{In_ok-i}

-- the place that was found
found : (c : In_ok-i)
    → let a = c.args in
    where_by a.d a.words a.manager a.id ≡ Ok c.in_ok-i.i
found c = sym c.locate_by.ensures ∙ c.in_ok-i.was

pub returns-in_err-i : goal.returns-in_err-i
returns-in_err-i c = changed-refused _ _ _ c.from_residual.ensures.1 ∙ sym (suspend-refused _ _ _ _ _ _ (sym c.locate_by.ensures ∙ c.in_err-i.was))

pub returns-then-kind-gt1 : goal.returns-then-kind-gt1
returns-then-kind-gt1 c = sym (suspend-type _ _ _ _ _ (found (goal.at.returns-then-kind-gt1 c).In_ok-i) _ c.if-kind-gt1.true)

pub returns-then-kind-eq0 : goal.returns-then-kind-eq0
returns-then-kind-eq0 c = sym (suspend-notice _ _ _ _ _ (found (goal.at.returns-then-kind-eq0 c).In_ok-i) _ c.if-kind-eq0.true)

pub offset_bounds-e-i : goal.offset_bounds-e-i
offset_bounds-e-i c = omega (arith, placed_by _ _ _ _ _ (found (goal.at.offset_bounds-e-i c).In_ok-i))

pub bounds-e-i : goal.bounds-e-i
bounds-e-i c = placed_by _ _ _ _ _ (found (goal.at.bounds-e-i c).In_ok-i)

pub returns : goal.returns
returns c = sym (suspend-done _ _ _ _ _ (found (goal.at.returns c).In_ok-i) _ (omega arith))
