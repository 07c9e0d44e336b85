-- `migration_send::try_resume` is right: it refuses in the order of its table, changes the flag, and drops a sequence of its own. Assumes nothing.
use mathlib.Core.Path.{◌≡◌, sym, ◌∙◌}
use native.Mathlib.Omega.{arith}
use Rattle.std.specs.declared.result.Result.TheVariants.{Ok}
use Rattle.record.specs.Record.{where_by}
use Rattle.calls.proofs.OutcomeLaws.{changed-refused}
use Rattle.calls.proofs.PlaceLaws.{placed_by}
use Rattle.migration_send.proofs.FlagLaws.{resume-refused, resume-running, resume-done}
use Rattle.migration_send.proofs.try_resume.Goals as goal
use Rattle.migration_send.proofs.try_resume.Goals.{In_ok-i}

-- the place that was found
found : (c : In_ok-i)
    → let a = c.args in
    where_by a.d a.words a.manager a.id ≡ Ok c.in_ok-i.i
found c = sym c.locate_by.ensures ∙ c.in_ok-i.was

pub returns-in_err-i : goal.returns-in_err-i
returns-in_err-i c = changed-refused _ _ _ c.from_residual.ensures.1 ∙ sym (resume-refused _ _ _ _ _ (sym c.locate_by.ensures ∙ c.in_err-i.was))

pub offset_bounds-d-i : goal.offset_bounds-d-i
offset_bounds-d-i c = omega (arith, placed_by _ _ _ _ _ (found c))

pub bounds-d-i : goal.bounds-d-i
bounds-d-i c = placed_by _ _ _ _ _ (found c)

pub returns-then-not-d-i : goal.returns-then-not-d-i
returns-then-not-d-i c = sym (resume-running _ _ _ _ _ (found (goal.at.returns-then-not-d-i c).In_ok-i) c.if-not-d-i.true)

pub returns : goal.returns
returns c = sym (resume-done _ _ _ _ _ (found (goal.at.returns c).In_ok-i) c.if-not-d-i.false _ c.without-e.ensures)
