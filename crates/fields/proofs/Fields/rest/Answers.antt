use Rattle.std.proofs.Common.{sym, ◌∙◌}
use Rattle.fields.proofs.FieldLaws.{later_fields_none, field_rest}
use Rattle.fields.proofs.Fields.rest.Goals as goal

pub returns-in_err-after : goal.returns-in_err-after
returns-in_err-after c = rw c.from_residual.ensures (sym c.self.view_is ∙ later_fields_none _ c.in_err-after.ensures.cases)

pub returns : goal.returns
returns c = sym c.self.view_is ∙ field_rest _ _ _ c.in_ok-after.ensures.cases.0 c.self.invariant
