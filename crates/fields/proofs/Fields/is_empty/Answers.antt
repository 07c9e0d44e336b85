use Rattle.fields.proofs.FieldLaws.{fields-empty}
use Rattle.fields.proofs.Fields.is_empty.Goals as goal

pub returns : goal.returns
returns c = rw (c.is_empty.ensures, ← c.self.view_is) (fields-empty _ c.self.invariant)
