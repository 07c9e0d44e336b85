use Rattle.fields.proofs.FieldLaws.{same_bytes-is}
use Rattle.fields.proofs.begins.Goals as goal

pub returns : goal.returns
returns c = rw (same_bytes-is, ← c.split.ensures.first) c.eq.ensures
