-- `writes::begin` is right: it has the number of its refusal. Assumes nothing.
use mathlib.Core.Path.{◌∙◌}
use Rattle.writes.proofs.BatchLaws.{begin-is}
use Rattle.writes.proofs.begin.Goals as goal

pub returns-in-Ok : goal.returns-in-Ok
returns-in-Ok c = begin-is _ _ _ _ c.in-Ok.ensures

pub returns-in-Err : goal.returns-in-Err
returns-in-Err c = begin-is _ _ _ _ (c.number-number.ensures ∙ c.in-Err.ensures)
