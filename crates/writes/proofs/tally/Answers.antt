-- `writes::tally` is right by its cases. Assumes nothing.
use Rattle.writes.proofs.BatchLaws.{tally-cut, tally-done}
use Rattle.writes.proofs.tally.Goals as goal

pub returns-then-w-ne0 : goal.returns-then-w-ne0
returns-then-w-ne0 c = tally-cut _ _ c.if-w-ne0.true

pub returns-else-w-ne0 : goal.returns-else-w-ne0
returns-else-w-ne0 c = tally-done _ _ c.if-w-ne0.false
