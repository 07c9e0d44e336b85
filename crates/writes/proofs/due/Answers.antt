-- `writes::due` is right by its cases. Assumes nothing.
use Rattle.writes.proofs.BatchLaws.{due-refused, due-cut, due-left}
use Rattle.writes.proofs.due.Goals as goal

pub returns-then-b-ne0 : goal.returns-then-b-ne0
returns-then-b-ne0 c = due-refused _ _ c.if-b-ne0.true

pub returns-then-b-ne0-2 : goal.returns-then-b-ne0-2
returns-then-b-ne0-2 c = due-cut _ _ c.if-b-ne0-2.true

pub returns : goal.returns
returns c = due-left _ _ c.if-b-ne0.false c.if-b-ne0-2.false
