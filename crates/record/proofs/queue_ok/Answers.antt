use Rattle.std.proofs.Common.{rules}
use Rattle.rules.specs.Queue.{queue_ok}
use Rattle.record.proofs.queue_ok.Goals as goal

pub returns-in-None : goal.returns-in-None
unfolding queue_ok
returns-in-None c = search rules

pub returns-in-Some : goal.returns-in-Some
unfolding queue_ok
returns-in-Some c = search rules
