use Rattle.std.proofs.Common.{rules}
use Rattle.rules.specs.Ranges.{powers_ok}
use Rattle.ranges.proofs.row_ok.Goals as goal

pub returns-then-not-s : goal.returns-then-not-s
unfolding powers_ok
returns-then-not-s c = search rules

pub returns-else-not-s : goal.returns-else-not-s
unfolding powers_ok
returns-else-not-s c = search rules
