use Rattle.std.proofs.Common.{rules}
use Rattle.rules.specs.Settings.{limit_of}
use Rattle.settings.proofs.limit_of.Goals as goal

pub returns-then-m-s : goal.returns-then-m-s
unfolding limit_of
returns-then-m-s c = search rules

pub returns-else-m-s : goal.returns-else-m-s
unfolding limit_of
returns-else-m-s c = search rules
