use Rattle.std.proofs.Common.{rules}
use Rattle.rules.specs.Settings.{is_manager}
use Rattle.settings.proofs.is_manager.Goals as goal

pub returns-then-m-s : goal.returns-then-m-s
unfolding is_manager
returns-then-m-s c = search rules

pub returns-else-m-s : goal.returns-else-m-s
unfolding is_manager
returns-else-m-s c = search rules
