use Rattle.std.proofs.Common.{rules}
use Rattle.rules.specs.Settings.{settings_ok}
use Rattle.settings.proofs.settings_ok.Goals as goal

pub returns-then-not-among : goal.returns-then-not-among
unfolding settings_ok
returns-then-not-among c = search rules

pub returns-else-not-among : goal.returns-else-not-among
unfolding settings_ok
returns-else-not-among c = search rules
