use Rattle.std.proofs.Common.{rules}
use Rattle.rules.specs.Settings.{granularity_ok}
use Rattle.settings.proofs.granularity_ok.Goals as goal

pub returns-then-s-g : goal.returns-then-s-g
unfolding granularity_ok
returns-then-s-g c = search rules

pub returns-else-s-g : goal.returns-else-s-g
unfolding granularity_ok
returns-else-s-g c = search rules
