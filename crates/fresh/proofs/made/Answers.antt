-- `fresh::made` is right: it is what `try_fresh` makes, on the closed device. Assumes nothing.
use mathlib.Core.Path.{ap, ◌∙◌}
use Rattle.calls.specs.Inner.{changed_by}
use Rattle.fresh.proofs.made.Goals as goal

pub returns : goal.returns
returns c = c.changed_by.ensures ∙ ap (λ d. changed_by d c.try_fresh.result) c.closed.ensures ∙ c.try_fresh.ensures
