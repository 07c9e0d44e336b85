-- `logged::fresh` is right: the call's own answer, and what it begins. Assumes nothing.
use mathlib.Core.Path.{◌∙◌}
use Rattle.booking.proofs.BookLaws.{begun-same}
use Rattle.logged.proofs.fresh.Goals as goal

pub returns : goal.returns
returns c =
    let f = c.fresh-answer in
    (f.ensures.0, f.ensures.1, c.begun-log.ensures ∙ begun-same _ _ _ f.ensures.0)
