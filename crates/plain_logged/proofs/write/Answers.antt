-- `plain_logged::write` is right: the call's own answer, and its count booked. Assumes nothing.
use mathlib.Core.Path.{◌∙◌}
use Rattle.booking.proofs.BookLaws.{book-same}
use Rattle.plain_logged.proofs.write.Goals as goal

pub returns : goal.returns
returns c =
    let w = c.write-answer in
    (w.ensures.0, w.ensures.1, c.book-log.ensures ∙ book-same _ _ _ _ w.ensures.0)
