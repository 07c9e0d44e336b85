-- `logged::stop` is right: the call's own answer, and what was pending before it booked. Assumes nothing.
use mathlib.Core.Path.{ap, ◌∙◌}
use Rattle.calls.specs.declared.Changed.{Changed}
use Rattle.calls.specs.Calls.{in_words}
use Rattle.logged.proofs.HeldLaws.{stop-books}
use Rattle.logged.proofs.stop.Goals as goal

pub returns : goal.returns
returns c =
    let s = c.stop-answer in
    let p = c.pending_units-dropped in
    (s.ensures.0, s.ensures.1, c.book-log.ensures ∙ stop-books in_words _ _ _ _ _ _ _ p.ensures (ap (λ (r : Changed). r.number) s.ensures.0))
