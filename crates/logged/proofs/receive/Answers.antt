-- `logged::receive` is right: the call's own answer, and the units of the runs that stand in its buffer booked. Assumes nothing.
use mathlib.Core.Path.{◌∙◌}
use borrow.Author.Rules.{rules}
use Rattle.rules.proofs.LoopLaws.{length-mapped}
use Rattle.calls.specs.Calls.{in_words}
use Rattle.logged.proofs.ReportLaws.{receive-sums, receive-books}
use Rattle.logged.proofs.receive.Goals as goal

pub units_listed-reported-requires : goal.units_listed-reported-requires
units_listed-reported-requires c =
    let a = c.args in
    let r = c.receive-answer in
    receive-sums in_words a.d a.marks.now a.manager a.id a.buffer.now (search rules) (search (length-mapped, rules)) _ _ r.ensures.0 r.ensures.2 (search rules)

pub returns : goal.returns
returns c =
    let a = c.args in
    let r = c.receive-answer in
    (r.ensures.0, r.ensures.1, r.ensures.2, c.book-log.ensures ∙ receive-books in_words a.d a.marks.now a.manager a.id a.buffer.now (search rules) (search (length-mapped, rules)) _ _ _ _ r.ensures.0 r.ensures.2 c.units_listed-reported.ensures)
