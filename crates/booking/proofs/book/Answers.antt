-- `booking::book` is right: an entry is made at a place of the log. Assumes nothing.
use mathlib.Core.Path.{◌≡◌, sym, ◌∙◌}
use lib.ListN.{length}
use borrow.Author.Rules.{rules}
use Rattle.rules.proofs.LoopLaws.{length-mapped}
use Rattle.booking.proofs.BookLaws.{found_below}
use Rattle.booking.proofs.book.Goals as goal

pub booked-requires : goal.booked-requires
booked-requires c =
    let a = c.args in
    let e : length a.s.identifiers ≡ 8 = search (length-mapped, rules) in
    found_below a.s a.id _ e (sym c.find.ensures ∙ c.in-Some.is)
