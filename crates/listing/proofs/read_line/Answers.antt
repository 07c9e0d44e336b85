-- `listing::read_line` is right because it tests what `line_rules` says, and goes on with the numbers that it read (`LineLaws`).
use Rattle.std.proofs.Common.{sym, ◌∙◌, arith}
use lib.Seq.{length-take-le}
use Rattle.listing.proofs.LineLaws.{line-long, line-unread, line-few, line_fit, line_read}
use Rattle.listing.proofs.read_line.Goals as goal

pub returns-then-line-gt1023 : goal.returns-then-line-gt1023
returns-then-line-gt1023 c = c.plain.ensures ∙ line-long _ c.if-line-gt1023.true

pub slice_bounds-values-end : goal.slice_bounds-values-end
slice_bounds-values-end c =
    let f = c.split-fields.ensures in
    let n = c.in-Some.ensures in
    line-few _ _ _ _ _ f.first f.later c.word_of-word.ensures n.values _ n.answer

pub slice_bounds-line_of-end : goal.slice_bounds-line_of-end
slice_bounds-line_of-end c =
    let f = c.split-fields.ensures in
    let n = c.in-Some.ensures in
    sym (length-take-le _ _ (line-few _ _ _ _ _ f.first f.later c.word_of-word.ensures n.values _ n.answer))

pub line_of-requires : goal.line_of-requires
line_of-requires c =
    let f = c.split-fields.ensures in
    let n = c.in-Some.ensures in
    line_fit _ _ _ _ _ f.first f.later c.word_of-word.ensures n.values _ n.answer

pub returns-in-Some : goal.returns-in-Some
returns-in-Some c =
    let f = c.split-fields.ensures in
    let n = c.in-Some.ensures in
    c.line_of.ensures ∙ line_read _ _ _ _ _ f.first f.later c.word_of-word.ensures n.values _ n.answer (omega arith)

pub returns-in-None : goal.returns-in-None
returns-in-None c =
    let f = c.split-fields.ensures in
    c.plain-in-None.ensures ∙ line-unread _ _ _ _ _ f.first f.later c.word_of-word.ensures c.in-None.ensures.values c.in-None.ensures.answer
