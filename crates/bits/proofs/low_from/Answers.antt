-- `bits::low_from` is right: the trailing zeros of a word, or of its complement, under a mask from bit b up. Assumes nothing.
use native.Mathlib.Omega.{arith}
use borrow.Author.Rules.{rules}
use Rattle.bits.proofs.Low.{zeros-fit, low-set, low_clear}
use Rattle.bits.proofs.low_from.Goals as goal

pub overflow_cast-result : goal.overflow_cast-result
overflow_cast-result c = search (rules, zeros-fit)

pub returns-then-want : goal.returns-then-want
returns-then-want c = let a = c.args in rw c.mask-m.ensures (low-set a.want a.w a.b c.requires c.if-want.true)

pub overflow_cast-result-2 : goal.overflow_cast-result-2
overflow_cast-result-2 c = search (rules, zeros-fit)

pub returns : goal.returns
returns c = let a = c.args in rw c.mask-m.ensures (low_clear a.want a.w a.b c.requires c.if-want.false (omega arith))
