use mathlib.Core.Path.{refl, sym, ◌∙◌}
use native.Mathlib.Omega.{arith}
use borrow.Author.Rules.{rules}
use Rattle.record.proofs.ShareLaws.{sizes-miss, sizes-next, sizes-end}
use Rattle.record.proofs.sizes_ok.Goals as goal

pub loop-i-init : goal.loop-i-init
loop-i-init c = (search rules, refl)

pub returns-then-a-left : goal.returns-then-a-left
returns-then-a-left c =
    sym (c.loop-i.invariant.1 ∙ sizes-miss c.args.shares c.loop-i.i (omega arith) c.loop-i.left c.if-a-left.true)

pub loop-i-preserved : goal.loop-i-preserved
loop-i-preserved c =
    (c.loop-i.invariant.0, c.loop-i.invariant.1 ∙ sizes-next c.args.shares c.loop-i.i (omega arith) c.loop-i.left c.if-a-left.false)

pub returns : goal.returns
returns c =
    sym (c.loop-i.invariant.1 ∙ sizes-end c.args.shares c.loop-i.i c.loop-i.left (omega arith))
