use mathlib.Core.Path.{refl, sym, ◌∙◌}
use native.Mathlib.Omega.{arith}
use borrow.Author.Rules.{rules}
use borrow.Author.Tests.{not-true, not-false}
use Rattle.record.proofs.ShareLaws.{shares_ok-outside, shares_ok-overlap, shares_ok-next, shares_ok-end}
use Rattle.record.proofs.shares_ok.Goals as goal

pub loop-i-init : goal.loop-i-init
loop-i-init c = (search rules, refl)

pub returns-then-not-is_inside : goal.returns-then-not-is_inside
returns-then-not-is_inside c =
    sym (c.loop-i.invariant.1 ∙ shares_ok-outside c.args.shares c.loop-i.i (omega arith) (sym c.is_inside.ensures ∙ not-true _ c.if-not-is_inside.true-raw))

pub returns-then-not-apart_from : goal.returns-then-not-apart_from
returns-then-not-apart_from c =
    sym (c.loop-i.invariant.1 ∙ shares_ok-overlap c.args.shares c.loop-i.i (omega arith) (sym c.apart_from.ensures ∙ not-true _ c.if-not-apart_from.true-raw))

pub loop-i-preserved : goal.loop-i-preserved
loop-i-preserved c = (
  c.loop-i.invariant.0,
  c.loop-i.invariant.1
      ∙ shares_ok-next c.args.shares c.loop-i.i (omega arith) (sym c.is_inside.ensures ∙ not-false _ c.if-not-is_inside.false-raw) (sym c.apart_from.ensures ∙ not-false _ c.if-not-apart_from.false-raw),
)

pub returns : goal.returns
returns c =
    sym (c.loop-i.invariant.1 ∙ shares_ok-end c.args.shares c.loop-i.i (omega arith))
