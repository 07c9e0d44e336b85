use mathlib.Core.Path.{refl, sym, ◌∙◌}
use native.Mathlib.Omega.{arith}
use borrow.Author.Rules.{rules}
use borrow.Author.Tests.{not-true, not-false}
use Rattle.rules.specs.Device.{no_share, are_apart}
use Rattle.record.proofs.ShareLaws.{all-rest-miss, all-rest-next, all-rest-end}
use Rattle.record.proofs.apart_from.Goals as goal

pub loop-i-init : goal.loop-i-init
loop-i-init c = (search rules, refl)

pub returns-then-not-are_apart : goal.returns-then-not-are_apart
returns-then-not-are_apart c =
    let a = c.args in
    sym (c.loop-i.invariant.1 ∙ all-rest-miss (are_apart a.a) _ c.loop-i.i no_share (omega arith) (sym c.are_apart.ensures ∙ not-true _ c.if-not-are_apart.true-raw))

pub loop-i-preserved : goal.loop-i-preserved
loop-i-preserved c =
    let a = c.args in
    (c.loop-i.invariant.0, c.loop-i.invariant.1 ∙ all-rest-next (are_apart a.a) _ c.loop-i.i no_share (omega arith) (sym c.are_apart.ensures ∙ not-false _ c.if-not-are_apart.false-raw))

pub returns : goal.returns
returns c =
    sym (c.loop-i.invariant.1 ∙ all-rest-end (are_apart c.args.a) _ c.loop-i.i (omega arith))
