use mathlib.Core.Path.{refl, sym, ◌∙◌}
use native.Mathlib.Omega.{arith}
use borrow.Author.Rules.{rules}
use borrow.Author.Tests.{not-true, not-false}
use Rattle.rules.specs.Ranges.{is_power}
use Rattle.rules.specs.StartData.{no_range}
use Rattle.rules.proofs.LoopLaws.{all-miss, all-next, all_end}
use Rattle.ranges.proofs.RangeLaws.{powers_ok-off, powers_ok-on}
use Rattle.ranges.proofs.powers_ok.Goals as goal

pub returns-then-not-s : goal.returns-then-not-s
returns-then-not-s c = sym (powers_ok-off _ _ (not-true _ c.if-not-s.true))

pub loop-i-init : goal.loop-i-init
loop-i-init c = (search rules, omega arith, refl)

pub returns-then-not-is_power : goal.returns-then-not-is_power
returns-then-not-is_power c =
    let a = c.args in
    sym (powers_ok-on _ _ (not-false _ c.if-not-s.false)
    ∙ (c.loop-i.invariant.2 ∙ all-miss (λ r. is_power r.length) a.ranges a.n c.loop-i.i no_range (omega arith) (omega arith) (sym c.is_power.ensures ∙ not-true _ c.if-not-is_power.true-raw)))

pub loop-i-preserved : goal.loop-i-preserved
loop-i-preserved c =
    let a = c.args in (
      c.loop-i.invariant.0,
      c.loop-i.invariant.1,
      c.loop-i.invariant.2 ∙ all-next (λ r. is_power r.length) a.ranges a.n c.loop-i.i no_range (omega arith) (omega arith) (sym c.is_power.ensures ∙ not-false _ c.if-not-is_power.false-raw),
    )

pub returns : goal.returns
returns c =
    let a = c.args in
    sym (powers_ok-on _ _ (not-false _ c.if-not-s.false)
    ∙ (c.loop-i.invariant.2 ∙ all_end (λ r. is_power r.length) a.ranges a.n c.loop-i.i (omega arith)))
