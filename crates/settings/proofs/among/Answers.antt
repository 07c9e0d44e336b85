use mathlib.Core.Path.{refl, sym, ◌∙◌}
use native.Mathlib.Omega.{arith}
use borrow.Author.Rules.{rules}
use borrow.Author.Tests.{eq-eqb, ne_eqb}
use lib.Dec.{eqb}
use Rattle.rules.proofs.LoopLaws.{any-hit, any_next, any-end}
use Rattle.settings.proofs.among.Goals as goal

pub loop-i-init : goal.loop-i-init
loop-i-init c = (search rules, omega arith, refl)

pub returns-then-s-i : goal.returns-then-s-i
returns-then-s-i c =
    let a = c.args in
    let s = a.s in
    sym (c.loop-i.invariant.2 ∙ any-hit (λ y. eqb y a.x) s.identifiers s.count c.loop-i.i 0 (omega arith) (omega arith) (eq-eqb _ _ c.if-s-i.true))

pub loop-i-preserved : goal.loop-i-preserved
loop-i-preserved c =
    let a = c.args in
    let s = a.s in (
      c.loop-i.invariant.0,
      c.loop-i.invariant.1,
      c.loop-i.invariant.2 ∙ any_next (λ y. eqb y a.x) s.identifiers s.count c.loop-i.i 0 (omega arith) (omega arith) (ne_eqb _ _ c.if-s-i.false),
    )

pub returns : goal.returns
returns c =
    let a = c.args in
    sym (c.loop-i.invariant.2 ∙ any-end (λ y. eqb y a.x) a.s.identifiers a.s.count c.loop-i.i (omega arith))
