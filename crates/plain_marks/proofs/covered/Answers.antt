use mathlib.Core.Path.{refl, sym, ◌∙◌}
use native.Mathlib.Omega.{arith}
use borrow.Author.Rules.{rules}
use Rattle.rules.specs.Units.{covers}
use Rattle.rules.specs.StartData.{no_range}
use Rattle.rules.proofs.LoopLaws.{any-hit, any_next, any-end}
use Rattle.plain_marks.proofs.covered.Goals as goal

pub loop-i-init : goal.loop-i-init
loop-i-init c = (search rules, refl)

pub returns-then-covers : goal.returns-then-covers
returns-then-covers c =
    let a = c.args in
    sym (c.loop-i.invariant.1 ∙ any-hit (λ q. covers a.size q a.address) a.ranges a.row c.loop-i.i no_range (omega arith) (omega arith) (sym c.covers.ensures ∙ c.if-covers.true))

pub loop-i-preserved : goal.loop-i-preserved
loop-i-preserved c =
    let a = c.args in (
      c.loop-i.invariant.0,
      c.loop-i.invariant.1 ∙ any_next (λ q. covers a.size q a.address) a.ranges a.row c.loop-i.i no_range (omega arith) (omega arith) (sym c.covers.ensures ∙ c.if-covers.false),
    )

pub returns : goal.returns
returns c =
    let a = c.args in
    sym (c.loop-i.invariant.1 ∙ any-end (λ q. covers a.size q a.address) a.ranges a.row c.loop-i.i (omega arith))
