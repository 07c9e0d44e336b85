use mathlib.Core.Path.{refl, sym, ◌∙◌}
use native.Mathlib.Omega.{arith}
use borrow.Author.Rules.{rules}
use Rattle.rules.specs.Settings.{place_of}
use Rattle.rules.proofs.LoopLaws.{place_from-hit, place_from-next, place_from-end}
use Rattle.settings.proofs.find.Goals as goal

pub loop-i-init : goal.loop-i-init
loop-i-init c = (search rules, search rules, refl)

pub returns-then-s-i : goal.returns-then-s-i
unfolding place_of
returns-then-s-i c =
    let a = c.args in
    sym (c.loop-i.invariant.2 ∙ place_from-hit a.id a.s.identifiers a.s.count c.loop-i.i (omega arith) (omega arith) c.if-s-i.true)

pub loop-i-preserved : goal.loop-i-preserved
loop-i-preserved c =
    let a = c.args in (
      c.loop-i.invariant.0,
      c.loop-i.invariant.1,
      c.loop-i.invariant.2 ∙ place_from-next a.id a.s.identifiers a.s.count c.loop-i.i (omega arith) (omega arith) c.if-s-i.false,
    )

pub returns : goal.returns
unfolding place_of
returns c =
    let a = c.args in
    sym (c.loop-i.invariant.2 ∙ place_from-end a.id a.s.identifiers a.s.count c.loop-i.i (omega arith))
