use mathlib.Core.Path.{refl, sym, ◌∙◌}
use mathlib.Core.Bool.{not}
use native.Mathlib.Omega.{arith}
use borrow.Author.Rules.{rules}
use lib.Dec.{eqb}
use Rattle.rules.proofs.LoopLaws.{pairs_end}
use Rattle.settings.proofs.SettingsLaws.{different-miss, different-next}
use Rattle.settings.proofs.all_different.Goals as goal

pub loop-i-init : goal.loop-i-init
loop-i-init c = (search rules, omega arith, refl)

pub returns-then-among : goal.returns-then-among
returns-then-among c =
    let s = c.args.s in
    sym (c.loop-i.invariant.2 ∙ different-miss s.identifiers s.count c.loop-i.i (omega arith) (omega arith) (sym c.among.ensures ∙ c.if-among.true))

pub loop-i-preserved : goal.loop-i-preserved
loop-i-preserved c =
    let s = c.args.s in (
      c.loop-i.invariant.0,
      c.loop-i.invariant.1,
      c.loop-i.invariant.2 ∙ different-next s.identifiers s.count c.loop-i.i (omega arith) (omega arith) (sym c.among.ensures ∙ c.if-among.false),
    )

pub returns : goal.returns
returns c =
    let s = c.args.s in
    sym (c.loop-i.invariant.2 ∙ pairs_end (λ x y. not (eqb x y)) s.identifiers s.count c.loop-i.i (omega arith))
