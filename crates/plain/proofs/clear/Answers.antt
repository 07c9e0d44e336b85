use mathlib.Core.Path.{◌≡◌, refl, ◌∙◌}
use native.Mathlib.Omega.{arith}
use lib.ListN.{length-set}
use borrow.Author.Rules.{rules}
use Rattle.plain.proofs.ClearLaws.{cleared-none, cleared-next}
use Rattle.plain.proofs.clear.Goals as goal

pub loop-unit-init : goal.loop-unit-init
loop-unit-init c = (search rules, refl, cleared-none _ _)

pub loop-unit-preserved : goal.loop-unit-preserved
loop-unit-preserved c =
    let l = c.loop-unit in
    (search rules, length-set l.area _ _ ∙ l.invariant.1, rw l.invariant.2 (cleared-next _ c.args.base l.unit (omega (arith, c.requires))))

pub returns : goal.returns
returns c =
    let l = c.loop-unit in
    let e : l.unit ≡ c.args.n = omega arith in
    rw e at l.invariant.2
