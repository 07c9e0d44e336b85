use mathlib.Core.Path.{◌≡◌, refl, sym, ◌∙◌}
use native.Mathlib.Omega.{arith}
use lib.ListN.{length-set}
use lib.Seq.{take_all}
use Rattle.pool.specs.Pool.{new_base, first_bases, new_bases}
use Rattle.pool.proofs.Pool.{new_base-next, new_base-more, bases-turn}
use Rattle.pool.proofs.new_bases.Goals as goal

pub loop-i-init : goal.loop-i-init
unfolding new_base first_bases
loop-i-init c = (refl, refl, refl)

pub overflow_add-to : goal.overflow_add-to
overflow_add-to c =
    let l = c.loop-i in
    let a = c.args in
    omega (arith, new_base-next a.sizes l.i 8 (omega arith))

pub loop-i-preserved : goal.loop-i-preserved
loop-i-preserved c =
    let l = c.loop-i in
    let a = c.args in (
      bases-turn a.sizes l.bases l.to l.i (omega arith) l.invariant.0 l.invariant.2,
      simp length-set l.invariant.1,
      omega (arith, new_base-more a.sizes l.i),
    )

pub returns : goal.returns
unfolding new_bases
returns c =
    let l = c.loop-i in
    let e : l.i ≡ 8 = omega arith in
    sym (take_all l.i l.bases (omega arith)) ∙ l.invariant.0 ∙ rw e
