-- `plain_marks::end_run` is right because it asks whether a run was growing.
use native.Mathlib.Omega.{arith}
use borrow.Author.Tests.{eq-eqb, ne_eqb}
use lib.Dec.{eqb}
use mathlib.Core.Path.{◌≡◌}
use mathlib.Core.Bool.{true, false}
use Rattle.plain_marks.proofs.end_run.Goals as goal

pub returns-then-units-eq0 : goal.returns-then-units-eq0
returns-then-units-eq0 c = let e : eqb c.args.units 0 ≡ true = eq-eqb c.args.units 0 c.if-units-eq0.true in (rw e, rw e)

pub overflow_mul-runs : goal.overflow_mul-runs
overflow_mul-runs c = omega (arith, c.requires (omega arith))

pub overflow_add-runs : goal.overflow_add-runs
overflow_add-runs c = omega (arith, c.requires (omega arith))

pub put_descriptor-requires : goal.put_descriptor-requires
put_descriptor-requires c = c.requires (omega arith)

pub overflow_add-result : goal.overflow_add-result
overflow_add-result c = omega (arith, c.requires (omega arith))

pub returns : goal.returns
returns c =
    let a = c.args in
    let e : eqb a.units 0 ≡ false = ne_eqb a.units 0 c.if-units-eq0.false in
    (rw e, rw e c.put_descriptor.ensures)
