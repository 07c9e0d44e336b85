use native.Mathlib.Omega.{arith}
use Rattle.booking.proofs.ListedLaws.{units-start, units-next, units-end}
use Rattle.booking.proofs.units_in.Goals as goal

pub loop-i-init : goal.loop-i-init
loop-i-init c = units-start _ _

pub overflow_add-units : goal.overflow_add-units
overflow_add-units c =
    let l = c.loop-i in
    let a = c.args in
    omega (arith, units-next a.report.now a.n l.i (omega arith), c.read.ensures)

pub loop-i-preserved : goal.loop-i-preserved
loop-i-preserved c =
    let l = c.loop-i in
    let a = c.args in
    omega (arith, units-next a.report.now a.n l.i (omega arith), c.read.ensures)

pub returns : goal.returns
returns c =
    let a = c.args in
    omega (arith, units-end a.report.now a.n c.loop-i.i (omega arith))
