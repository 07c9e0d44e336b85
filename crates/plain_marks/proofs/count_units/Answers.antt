use native.Mathlib.Omega.{arith}
use Rattle.plain_marks.proofs.CountLaws.{count-within, count-start, count-hit, count-miss, count-end}
use Rattle.plain_marks.proofs.count_units.Goals as goal

pub loop-i-init : goal.loop-i-init
loop-i-init c = count-start c.args.area.now c.args.base c.args.n

pub overflow_add-count : goal.overflow_add-count
overflow_add-count c =
    let l = c.loop-i in
    let a = c.args in
    omega (arith, count-hit a.area.now a.base a.n l.i (omega arith) (omega arith), count-within a.area.now a.base a.n)

pub loop-i-preserved : goal.loop-i-preserved
loop-i-preserved c =
    let l = c.loop-i in
    let a = c.args in
    grind (arith, count-hit a.area.now a.base a.n l.i (omega arith) (omega arith), count-miss a.area.now a.base a.n l.i (omega arith) (omega arith))

pub returns : goal.returns
returns c =
    let l = c.loop-i in
    let a = c.args in
    omega (arith, count-end a.area.now a.base a.n l.i (omega arith))
