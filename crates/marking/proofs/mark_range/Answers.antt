-- `marking::mark_range` is right because the touched units of a range are a span, which is marked. Assumes nothing.
use mathlib.Core.Path.{◌∙◌}
use Prim.Native.Nat.{◌+◌, ◌≤◌}
use native.Mathlib.Omega.{arith}
use lib.ListN.{length}
use Rattle.bits.specs.Flat.{flat}
use Rattle.bits.proofs.Flat.{flat-length}
use Rattle.marking.proofs.NoteLaws.{range-bits, range-count}
use Rattle.marking.proofs.mark_range.Goals as goal

pub overflow_add-a : goal.overflow_add-a
overflow_add-a c = omega (arith, c.touched-t.ensures.order, c.touched-t.ensures.within, c.requires.1.small)

pub overflow_add-e : goal.overflow_add-e
overflow_add-e c = omega (arith, c.touched-t.ensures.within, c.requires.1.small)

pub returns : goal.returns
returns c =
    let fits : c.args.from + c.args.r.length ≤ length (flat c.args.marks.now) = omega (arith, c.requires.1.within, flat-length c.args.marks.now) in
    let e = c.mark_span.ensures in
    (e.count ∙ range-count _ _ _ _ _ fits _ _ c.touched-t.ensures, e.bits ∙ range-bits _ _ _ _ _ fits _ _ c.touched-t.ensures)
