-- `scan::run_from` is right: the next clear mark is looked for up to the piece's end. Assumes nothing.
use mathlib.Core.Path.{refl}
use Prim.Native.Nat.{◌+◌, ◌≤◌, ◌<◌}
use native.Mathlib.Omega.{arith}
use Rattle.scan.specs.Scan.{piece_end}
use Rattle.scan.proofs.ScanSteps.{begins-ends}
use Rattle.scan.proofs.run_from.Goals as goal
use Rattle.scan.proofs.run_from.Goals.{After-next_clear}

-- the run has a unit, and ends with its piece at the latest
ends : (c : After-next_clear)
    → let a = c.args in
    (a.base + a.f.from < c.next_clear.result) × (c.next_clear.result ≤ a.base + piece_end a.f)
ends c = begins-ends _ _ _ _ c.requires.1 _ c.next_clear.ensures

pub overflow_sub-to : goal.overflow_sub-to
overflow_sub-to c = omega (arith, (ends c).0)

pub overflow_sub-e : goal.overflow_sub-e
overflow_sub-e c = omega (arith, (ends (goal.at.overflow_sub-e c).After-next_clear).0, c.requires.1.low)

pub part-range-requires : goal.part-range-requires
part-range-requires c =
    let b = c.requires.1 in
    let e = ends (goal.at.part-range-requires c).After-next_clear in
    (c.requires.0, b.within, omega (arith, e.0, b.low), omega (arith, e.0, e.1, b.low))

pub overflow_sub-result : goal.overflow_sub-result
overflow_sub-result c = omega (arith, (ends (goal.at.overflow_sub-result c).After-next_clear).1)

pub overflow_sub-result-2 : goal.overflow_sub-result-2
overflow_sub-result-2 c =
    let b = c.requires.1 in
    let e = ends (goal.at.overflow_sub-result-2 c).After-next_clear in
    omega (arith, e.0, b.low, b.long)

pub returns : goal.returns
returns c = rw (c.part-range.ensures, c.next_clear.ensures) refl
