-- `pieces::part` is right because a unit of a range that ends at most at 2^64 begins below it.
use native.Mathlib.Omega.{arith}
use Rattle.rules.specs.Settings.{unit_size}
use Rattle.rules.proofs.UnitLaws.{unit_size-pos}
use Rattle.pieces.proofs.PieceLaws.{unit-below}
use Rattle.pieces.proofs.part.Goals as goal

pub bytes_of-before-requires : goal.bytes_of-before-requires
bytes_of-before-requires c =
    let a = c.args in
    (c.requires.0, omega (arith, unit-below (unit_size a.g) a.r.start a.r.length a.s.from.0 (unit_size-pos a.g) (omega arith) c.requires.1))

pub overflow_add-start : goal.overflow_add-start
overflow_add-start c =
    let a = c.args in
    omega (arith, c.bytes_of-before.ensures, unit-below (unit_size a.g) a.r.start a.r.length a.s.from.0 (unit_size-pos a.g) (omega arith) c.requires.1)

pub returns : goal.returns
returns c = rw c.bytes_of-before.ensures
