-- `pieces::overlap` is right because both ranges begin at multiples of the unit, so that units can be counted from address 0.
use native.Mathlib.Omega.{arith}
use Rattle.rules.specs.Settings.{unit_size}
use Rattle.rules.proofs.RowLaws.{row_ok-facts}
use Rattle.rules.proofs.UnitLaws.{unit_size-pos}
use Rattle.measures.proofs.MeasureLaws.{whole_units-small}
use Rattle.pieces.proofs.PieceLaws.{whole, overlap-is}
use Rattle.pieces.proofs.overlap.Goals as goal

pub overflow_add-b : goal.overflow_add-b
overflow_add-b c =
    omega (arith, c.length_of-length.ensures.1, c.whole_units-b.ensures, whole_units-small c.args.g c.args.q.start (omega arith))

pub returns : goal.returns
returns c =
    let a = c.args in
    let r = row_ok-facts a.g a.r c.requires.1 in
    let q = row_ok-facts a.g a.q c.requires.2 in
    rw (c.above-from.ensures, c.above-to.ensures, c.length_of-length.ensures.0, c.whole_units-b.ensures, c.whole_units-a.ensures)
    (overlap-is (unit_size a.g) (unit_size-pos a.g) a.r a.q _ _ (whole (unit_size a.g) a.r.start r.aligned) (whole (unit_size a.g) a.q.start q.aligned) q.some)
