-- `measures::aligned` is right because an address is a multiple of the unit exactly if its whole units are all of it (`whole_units-whole`).
use native.Mathlib.Omega.{arith}
use Rattle.measures.proofs.MeasureLaws.{whole_units-le, whole_units-whole}
use Rattle.measures.proofs.aligned.Goals as goal

pub bytes_of-b-requires : goal.bytes_of-b-requires
bytes_of-b-requires c =
    let a = c.args in
    (c.requires, rw c.whole_units-u.ensures (omega (arith, whole_units-le a.g a.at)))

pub returns : goal.returns
returns c =
    let a = c.args in
    rw (c.bytes_of-b.ensures, c.whole_units-u.ensures) (whole_units-whole a.g a.at)
