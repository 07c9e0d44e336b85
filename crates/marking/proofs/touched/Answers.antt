-- `marking::touched` is right because the touched units are those from the unit of the first byte to that of the last, as far as the range goes.
-- Assumes nothing.
use mathlib.Core.Path.{◌≡◌, sym}
use Prim.Native.Nat.{◌+◌, ◌-◌, min}
use native.Mathlib.Omega.{arith}
use Rattle.rules.specs.Settings.{unit_size, whole_units}
use Rattle.rules.proofs.UnitLaws.{unit_size-pos}
use Rattle.marking.proofs.NoteLaws.{touched-before, touched-to, touched-after, touched-span}
use Rattle.marking.proofs.touched.Goals as goal
use Rattle.marking.proofs.touched.Goals.{After-min}

-- where the touched units end
end_is : (c : After-min)
    → let a = c.args in
    c.min.result ≡ min (whole_units a.g (a.written.last - a.r.start) + 1) a.r.length
end_is c = rw (sym c.whole_units-whole.ensures) (omega (arith, c.min.ensures, c.saturating_add.ensures, c.length_of-most.ensures))

pub returns-then-written-r : goal.returns-then-written-r
returns-then-written-r c =
    let a = c.args in
    touched-before (unit_size a.g) (unit_size-pos a.g) a.r a.written.at a.written.last a.written.ordered c.if-written-r.true

pub returns-then-written-r-2 : goal.returns-then-written-r-2
returns-then-written-r-2 c =
    let a = c.args in
    touched-to (unit_size a.g) (unit_size-pos a.g) a.r a.written.at a.written.last a.written.ordered _ (end_is (goal.at.returns-then-written-r-2 c).After-min) c.if-written-r.false c.if-written-r-2.true

pub returns-then-to-from : goal.returns-then-to-from
returns-then-to-from c =
    let a = c.args in
    touched-after (unit_size a.g) (unit_size-pos a.g) a.r a.written.at a.written.last a.written.ordered _ (end_is (goal.at.returns-then-to-from c).After-min) c.if-written-r.false _ c.whole_units-from.ensures c.if-written-r-2.false c.if-to-from.true

pub returns : goal.returns
returns c =
    let a = c.args in
    touched-span (unit_size a.g) (unit_size-pos a.g) a.r a.written.at a.written.last a.written.ordered _ (end_is (goal.at.returns c).After-min) c.if-written-r.false _ c.whole_units-from.ensures c.if-written-r-2.false c.if-to-from.false
