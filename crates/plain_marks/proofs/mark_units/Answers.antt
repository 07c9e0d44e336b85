use mathlib.Core.Path.{◌≡◌, refl, sym, ◌∙◌}
use mathlib.Core.Logic.{inl, inr}
use mathlib.Core.Bool.{false}
use mathlib.Core.List.{List, [], ◌∷◌}
use Prim.Native.Nat.{ℕ, ◌+◌, ◌*◌, ◌≤◌, ◌<◌}
use native.Mathlib.Omega.{arith}
use lib.ListN.{length, take, length-take}
use borrow.Author.Rules.{rules}
use borrow.Author.Tests.{ne_eqb}
use Rattle.rules.specs.Units.{units_from}
use Rattle.rules.proofs.UnitLaws.{newly-le}
use Rattle.pieces.specs.Pieces.{row_of, units_left}
use Rattle.pieces.proofs.PieceLaws.{left-all, left-none}
use Rattle.plain_marks.specs.Plain.{marks_of, write_to}
use Rattle.plain_marks.proofs.MarkLaws.{unit-within, left_end, left-covered, left-own, Marking, marking-of, marking-start, marking-hit, marking-miss, marking-done}
use Rattle.plain_marks.proofs.mark_units.Goals as goal
use Rattle.plain_marks.proofs.mark_units.Goals.{After-covered, In-loop-unit, then-not-covered, else-not-covered, then-touches+then-area-place-eq0, else-touches, else-touches-via-then-touches+else-area-place-eq0, else-touches-via-else-touches}

-- a unit ends at most at 2^64
ends : (c : In-loop-unit)
    → let a = c.args in
    (row_of a.ranges c.loop-row.row).start + c.loop-unit.unit * a.size + a.size ≤ 18446744073709551616
ends c =
    let a = c.args in
    unit-within a.size (row_of a.ranges c.loop-row.row).start (row_of a.ranges c.loop-row.row).length c.loop-unit.unit c.loop-unit-test.true
    (c.requires.3 c.loop-row.row (omega arith))

-- what is left to mark, where the unit is the controller's next
own : (c : After-covered) → c.covered.result ≡ false → (final : List ℕ) (total : ℕ)
    → let a = c.args in
    Marking (write_to a.written.at a.written.last) (units_left a.size (take a.n a.ranges) c.loop-row.row 0) c.loop-row.area c.loop-row.place c.loop-row.count final total
    → Marking (write_to a.written.at a.written.last)
    (record { row = c.loop-row.row; address = (row_of a.ranges c.loop-row.row).start + c.loop-unit.unit * a.size; size = a.size } ∷ units_left a.size (take a.n a.ranges) c.loop-row.row (c.loop-unit.unit + 1))
    c.loop-unit.area c.loop-unit.place c.loop-unit.count final total
own c h final total m =
    let a = c.args in
    marking-of _
    (left-own a.size a.ranges a.n c.loop-row.row (omega arith) c.loop-unit.unit c.loop-unit-test.true (sym c.covered.ensures ∙ h))
    (c.loop-unit.invariant.1 final total m)

-- its byte is there
there : (c : After-covered) → c.covered.result ≡ false → c.loop-unit.place < length c.loop-unit.area
there c h = omega (arith, (own c h _ _ c.loop-row.invariant.2).fits)

pub loop-row-init : goal.loop-row-init
loop-row-init c =
    let a = c.args in (
      refl,
      search rules,
      marking-of _ (left-all a.size (take a.n a.ranges)) (marking-start _ _ _ _ c.requires.2),
    )

pub loop-unit-init : goal.loop-unit-init
loop-unit-init c = (refl, λ f t m. m)

pub overflow_mul-address : goal.overflow_mul-address
overflow_mul-address c = omega (arith, ends c)

pub overflow_add-address : goal.overflow_add-address
overflow_add-address c = omega (arith, ends (goal.at.overflow_add-address c).In-loop-unit)

pub touches-requires : goal.touches-requires
touches-requires c = (c.requires.0, ends (goal.at.touches-requires c).In-loop-unit)

pub bounds-area-place : goal.bounds-area-place
bounds-area-place c = omega (arith, there (goal.at.bounds-area-place c).After-covered c.if-not-covered.true)

pub bounds-area-place-then-area-place-eq0 : goal.bounds-area-place-then-area-place-eq0
bounds-area-place-then-area-place-eq0 c = omega (arith, there (goal.at.bounds-area-place-then-area-place-eq0 c).After-covered c.if-not-covered.true)

pub overflow_add-count : goal.overflow_add-count
overflow_add-count c =
    let a = c.args in
    let w = write_to a.written.at a.written.last in
    let us = units_from a.size 0 [] (take a.n a.ranges) in
    let m = marking-hit w _ _ _ _ _ _ _ (own (goal.at.overflow_add-count c).After-covered c.if-not-covered.true _ _ c.loop-row.invariant.2) _ _ (sym c.touches.ensures ∙ c.if-touches.true) c.if-area-place-eq0.true refl refl in
    omega (arith, m.counted, newly-le w us (marks_of a.area.now a.base (length us)))

pub overflow_add-place : goal.overflow_add-place
overflow_add-place c = omega (arith, there (goal.at.overflow_add-place c).After-covered c.if-not-covered.true)

pub loop-unit-preserved : goal.loop-unit-preserved
loop-unit-preserved c =
    let a = c.args in (
      omega arith,
      λ final total m.
          elim c.if-not-covered.branch [
            | then-not-covered w ↦
                let k = own (goal.at.loop-unit-preserved c).After-covered w.if-not-covered.true final total m in
                rw (w.area-is, w.place-is, w.count-is)
                (elim w.if-touches.branch [
                  | then-touches+then-area-place-eq0 v ↦
                      marking-hit _ _ _ _ _ _ _ _ k _ _ (sym w.touches.ensures ∙ v.if-touches.true) v.if-area-place-eq0.true v.area-is v.count-is
                  | else-touches v ↦
                      marking-miss _ _ _ _ _ _ _ _ k _ _
                      (elim v.else-touches.branch [
                        | else-touches-via-then-touches+else-area-place-eq0 x ↦ inr (ne_eqb _ _ x.if-area-place-eq0.false)
                        | else-touches-via-else-touches x ↦ inl (sym w.touches.ensures ∙ x.if-touches.false)
                      ])
                      v.area-is v.count-is
                ])
            | else-not-covered w ↦
                rw (w.area-is, w.place-is, w.count-is)
                (marking-of _
                (left-covered a.size a.ranges a.n c.loop-row.row (omega arith) c.loop-unit.unit c.loop-unit-test.true (sym c.covered.ensures ∙ w.if-not-covered.false))
                (c.loop-unit.invariant.1 final total m))
          ],
    )

pub loop-row-preserved : goal.loop-row-preserved
loop-row-preserved c =
    let a = c.args in (
      omega arith,
      c.loop-row.invariant.1,
      marking-of _ (left_end a.size a.ranges a.n c.loop-row.row (omega arith) _ c.loop-unit-test.false) (c.loop-unit.invariant.1 _ _ c.loop-row.invariant.2),
    )

pub returns : goal.returns
returns c =
    let a = c.args in
    marking-done _ _ _ _ _ _ _ c.requires.2
    (marking-of _ (left-none a.size (take a.n a.ranges) c.loop-row.row 0 (omega (arith, length-take a.n a.ranges, c.loop-row-test.false))) c.loop-row.invariant.2)
