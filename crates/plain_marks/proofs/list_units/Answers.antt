use mathlib.Core.Path.{refl, sym, ◌∙◌}
use mathlib.Core.Logic.{inl, inr}
use Prim.Native.Nat.{◌+◌, ◌*◌, ◌≤◌, ◌<◌}
use native.Mathlib.Omega.{arith}
use lib.ListN.{length, length-take}
use borrow.Author.Rules.{rules}
use Rattle.pieces.specs.Pieces.{row_of}
use Rattle.plain_marks.proofs.MarkLaws.{unit-within}
use Rattle.plain_marks.proofs.ListLaws.{stored-length, listing_start, listing-row, listing-covered, listing-there, listing-clear, listing_full, listing-grow, listing-done, listing-promise}
use Rattle.plain_marks.proofs.list_units.Goals as goal
use Rattle.plain_marks.proofs.list_units.Goals.{At-loop-unit, Else-covered, In-loop-unit, then-covered, else-covered, then-area-place-eq0, else-area-place-eq0, then-units-eq0+else-runs-room, else-units-eq0}

-- a unit ends at most at 2^64
ends : (c : In-loop-unit)
    → let a = c.args in
    (row_of a.ranges c.loop-row.row).start + c.loop-unit.unit * a.size + a.size ≤ 18446744073709551616
ends c =
    let a = c.args in
    unit-within a.size (row_of a.ranges c.loop-row.row).start (row_of a.ranges c.loop-row.row).length c.loop-unit.unit c.loop-unit-test.true
    (c.requires.3 c.loop-row.row (omega arith))

-- there is room for the descriptor of a run that is growing
roomy : (c : At-loop-unit) → 0 < c.loop-unit.units → 16 + 16 * c.loop-unit.runs + 16 ≤ length c.loop-unit.buffer
roomy c h =
    omega (arith, (c.loop-unit.invariant.2 _ _ _ _ _ c.loop-row.invariant.3).ahead.growing h, c.loop-unit.invariant.1, c.loop-row.invariant.1, c.requires.4)

-- the byte of the controller's next unit is there
there : (c : Else-covered) → c.loop-unit.place < length c.loop-unit.area
there c =
    listing-there _ _ _ c.requires.0 _ _ _ (omega arith) _ _ _ _ _ _ _ _ _ _ _ _ (c.loop-unit.invariant.2 _ _ _ _ _ c.loop-row.invariant.3) c.loop-unit-test.true (sym c.covered.ensures ∙ c.if-covered.false)

pub loop-row-init : goal.loop-row-init
loop-row-init c = (refl, refl, search rules, listing_start _ _ _ _ _ _ _ c.requires.2)

pub loop-unit-init : goal.loop-unit-init
loop-unit-init c = (refl, refl, λ n b g a x s. s)

pub overflow_mul-address : goal.overflow_mul-address
overflow_mul-address c = omega (arith, ends c)

pub overflow_add-address : goal.overflow_add-address
overflow_add-address c = omega (arith, ends (goal.at.overflow_add-address c).In-loop-unit)

pub end_run-runs-requires : goal.end_run-runs-requires
end_run-runs-requires c = roomy (goal.at.end_run-runs-requires c).At-loop-unit

pub bounds-area-place : goal.bounds-area-place
bounds-area-place c = there (goal.at.bounds-area-place c).Else-covered

pub end_run-runs-requires-then-area-place-eq0 : goal.end_run-runs-requires-then-area-place-eq0
end_run-runs-requires-then-area-place-eq0 c = roomy (goal.at.end_run-runs-requires-then-area-place-eq0 c).At-loop-unit

pub overflow_sub-result : goal.overflow_sub-result
overflow_sub-result c =
    omega (arith, (c.loop-unit.invariant.2 _ _ _ _ _ c.loop-row.invariant.3).ahead.from)

pub overflow_add-result : goal.overflow_add-result
overflow_add-result c = omega (arith, there (goal.at.overflow_add-result c).Else-covered)

pub shape_of-area-then-runs-room : goal.shape_of-area-then-runs-room
shape_of-area-then-runs-room c = omega (arith, c.loop-unit.invariant.0, c.loop-row.invariant.0)

pub shape_of-buffer-then-runs-room : goal.shape_of-buffer-then-runs-room
shape_of-buffer-then-runs-room c = omega (arith, c.loop-unit.invariant.1, c.loop-row.invariant.1)

pub returns-then-runs-room : goal.returns-then-runs-room
returns-then-runs-room c =
    listing-promise _ _ _ _ _ _ _ _ _ _ (omega (arith, c.requires.2))
    (listing_full _ _ _ c.requires.0 _ _ _ (omega arith) _ _ _ _ _ _ _ _ _ _ _ _ (c.loop-unit.invariant.2 _ _ _ _ _ c.loop-row.invariant.3) c.loop-unit-test.true (sym c.covered.ensures ∙ c.if-covered.false)
    c.if-area-place-eq0.false c.if-units-eq0.true c.if-runs-room.true)

pub bounds-area-place-else-area-place-eq0 : goal.bounds-area-place-else-area-place-eq0
bounds-area-place-else-area-place-eq0 c = there (goal.at.bounds-area-place-else-area-place-eq0 c).Else-covered

pub overflow_add-units : goal.overflow_add-units
overflow_add-units c =
    omega (arith, (c.loop-unit.invariant.2 _ _ _ _ _ c.loop-row.invariant.3).short)

pub overflow_add-place : goal.overflow_add-place
overflow_add-place c = omega (arith, there (goal.at.overflow_add-place c).Else-covered)

pub loop-unit-preserved : goal.loop-unit-preserved
loop-unit-preserved c =
    let t = c.loop-unit-test.true in (
      omega arith,
      omega arith,
      λ count more groups a x m.
          let k = c.loop-unit.invariant.2 count more groups a x m in
          elim c.if-covered.branch [
            | then-covered w ↦
                rw (w.area_is, w.buffer_is, w.runs-is, w.place-is, w.start-is, w.units-is)
                (listing-covered _ _ _ c.requires.0 _ _ _ (omega arith) _ _ _ _ _ _ _ _ _ _ _ _ k _ _ w.end_run-runs.ensures.0 w.end_run-runs.ensures.1 t (sym c.covered.ensures ∙ w.if-covered.true))
            | else-covered w ↦
                let q = sym c.covered.ensures ∙ w.if-covered.false in
                rw (w.area_is, w.buffer_is, w.runs-is, w.place-is, w.start-is, w.units-is)
                (elim w.if-area-place-eq0.branch [
                  | then-area-place-eq0 v ↦
                      let e = v.end_run-runs-then-area-place-eq0.ensures in
                      rw (v.area_is, v.buffer_is, v.runs-is, v.start-is, v.units-is)
                      (listing-clear _ _ _ c.requires.0 _ _ _ (omega arith) _ _ _ _ _ _ _ _ _ _ _ _ k t q v.if-area-place-eq0.true _ _ e.0 e.1)
                  | else-area-place-eq0 v ↦
                      rw (v.area_is, v.buffer_is, v.runs-is, v.start-is, v.units-is)
                      (listing-grow _ _ _ c.requires.0 _ _ _ (omega arith) _ _ _ _ _ _ _ _ _ _ _ _ k t q v.if-area-place-eq0.false _
                      (elim v.if-units-eq0.branch [
                        | then-units-eq0+else-runs-room y ↦ inl (y.if-units-eq0.true, y.if-runs-room.false, y.start-is)
                        | else-units-eq0 y ↦ inr (y.if-units-eq0.false, y.start-is)
                      ]))
                ])
          ],
    )

pub end_run-runs-requires-in-loop-row : goal.end_run-runs-requires-in-loop-row
end_run-runs-requires-in-loop-row c = roomy (goal.at.end_run-runs-requires-in-loop-row c).At-loop-unit

pub loop-row-preserved : goal.loop-row-preserved
loop-row-preserved c =
    let r = c.end_run-runs-in-loop-row in (
      omega (arith, c.loop-unit.invariant.0, c.loop-row.invariant.0),
      stored-length c.loop-unit.units c.loop-unit.runs c.loop-unit.start c.loop-unit.buffer _ r.ensures.1 ∙ c.loop-unit.invariant.1 ∙ c.loop-row.invariant.1,
      c.loop-row.invariant.2,
      listing-row _ _ _ c.requires.0 _ _ _ (omega arith) _ _ _ _ _ _ _ _ _ _ _ _ (c.loop-unit.invariant.2 _ _ _ _ _ c.loop-row.invariant.3) _ _ r.ensures.0 r.ensures.1 c.loop-unit-test.false,
    )

pub overflow_sub-result-2 : goal.overflow_sub-result-2
overflow_sub-result-2 c = c.loop-row.invariant.3.ahead.from

pub overflow_add-result-2 : goal.overflow_add-result-2
overflow_add-result-2 c = omega (arith, c.loop-row.invariant.3.fits, c.loop-row.invariant.0)

pub returns : goal.returns
returns c =
    let a = c.args in
    listing-promise _ _ _ _ _ _ _ _ _ _ (omega (arith, c.requires.2))
    (listing-done _ _ _ _ _ _ _ _ _ _ _ _ _ _ _ _ c.loop-row.invariant.3 (omega (arith, length-take a.n a.ranges, c.loop-row-test.false)))
