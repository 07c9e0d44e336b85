use mathlib.Core.Path.{◌≡◌, refl, subst}
use mathlib.Core.List.{◌++◌}
use Prim.Native.Nat.{◌+◌}
use native.Mathlib.Omega.{arith}
use lib.ListN.{take, length-take}
use borrow.Author.Rules.{rules}
use Rattle.bits.specs.Flat.{flat}
use Rattle.rules.specs.Settings.{unit_size}
use Rattle.rules.specs.Units.{units, units_of_row}
use Rattle.rules.proofs.RowLaws.{rows_ok-front}
use Rattle.pieces.specs.Pieces.{row_of, units_left}
use Rattle.pieces.proofs.PieceLaws.{EndBy, end-small, left-all, left-none, row-whole}
use Rattle.marking.specs.Note.{write_to, mark_in, newly_in}
use Rattle.marking.proofs.NoteLaws.{Marking, marking-start, range-held, marking-next, marking-rest, marking-end}
use Rattle.marking.proofs.mark_ranges.Goals as goal
use Rattle.marking.proofs.mark_ranges.Goals.{After-mark_range-count, Else-first-end}

-- a row that begins at or past the end is one piece
whole : (c : Else-first-end)
    → let a = c.args in
    let r = row_of a.rows.ranges c.loop-row.row in
    (units_left (unit_size a.rows.granularity) (take a.rows.count a.rows.ranges) c.loop-row.row 0 ≡ units_of_row c.loop-row.row (unit_size a.rows.granularity) r.start r.length ++ units_left (unit_size a.rows.granularity) (take a.rows.count a.rows.ranges) (c.loop-row.row + 1) 0)
    × EndBy (unit_size a.rows.granularity) (c.whole_units-first.result.0 + r.length) (take (c.loop-row.row + 1) (take a.rows.count a.rows.ranges))
whole c =
    let a = c.args in
    row-whole a.rows.granularity a.rows.count a.rows.ranges c.loop-row.row c.loop-row.end.0 _ c.loop-row-test.true (omega (arith, c.args.rows.few, c.loop-row.invariant.1)) c.args.rows.ok c.loop-row.invariant.2
    c.whole_units-first.ensures c.if-first-end.false

-- what is to be marked after it
marked : (c : After-mark_range-count)
    → let a = c.args in
    let m = c.mark_range-count in
    Marking (write_to a.written.at a.written.last) (units_left (unit_size a.rows.granularity) (take a.rows.count a.rows.ranges) (c.loop-row.row + 1) 0) m.new.marks (c.loop-row.from + (row_of a.rows.ranges c.loop-row.row).length) (c.loop-row.count + m.result)
    (mark_in (write_to a.written.at a.written.last) (units a.rows.granularity (take a.rows.count a.rows.ranges)) (flat a.marks.now) a.base)
    (newly_in (write_to a.written.at a.written.last) (units a.rows.granularity (take a.rows.count a.rows.ranges)) (flat a.marks.now) a.base)
marked c =
    let m = c.mark_range-count in
    marking-next _ _ _ _ _ _ _ c.loop-row.invariant.3 _ _ _ _ (whole c.before.before).0 _ _ m.auto.marks m.ensures.1 m.ensures.0

pub loop-row-init : goal.loop-row-init
loop-row-init c =
    let a = c.args in (
      refl,
      search rules,
      tt,
      subst (λ us. Marking (write_to a.written.at a.written.last) us a.marks.now a.base 0 (mark_in (write_to a.written.at a.written.last) (units a.rows.granularity (take a.rows.count a.rows.ranges)) (flat a.marks.now) a.base)
          (newly_in (write_to a.written.at a.written.last) (units a.rows.granularity (take a.rows.count a.rows.ranges)) (flat a.marks.now) a.base))
          (left-all (unit_size a.rows.granularity) (take a.rows.count a.rows.ranges)) (marking-start _ _ _ _ c.requires),
    )

pub mark_pieces-requires : goal.mark_pieces-requires
mark_pieces-requires c = c.loop-row.invariant.3.held

pub overflow_add-result : goal.overflow_add-result
overflow_add-result c =
    let m = c.loop-row.invariant.3 in
    omega (arith, c.mark_pieces.ensures.0, m.counted, m.few)

pub returns-then-first-end : goal.returns-then-first-end
returns-then-first-end c =
    let m = c.mark_pieces in
    marking-rest _ _ _ _ _ _ _ c.loop-row.invariant.3 _ _ m.ensures.1 m.ensures.0

pub mark_range-count-requires : goal.mark_range-count-requires
mark_range-count-requires c =
    (c.args.rows.small, range-held _ _ _ _ _ _ _ c.loop-row.invariant.3 _ _ _ _ (whole (goal.at.mark_range-count-requires c).Else-first-end).0)

pub overflow_add-count : goal.overflow_add-count
overflow_add-count c =
    let m = marked (goal.at.overflow_add-count c).After-mark_range-count in
    omega (arith, m.counted, m.few)

pub overflow_add-from : goal.overflow_add-from
overflow_add-from c = omega (arith, (marked (goal.at.overflow_add-from c).After-mark_range-count).held.small)

pub end_of-end-requires : goal.end_of-end-requires
end_of-end-requires c =
    let a = c.args in
    let t = c.loop-row-test.true in
    rw c.whole_units-first.ensures (end-small a.rows.granularity _ (rows_ok-front a.rows.granularity a.rows.ranges a.rows.count c.loop-row.row c.args.rows.ok t (omega (arith, t, c.args.rows.few, c.loop-row.invariant.1))))

pub loop-row-preserved : goal.loop-row-preserved
loop-row-preserved c =
    (search rules, c.loop-row.invariant.1, rw c.end_of-end.ensures (whole (goal.at.loop-row-preserved c).Else-first-end).1, marked (goal.at.loop-row-preserved c).After-mark_range-count)

pub returns : goal.returns
returns c =
    let a = c.args in
    marking-end _ _ _ _ _ _ _ c.loop-row.invariant.3 (left-none (unit_size a.rows.granularity) (take a.rows.count a.rows.ranges) c.loop-row.row 0 (omega (arith, length-take a.rows.count a.rows.ranges, c.loop-row-test.false)))
