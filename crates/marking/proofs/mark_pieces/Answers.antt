use mathlib.Core.Path.{refl}
use Prim.Native.Nat.{◌+◌}
use native.Mathlib.Omega.{arith}
use lib.ListN.{take}
use borrow.Author.Rules.{rules}
use Rattle.bits.specs.Flat.{flat}
use Rattle.rules.specs.Settings.{unit_size}
use Rattle.pieces.specs.Pieces.{units_left}
use Rattle.pieces.proofs.PieceLaws.{piece-left, piece-length}
use Rattle.marking.specs.Note.{write_to, mark_in, newly_in}
use Rattle.marking.proofs.NoteLaws.{Marking, marking-start, range-held, marking-next, marking-end}
use Rattle.marking.proofs.mark_pieces.Goals as goal
use Rattle.marking.proofs.mark_pieces.Goals.{After-mark_range-sum, In-Some}

-- what is to be marked after the piece
marked : (c : After-mark_range-sum)
    → let a = c.args in
    let p = c.in-Some.piece in
    Marking (write_to a.written.at a.written.last) (units_left (unit_size a.rows.granularity) (take a.rows.count a.rows.ranges) p.row p.next.0) c.mark_range-sum.new.marks (c.loop-piece.bit + p.range.length) (c.loop-piece.sum + c.mark_range-sum.result)
    (mark_in (write_to a.written.at a.written.last) (units_left (unit_size a.rows.granularity) (take a.rows.count a.rows.ranges) a.row 0) (flat a.marks.now) a.from)
    (newly_in (write_to a.written.at a.written.last) (units_left (unit_size a.rows.granularity) (take a.rows.count a.rows.ranges) a.row 0) (flat a.marks.now) a.from)
marked c =
    let m = c.mark_range-sum in
    marking-next _ _ _ _ _ _ _ c.loop-piece.invariant.2 _ _ _ _ (piece-left _ _ _ _ _ c.in-Some.ensures) _ _ m.auto.marks m.ensures.1 m.ensures.0

pub loop-piece-init : goal.loop-piece-init
loop-piece-init c = (refl, omega arith, marking-start _ _ _ _ c.requires)

pub next_piece-requires : goal.next_piece-requires
next_piece-requires c = c.loop-piece.invariant.1

pub returns : goal.returns
returns c =
    marking-end _ _ _ _ _ _ _ c.loop-piece.invariant.2 c.in_default.ensures

pub mark_range-sum-requires : goal.mark_range-sum-requires
mark_range-sum-requires c =
    (c.args.rows.small, range-held _ _ _ _ _ _ _ c.loop-piece.invariant.2 _ _ _ _ (piece-left _ _ _ _ _ c.in-Some.ensures))

pub overflow_add-sum : goal.overflow_add-sum
overflow_add-sum c =
    let m = marked (goal.at.overflow_add-sum c).After-mark_range-sum in
    omega (arith, m.counted, m.few)

pub overflow_add-bit : goal.overflow_add-bit
overflow_add-bit c = omega (arith, (marked (goal.at.overflow_add-bit c).After-mark_range-sum).held.small)

pub loop-piece-smaller : goal.loop-piece-smaller
loop-piece-smaller c =
    omega (arith, c.in-Some.ensures.some, piece-length _ _ _ _ _ c.in-Some.ensures)

pub loop-piece-preserved : goal.loop-piece-preserved
loop-piece-preserved c = (search rules, c.in-Some.ensures.inside, marked (goal.at.loop-piece-preserved c).After-mark_range-sum)
