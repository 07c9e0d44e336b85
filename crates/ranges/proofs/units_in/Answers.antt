use mathlib.Core.Path.{sym, ap, subst, ◌∙◌}
use Prim.Native.Nat.{◌≤◌, ◌^◌}
use native.Mathlib.Omega.{arith}
use native.Mathlib.Nat.{zero-add, add-zero}
use lib.ListN.{length, take, length-take}
use Rattle.rules.specs.Settings.{unit_size}
use Rattle.rules.specs.Units.{units}
use Rattle.pieces.specs.Pieces.{PieceFound, NextIs}
use Rattle.pieces.proofs.PieceLaws.{left-all, piece-length}
use Rattle.ranges.proofs.RangeLaws.{units-lengths, lengths-small}
use Rattle.ranges.proofs.units_in.Goals as goal
use Rattle.ranges.proofs.units_in.Goals.{In-Some, Start}

-- there are few: 16 ranges of at most 2^52 units
few : (c : Start) → length (units c.args.rows.granularity (take c.args.rows.count c.args.rows.ranges)) ≤ 2 ^ 56
few c =
    let rs = take c.args.rows.count c.args.rows.ranges in
    omega (arith, units-lengths c.args.rows.granularity rs, lengths-small c.args.rows.granularity rs c.args.rows.ok, length-take c.args.rows.count c.args.rows.ranges, c.args.rows.few)

-- the piece that was found
found : (c : In-Some)
    → let a = c.args in
    let l = c.loop-piece in
    PieceFound (unit_size a.rows.granularity) (take a.rows.count a.rows.ranges) l.row l.unit.0 c.in-Some.piece
found c =
    let a = c.args in
    let l = c.loop-piece in
    subst (NextIs (unit_size a.rows.granularity) (take a.rows.count a.rows.ranges) l.row l.unit.0) c.in-Some.is c.next_piece.ensures

pub loop-piece-init : goal.loop-piece-init
loop-piece-init c = (omega arith, zero-add _ ∙ ap length (sym (left-all (unit_size c.args.rows.granularity) (take c.args.rows.count c.args.rows.ranges))))

pub next_piece-requires : goal.next_piece-requires
next_piece-requires c = c.loop-piece.invariant.0

pub returns : goal.returns
returns c =
    let l = c.loop-piece in
    let a = c.args in
    let q = subst (NextIs (unit_size a.rows.granularity) (take a.rows.count a.rows.ranges) l.row l.unit.0) c.in_default.is c.next_piece.ensures in
    let e = sym (add-zero _) ∙ (rw q at l.invariant.1) in
    (e, omega (arith, e, few (goal.at.returns c).Start))

pub overflow_add-total : goal.overflow_add-total
overflow_add-total c =
    let l = c.loop-piece in
    omega (arith, l.invariant.1, piece-length _ _ _ _ _ (found (goal.at.overflow_add-total c).In-Some), c.length_of-u.ensures.0, few (goal.at.overflow_add-total c).Start)

pub loop-piece-smaller : goal.loop-piece-smaller
loop-piece-smaller c = omega (arith, (found (goal.at.loop-piece-smaller c).In-Some).some, piece-length _ _ _ _ _ (found (goal.at.loop-piece-smaller c).In-Some))

pub loop-piece-preserved : goal.loop-piece-preserved
loop-piece-preserved c =
    let l = c.loop-piece in
    ((found (goal.at.loop-piece-preserved c).In-Some).inside, omega (arith, l.invariant.1, piece-length _ _ _ _ _ (found (goal.at.loop-piece-preserved c).In-Some), c.length_of-u.ensures.0))
