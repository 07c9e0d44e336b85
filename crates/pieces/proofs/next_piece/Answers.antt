use mathlib.Core.Path.{refl, sym, subst, ◌∙◌}
use mathlib.Core.Bool.{true, false}
use Prim.Native.Nat.{◌+◌, ◌-◌, ◌≤◌}
use native.Mathlib.Omega.{arith}
use lib.ListN.{take, length-take}
use lib.Seq.{get_or-take}
use borrow.Author.Rules.{rules}
use Rattle.rules.specs.Settings.{unit_size, bytes_of}
use Rattle.rules.specs.StartData.{no_range}
use Rattle.rules.proofs.RowLaws.{rows_ok-front}
use Rattle.pieces.specs.Pieces.{row_of, StretchIs, PieceFound}
use Rattle.pieces.proofs.PieceLaws.{stretch-among, left-none, left_step, left_other, left-piece, found_from}
use Rattle.pieces.proofs.next_piece.Goals as goal

pub loop-i-init : goal.loop-i-init
loop-i-init c = (search rules, c.requires, refl)

pub stretch_from-s-requires : goal.stretch_from-s-requires
stretch_from-s-requires c = (
  c.loop-i-test.true,
  rw c.length_of-length.ensures.0 at c.if-j-length.true,
)

pub part-range-requires : goal.part-range-requires
part-range-requires c =
    let t = c.loop-i-test.true in (
      c.args.rows.small,
      (rows_ok-front c.args.rows.granularity c.args.rows.ranges c.args.rows.count c.loop-i.i c.args.rows.ok t (omega (arith, t, c.args.rows.few, c.loop-i.invariant.0))).within,
      c.stretch_from-s.ensures.further,
      c.stretch_from-s.ensures.inside,
    )

pub returns-then-s : goal.returns-then-s
returns-then-s c =
    let a = c.args in
    let t = c.loop-i-test.true in
    let s = c.stretch_from-s in
    rw c.part-range.ensures
    (found_from (unit_size a.rows.granularity) (take a.rows.count a.rows.ranges) a.row a.at.0 c.loop-i.i c.loop-i.j.0 _ c.loop-i.invariant.2
    (subst (λ r. PieceFound (unit_size a.rows.granularity) (take a.rows.count a.rows.ranges) c.loop-i.i c.loop-i.j.0 (record { row = c.loop-i.i; next = s.result.to; range = record { start = r.start + bytes_of a.rows.granularity c.loop-i.j.0; length = s.result.to.0 - c.loop-i.j.0 } }))
    (get_or-take a.rows.count a.rows.ranges c.loop-i.i no_range t)
    (left-piece (unit_size a.rows.granularity) (take a.rows.count a.rows.ranges) c.loop-i.i c.loop-i.j.0 s.result.to.0
    (stretch-among (unit_size a.rows.granularity) a.rows.ranges a.rows.count c.loop-i.i c.loop-i.j.0 s.result.to.0 true t (subst (λ b. StretchIs (unit_size a.rows.granularity) (take c.loop-i.i a.rows.ranges) (row_of a.rows.ranges c.loop-i.i) c.loop-i.j.0 s.result.to.0 b) c.if-s.true s.ensures))
    (omega (arith, length-take a.rows.count a.rows.ranges, t, c.loop-i.invariant.0, c.args.rows.few)))))

pub loop-i-smaller-then-j-length : goal.loop-i-smaller-then-j-length
loop-i-smaller-then-j-length c =
    let s = c.stretch_from-s.ensures in
    omega (arith, s.further, s.inside, c.loop-i-test.true, c.length_of-length.ensures)

pub loop-i-preserved-then-j-length : goal.loop-i-preserved-then-j-length
loop-i-preserved-then-j-length c =
    let a = c.args in
    let t = c.loop-i-test.true in
    let s = c.stretch_from-s in
    let o = stretch-among (unit_size a.rows.granularity) a.rows.ranges a.rows.count c.loop-i.i c.loop-i.j.0 s.result.to.0 false t (subst (λ b. StretchIs (unit_size a.rows.granularity) (take c.loop-i.i a.rows.ranges) (row_of a.rows.ranges c.loop-i.i) c.loop-i.j.0 s.result.to.0 b) c.if-s.false s.ensures) in (
      c.loop-i.invariant.0,
      o.inside,
      c.loop-i.invariant.2 ∙ left_other (unit_size a.rows.granularity) (take a.rows.count a.rows.ranges) c.loop-i.i c.loop-i.j.0 s.result.to.0 o,
    )

pub loop-i-smaller : goal.loop-i-smaller
loop-i-smaller c =
    let a = c.args in
    let e = get_or-take a.rows.count a.rows.ranges c.loop-i.i no_range c.loop-i-test.true in
    omega (arith, subst (λ r. c.loop-i.j.0 ≤ r.length) e c.loop-i.invariant.1, c.loop-i-test.true, c.length_of-length.ensures)

pub loop-i-preserved : goal.loop-i-preserved
loop-i-preserved c =
    let a = c.args in
    let t = c.loop-i-test.true in
    let e = get_or-take a.rows.count a.rows.ranges c.loop-i.i no_range t in (
      c.loop-i.invariant.0,
      omega arith,
      c.loop-i.invariant.2 ∙ left_step (unit_size a.rows.granularity) (take a.rows.count a.rows.ranges) c.loop-i.i c.loop-i.j.0 (subst (λ r. r.length ≤ c.loop-i.j.0) (sym e) (rw c.length_of-length.ensures.0 at c.if-j-length.false)),
    )

pub returns : goal.returns
returns c =
    let a = c.args in
    c.loop-i.invariant.2 ∙ left-none (unit_size a.rows.granularity) (take a.rows.count a.rows.ranges) c.loop-i.i c.loop-i.j.0 (omega (arith, length-take a.rows.count a.rows.ranges, c.loop-i-test.false))
