use mathlib.Core.Path.{◌≡◌, sym, subst, ◌∙◌}
use mathlib.Core.Bool.{false, ◌&&◌}
use native.Mathlib.Omega.{arith}
use native.Mathlib.Numerals.{add-one}
use lib.Dec.{leb, ltb}
use lib.ListN.{take}
use lib.Seq.{take-suc}
use borrow.Author.Rules.{rules}
use Rattle.rules.specs.Settings.{unit_size}
use Rattle.rules.specs.Ranges.{row_ok}
use Rattle.rules.specs.StartData.{no_range}
use Rattle.rules.proofs.LoopLaws.{all-front}
use Rattle.pieces.specs.Pieces.{row_of}
use Rattle.pieces.proofs.PieceLaws.{Stretching, stretch-start, stretch-next, stretch-own, stretch-other}
use Rattle.pieces.proofs.stretch_from.Goals as goal

pub loop-i-init : goal.loop-i-init
loop-i-init c =
    let a = c.args in
    (search rules, omega arith, search rules, rw c.length_of-to.ensures.0 (stretch-start (unit_size a.rows.granularity) (row_of a.rows.ranges a.row) a.at.0 0 c.requires.1))

pub overlap-s-requires : goal.overlap-s-requires
overlap-s-requires c =
    let a = c.args in (
      a.rows.small,
      all-front (row_ok a.rows.granularity) a.rows.ranges a.rows.count a.row no_range c.requires.0 (omega (arith, a.rows.few)) a.rows.ok,
      all-front (row_ok a.rows.granularity) a.rows.ranges a.rows.count c.loop-i.i no_range (omega (arith, c.requires.0)) (omega (arith, a.rows.few)) a.rows.ok,
    )

pub returns-then-among : goal.returns-then-among
returns-then-among c =
    let a = c.args in
    let i = c.loop-i.invariant.3 in
    rw c.least-end.ensures
    (stretch-other (unit_size a.rows.granularity) (row_of a.rows.ranges a.row) a.at.0 c.loop-i.to.0 a.rows.ranges a.row c.loop-i.i _ _ c.loop-i-test.true (omega arith)
    c.overlap-s.ensures (sym c.among.ensures ∙ c.if-among.true) i.further i.inside)

pub loop-i-preserved : goal.loop-i-preserved
loop-i-preserved c =
    let a = c.args in
    let o = c.overlap-s in
    let e : (leb o.result.from.0 a.at.0 && ltb a.at.0 o.result.to.0) ≡ false = cc (c.among.ensures, c.if-among.false) in
    let n = stretch-next (unit_size a.rows.granularity) (row_of a.rows.ranges a.row) a.at.0 c.loop-i.to.0 (take c.loop-i.i a.rows.ranges) (row_of a.rows.ranges c.loop-i.i) o.result.from.0 o.result.to.0 o.ensures c.loop-i.invariant.3 e in (
      c.loop-i.invariant.0,
      omega arith,
      c.loop-i.invariant.2,
      rw (c.cut_before-to.ensures, add-one, take-suc a.rows.ranges c.loop-i.i no_range (omega arith)) n,
    )

pub returns : goal.returns
returns c =
    let a = c.args in
    let e : c.loop-i.i ≡ a.row = omega (arith, c.loop-i.invariant.1, c.loop-i-test.false) in
    stretch-own (unit_size a.rows.granularity) (row_of a.rows.ranges a.row) a.at.0 c.loop-i.to.0 (take a.row a.rows.ranges) (subst (λ n. Stretching (unit_size a.rows.granularity) (take n a.rows.ranges) (row_of a.rows.ranges a.row) a.at.0 c.loop-i.to.0) e c.loop-i.invariant.3)
