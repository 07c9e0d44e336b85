use mathlib.Core.Path.{◌≡◌, refl, sym, ap, ◌∙◌}
use mathlib.Core.Bool.{true}
use native.Mathlib.Omega.{arith}
use borrow.Author.Rules.{rules}
use borrow.Author.Tests.{not-true, not-false}
use lib.ListN.{take}
use Rattle.rules.specs.Lists.{all}
use Rattle.rules.specs.StartData.{no_range}
use Rattle.rules.proofs.LoopLaws.{all-miss, all-next, all_end, sum-next, sum-end}
use Rattle.ranges.specs.Kept.{lengths_of, kept_by}
use Rattle.ranges.proofs.RangeLaws.{each_ok, kept-empty, kept-many, kept-not, kept-few, kept-counted, each_rows, units-lengths}
use Rattle.ranges.proofs.list_kept.Goals as goal
use Rattle.ranges.proofs.list_kept.Goals.{After-loop-i, then-m-lt1-via-then-m-lt1, then-m-lt1-via-else-m-lt1+then-m-gt16}

-- past the loop the lengths are added and each range passes by itself
added : (c : After-loop-i)
    → let a = c.args in
    lengths_of (take a.n a.ranges) ≡ c.loop-i.total
added c =
    let a = c.args in
    omega (arith, sum-end (λ r. r.length) a.ranges a.n c.loop-i.i (omega arith), c.loop-i.invariant.4)

passed : (c : After-loop-i)
    → let a = c.args in
    all (each_ok a.s a.g) (take a.n a.ranges) ≡ true
passed c =
    let a = c.args in
    c.loop-i.invariant.5 ∙ all_end (each_ok a.s a.g) a.ranges a.n c.loop-i.i (omega arith)

pub returns-then-m-lt1 : goal.returns-then-m-lt1
returns-then-m-lt1 c = (elim c.then-m-lt1.branch [ then-m-lt1-via-then-m-lt1 w ↦ sym (kept-empty _ _ _ _ w.if-m-lt1.true) | then-m-lt1-via-else-m-lt1+then-m-gt16 w ↦ sym (kept-many _ _ _ _ w.if-m-gt16.true) ], omega arith)

pub loop-i-init : goal.loop-i-init
loop-i-init c = (search rules, omega arith, omega arith, omega arith, omega arith, refl)

pub returns-then-not-row_ok : goal.returns-then-not-row_ok
returns-then-not-row_ok c =
    let a = c.args in (
      sym (kept-not _ _ _ _ (omega arith) (omega arith)
          (c.loop-i.invariant.5 ∙ all-miss (each_ok a.s a.g) a.ranges a.n c.loop-i.i no_range (omega arith) (omega arith) (sym c.row_ok.ensures ∙ not-true _ c.if-not-row_ok.true-raw))),
      omega arith,
    )

pub loop-i-preserved : goal.loop-i-preserved
loop-i-preserved c =
    let a = c.args in
    let e = sum-next (λ r. r.length) a.ranges a.n c.loop-i.i no_range (omega arith) (omega arith) in (
      c.loop-i.invariant.0,
      c.loop-i.invariant.1,
      omega arith,
      omega arith,
      omega (arith, e, c.loop-i.invariant.4, c.length_of-u.ensures.0),
      c.loop-i.invariant.5 ∙ all-next (each_ok a.s a.g) a.ranges a.n c.loop-i.i no_range (omega arith) (omega arith) (sym c.row_ok.ensures ∙ not-false _ c.if-not-row_ok.false-raw),
    )

pub returns-then-total-le-MOST_UNITS : goal.returns-then-total-le-MOST_UNITS
returns-then-total-le-MOST_UNITS c =
    let a = c.args in (
      sym (kept-few a.s a.g a.n (take a.n a.ranges) (omega arith) (omega arith) (passed (goal.at.returns-then-total-le-MOST_UNITS c).After-loop-i) (omega (arith, added (goal.at.returns-then-total-le-MOST_UNITS c).After-loop-i)) ∙ ap (kept_by true) (added (goal.at.returns-then-total-le-MOST_UNITS c).After-loop-i)),
      omega arith,
    )

pub invariant_of-rows-clause-ok : goal.invariant_of-rows-clause-ok
invariant_of-rows-clause-ok c =
    let a = c.args in
    each_rows a.s a.g (take a.n a.ranges) (passed (goal.at.invariant_of-rows-clause-ok c).After-loop-i)

pub returns : goal.returns
returns c =
    let a = c.args in
    let is = c.units_in.ensures.0 in (
      sym (kept-counted a.s a.g a.n (take a.n a.ranges) (omega arith) (omega arith) (passed (goal.at.returns c).After-loop-i) (omega (arith, added (goal.at.returns c).After-loop-i)) ∙ ap (kept_by true) (sym is)),
      omega (arith, is, units-lengths a.g (take a.n a.ranges), added (goal.at.returns c).After-loop-i),
    )
