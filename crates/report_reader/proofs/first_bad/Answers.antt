use mathlib.Core.Path.{sym, ◌∙◌}
use Rattle.report_reader.proofs.ReadingLaws.{bad-start, bad-here, bad-later, bad-end}
use Rattle.report_reader.proofs.first_bad.Goals as goal

pub loop-i-init : goal.loop-i-init
loop-i-init c = bad-start _ _ _

pub returns-then-not-range_ok : goal.returns-then-not-range_ok
returns-then-not-range_ok c =
    sym (bad-here _ _ _ _ c.loop-i-test.true (sym (rw c.read_range-r.ensures at c.if-not-range_ok.ensures)))
    ∙ c.loop-i.invariant

pub loop-i-preserved : goal.loop-i-preserved
loop-i-preserved c =
    bad-later _ _ _ _ c.loop-i-test.true (sym (rw c.read_range-r.ensures at c.if-not-range_ok.ensures))
    ∙ c.loop-i.invariant

pub returns : goal.returns
returns c = sym (bad-end _ _ _ _ c.loop-i-test.false) ∙ c.loop-i.invariant
