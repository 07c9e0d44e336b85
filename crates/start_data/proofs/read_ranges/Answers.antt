-- `start_data::read_ranges` is right because the two refusals of its list are asked before the loop. Assumes nothing.
use mathlib.Core.Path.{sym, ◌∙◌}
use native.Mathlib.Omega.{arith}
use Rattle.start_data.proofs.Answers.{ranges_read-many, ranges_read-short, ranges_read-there}
use Rattle.start_data.proofs.read_ranges.Goals as goal
use Rattle.start_data.proofs.read_ranges.Goals.{then-count-gt16-via-then-count-gt16, then-count-gt16-via-else-count-gt16+then-s-count}

pub returns-then-count-gt16 : goal.returns-then-count-gt16
returns-then-count-gt16 c =
    c.no_ranges.ensures
    ∙ sym (elim c.then-count-gt16.branch [
      | then-count-gt16-via-then-count-gt16 w ↦ ranges_read-many _ _ w.if-count-gt16.true
      | then-count-gt16-via-else-count-gt16+then-s-count w ↦ ranges_read-short _ _ w.if-s-count.true
    ])

pub returns : goal.returns
returns c = c.listed_ranges.ensures ∙ sym (ranges_read-there _ _ (omega arith) c.if-s-count.false)
