-- `report_reader::tmc_report_suspended` is right because an accepted report has its header, and a bit is 0 or 1.
use mathlib.Core.Path.{◌∙◌}
use native.Mathlib.Omega.{arith}
use Rattle.report_reader.proofs.AnswerLaws.{refused-answer, accepted-size, accepted-answer, bit_is}
use Rattle.report_reader.proofs.tmc_report_suspended.Goals as goal

pub returns-then-tmc_report_refusal-ne0 : goal.returns-then-tmc_report_refusal-ne0
returns-then-tmc_report_refusal-ne0 c = refused-answer _ _ (rw c.tmc_report_refusal.ensures at c.if-tmc_report_refusal-ne0.true)

pub bounds-report-1 : goal.bounds-report-1
bounds-report-1 c = omega (arith, accepted-size _ (rw c.tmc_report_refusal.ensures at c.if-tmc_report_refusal-ne0.false))

pub returns : goal.returns
returns c = bit_is _ ∙ accepted-answer _ (rw c.tmc_report_refusal.ensures at c.if-tmc_report_refusal-ne0.false) _
