-- `report_reader::tmc_report_identifier` is right because an accepted report has its header.
use mathlib.Core.Path.{◌∙◌}
use native.Mathlib.Omega.{arith}
use Rattle.report_reader.proofs.AnswerLaws.{refused-answer, accepted-size, accepted-answer}
use Rattle.report_reader.proofs.tmc_report_identifier.Goals as goal

pub returns-then-tmc_report_refusal-ne0 : goal.returns-then-tmc_report_refusal-ne0
returns-then-tmc_report_refusal-ne0 c = refused-answer _ _ (rw c.tmc_report_refusal.ensures at c.if-tmc_report_refusal-ne0.true)

pub read-requires : goal.read-requires
read-requires c = omega (arith, accepted-size _ (rw c.tmc_report_refusal.ensures at c.if-tmc_report_refusal-ne0.false))

pub returns : goal.returns
returns c = c.read.ensures ∙ accepted-answer _ (rw c.tmc_report_refusal.ensures at c.if-tmc_report_refusal-ne0.false) _
