-- `report_reader::tmc_report_address` is right because the bytes of a descriptor that is not refused are there.
use mathlib.Core.Path.{sym, ◌∙◌}
use Rattle.rules.proofs.RefusalLaws.{number_of-pos}
use Rattle.report_reader.proofs.AnswerLaws.{index-zero, index-answer}
use Rattle.report_reader.proofs.tmc_report_address.Goals as goal

pub returns-in-Err : goal.returns-in-Err
returns-in-Err c = index-zero _ _ _ (λ z. number_of-pos _ (c.in-Err.ensures.number ∙ z))

pub returns-in-Ok : goal.returns-in-Ok
returns-in-Ok c = (rw c.in-Ok.ensures.place.0 at c.read.ensures) ∙ index-answer _ _ (sym c.in-Ok.ensures.number) _
