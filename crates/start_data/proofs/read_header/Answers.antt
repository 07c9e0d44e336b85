-- `start_data::read_header` is right because it says what `try_header` answers.
use mathlib.Core.Path.{sym, ap, ◌∙◌}
use Rattle.start_data.specs.Answer.{header_by}
use Rattle.start_data.proofs.Answers.{header_read}
use Rattle.start_data.proofs.read_header.Goals as goal

pub returns-in-Ok : goal.returns-in-Ok
returns-in-Ok c = header_read _ _ (sym (ap header_by c.in-Ok.is) ∙ c.try_header.ensures)

pub returns-in-Err : goal.returns-in-Err
returns-in-Err c = header_read _ _ (rw c.number.ensures (sym (ap header_by c.in-Err.is) ∙ c.try_header.ensures))
