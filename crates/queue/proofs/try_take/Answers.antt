-- `queue::try_take` is right: it refuses in the order of its table, and hands out the oldest entries of the controller's own queue. Assumes nothing.
use mathlib.Core.Path.{sym, ◌∙◌}
use Rattle.calls.proofs.OutcomeLaws.{taken-refused}
use Rattle.queue.proofs.QueueLaws.{lent_is, leaves-buffer, take-refused, take_told}
use Rattle.queue.proofs.try_take.Goals as goal

pub returns-in_err-i : goal.returns-in_err-i
returns-in_err-i c =
    let l = leaves-buffer _ _ _ (take-refused _ _ _ _ _ _ _ (sym c.lent.ensures.queue ∙ c.in_err-i.was)) in
    (taken-refused _ _ _ c.from_residual.ensures.1 ∙ l.0, l.1)

pub returns : goal.returns
returns c =
    let m = c.hand_out-count.ensures in
    leaves-buffer _ _ _
    (take_told _ _ _ _ _ _ _ _ (lent_is _ _ _ _ _ _ (sym c.lent.ensures.queue ∙ c.in_ok-i.was)) _ m.0 _ m.2 _ c.is_closing-closing.ensures _ c.after_take.ensures _ c.with_queue-device.ensures)
