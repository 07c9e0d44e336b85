-- `queue::try_post` is right: it refuses in the order of its table, and stores the entry or the closing one in the controller's own queue. Assumes nothing.
use mathlib.Core.Path.{sym, ◌∙◌}
use lib.ListN.{length}
use Rattle.calls.proofs.OutcomeLaws.{posted-refused}
use Rattle.queue.proofs.QueueLaws.{Lent, lent_is, leaves-area, post-refused, post-entry, post-stopped, post-done}
use Rattle.queue.proofs.try_post.Goals as goal
use Rattle.queue.proofs.try_post.Goals.{In_ok-i}

-- the queue that the area is lent to
own : (c : In_ok-i) → let a = c.args in Lent a.d a.words a.id (length a.area.now) c.in_ok-i.i c.in_ok-i.r
own c = lent_is _ _ _ _ _ _ (sym c.lent.ensures.queue ∙ c.in_ok-i.was)

pub returns-in_err-i : goal.returns-in_err-i
returns-in_err-i c =
    let l = leaves-area _ _ _ (post-refused _ _ _ _ _ _ (sym c.lent.ensures.queue ∙ c.in_err-i.was)) in
    (posted-refused _ _ _ c.from_residual.ensures.1 ∙ l.0, l.1)

pub returns-then-entry-ne-ENTRY_BYTES : goal.returns-then-entry-ne-ENTRY_BYTES
returns-then-entry-ne-ENTRY_BYTES c = leaves-area _ _ _ (post-entry _ _ _ _ _ _ _ (own (goal.at.returns-then-entry-ne-ENTRY_BYTES c).In_ok-i) c.if-entry-ne-ENTRY_BYTES.true)

pub returns-then-r : goal.returns-then-r
returns-then-r c = leaves-area _ _ _ (post-stopped _ _ _ _ _ _ _ (own (goal.at.returns-then-r c).In_ok-i) c.if-entry-ne-ENTRY_BYTES.false c.if-r.true)

pub returns : goal.returns
returns c =
    leaves-area _ _ _
    (post-done _ _ _ _ _ _ _ (own (goal.at.returns c).In_ok-i) c.if-entry-ne-ENTRY_BYTES.false c.if-r.false _ _ c.store-stopped.ensures _ c.after_post.ensures _ c.with_queue-device.ensures)
