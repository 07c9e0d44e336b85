-- `queue::try_make_queue` is right: it refuses in the order of its table, and gives the controller an empty queue. Assumes nothing.
use mathlib.Core.Path.{◌≡◌, sym, ◌∙◌}
use Rattle.std.specs.declared.result.Result.TheVariants.{Ok}
use Rattle.record.specs.Record.{where_is}
use Rattle.calls.proofs.OutcomeLaws.{changed-refused}
use Rattle.calls.proofs.PlaceLaws.{placed}
use Rattle.queue.proofs.QueueLaws.{make-refused, make-area, make-done}
use Rattle.queue.proofs.try_make_queue.Goals as goal
use Rattle.queue.proofs.try_make_queue.Goals.{In_ok-i}

-- the place that was found
found : (c : In_ok-i)
    → let a = c.args in
    where_is a.d a.words a.id ≡ Ok c.in_ok-i.i
found c = sym c.locate.ensures ∙ c.in_ok-i.was

pub returns-in_err-i : goal.returns-in_err-i
returns-in_err-i c = changed-refused _ _ _ c.from_residual.ensures.1 ∙ sym (make-refused _ _ _ _ _ (sym c.locate.ensures ∙ c.in_err-i.was))

pub returns-then-not-places_ok : goal.returns-then-not-places_ok
returns-then-not-places_ok c = sym (make-area _ _ _ _ _ (found (goal.at.returns-then-not-places_ok c).In_ok-i) (sym c.if-not-places_ok.ensures))

pub with_queue-requires : goal.with_queue-requires
with_queue-requires c = placed _ _ _ _ (found (goal.at.with_queue-requires c).In_ok-i)

pub returns : goal.returns
returns c = sym (make-done _ _ _ _ _ (found (goal.at.returns c).In_ok-i) (sym c.if-not-places_ok.ensures) _ c.with_queue.ensures)
