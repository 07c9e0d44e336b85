-- `track_send::try_start` is right: it refuses as the table does; done, the share is clear and what was admitted is recorded. Assumes nothing.
use mathlib.Core.Path.{refl}
use lib.ListN.{length}
use Rattle.record.proofs.RecordLaws.{where_is-at, where_by-at}
use Rattle.calls.specs.Calls.{in_words}
use Rattle.calls.proofs.Answers.{leaves}
use Rattle.calls.proofs.OutcomeLaws.{started-refused}
use Rattle.track_send.specs.Inner.{Admission}
use Rattle.track_send.proofs.StartedLaws.{start-refuses, start-done}
use Rattle.track_send.proofs.try_start.Goals as goal
use Rattle.track_send.proofs.try_start.Goals.{In_ok-start}

-- what was admitted
admitted : (c : In_ok-start)
    → let a = c.args in
    Admission a.d (length a.marks.now) a.manager a.id a.«data».now c.in_ok-start.start
admitted c = let a = c.args in rw c.in_ok-start.was at c.admit.ensures.admits

pub returns-in_err-start : goal.returns-in_err-start
returns-in_err-start c =
    let a = c.args in
    leaves _ _ _ _ _ (start-refuses in_words a.d a.marks.now a.manager a.id a.«data».now _ c.admit.ensures.refusal _ c.in_err-start.was) (started-refused _ _ _ c.from_residual.ensures.1) refl

pub install-requires : goal.install-requires
install-requires c =
    let a = admitted (goal.at.install-requires c).In_ok-start in
    record { starts = a.starts; words = (where_is-at _ _ _ _ (where_by-at _ _ _ _ _ a.found).1).whole }

pub returns : goal.returns
returns c =
    let a = c.args in
    leaves _ _ _ _ _ (start-done in_words a.d a.marks.now a.manager a.id a.«data».now _ c.admit.ensures.refusal _ c.in_ok-start.was c.admit.ensures.admits)
    (rw c.install.ensures.0) c.install.ensures.1
