use Rattle.std.proofs.Common.{arith}
use Rattle.listing.proofs.GatherLaws.{gathered-over, gathered-many, gathered_none, gathered-again}
use Rattle.listing.proofs.read_numbers.Goals as goal

pub returns-then-count-eq34 : goal.returns-then-count-eq34
returns-then-count-eq34 c =
    let h = gathered-many _ _ _ _ _ _ (rw c.in-Some.ensures.steps at c.loop-field.invariant.1) (omega arith) in
    record { answer = h.0; values = h.1 }

pub returns-in_err-values : goal.returns-in_err-values
returns-in_err-values c =
    let h = gathered_none _ _ _ _ _ _ (rw c.in-Some.ensures.steps at c.loop-field.invariant.1) _ (omega arith) c.greatest.ensures c.in_err-values.ensures.number in
    record { answer = rw c.from_residual.ensures h.0; values = h.1 }

pub loop-field-preserved : goal.loop-field-preserved
loop-field-preserved c =
    (omega arith, gathered-again _ _ _ _ _ _ (rw c.in-Some.ensures.steps at c.loop-field.invariant.1) _ (omega arith) c.greatest.ensures _ c.in_ok-values.ensures.number)

pub returns : goal.returns
returns c =
    let h = gathered-over _ _ _ _ (rw c.in-None.ensures.steps.0 at c.loop-field.invariant.1) in
    record { answer = h.0; values = h.1 }
