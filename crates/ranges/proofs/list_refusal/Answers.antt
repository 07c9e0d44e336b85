-- `ranges::list_refusal` is right because it asks the table's tests in their order: the count, the rows, then 10.
use mathlib.Core.Path.{refl, sym}
use native.Mathlib.Omega.{arith}
use lib.ListN.{take}
use Rattle.rules.proofs.RefusalLaws.{number_of-pos, handed_on}
use Rattle.ranges.proofs.RangeLaws.{rows_none, list-empty, list-many, list-rows, list-ten, list_done}
use Rattle.ranges.proofs.list_refusal.Goals as goal
use Rattle.ranges.proofs.list_refusal.Goals.{then-n-lt1-via-then-n-lt1, then-n-lt1-via-else-n-lt1+then-n-gt16}

pub returns-then-n-lt1 : goal.returns-then-n-lt1
returns-then-n-lt1 c =
    rw c.from.ensures (elim c.then-n-lt1.branch [ then-n-lt1-via-then-n-lt1 w ↦ sym (list-empty _ _ _ _ w.if-n-lt1.true) | then-n-lt1-via-else-n-lt1+then-n-gt16 w ↦ sym (list-many _ _ _ _ w.if-n-gt16.true) ])

pub returns-in_err-rows_refusal : goal.returns-in_err-rows_refusal
returns-in_err-rows_refusal c =
    let a = c.args in
    rw (handed_on _ _ c.from_residual.ensures.1) (list-rows a.s a.g a.n (take a.n a.ranges) (omega arith) (omega arith) _ c.in_err-rows_refusal.ensures (number_of-pos _))

pub returns-then-not-powers_ok : goal.returns-then-not-powers_ok
returns-then-not-powers_ok c =
    let a = c.args in
    rw c.from-then-not-powers_ok.ensures
    (sym (list-ten _ _ _ _ (omega arith) (omega arith) (rows_none a.g (take a.n a.ranges) _ c.in_ok-rows_refusal.ensures refl) (sym c.if-not-powers_ok.ensures)))

pub returns : goal.returns
returns c =
    let a = c.args in
    sym (list_done _ _ _ _ (omega arith) (omega arith) (rows_none a.g (take a.n a.ranges) _ c.in_ok-rows_refusal.ensures refl) (sym c.if-not-powers_ok.ensures))
