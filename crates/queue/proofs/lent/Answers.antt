-- `queue::lent` is right because a queue of a sound record, in an area of its size, may be used. Assumes nothing.
use mathlib.Core.Path.{◌≡◌, sym, ◌∙◌}
use native.Mathlib.Omega.{arith}
use lib.ListN.{length}
use borrow.Author.Rules.{rules}
use Rattle.std.specs.declared.result.Result.TheVariants.{Ok}
use Rattle.rules.proofs.LoopLaws.{length-mapped}
use Rattle.record.specs.Record.{where_is}
use Rattle.calls.proofs.PlaceLaws.{placed}
use Rattle.queue.proofs.QueueLaws.{lent-usable}
use Rattle.queue.proofs.lent.Goals as goal
use Rattle.queue.proofs.lent.Goals.{In_ok-i}

-- the place that was found
found : (c : In_ok-i)
    → let a = c.args in
    where_is a.d a.words a.id ≡ Ok c.in_ok-i.i
found c = sym c.locate.ensures ∙ c.in_ok-i.was

pub offset_bounds-d-i : goal.offset_bounds-d-i
offset_bounds-d-i c = omega (arith, placed _ _ _ _ (found c))

pub bounds-d-i : goal.bounds-d-i
bounds-d-i c = placed _ _ _ _ (found c)

pub returns-clause-usable : goal.returns-clause-usable
returns-clause-usable c =
    let a = c.args in
    let f = found (goal.at.returns-clause-usable c).In_ok-i in
    let n : length a.d.controllers ≡ 8 = search (length-mapped, rules) in
    (placed _ _ _ _ f, lent-usable a.d a.words a.id a.bytes c.in_ok-i.i c.in-Some.r n (record { at = f; area = rw c.in-Some.is at (sym c.if-not-area_ok.ensures); queue = c.in-Some.is }))
