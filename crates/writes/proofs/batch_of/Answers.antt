-- `writes::batch_of` is right: the first n of 1,025 records are the first min n 1,025. Assumes nothing.
use mathlib.Core.Path.{◌≡◌, sym, ap}
use lib.ListN.{length}
use borrow.Author.Rules.{rules}
use Rattle.rules.proofs.LoopLaws.{length-mapped}
use Rattle.calls.specs.Calls.{batch_change}
use Rattle.calls.proofs.Answers.{leaves-as}
use Rattle.writes.proofs.BatchLaws.{take-least}
use Rattle.writes.proofs.batch_of.Goals as goal

pub returns : goal.returns
returns c =
    let a = c.args in
    let all : length a.list ≡ 1025 = search (length-mapped, rules) in
    leaves-as _ _ _ _ (ap (batch_change _ _) (sym (take-least _ _ _ all c.min.ensures))) c.batch.ensures
