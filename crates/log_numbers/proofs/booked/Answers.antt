-- `log_numbers::booked` is right: what `added` makes of the totals at the place is stored there. Assumes nothing.
use mathlib.Core.Path.{◌≡◌, ap, ◌∙◌}
use native.Mathlib.Omega.{arith}
use lib.ListN.{length}
use Rattle.std.proofs.Common.{rules}
use Rattle.std.proofs.lemmas.List.{get_or_default}
use Rattle.rules.proofs.LoopLaws.{length-mapped}
use Rattle.log_numbers.specs.Log.{added_to, empty_account}
use Rattle.log_numbers.specs.declared.Account.{Account}
use Rattle.log_numbers.proofs.LogLaws.{booked-is}
use Rattle.log_numbers.proofs.booked.Goals as goal

pub returns : goal.returns
returns c =
    let a = c.args in
    let eight : length a.l.accounts ≡ 8 = search (length-mapped, rules) in
    booked-is a.l a.i a.marked a.reported a.dropped _
    (c.added-totals.ensures ∙ ap (λ (x : Account). added_to x.totals a.marked a.reported a.dropped) (get_or_default a.l.accounts a.i _ empty_account (omega (arith, eight, c.requires))))
