-- `booking::totals_of` is right: a place that is found is one of 8, and its account is read. Assumes nothing.
use mathlib.Core.Path.{◌≡◌, sym, ap, ◌∙◌}
use native.Mathlib.Omega.{arith}
use Prim.Native.Nat.{◌<◌}
use lib.ListN.{length}
use Rattle.std.proofs.Common.{rules}
use Rattle.std.proofs.lemmas.List.{get_or_default}
use Rattle.rules.proofs.LoopLaws.{length-mapped}
use Rattle.log_numbers.specs.Log.{empty_account}
use Rattle.log_numbers.specs.declared.Account.{Account}
use Rattle.record.proofs.RecordLaws.{where_is-at}
use Rattle.booking.specs.Booking.{reading_at}
use Rattle.booking.proofs.totals_of.Goals as goal
use Rattle.booking.proofs.totals_of.Goals.{In-Ok}

below : (c : In-Ok) → c.in-Ok.i < 8
below c = (where_is-at c.args.d c.args.words c.args.id c.in-Ok.i (sym c.locate.ensures ∙ c.in-Ok.is)).below

pub offset_bounds-l-i : goal.offset_bounds-l-i
offset_bounds-l-i c = omega (arith, below (goal.at.offset_bounds-l-i c).In-Ok)

pub bounds-l-i : goal.bounds-l-i
bounds-l-i c = below (goal.at.bounds-l-i c).In-Ok

pub returns-in-Ok : goal.returns-in-Ok
returns-in-Ok c =
    let a = c.args in
    let eight : length a.l.accounts ≡ 8 = search (length-mapped, rules) in
    let found = sym c.locate.ensures ∙ c.in-Ok.is in
    ap (λ (x : Account). record { number = 0; totals = x.totals }) (get_or_default a.l.accounts c.in-Ok.i _ empty_account (omega (arith, eight, below (goal.at.returns-in-Ok c).In-Ok)))
    ∙ sym (ap (reading_at a.l) found)
