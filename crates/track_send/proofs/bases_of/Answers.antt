-- `track_send::bases_of` is right because it takes the same of each share.
use mathlib.Core.Path.{◌≡◌, sym, ◌∙◌}
use native.Mathlib.Omega.{arith}
use lib.ListN.{length}
use borrow.Author.Rules.{rules}
use Rattle.rules.specs.Device.{no_share}
use Rattle.rules.proofs.LoopLaws.{length-mapped}
use Rattle.track_send.proofs.PackLaws.{mapped}
use Rattle.track_send.proofs.bases_of.Goals as goal

pub returns : goal.returns
returns c =
    let h = c.map.ensures.items in
    let eight : length c.args.shares ≡ 8 = search (length-mapped, rules) in
    mapped _ c.args.shares _ (h.long ∙ sym eight) (λ j k. let met = (h.at j no_share 0 (omega (arith, eight))).2.met in search rules)
