-- `track_send::sizes_with` is right because it takes the same of each share.
use mathlib.Core.Path.{◌≡◌, sym, ap, ◌∙◌}
use native.Mathlib.Omega.{arith}
use lib.ListN.{length, set}
use borrow.Author.Rules.{rules}
use Rattle.rules.specs.declared.Share.{Share}
use Rattle.rules.specs.Device.{no_share}
use Rattle.rules.proofs.LoopLaws.{length-mapped}
use Rattle.track_send.proofs.PackLaws.{mapped}
use Rattle.track_send.proofs.sizes_with.Goals as goal

pub returns : goal.returns
returns c =
    let h = c.map-sizes.ensures.items in
    let eight : length c.args.shares ≡ 8 = search (length-mapped, rules) in
    ap (λ l. set l c.args.i c.args.size) (mapped (λ (a : Share). a.size) c.args.shares _ (h.long ∙ sym eight) (λ j k. let met = (h.at j no_share 0 (omega (arith, eight))).2.met in search rules))
