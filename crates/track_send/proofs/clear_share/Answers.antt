-- `track_send::clear_share` is right: the span that is cleared is the share, and the words with those bits are these. Assumes nothing.
use borrow.Author.Rules.{rules}
use Rattle.track_send.proofs.StopLaws.{cleared}
use mathlib.Core.Path.{◌≡◌, ap, ◌∙◌}
use mathlib.Core.Bool.{false}
use Prim.Native.Nat.{◌+◌, ◌-◌}
use native.Mathlib.Omega.{arith}
use Rattle.bits.specs.Flat.{flat}
use Rattle.bits.specs.Span.{fill}
use Rattle.track_send.proofs.clear_share.Goals as goal

pub returns : goal.returns
returns c =
    let m = c.clear_span in
    let a = c.args in
    let whole : a.base + a.n - a.base ≡ a.n = omega arith in
    cleared _ m.new.words _ _ m.auto.words (λ i. search rules) (m.ensures ∙ ap (fill false (flat a.marks.now) a.base) whole)
