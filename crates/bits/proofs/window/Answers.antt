-- `bits::window` is right: at a word's edge the window is that word; elsewhere it is the upper bits of one word and, above them, the
-- lower bits of the next. Assumes nothing.
use Prim.Native.Nat.{◌/◌}
use Rattle.bits.proofs.Copy.{window-edge, window-two}
use Rattle.bits.proofs.window.Goals as goal

pub returns-then-b-eq0 : goal.returns-then-b-eq0
returns-then-b-eq0 c =
    let a = c.args in
    rw c.word_at.ensures (window-edge a.words.now a.k (c.shared_slice_known-1.given (a.k / 64)).fits c.if-b-eq0.true)

pub returns : goal.returns
returns c =
    let a = c.args in
    rw (c.word_at.ensures, c.word_at-2.ensures)
    (window-two a.words.now a.k (c.shared_slice_known-1.given (a.k / 64)).fits c.if-b-eq0.false)
