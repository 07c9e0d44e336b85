-- `bits::clear_span` is right: each turn clears the span's places within one word. The loop's invariant: what is left, from word i on, makes of
-- the words as they are now what is promised of the words at entry. Assumes nothing.
use mathlib.Core.Path.{◌≡◌}
use mathlib.Core.Bool.{false}
use Prim.Native.Nat.{◌-◌, ◌*◌, max, min}
use Rattle.bits.specs.Flat.{flat}
use Rattle.bits.specs.Span.{fill}
use Rattle.bits.proofs.clear_span.Given as goal

abbrev pub invariant-loop-i : goal.invariant-loop-i
invariant-loop-i l =
    let k = max l.from (min l.to (64 * l.i)) in
    fill false (flat l.words) k (l.to - k) ≡ fill false (flat l.initial.words) l.from (l.to - l.from)
