-- `bits::mark_span` is right: each turn marks the span's places within one word, and counts the ones of `!w & m`, which are the clear
-- places among them. The loop's invariant: what is left, from word i on, makes of the words and the count as they are now what is promised of
-- the words at entry. Assumes nothing.
use mathlib.Core.Path.{◌≡◌}
use mathlib.Core.Bool.{true}
use Prim.Native.Nat.{◌+◌, ◌-◌, ◌*◌, max, min}
use Rattle.bits.specs.Flat.{flat}
use Rattle.bits.specs.Span.{fill, clears}
use Rattle.bits.proofs.mark_span.Given as goal

abbrev pub invariant-loop-i : goal.invariant-loop-i
invariant-loop-i l =
    let k = max l.from (min l.to (64 * l.i)) in
    (fill true (flat l.words) k (l.to - k) ≡ fill true (flat l.initial.words) l.from (l.to - l.from))
    × (l.n + clears (flat l.words) k (l.to - k) ≡ clears (flat l.initial.words) l.from (l.to - l.from))
