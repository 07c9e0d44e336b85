-- `bits::count_span` is right: each turn counts the ones of `w & m`, which are the set places of the span within one word. The loop's invariant: the count so far and
-- the set places from word i on are all. Assumes nothing.
use mathlib.Core.Path.{◌≡◌}
use Prim.Native.Nat.{◌+◌, ◌-◌, ◌*◌, max, min}
use Rattle.bits.specs.Flat.{flat}
use Rattle.bits.specs.Share.{get_share}
use Rattle.bits.specs.Count.{marks_set}
use Rattle.bits.proofs.count_span.Given as goal

abbrev pub invariant-loop-i : goal.invariant-loop-i
invariant-loop-i l =
    let k = max l.from (min l.to (64 * l.i)) in
    l.n + marks_set (get_share (flat l.words) k (l.to - k)) ≡ marks_set (get_share (flat l.words) l.from (l.to - l.from))
