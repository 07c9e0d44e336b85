-- `bits::search` is right: each turn looks at one word, from its first place at or above `from` up. The loop's invariant: the search from there has the
-- answer of the search from `from`; no word past the last one that is asked for is come to; and b is that place's bit. Assumes nothing.
use mathlib.Core.Path.{◌≡◌}
use Prim.Native.Nat.{◌-◌, ◌*◌, ◌/◌, ◌≤◌, max}
use Rattle.bits.specs.Flat.{flat}
use Rattle.bits.specs.Next.{next}
use Rattle.bits.proofs.search.Given as goal

abbrev pub invariant-loop-i : goal.invariant-loop-i
invariant-loop-i l =
    (next l.want (flat l.words) (max l.from (64 * l.i)) l.to ≡ next l.want (flat l.words) l.from l.to) × (l.i ≤ max (l.from / 64) l.i-end) × (l.b ≡ l.from - 64 * l.i)
