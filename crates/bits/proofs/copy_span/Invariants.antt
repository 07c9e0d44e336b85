-- `bits::copy_span` is right: each turn stores the places of the span that lie within one word of `dst`. The loop's invariant: the places of
-- the words before word i are copied. Assumes nothing.
use mathlib.Core.Path.{◌≡◌}
use Prim.Native.Nat.{◌-◌, ◌*◌, min}
use Rattle.bits.specs.Flat.{flat}
use Rattle.bits.specs.Share.{get_share, put_share}
use Rattle.bits.proofs.copy_span.Given as goal

abbrev pub invariant-loop-i : goal.invariant-loop-i
invariant-loop-i l = flat l.dst ≡ put_share (flat l.initial.dst) l.to (get_share (flat l.src) l.from (min l.n (64 * l.i - l.to)))
