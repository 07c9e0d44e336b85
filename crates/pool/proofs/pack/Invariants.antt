-- `pool::pack` is right: the shares are joined in a local array, which is clear at first, from the marks as they were at entry, and stored over
-- them at the end. The loop's invariant: the first i shares are packed, and the next goes to `to`. Assumes nothing.
use mathlib.Core.Path.{◌≡◌}
use lib.ListN.{length}
use Rattle.bits.specs.Flat.{flat}
use Rattle.pool.proofs.Pool.{Packing}
use Rattle.pool.proofs.pack.Given as goal

abbrev pub invariant-loop-i : goal.invariant-loop-i
invariant-loop-i l = Packing (flat l.marks) l.bases l.sizes l.clear (flat l.new) l.to l.i × (length l.new ≡ 256)
