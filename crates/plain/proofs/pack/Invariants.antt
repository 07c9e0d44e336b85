-- `plain::pack` is right: the shares are joined in a local array, which is 0 at first, from the area's bytes as they were at entry, and stored over them at the end. The invariant of
-- the loops over places and units is `Packing`, that of the last loop: the first i bytes are stored. Assumes nothing.
use mathlib.Core.Path.{◌≡◌}
use Prim.Native.Nat.{◌≤◌}
use lib.ListN.{length, take}
use Rattle.plain.proofs.PackLaws.{Packing}
use Rattle.plain.proofs.pack.Given as goal

abbrev pub invariant-loop-unit : goal.invariant-loop-unit
invariant-loop-unit l = Packing l.area l.bases l.sizes l.new l.packed l.place l.i l.unit × (l.unit ≤ l.unit-end)

abbrev pub invariant-loop-i : goal.invariant-loop-i
invariant-loop-i l = Packing l.area l.bases l.sizes l.new l.packed l.place l.i 0 × (l.i ≤ 8)

abbrev pub invariant-loop-i-2 : goal.invariant-loop-i-2
invariant-loop-i-2 l = (take l.i l.area ≡ take l.i l.packed) × (length l.area ≡ 16384) × (length l.packed ≡ 16384)
