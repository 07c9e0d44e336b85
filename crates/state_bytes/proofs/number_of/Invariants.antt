-- `state_bytes::number_of` is right because each turn puts one byte below those that are read, from the highest down.
-- The loop's invariant: `v` is the number in the bytes from `i` on, and has no more bytes than those.
use Prim.Native.Nat.{◌+◌, ◌-◌, ◌^◌, ◌<◌}
use mathlib.Core.Path.{◌≡◌}
use Rattle.little.specs.Little.{number_at}
use Rattle.state_bytes.specs.Parts.{assembled}
use Rattle.state_bytes.proofs.number_of.Given as goal

abbrev pub invariant-loop-i : goal.invariant-loop-i
invariant-loop-i l =
    (l.v < 256 ^ (l.width - l.i)) × (l.v ≡ number_at (assembled l.area l.offset l.data) (l.at + l.i) (l.width - l.i))
