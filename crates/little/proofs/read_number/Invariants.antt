-- `little::read_number` is right because each turn puts one byte below those that are read, from the highest down.
-- The loop's invariant: `v` is the number in the bytes from `i` on.
use Prim.Native.Nat.{◌+◌, ◌-◌}
use mathlib.Core.Path.{◌≡◌}
use Rattle.little.specs.Little.{number_at}
use Rattle.little.proofs.read_number.Given as goal

abbrev pub invariant-loop-i : goal.invariant-loop-i
invariant-loop-i l = l.v ≡ number_at l.s (l.at + l.i) (l.width - l.i)
