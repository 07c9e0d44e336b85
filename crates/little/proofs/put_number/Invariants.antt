-- `little::put_number` is right because each turn stores the lowest byte of what is left of the number.
-- The loop's invariant: storing what is left gives the promised buffer.
use Prim.Native.Nat.{◌+◌, ◌-◌}
use mathlib.Core.Path.{◌≡◌}
use Rattle.little.specs.Little.{number_bytes, put}
use Rattle.little.proofs.put_number.Given as goal

abbrev pub invariant-loop-i : goal.invariant-loop-i
invariant-loop-i l = put l.buf (l.at + l.i) (number_bytes (l.width - l.i) l.rest) ≡ put l.initial.buf l.at (number_bytes l.width l.v)
