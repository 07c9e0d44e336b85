-- `plain::clear` is right: each turn makes one byte more 0, which is its invariant. The measure is the bytes that are left. Assumes nothing.
use mathlib.Core.Path.{◌≡◌}
use Prim.Native.Nat.{◌-◌, ◌≤◌}
use lib.ListN.{length}
use Rattle.plain.specs.Bytes.{cleared_bytes}
use Rattle.plain.proofs.clear.Given as goal

abbrev pub invariant-loop-unit : goal.invariant-loop-unit
invariant-loop-unit l = (l.unit ≤ l.n) × (length l.area ≡ length l.initial.area) × (l.area ≡ cleared_bytes l.initial.area l.base l.unit)

abbrev pub decreases-loop-unit : goal.decreases-loop-unit
decreases-loop-unit l = l.n - l.unit
