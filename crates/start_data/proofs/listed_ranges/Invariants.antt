-- `start_data::listed_ranges` is right because each turn copies the array with one range more in it (`records_at-again`).
-- The loop's invariant: storing the ranges that are left from place `i` on gives the promised array.
use Prim.Native.Nat.{◌-◌}
use mathlib.Core.Path.{◌≡◌}
use lib.ListN.{length}
use Rattle.little.specs.Little.{put, records_at}
use Rattle.rules.specs.StartData.{range_at, start_size, placed}
use Rattle.start_data.proofs.listed_ranges.Given as goal

abbrev pub invariant-loop-i : goal.invariant-loop-i
invariant-loop-i l =
    (length l.a ≡ 16) × (put l.a l.i (records_at range_at 12 l.s (start_size l.i) (l.n - l.i)) ≡ placed (records_at range_at 12 l.s 8 l.n))
