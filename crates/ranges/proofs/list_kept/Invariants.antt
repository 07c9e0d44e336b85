-- `ranges::list_kept` is right because it asks each range by itself and adds its length, and counts the units where that is above the pool's. Each length is below
-- 2^32, so no sum wraps.
-- The loop's invariant: all of the first n pass by themselves exactly if those from `i` on do, and the sum of their lengths is what was added and the sum of
-- those from `i` on. The measure is how many are left.
use mathlib.Core.Path.{◌≡◌}
use Prim.Native.Nat.{◌≤◌, ◌-◌, ◌+◌, ◌*◌}
use lib.ListN.{length, take, drop}
use Rattle.rules.specs.Lists.{all}
use Rattle.ranges.specs.Kept.{lengths_of}
use Rattle.ranges.proofs.RangeLaws.{each_ok}
use Rattle.ranges.proofs.list_kept.Given as goal

abbrev pub invariant-loop-i : goal.invariant-loop-i
invariant-loop-i l =
    (length l.ranges ≡ 16) × (l.n ≤ 16) × (l.i ≤ l.n) × (l.total ≤ 4294967295 * l.i)
    × (lengths_of (take l.n l.ranges) ≡ l.total + lengths_of (drop l.i (take l.n l.ranges)))
    × (all (each_ok l.s l.g) (take l.n l.ranges) ≡ all (each_ok l.s l.g) (drop l.i (take l.n l.ranges)))

abbrev pub decreases-loop-i : goal.decreases-loop-i
decreases-loop-i l = l.n - l.i
