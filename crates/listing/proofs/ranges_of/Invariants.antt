-- `listing::ranges_of` is right because each turn copies the array with one pair more in it (`records_at-again`).
-- The loop's invariant: storing the pairs that are left from place `i` on gives the promised array.
use Prim.Native.Nat.{◌+◌, ◌*◌, ◌/◌, ◌-◌, ◌≤◌}
use mathlib.Core.Path.{◌≡◌}
use lib.ListN.{length}
use Rattle.little.specs.Little.{put, records_at}
use Rattle.rules.specs.StartData.{placed}
use Rattle.listing.specs.Listing.{pair_at}
use Rattle.listing.proofs.ranges_of.Given as goal

abbrev pub invariant-loop-i : goal.invariant-loop-i
invariant-loop-i l =
    (length l.ranges ≡ 16) × (l.i ≤ length l.numbers / 2) × (put l.ranges l.i (records_at pair_at 2 l.numbers (0 + 2 * l.i) (length l.numbers / 2 - l.i)) ≡ placed (records_at pair_at 2 l.numbers 0 (length l.numbers / 2)))
