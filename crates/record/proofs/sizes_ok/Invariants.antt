-- `record::sizes_ok` is right because it takes each size from the bits that are left.
-- The loop's invariant: all sizes together are within the pool exactly if those from `i` on are within what is left. The measure is how many shares are left.
use mathlib.Core.Path.{◌≡◌}
use mathlib.Core.List.{map}
use Prim.Native.Nat.{◌-◌}
use lib.Dec.{leb}
use lib.ListN.{length, drop}
use Rattle.rules.specs.Lists.{sum}
use Rattle.rules.specs.Settings.{most_units}
use Rattle.record.proofs.sizes_ok.Given as goal

abbrev pub invariant-loop-i : goal.invariant-loop-i
invariant-loop-i l =
    (length l.shares ≡ 8) × (leb (sum (map (λ a. a.size) l.shares)) most_units ≡ leb (sum (map (λ a. a.size) (drop l.i l.shares))) l.left)

abbrev pub decreases-loop-i : goal.decreases-loop-i
decreases-loop-i l = 8 - l.i
