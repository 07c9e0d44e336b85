-- `ranges::powers_ok` is right because where the rule is on it asks each range's length.
-- The loop's invariant: the first n lengths are powers of two exactly if those from `i` on are. The measure is how many are left.
use mathlib.Core.Path.{◌≡◌}
use Prim.Native.Nat.{◌≤◌, ◌-◌}
use lib.ListN.{length, take, drop}
use Rattle.rules.specs.Lists.{all}
use Rattle.rules.specs.Ranges.{is_power}
use Rattle.ranges.proofs.powers_ok.Given as goal

abbrev pub invariant-loop-i : goal.invariant-loop-i
invariant-loop-i l =
    (length l.ranges ≡ 16) × (l.n ≤ 16) × (all (λ r. is_power r.length) (take l.n l.ranges) ≡ all (λ r. is_power r.length) (drop l.i (take l.n l.ranges)))

abbrev pub decreases-loop-i : goal.decreases-loop-i
decreases-loop-i l = l.n - l.i
