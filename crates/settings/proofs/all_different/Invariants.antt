-- `settings::all_different` is right because each identifier is looked for among those after it.
-- The loop's invariant: all are different exactly if those from `i` on are. The measure is how many are left.
use mathlib.Core.Path.{◌≡◌}
use Prim.Native.Nat.{◌≤◌, ◌-◌}
use lib.ListN.{length, drop}
use Rattle.rules.specs.Lists.{different}
use Rattle.rules.specs.Settings.{identifiers_of}
use Rattle.settings.proofs.all_different.Given as goal

abbrev pub invariant-loop-i : goal.invariant-loop-i
invariant-loop-i l = (length l.s.identifiers ≡ 8) × (l.n ≤ 8) × (different (identifiers_of l.s) ≡ different (drop l.i (identifiers_of l.s)))

abbrev pub decreases-loop-i : goal.decreases-loop-i
decreases-loop-i l = l.n - l.i
