-- `settings::among` is right because it asks each identifier from `from` on.
-- The loop's invariant: `x` is among those from `from` on exactly if it is among those from `i` on. The measure is how many are left.
use mathlib.Core.Path.{◌≡◌}
use Prim.Native.Nat.{◌≤◌, ◌-◌}
use lib.ListN.{length, drop}
use Rattle.rules.specs.Lists.{member}
use Rattle.rules.specs.Settings.{identifiers_of}
use Rattle.settings.proofs.among.Given as goal

abbrev pub invariant-loop-i : goal.invariant-loop-i
invariant-loop-i l = (length l.s.identifiers ≡ 8) × (l.n ≤ 8) × (member l.x (drop l.from (identifiers_of l.s)) ≡ member l.x (drop l.i (identifiers_of l.s)))

abbrev pub decreases-loop-i : goal.decreases-loop-i
decreases-loop-i l = l.n - l.i
