-- `settings::find` is right because the first identifier that fits answers its place.
-- The loop's invariant: a search from `i` on finds what a search of all finds. The measure is how many identifiers are left.
use mathlib.Core.Path.{◌≡◌}
use Prim.Native.Nat.{◌-◌, min}
use lib.ListN.{length, drop}
use Rattle.rules.specs.Lists.{place_from}
use Rattle.rules.specs.Settings.{identifiers_of}
use Rattle.settings.proofs.find.Given as goal

abbrev pub invariant-loop-i : goal.invariant-loop-i
invariant-loop-i l = (length l.s.identifiers ≡ 8) × (l.i-end ≡ min l.s.count 8) × (place_from 0 (identifiers_of l.s) l.id ≡ place_from l.i (drop l.i (identifiers_of l.s)) l.id)

abbrev pub decreases-loop-i : goal.decreases-loop-i
decreases-loop-i l = l.i-end - l.i
