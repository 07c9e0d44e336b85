-- `record::walk` is right because it walks on by one controller after another, as many as are in use; each weighs at most 65,536, so no sum wraps.
-- The loop's invariant: the walk has reached the first i controllers (`Reached`).
use mathlib.Core.Path.{◌≡◌}
use Prim.Native.Nat.{◌≤◌}
use lib.ListN.{length}
use Rattle.record.proofs.WalkLaws.{Reached}
use Rattle.record.proofs.walk.Given as goal

abbrev pub invariant-loop-i : goal.invariant-loop-i
invariant-loop-i l = (length l.d.controllers ≡ 8) × (l.d.settings.count ≤ 8) × (l.s ≡ l.d.settings) × (l.s.greatest ≤ 20) × Reached l.d l.i l.w
