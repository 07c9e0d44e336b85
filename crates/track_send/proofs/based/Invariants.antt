-- `track_send::based` is right: each controller that has a share is given its new place, one after another.
use mathlib.Core.Path.{◌≡◌}
use Prim.Native.Nat.{◌≤◌}
use lib.ListN.{length}
use Rattle.track_send.proofs.PackLaws.{Based}
use Rattle.track_send.proofs.based.Given as goal

abbrev pub invariant-loop-i : goal.invariant-loop-i
invariant-loop-i l =
    (length l.initial.e.controllers ≡ 8) × (l.i ≤ 8) × (l.e.settings ≡ l.initial.e.settings) × (l.e.sequence ≡ l.initial.e.sequence) × Based l.sizes l.initial.e.controllers l.e.controllers l.i
