-- `track_send::together` is right: what was added and what is left are all sizes.
use mathlib.Core.Path.{◌≡◌}
use mathlib.Core.List.{map}
use Prim.Native.Nat.{◌+◌}
use lib.ListN.{drop}
use Rattle.rules.specs.Lists.{sum}
use Rattle.rules.specs.declared.Share.{Share}
use Rattle.track_send.proofs.together.Given as goal

abbrev pub invariant-loop-share : goal.invariant-loop-share
invariant-loop-share l =
    l.total + sum (map (λ (a : Share). a.size) (drop l.share-index l.share-items)) ≡ sum (map (λ (a : Share). a.size) l.share-items)
