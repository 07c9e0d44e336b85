-- `ring::next_total` is right because a wrapping sum is what `total_after` says.
use Rattle.std.proofs.Common.{rules}
use Rattle.rules.specs.Queue.{total_after}
use Rattle.ring.proofs.next_total.Goals as goal

pub returns : goal.returns
unfolding total_after
returns c = search rules
