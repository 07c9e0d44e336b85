-- `ring::put_closing` is right because its array is the closing entry.
use Rattle.std.proofs.Common.{rules}
use Rattle.rules.specs.Queue.{closing_entry}
use Rattle.ring.proofs.put_closing.Goals as goal

pub returns : goal.returns
unfolding closing_entry
returns c = search rules
