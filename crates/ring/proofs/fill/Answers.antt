-- `ring::fill` is right because one number below 2^32 leads from the entries taken to those posted (`fill_of-is`).
use Rattle.std.proofs.Common.{rules}
use Rattle.rules.specs.Queue.{fill_of}
use Rattle.ring.proofs.fill.Goals as goal

pub returns : goal.returns
unfolding fill_of
returns c = search rules
