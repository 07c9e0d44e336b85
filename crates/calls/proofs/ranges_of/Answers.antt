-- `calls::ranges_of` is right: an array of a controller has its places. Assumes nothing.
use mathlib.Core.Path.{refl}
use borrow.Author.Rules.{rules}
use Rattle.rules.proofs.LoopLaws.{length-mapped}
use Rattle.calls.proofs.ranges_of.Goals as goal

pub returns : goal.returns
returns c = (refl, search (length-mapped, rules))
