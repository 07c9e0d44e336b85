-- `bits::mask` is right: `u64::MAX >> (64 - n)` is n ones, and no one is lost where b + n is at most 64.
-- Assumes nothing.
use Rattle.bits.proofs.Word.{mask_is}
use Rattle.bits.proofs.mask.Goals as goal

pub returns : goal.returns
returns c = mask_is c.args.b c.args.n c.requires.1
