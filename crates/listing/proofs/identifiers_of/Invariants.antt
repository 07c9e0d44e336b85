-- `listing::identifiers_of` is right because each turn stores one identifier more.
-- The loop's invariant: storing the identifiers that are left from place `i` on gives the promised array.
use Rattle.std.proofs.Common.{◌≡◌, length, drop, replicate}
use Rattle.little.specs.Little.{put}
use Rattle.listing.proofs.identifiers_of.Given as goal

abbrev pub invariant-loop-i : goal.invariant-loop-i
invariant-loop-i l = (length l.identifiers ≡ 8) × (put l.identifiers l.i (drop l.i l.numbers) ≡ put (replicate 8 0) 0 l.numbers)
