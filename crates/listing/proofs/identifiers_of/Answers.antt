use Rattle.std.proofs.Common.{◌≤◌, length, arith, add-one}
use lib.ListN.{length-set, drop_of_length-le}
use lib.Seq.{drop-cons}
use Rattle.little.proofs.Put.{put-cons, put-nil}
use Rattle.listing.proofs.identifiers_of.Goals as goal

pub loop-i-preserved : goal.loop-i-preserved
loop-i-preserved c =
    let p = c.loop-i.invariant in
    (simp length-set p.0, rw add-one (rw (drop-cons c.args.numbers.now c.loop-i.i 0 (omega arith), put-cons) at p.1))

pub returns : goal.returns
returns c =
    let over : length c.args.numbers.now ≤ c.loop-i.i = omega arith in
    rw (drop_of_length-le c.args.numbers.now over, put-nil) at c.loop-i.invariant.1
