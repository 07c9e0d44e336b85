use Prim.Native.Nat.{◌+◌, ◌*◌}
use Rattle.std.proofs.Common.{◌≡◌, arith}
use lib.ListN.{length-set}
use Rattle.little.proofs.Records.{records_at-again, records_at-done}
use Rattle.listing.proofs.ranges_of.Goals as goal

pub loop-i-preserved : goal.loop-i-preserved
loop-i-preserved c =
    let p = c.loop-i.invariant in
    let e : 0 + 2 * c.loop-i.i ≡ 2 * c.loop-i.i = omega arith in
    (simp length-set p.0, omega arith, records_at-again _ _ _ _ _ _ _ _ _ (omega arith) (rw e) p.2)

pub returns : goal.returns
returns c = search records_at-done
