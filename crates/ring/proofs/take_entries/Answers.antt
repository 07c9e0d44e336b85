use Rattle.std.proofs.Common.{arith}
use Rattle.ring.proofs.Loops.{taken_start, taken-again}
use Rattle.ring.proofs.take_entries.Goals as goal

pub loop-i-init : goal.loop-i-init
loop-i-init c = taken_start _ _ _ _

pub loop-i-preserved : goal.loop-i-preserved
loop-i-preserved c =
    let l = c.loop-i in
    let oldest = c.place_after-oldest in
    taken-again _ l.buffer _ _ _ _ l.i oldest.result (omega arith) (omega arith) oldest.ensures.0 oldest.ensures.1 (omega arith) c.copy_from_slice.ensures.after l.invariant
