use Prim.Native.Nat.{◌^◌, ◌<◌}
use native.Mathlib.Omega.{arith}
use Rattle.state_bytes.proofs.Cases.{number-of-start, number-of-again, number-of-done, room-start, room, room-again}
use Rattle.state_bytes.proofs.number_of.Goals as goal

pub loop-i-init : goal.loop-i-init
loop-i-init c = (room-start _, number-of-start _ _ _)

pub overflow_mul-v : goal.overflow_mul-v
overflow_mul-v c =
    let p = c.loop-i in
    let small : p.v < 2 ^ 56 = search room in
    omega arith

pub overflow_add-v : goal.overflow_add-v
overflow_add-v c =
    let p = c.loop-i in
    let small : p.v < 2 ^ 56 = search room in
    omega arith

pub loop-i-preserved : goal.loop-i-preserved
loop-i-preserved c = (search room-again, search number-of-again)

pub returns : goal.returns
returns c = search number-of-done
