use mathlib.Core.Path.{◌≡◌, refl, sym, ap, ◌∙◌}
use Prim.Native.Nat.{◌+◌, ◌<◌}
use native.Mathlib.Omega.{arith}
use lib.ListN.{get_or, length-set}
use lib.Seq.{take_all}
use Rattle.pool.specs.Pool.{new_base}
use Rattle.pool.proofs.Pool.{words-turn}
use Rattle.plain.proofs.PackLaws.{packing-none, packing-length, packing-kept, packing-clear, packing-room, packing-there, packing-share, packing-all}
use Rattle.plain.proofs.pack.Goals as goal
use Rattle.plain.proofs.pack.Goals.{In-loop-unit, Then-i-new, then-i-new, else-i-new}

-- the next unit's place is within the bytes
room : (c : In-loop-unit) → c.loop-unit.place < 16384
room c =
    let p = c.requires in
    omega (arith, p.0, packing-room _ _ _ _ c.loop-unit.invariant.0 p.1 (omega arith) c.loop-unit-test.true)

-- and so is where its byte is
there : (c : Then-i-new)
    → let a = c.args in
    get_or a.bases c.loop-i.i 0 + c.loop-unit.unit < 16384
there c =
    let p = c.requires in
    omega (arith, p.0, packing-there _ _ _ _ c.loop-unit.invariant.0 p.1 (omega arith) c.loop-unit-test.true c.if-i-new.true)

pub loop-i-init : goal.loop-i-init
loop-i-init c = (packing-none _ _ _ _ 16384 c.requires.0, omega arith)

pub loop-unit-init : goal.loop-unit-init
loop-unit-init c = (c.loop-i.invariant.0, omega arith)

pub overflow_add-packed : goal.overflow_add-packed
overflow_add-packed c = omega (arith, there c)

pub bounds-area-bases : goal.bounds-area-bases
bounds-area-bases c = omega (arith, there (goal.at.bounds-area-bases c).Then-i-new, c.requires.0)

pub bounds-packed-place : goal.bounds-packed-place
bounds-packed-place c = room (goal.at.bounds-packed-place c).In-loop-unit

pub overflow_add-place : goal.overflow_add-place
overflow_add-place c = omega (arith, room (goal.at.overflow_add-place c).In-loop-unit)

pub overflow_step-unit : goal.overflow_step-unit
overflow_step-unit c = omega (arith, room (goal.at.overflow_step-unit c).In-loop-unit)

pub loop-unit-preserved : goal.loop-unit-preserved
loop-unit-preserved c =
    let p = c.loop-unit.invariant.0 in
    let s = c.requires in
    let h = room (goal.at.loop-unit-preserved c).In-loop-unit in (
      elim c.if-i-new.branch [
        | then-i-new w ↦
            rw w.packed-is
            (packing-kept _ _ _ _ p (omega (arith, h, s.0)) w.if-i-new.true (omega (arith, s.0, packing-there _ _ _ _ p s.1 (omega arith) c.loop-unit-test.true w.if-i-new.true)))
        | else-i-new w ↦ rw w.packed-is (packing-clear _ _ _ _ p (omega (arith, h, s.0)) w.if-i-new.false)
      ],
      omega arith,
    )

pub loop-i-preserved : goal.loop-i-preserved
loop-i-preserved c = (packing-share _ _ _ _ c.loop-unit.invariant.0 (omega arith), omega arith)

pub loop-i-2-init : goal.loop-i-2-init
loop-i-2-init c =
    let l = c.loop-i in
    let p = c.requires in
    let e : l.i ≡ 8 = omega arith in
    (refl, p.0, packing-length _ _ _ _ l.invariant.0 (omega (arith, l.invariant.0.next, p.1.fits, ap (new_base c.args.sizes) e)) ∙ p.0)

pub loop-i-2-preserved : goal.loop-i-2-preserved
loop-i-2-preserved c =
    let l = c.loop-i-2 in (
      words-turn l.area _ l.i (omega arith) (omega arith) l.invariant.0,
      length-set l.area l.i _ ∙ l.invariant.1,
      l.invariant.2,
    )

pub returns : goal.returns
returns c =
    let l = c.loop-i-2 in
    let k = c.loop-i in
    sym (take_all l.i l.area (omega arith)) ∙ l.invariant.0 ∙ take_all l.i k.packed (omega arith) ∙ packing-all _ _ _ _ k.invariant.0 (omega arith)
