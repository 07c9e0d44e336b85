use mathlib.Core.Path.{◌≡◌, ◌∙◌}
use Prim.Native.Nat.{◌+◌, ◌-◌, ◌*◌, ◌/◌, min}
use native.Mathlib.Omega.{arith}
use Rattle.bits.specs.Flat.{flat}
use Rattle.bits.proofs.Flat.{flat-length}
use Rattle.bits.proofs.Copy.{copy-none, copy-turn}
use Rattle.bits.proofs.copy_span.Goals as goal

pub returns-then-n-eq0 : goal.returns-then-n-eq0
returns-then-n-eq0 c = let e : c.args.n ≡ 0 = c.if-n-eq0.true in rw e (copy-none _ _ _ _)

pub loop-i-init : goal.loop-i-init
loop-i-init c =
    let a = c.args in
    let e : min a.n (64 * (a.to / 64) - a.to) ≡ 0 = omega arith in
    rw e (copy-none _ _ _ _)

pub loop-i-preserved : goal.loop-i-preserved
loop-i-preserved c =
    let l = c.loop-i in
    let a = c.args in
    let b = c.saturating_sub-b.result in
    copy-turn l.dst (flat a.dst.now) (flat a.src.now) a.to a.from l.i b (min a.n (64 * l.i - a.to)) (c.min.result - b) (min a.n (64 * (l.i + 1) - a.to))
    (a.from + (64 * l.i + b - a.to)) c.mask-m.result c.window.result (omega arith) (omega arith) (omega arith) (omega arith) l.invariant
    (omega (arith, flat-length l.dst, flat-length a.dst.now)) (omega arith) (omega arith) (omega (arith, flat-length a.src.now)) c.mask-m.ensures c.window.ensures

pub returns : goal.returns
returns c =
    let l = c.loop-i in
    let a = c.args in
    let e : min a.n (64 * l.i - a.to) ≡ a.n = omega arith in
    l.invariant ∙ rw e
