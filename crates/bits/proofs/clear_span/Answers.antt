use mathlib.Core.Path.{◌≡◌, sym, ◌∙◌}
use mathlib.Core.Bool.{false}
use Prim.Native.Nat.{◌+◌, ◌-◌, ◌*◌, ◌/◌, max, min}
use native.Mathlib.Omega.{arith}
use Rattle.bits.specs.Flat.{flat}
use Rattle.bits.proofs.Flat.{flat-length}
use Rattle.bits.proofs.Span.{fill-empty, fill-done}
use Rattle.bits.proofs.Word.{clear-turn}
use Rattle.bits.proofs.clear_span.Goals as goal

pub returns-then-to-from : goal.returns-then-to-from
returns-then-to-from c = sym (fill-empty false _ _ _ c.if-to-from.true)

pub loop-i-init : goal.loop-i-init
loop-i-init c =
    let a = c.args in
    let e : max a.from (min a.to (64 * (a.from / 64))) ≡ a.from = omega arith in
    rw e

pub loop-i-preserved : goal.loop-i-preserved
loop-i-preserved c =
    let l = c.loop-i in
    let a = c.args in
    let b = c.saturating_sub-b.result in
    clear-turn l.words l.i b (c.min.result - b) (max a.from (min a.to (64 * l.i))) (omega arith) (omega arith) (omega arith) c.mask-m.result a.to
    (max a.from (min a.to (64 * (l.i + 1)))) c.mask-m.ensures (omega arith) (omega arith)
    ∙ l.invariant

pub returns : goal.returns
returns c =
    let l = c.loop-i in
    let a = c.args in
    sym (fill-done false (flat l.words) (max a.from (min a.to (64 * l.i))) a.to (omega (arith, flat-length l.words))) ∙ l.invariant
