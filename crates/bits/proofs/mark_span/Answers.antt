use mathlib.Core.Path.{◌≡◌, sym, ◌∙◌}
use mathlib.Core.Bool.{true}
use Prim.Native.Nat.{◌+◌, ◌-◌, ◌*◌, ◌/◌, ◌^◌, ◌≤◌, max, min}
use native.Mathlib.Omega.{arith}
use lib.Bits.{bit_and, bit_or}
use lib.Count.{ones}
use lib.ListN.{get_or, set, length}
use Rattle.bits.specs.Flat.{flat}
use Rattle.bits.specs.Span.{clears}
use Rattle.bits.proofs.Flat.{flat-length}
use Rattle.bits.proofs.Span.{fill-empty, fill-done, clears-le, clears-empty, clears-done}
use Rattle.bits.proofs.Word.{mark-turn, count_turn}
use Rattle.bits.proofs.mark_span.Goals as goal

-- the ones of this turn and the clear places that are left are all that were left before it
counted : (c : goal.After-slice_known-in-loop-i-1)
    → let l = c.loop-i in
    let m = c.mask-m.result in
    let a = c.args in
    let k = max a.from (min a.to (64 * l.i)) in
    let k' = max a.from (min a.to (64 * (l.i + 1))) in
    ones (bit_and ((2 ^ 64 - 1) - get_or l.words l.i 0) m) + clears (flat (set l.words l.i (bit_or (get_or l.words l.i 0) m))) k' (a.to - k') ≡ clears (flat l.words) k (a.to - k)
counted c =
    let l = c.loop-i in
    let a = c.args in
    let b = c.saturating_sub-b.result in
    count_turn l.words l.i b (c.min.result - b) (max a.from (min a.to (64 * l.i))) (omega arith) (omega arith) (omega arith) c.mask-m.result a.to
    (max a.from (min a.to (64 * (l.i + 1)))) c.mask-m.ensures (omega arith) (omega arith) (c.slice_known-in-loop-i-1.given l.i).fits

-- and the count stays within the span
within : (c : goal.After-slice_known-in-loop-i-1)
    → let a = c.args in
    clears (flat a.words.now) a.from (a.to - a.from) ≤ a.to - a.from
within c = clears-le _ _ _

pub returns-then-to-from : goal.returns-then-to-from
returns-then-to-from c = let h = c.if-to-from.true in record { bits = sym (fill-empty true _ _ _ h); count = sym (clears-empty _ _ _ h) }

pub loop-i-init : goal.loop-i-init
loop-i-init c =
    let a = c.args in
    let e : max a.from (min a.to (64 * (a.from / 64))) ≡ a.from = omega arith in
    (rw e, rw e (omega arith))

pub overflow_cast-n : goal.overflow_cast-n
overflow_cast-n c = omega (arith, counted c, within c)

pub overflow_add-n : goal.overflow_add-n
overflow_add-n c = omega (arith, counted c, within c)

pub loop-i-preserved : goal.loop-i-preserved
loop-i-preserved c =
    let l = c.loop-i in
    let a = c.args in
    let b = c.saturating_sub-b.result in (
      mark-turn l.words l.i b (c.min.result - b) (max a.from (min a.to (64 * l.i))) (omega arith) (omega arith) (omega arith) c.mask-m.result a.to
          (max a.from (min a.to (64 * (l.i + 1)))) c.mask-m.ensures (omega arith) (omega arith)
          ∙ l.invariant.0,
      omega (arith, counted c),
    )

pub returns : goal.returns
returns c =
    let l = c.loop-i in
    let a = c.args in
    let k = max a.from (min a.to (64 * l.i)) in
    let past : min (length (flat l.words)) a.to ≤ k = omega (arith, flat-length l.words) in record {
      bits = sym (fill-done true (flat l.words) k a.to past) ∙ l.invariant.0;
      count = omega (arith, clears-done (flat l.words) k a.to past);
    }
