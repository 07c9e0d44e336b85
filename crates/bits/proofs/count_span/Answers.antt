use mathlib.Core.Path.{◌≡◌, sym}
use Prim.Native.Nat.{◌+◌, ◌-◌, ◌*◌, ◌/◌, ◌≤◌, max, min}
use native.Mathlib.Omega.{arith}
use lib.Bits.{bit_and}
use lib.Count.{ones}
use lib.ListN.{get_or}
use Rattle.bits.specs.Flat.{flat}
use Rattle.bits.specs.Share.{get_share}
use Rattle.bits.specs.Count.{marks_set}
use Rattle.bits.proofs.Flat.{flat-length}
use Rattle.bits.proofs.Count.{share-le, share-empty, share-done}
use Rattle.bits.proofs.Word.{set-turn}
use Rattle.bits.proofs.count_span.Goals as goal

-- the ones of this turn and the set places that are left are all that were left before it
counted : (c : goal.After-shared_slice_known-in-loop-i-1)
    → let l = c.loop-i in
    let a = c.args in
    let k = max a.from (min a.to (64 * l.i)) in
    let k' = max a.from (min a.to (64 * (l.i + 1))) in
    ones (bit_and (get_or a.words.now l.i 0) c.mask-m.result) + marks_set (get_share (flat a.words.now) k' (a.to - k')) ≡ marks_set (get_share (flat a.words.now) k (a.to - k))
counted c =
    let l = c.loop-i in
    let a = c.args in
    let b = c.saturating_sub-b.result in
    set-turn a.words.now l.i b (c.min.result - b) (max a.from (min a.to (64 * l.i))) (omega arith) (omega arith) (omega arith) c.mask-m.result a.to
    (max a.from (min a.to (64 * (l.i + 1)))) c.mask-m.ensures (omega arith) (omega arith) (c.type_inv.words l.i).fits

-- and the count stays within the span
within : (c : goal.After-shared_slice_known-in-loop-i-1)
    → let a = c.args in
    marks_set (get_share (flat a.words.now) a.from (a.to - a.from)) ≤ a.to - a.from
within c = share-le _ _ _

pub returns-then-to-from : goal.returns-then-to-from
returns-then-to-from c = sym (share-empty _ _ _ c.if-to-from.true)

pub loop-i-init : goal.loop-i-init
loop-i-init c =
    let a = c.args in
    let e : max a.from (min a.to (64 * (a.from / 64))) ≡ a.from = omega arith in
    rw e (omega arith)

pub overflow_cast-n : goal.overflow_cast-n
overflow_cast-n c = omega (arith, counted c, within c)

pub overflow_add-n : goal.overflow_add-n
overflow_add-n c = omega (arith, counted c, within c)

pub loop-i-preserved : goal.loop-i-preserved
loop-i-preserved c = omega (arith, counted c)

pub returns : goal.returns
returns c =
    let l = c.loop-i in
    let a = c.args in
    omega (arith, share-done (flat a.words.now) (max a.from (min a.to (64 * l.i))) a.to (omega (arith, flat-length a.words.now)))
