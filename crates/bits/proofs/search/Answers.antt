use mathlib.Core.Path.{◌≡◌, sym, ap, ◌∙◌}
use Prim.Native.Nat.{ℕ, ◌+◌, ◌*◌, max, min}
use native.Mathlib.Omega.{arith}
use lib.ListN.{get_or}
use Rattle.bits.specs.Flat.{digits, flat}
use Rattle.bits.specs.Next.{next}
use Rattle.bits.proofs.Flat.{flat-length}
use Rattle.bits.proofs.Next.{next-high, next-none, next-past-set, next-past-clear}
use Rattle.bits.proofs.Low.{low-found, low-none}
use Rattle.bits.proofs.search.Goals as goal
use Rattle.bits.proofs.search.Goals.{then-want-via-then-want, then-want-via-else-want+then-last-words}

pub returns-then-to-from : goal.returns-then-to-from
returns-then-to-from c = sym (next-none _ _ _ _ c.if-to-from.true)

pub overflow_add-i : goal.overflow_add-i
overflow_add-i c = omega (arith, next-high c.args.want (digits 64 (get_or c.args.words.now c.loop-i.i 0)) c.loop-i.b 64)

pub returns-then-z-ne64 : goal.returns-then-z-ne64
returns-then-z-ne64 c =
    let a = c.args in
    let i = c.loop-i.i in
    let b = c.loop-i.b in
    let z = c.low_from-z in
    let here : 64 * i + b ≡ max a.from (64 * i) = omega (arith, c.loop-i.invariant.2) in
    let least : c.min.result ≡ min (64 * i + z.result) a.to = omega arith in
    least ∙ low-found a.want a.words.now i b z.result a.to (omega (arith, c.loop-i.invariant.2)) (omega (arith, c.loop-i.invariant.2)) z.ensures c.if-z-ne64.true
    ∙ ap (λ (p : ℕ). next a.want (flat a.words.now) p a.to) here ∙ c.loop-i.invariant.0

pub loop-i-preserved : goal.loop-i-preserved
loop-i-preserved c =
    let a = c.args in
    let i = c.loop-i.i in
    let b = c.loop-i.b in
    let z = c.low_from-z in
    let here : 64 * i + b ≡ max a.from (64 * i) = omega (arith, c.loop-i.invariant.2) in
    let there : max a.from (64 * (i + 1)) ≡ 64 * (i + 1) = omega arith in (
      ap (λ (p : ℕ). next a.want (flat a.words.now) p a.to) there
          ∙ low-none a.want a.words.now i b z.result a.to (omega (arith, c.loop-i.invariant.2)) (omega (arith, c.loop-i.invariant.2)) z.ensures c.if-z-ne64.false
          ∙ ap (λ (p : ℕ). next a.want (flat a.words.now) p a.to) here ∙ c.loop-i.invariant.0,
      omega arith,
      omega arith,
    )

pub returns-then-want : goal.returns-then-want
returns-then-want c =
    let a = c.args in
    let l = c.loop-i in
    sym (elim c.then-want.branch [
      | then-want-via-then-want w ↦
          next-past-set a.want (flat a.words.now) (max a.from (64 * l.i)) a.to w.if-want.true (omega (arith, flat-length a.words.now))
      | then-want-via-else-want+then-last-words w ↦ next-none a.want (flat a.words.now) (max a.from (64 * l.i)) a.to (omega arith)
    ])
    ∙ l.invariant.0

pub returns : goal.returns
returns c =
    let a = c.args in
    let l = c.loop-i in
    let there : c.max.result ≡ max a.from (64 * l.i) = omega arith in
    there ∙ sym (next-past-clear a.want (flat a.words.now) (max a.from (64 * l.i)) a.to c.if-want.false (omega (arith, flat-length a.words.now)) (omega arith)) ∙ l.invariant.0
