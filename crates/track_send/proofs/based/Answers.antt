use mathlib.Core.Path.{refl, ap, ◌∙◌}
use native.Mathlib.Omega.{arith}
use lib.ListN.{get_or}
use borrow.Author.Rules.{rules}
use Rattle.calls.specs.Calls.{packed_from}
use Rattle.pool.proofs.Pool.{new_bases-at, new_base-next}
use Rattle.rules.proofs.LoopLaws.{length-mapped}
use Rattle.track_send.proofs.PackLaws.{based-none, based-moved, based-left, based-all, device-is}
use Rattle.track_send.proofs.based.Goals as goal
use Rattle.track_send.proofs.based.Goals.{then-sizes-i-ne0, else-sizes-i-ne0}

pub loop-i-init : goal.loop-i-init
loop-i-init c = (search (length-mapped, rules), omega arith, refl, refl, based-none _ _)

pub overflow_cast-e : goal.overflow_cast-e
overflow_cast-e c =
    let p = c.requires in
    let i = c.loop-i.i in
    let sizes = c.args.sizes in
    let e = ap (λ l. get_or l i 0) p.0 ∙ new_bases-at sizes i (omega arith) in
    omega (arith, e, new_base-next sizes i 8 (omega arith), p.1)

pub bounds-e-i : goal.bounds-e-i
bounds-e-i c = omega arith

pub loop-i-preserved : goal.loop-i-preserved
loop-i-preserved c =
    let l = c.loop-i in
    let sizes = c.args.sizes in
    let old = c.args.d.controllers in
    elim c.if-sizes-i-ne0.branch [
      | then-sizes-i-ne0 w ↦
          let q = w.e-is in (
            l.invariant.0,
            omega arith,
            ap (λ x. x.settings) q ∙ l.invariant.2,
            ap (λ x. x.sequence) q ∙ l.invariant.3,
            rw q
                (based-moved sizes old l.e.controllers l.i (get_or c.args.bases l.i 0) l.invariant.4 (omega (arith, l.invariant.0)) w.if-sizes-i-ne0.true
                (ap (λ x. get_or x l.i 0) c.requires.0 ∙ new_bases-at sizes l.i (omega arith))),
          )
      | else-sizes-i-ne0 w ↦
          let q = w.e-is in (
            l.invariant.0,
            omega arith,
            ap (λ x. x.settings) q ∙ l.invariant.2,
            ap (λ x. x.sequence) q ∙ l.invariant.3,
            rw q (based-left sizes old l.e.controllers l.i l.invariant.4 w.if-sizes-i-ne0.false),
          )
    ]

pub returns : goal.returns
returns c =
    let l = c.loop-i in
    device-is l.e c.args.d (packed_from c.args.sizes 0 c.args.d.controllers) l.invariant.2 (based-all c.args.sizes c.args.d.controllers l.e.controllers l.i l.invariant.4 (omega (arith, l.invariant.0))) l.invariant.3
