use mathlib.Core.Path.{refl, ap, ◌∙◌}
use native.Mathlib.Omega.{arith}
use lib.ListN.{length, get_or}
use borrow.Author.Tests.{ltb-true, ltb-false}
use Rattle.bits.specs.Flat.{flat}
use Rattle.bits.proofs.Flat.{flat-length}
use Rattle.pool.proofs.Pool.{packing-none, packing-fits, packing-kept, packing-clear, packing-empty, packing-all}
use Rattle.pool.proofs.pack.Goals as goal
use Rattle.pool.proofs.pack.Goals.{then-i-clear+then-n-gt0, else-i-clear, else-i-clear-via-then-i-clear+else-n-gt0, else-i-clear-via-else-i-clear}

pub loop-i-init : goal.loop-i-init
loop-i-init c =
    let a = c.args in
    (packing-none (flat a.marks.now) a.bases a.sizes a.clear 256 (omega (arith, flat-length a.marks.now)), refl)

pub copy_span-requires : goal.copy_span-requires
copy_span-requires c =
    let l = c.loop-i in
    let m = flat c.args.marks.now in
    omega (
      arith,
      flat-length c.args.marks.now,
      packing-fits m c.args.bases c.args.sizes c.args.clear c.requires.1 l.invariant.0 (omega arith),
      c.requires.1.inside l.i (omega arith) c.if-i-clear.true (ltb-true _ _ c.if-n-gt0.true-raw),
    )

pub overflow_add-to : goal.overflow_add-to
overflow_add-to c =
    let l = c.loop-i in
    let m = flat c.args.marks.now in
    omega (arith, flat-length c.args.marks.now, packing-fits m c.args.bases c.args.sizes c.args.clear c.requires.1 l.invariant.0 (omega arith))

pub loop-i-preserved : goal.loop-i-preserved
loop-i-preserved c =
    let l = c.loop-i in
    let m = flat c.args.marks.now in
    elim c.if-i-clear.branch [
      | then-i-clear+then-n-gt0 w ↦ (
        packing-kept m c.args.bases c.args.sizes c.args.clear c.requires.1 l.invariant.0 (omega arith) _ w.if-i-clear.true (ap flat w.new-is ∙ w.copy_span.ensures),
        omega (arith, ap length w.new-is),
      )
      | else-i-clear w ↦ (
        elim w.else-i-clear.branch [
          | else-i-clear-via-then-i-clear+else-n-gt0 v ↦
              packing-empty m c.args.bases c.args.sizes c.args.clear c.requires.1 l.invariant.0 (omega arith) _ (omega (arith, ltb-false 0 (get_or c.args.sizes l.i 0) v.if-n-gt0.false-raw)) (ap flat w.new-is)
          | else-i-clear-via-else-i-clear v ↦ packing-clear m c.args.bases c.args.sizes c.args.clear c.requires.1 l.invariant.0 (omega arith) _ v.if-i-clear.false (ap flat w.new-is)
        ],
        ap length w.new-is ∙ l.invariant.1,
      )
    ]

pub returns : goal.returns
returns c =
    let l = c.loop-i in
    ap flat c.copy_from_slice.ensures.after ∙ packing-all (flat c.args.marks.now) c.args.bases c.args.sizes c.args.clear l.invariant.0 (omega arith)
