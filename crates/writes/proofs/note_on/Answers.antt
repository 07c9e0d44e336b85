-- `writes::note_on` is right: it refuses as its table says, and marks the spans of touched units, which are the units that the rules mark. Assumes nothing.
use mathlib.Core.Path.{◌≡◌, refl, sym, ap}
use Prim.Native.Nat.{ℕ, ◌+◌, ◌-◌, ◌^◌, ◌≤◌}
use native.Mathlib.Omega.{arith}
use lib.ListN.{length}
use borrow.Author.Rules.{rules}
use Rattle.rules.proofs.LoopLaws.{length-mapped}
use Rattle.rules.proofs.RefusalLaws.{number_of-pos}
use Rattle.marking.specs.Note.{write_to}
use Rattle.calls.proofs.Answers.{leaves, leaves-unchanged}
use Rattle.calls.proofs.OutcomeLaws.{written-refused}
use Rattle.writes.specs.Inner.{Lies}
use Rattle.writes.proofs.WriteLaws.{note-passes, on-refused, on-off, on-empty, on-done}
use Rattle.writes.proofs.note_on.Goals as goal
use Rattle.writes.proofs.note_on.Goals.{In-On, Start}

sixteen : (c : Start) → length c.args.c.ranges ≡ 16
sixteen c = search (length-mapped, rules)

-- the written range ends within memory
within : (c : In-On) → let a = c.args in a.at + a.bytes.0 ≤ 2 ^ 64
within c =
    let a = c.args in
    (note-passes a.c.suspended (record { address = a.at; bytes = a.bytes.0 }) (sym c.in_ok-note_refusal.ensures)).1

-- what a tracked one holds
lies : (c : In-On)
    → let a = c.args in
    Lies c.in-On.g c.in-On.n a.c.ranges a.marks.now a.c.base
lies c =
    let e : length c.args.c.ranges ≡ 16 = search (length-mapped, rules) in
    c.requires (omega arith) _ _ c.in-On.is

pub returns-in_err-note_refusal : goal.returns-in_err-note_refusal
returns-in_err-note_refusal c =
    leaves _ _ _ _ _ (on-refused _ _ _ _ _ _ c.in_err-note_refusal.ensures (number_of-pos _)) (written-refused _ _ c.from_residual.ensures.1) refl

pub returns-then-bytes-eq0 : goal.returns-then-bytes-eq0
returns-then-bytes-eq0 c =
    leaves-unchanged _ _ _
    (on-empty _ _ _ _ _ c.in_ok-note_refusal.ensures refl (c.requires (omega (arith, sixteen (goal.at.returns-then-bytes-eq0 c).Start))) (λ i. (c.type_inv.marks i).fits) c.if-bytes-eq0.true)

pub returns-in_default : goal.returns-in_default
returns-in_default c = leaves-unchanged _ _ _ (on-off _ _ _ _ _ _ c.in_ok-note_refusal.ensures refl c.in_default.is)

pub overflow_add-last : goal.overflow_add-last
overflow_add-last c = omega (arith, within (goal.at.overflow_add-last c).In-On, c.if-bytes-eq0.false)

pub mark_ranges-requires : goal.mark_ranges-requires
mark_ranges-requires c = (lies (goal.at.mark_ranges-requires c).In-On).within

pub invariant_of-rows : goal.invariant_of-rows
invariant_of-rows c =
    let l = lies (goal.at.invariant_of-rows c).In-On in
    record { small = l.small; few = l.few; ok = l.rows }

pub returns : goal.returns
returns c =
    let a = c.args in
    let w : write_to a.at (a.at + (a.bytes.0 - 1)) ≡ record { address = a.at; bytes = a.bytes.0 } =
    let e : a.at + (a.bytes.0 - 1) - a.at + 1 ≡ a.bytes.0 = omega (arith, c.if-bytes-eq0.false) in
    ap (λ (b : ℕ). record { address = a.at; bytes = b }) e in
    let r = c.mark_ranges in
    leaves-unchanged _ _ _ (on-done _ a.marks.now _ _ _ c.in_ok-note_refusal.ensures refl _ _ c.in-On.is _ _
    (λ i. (c.type_inv.marks i).fits) r.auto.marks (rw w at r.ensures.0) (rw w at r.ensures.1))
