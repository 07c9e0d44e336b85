-- `controller_state::part_refusal` is right: its tests are those of its table, in that order, and where a part follows, what `judge` sees is the whole that it
-- makes. Assumes nothing.
use mathlib.Core.Path.{◌≡◌, sym, ◌∙◌}
use mathlib.Core.Bool.{Bool, ◌&&◌, ◌||◌, not, cond}
use Prim.Native.Nat.{ℕ, ◌+◌, ◌≤◌}
use native.Mathlib.Omega.{arith}
use lib.Dec.{leb}
use lib.ListN.{length}
use borrow.Author.Tests.{le-leb, lt-leb}
use Rattle.rules.specs.Refusals.{refusal}
use Rattle.rules.specs.ControllerState.{state_most, state_ok}
use Rattle.rules.specs.Order.{last_by, part_tests}
use Rattle.record.specs.Record.{arriving_in}
use Rattle.state_bytes.specs.Parts.{assembled}
use Rattle.controller_state.specs.Inner.{part_of}
use Rattle.controller_state.proofs.ArrivalLaws.{offset-within, part_next, part-whole}
use Rattle.controller_state.proofs.part_refusal.Goals as goal
use Rattle.controller_state.proofs.part_refusal.Goals.{Else-not-is_next, else-is_last-via-then-is_last+else-not-judge, else-is_last-via-else-is_last}

-- past 26
whole : (c : Else-not-is_next)
    → let a = c.args in
    cond (leb (a.part.low + length a.part.bytes.now) state_most && (not (last_by a.part.indicator) || state_ok (assembled a.area.now a.part.low a.part.bytes.now))) 0 27
    ≡ refusal (part_tests (arriving_in a.q a.area.now a.id) (part_of a.part))
whole c =
    let a = c.args in
    part-whole a.q a.area.now a.id (part_of a.part) (sym c.if-is_others.ensures) (sym c.if-not-offset_ok.ensures) (sym c.if-not-data_ok.ensures) c.requires.0 c.requires.1 (sym c.if-not-is_next.ensures)

pub returns-then-not-is_next : goal.returns-then-not-is_next
returns-then-not-is_next c =
    let a = c.args in
    part_next a.q a.area.now a.id (part_of c.args.part) (sym c.if-is_others.ensures) (sym c.if-not-offset_ok.ensures) (sym c.if-not-data_ok.ensures) (sym c.if-not-is_next.ensures)

pub returns-then-part-offset : goal.returns-then-part-offset
returns-then-part-offset c =
    let a = c.args in
    sym (rw (lt-leb (a.part.low + length a.part.bytes.now) 4096 (omega arith))) ∙ whole (goal.at.returns-then-part-offset c).Else-not-is_next

-- the whole is not above the area, and where it is the last part's it has to be a state
verdict : (n : ℕ) → n ≤ 4096 → (last ok : Bool) → ◌≡◌ {A = ℕ} (cond (leb n state_most && (not last || ok)) 0 27) (cond (not last || ok) 0 27)
verdict n h last ok = rw (le-leb n 4096 h)

pub returns-then-not-judge : goal.returns-then-not-judge
returns-then-not-judge c =
    let a = c.args in
    sym (verdict (a.part.low + length a.part.bytes.now) (omega (arith, offset-within a.part.low a.part.high (sym c.if-not-offset_ok.ensures))) (last_by a.part.indicator) _ ∙ rw (sym c.if-is_last.ensures, sym c.if-not-judge.ensures)) ∙ whole (goal.at.returns-then-not-judge c).Else-not-is_next

pub returns : goal.returns
returns c =
    let a = c.args in
    sym
    (verdict (a.part.low + length a.part.bytes.now) (omega (arith, offset-within a.part.low a.part.high (sym c.if-not-offset_ok.ensures))) (last_by a.part.indicator) (state_ok (assembled a.area.now a.part.low a.part.bytes.now))
    ∙ elim c.else-is_last.branch [
      | else-is_last-via-then-is_last+else-not-judge w ↦ rw (sym w.if-is_last.ensures, sym w.if-not-judge.ensures)
      | else-is_last-via-else-is_last w ↦ rw (sym w.if-is_last.ensures)
    ])
    ∙ whole (goal.at.returns c).Else-not-is_next
