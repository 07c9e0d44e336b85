-- `controller_state::try_set_state` is right: it refuses in the order of its table, and stores an accepted part where its offset says. Assumes nothing.
use mathlib.Core.Path.{◌≡◌, refl, sym, ap, ◌∙◌}
use Prim.Native.Nat.{◌+◌, ◌≤◌}
use native.Mathlib.Omega.{arith}
use lib.ListN.{length}
use Rattle.std.specs.declared.result.Result.TheVariants.{Ok}
use Rattle.rules.proofs.RefusalLaws.{number_of-pos}
use Rattle.record.specs.Record.{where_by}
use Rattle.record.proofs.RecordLaws.{where_is-at, where_by-at, sequence-within}
use Rattle.calls.specs.Calls.{Arrival}
use Rattle.calls.proofs.OutcomeLaws.{state_set-refused}
use Rattle.calls.proofs.PlaceLaws.{placed_by}
use Rattle.controller_state.specs.Inner.{part_of}
use Rattle.controller_state.proofs.ArrivalLaws.{Within, leaves, call-area, call-refused, call-running, call-number, call_fits, call-done}
use Rattle.controller_state.proofs.try_set_state.Goals as goal
use Rattle.controller_state.proofs.try_set_state.Goals.{In_ok-i, In_ok-part_refusal}

-- the place that was found
found : (c : In_ok-i)
    → let a = c.args in
    where_by a.d a.words a.manager a.id ≡ Ok c.in_ok-i.i
found c = sym c.locate_by.ensures ∙ c.in_ok-i.was

-- an open sequence of a sound record ends within the area
ends : (c : In_ok-i) → Within c.args.d.sequence
ends c = sequence-within c.args.d (where_is-at _ _ _ _ (where_by-at _ _ _ _ _ (found c)).1).sound

pub returns-then-area-ne-STATE_BYTES : goal.returns-then-area-ne-STATE_BYTES
returns-then-area-ne-STATE_BYTES c = leaves _ _ _ (call-area _ _ _ _ _ (part_of c.args.part) c.if-area-ne-STATE_BYTES.true)

pub returns-in_err-i : goal.returns-in_err-i
returns-in_err-i c =
    let l = leaves _ _ _ (call-refused _ _ _ _ _ (part_of c.args.part) c.if-area-ne-STATE_BYTES.false _ (sym c.locate_by.ensures ∙ c.in_err-i.was)) in
    (state_set-refused _ _ _ c.from_residual.ensures.1 ∙ l.0, l.1)

pub offset_bounds-d-i : goal.offset_bounds-d-i
offset_bounds-d-i c = omega (arith, placed_by _ _ _ _ _ (found c))

pub bounds-d-i : goal.bounds-d-i
bounds-d-i c = placed_by _ _ _ _ _ (found c)

pub returns-then-not-d-i : goal.returns-then-not-d-i
returns-then-not-d-i c =
    leaves _ _ _ (call-running _ _ _ _ _ (part_of c.args.part) c.if-area-ne-STATE_BYTES.false _ (found (goal.at.returns-then-not-d-i c).In_ok-i) c.if-not-d-i.true)

pub part_refusal-requires : goal.part_refusal-requires
part_refusal-requires c = (omega arith, ends (goal.at.part_refusal-requires c).In_ok-i)

pub returns-in_err-part_refusal : goal.returns-in_err-part_refusal
returns-in_err-part_refusal c =
    let l =
    leaves _ _ _
    (call-number _ _ _ _ _ (part_of c.args.part) c.if-area-ne-STATE_BYTES.false _ (found (goal.at.returns-in_err-part_refusal c).In_ok-i) c.if-not-d-i.false _ c.in_err-part_refusal.ensures (number_of-pos _)) in
    (state_set-refused _ _ _ c.from_residual-in_err-part_refusal.ensures.1 ∙ l.0, l.1)

-- an accepted one fits the area
fits : (c : In_ok-part_refusal) → c.args.part.low + length c.args.part.bytes.now ≤ 4096
fits c =
    let a = c.args in
    let f = sym c.locate_by.ensures ∙ c.in_ok-i.was in
    let w = sequence-within a.d (where_is-at _ _ _ _ (where_by-at _ _ _ _ _ f).1).sound in
    call_fits _ _ _ _ _ (part_of a.part) c.if-area-ne-STATE_BYTES.false _ f c.if-not-d-i.false _ c.in_ok-part_refusal.ensures refl w

pub store-requires : goal.store-requires
store-requires c = omega (arith, fits (goal.at.store-requires c).In_ok-part_refusal, c.if-area-ne-STATE_BYTES.false)

pub overflow_add-offset : goal.overflow_add-offset
overflow_add-offset c = omega (arith, fits (goal.at.overflow_add-offset c).In_ok-part_refusal)

pub accepted-requires : goal.accepted-requires
accepted-requires c = omega (arith, fits (goal.at.accepted-requires c).In_ok-part_refusal)

pub returns : goal.returns
returns c =
    let d = call-done _ _ _ _ _ (part_of c.args.part) c.if-area-ne-STATE_BYTES.false _ (found (goal.at.returns c).In_ok-i) c.if-not-d-i.false _ c.in_ok-part_refusal.ensures refl (ends (goal.at.returns c).In_ok-i) in
    (c.accepted.ensures ∙ sym (ap (λ (y : Arrival). y.answer) d), c.store.ensures ∙ sym (ap (λ (y : Arrival). y.area) d))
