-- `plain::try_stop` is right: it refuses in the order of its table; done, the share's bytes are 0 and the controller is as fresh but for its queue. Assumes nothing.
use mathlib.Core.Path.{◌≡◌, refl, sym, ap, ◌∙◌}
use Prim.Native.Nat.{◌<◌}
use native.Mathlib.Omega.{arith}
use lib.ListN.{length, get_or, take}
use borrow.Author.Rules.{rules}
use Rattle.rules.specs.declared.Tracking.TheVariants.{On}
use Rattle.rules.proofs.LoopLaws.{length-mapped}
use Rattle.ranges.proofs.RangeLaws.{HeldFacts}
use Rattle.record.specs.Record.{no_controller, where_is, where_by}
use Rattle.std.specs.declared.result.Result.TheVariants.{Ok}
use Rattle.record.proofs.RecordLaws.{where_is-at, where_by-at}
use Rattle.calls.specs.Inner.{tracking_by}
use Rattle.calls.proofs.OutcomeLaws.{changed-refused}
use Rattle.calls.proofs.Answers.{leaves, leaves-unchanged}
use Rattle.calls.proofs.PlaceLaws.{tracking_by-on, held_at, share-within}
use Rattle.track_send.proofs.StopLaws.{stop-refused, stop-suspended, stop-off, stop-done}
use Rattle.plain.specs.Bytes.{words_for, in_bytes}
use Rattle.plain.proofs.AreaLaws.{area-whole}
use Rattle.plain.proofs.try_stop.Goals as goal
use Rattle.plain.proofs.try_stop.Goals.{In_ok-i, In-On}

-- the place that was found
found : (c : In_ok-i)
    → let a = c.args in
    where_by a.d (words_for (length a.area.now)) a.manager a.id ≡ Ok c.in_ok-i.i
found c = rw c.words_for.ensures at (sym c.locate_by.ensures ∙ c.in_ok-i.was)

-- whichever manager asks
placed : (c : In_ok-i)
    → let a = c.args in
    where_is a.d (words_for (length a.area.now)) a.id ≡ Ok c.in_ok-i.i
placed c = (where_by-at _ _ _ _ _ (found c)).1

-- it is below 8
below : (c : In_ok-i) → c.in_ok-i.i < 8
below c = (where_is-at _ _ _ _ (placed c)).below

-- the record has its eight controllers
there : (c : In_ok-i) → c.in_ok-i.i < length c.args.d.controllers
there c =
    let e : length c.args.d.controllers ≡ 8 = search (length-mapped, rules) in
    omega (arith, below c)

-- the same, of where a controller was found tracked
found' : (c : In-On) → where_by c.args.d (words_for (length c.args.area.now)) c.args.manager c.args.id ≡ Ok c.in_ok-i.i
found' c = rw c.words_for.ensures at (sym c.locate_by.ensures ∙ c.in_ok-i.was)

placed' : (c : In-On) → where_is c.args.d (words_for (length c.args.area.now)) c.args.id ≡ Ok c.in_ok-i.i
placed' c = (where_by-at _ _ _ _ _ (found' c)).1

there' : (c : In-On) → c.in_ok-i.i < length c.args.d.controllers
there' c =
    let e : length c.args.d.controllers ≡ 8 = search (length-mapped, rules) in
    omega (arith, (where_is-at _ _ _ _ (placed' c)).below)

-- by the manager that asks
by : (c : In-On)
    → tracking_by c.args.manager (get_or c.args.d.controllers c.in_ok-i.i no_controller).tracking (get_or c.args.d.controllers c.in_ok-i.i no_controller).manager ≡ On c.in-On.g c.in-On.n
by c = sym c.tracking_by.ensures ∙ c.in-On.is

tracked : (c : In-On) → (get_or c.args.d.controllers c.in_ok-i.i no_controller).tracking ≡ On c.in-On.g c.in-On.n
tracked c = (tracking_by-on _ (get_or c.args.d.controllers c.in_ok-i.i no_controller).tracking (get_or c.args.d.controllers c.in_ok-i.i no_controller).manager _ _ (by c)).0

-- what a tracked controller of a sound record holds
held : (c : In-On)
    → let n = c.in-On.n in
    HeldFacts c.args.d.settings c.in-On.g n (take n (get_or c.args.d.controllers c.in_ok-i.i no_controller).ranges)
held c = held_at _ _ _ _ (placed' c) (there' c) _ _ (tracked c)

pub returns-in_err-i : goal.returns-in_err-i
returns-in_err-i c =
    leaves _ _ _ _ _ (stop-refused in_bytes _ _ _ _ _ (rw c.words_for.ensures at (sym c.locate_by.ensures ∙ c.in_err-i.was))) (changed-refused _ _ _ c.from_residual.ensures.1) refl

pub offset_bounds-d-i : goal.offset_bounds-d-i
offset_bounds-d-i c = omega (arith, below c)

pub bounds-d-i : goal.bounds-d-i
bounds-d-i c = below c

pub returns-then-c : goal.returns-then-c
returns-then-c c = leaves-unchanged _ _ _ (stop-suspended in_bytes _ _ _ _ _ (found (goal.at.returns-then-c c).In_ok-i) c.if-c.true)

pub returns-in_default : goal.returns-in_default
returns-in_default c = leaves-unchanged _ _ _ (stop-off in_bytes _ _ _ _ _ (found (goal.at.returns-in_default c).In_ok-i) c.if-c.false (sym c.tracking_by.ensures ∙ c.in_default.is))

pub invariant_of-rows : goal.invariant_of-rows
invariant_of-rows c = let h = held (goal.at.invariant_of-rows c).In-On in record { small = h.small; few = h.few; ok = rw c.ranges_of-ranges.ensures.0 h.rows }

-- its bytes lie within the area
pub clear-requires : goal.clear-requires
clear-requires c =
    let r = c.ranges_of-ranges in
    let u = c.units_in-units.ensures.0 in
    let a = c.args in
    omega (arith, rw r.ensures.0 at u, area-whole (length a.area.now) (where_is-at _ _ _ _ (placed' (goal.at.clear-requires c).In-On)).whole, share-within _ _ _ _ (placed' (goal.at.clear-requires c).In-On) (there' (goal.at.clear-requires c).In-On) _ _ (tracked (goal.at.clear-requires c).In-On) (omega (arith, ap length r.ensures.0, r.ensures.1)))

pub forgotten-requires : goal.forgotten-requires
forgotten-requires c = below (goal.at.forgotten-requires c).In_ok-i

pub returns : goal.returns
returns c =
    let a = c.args in
    let r = c.ranges_of-ranges in
    let u = c.units_in-units.ensures.0 in
    leaves _ _ _ _ _ (stop-done in_bytes a.d a.manager a.id a.area.now _ (found' (goal.at.returns c).In-On) _ _ c.if-c.false (by (goal.at.returns c).In-On))
    (rw c.forgotten.ensures) (c.clear.ensures ∙ rw (u, r.ensures.0))
