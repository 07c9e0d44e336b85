-- `track_receive::try_receive` is right: it refuses in the order of its table, lists the first runs and makes them clear, and stores the header last, when the
-- number of runs and More To Report are known. Assumes nothing.
use mathlib.Core.Path.{◌≡◌, refl, sym, ap, ◌∙◌}
use Prim.Native.Nat.{◌+◌, ◌*◌, ◌<◌, ◌≤◌}
use native.Mathlib.Omega.{arith}
use lib.ListN.{length, get_or, take}
use borrow.Author.Rules.{rules}
use Rattle.rules.specs.Units.{units}
use Rattle.rules.specs.Settings.{mark_words}
use Rattle.rules.specs.declared.Tracking.TheVariants.{On}
use Rattle.rules.specs.declared.Refusal.TheVariants.{Untracked, Short}
use Rattle.rules.specs.declared.Controller.{Controller}
use Rattle.record.specs.Record.{no_controller, where_is, where_by}
use Rattle.std.specs.declared.result.Result.TheVariants.{Ok}
use Rattle.record.proofs.RecordLaws.{where_is-at, where_by-at}
use Rattle.rules.proofs.RefusalLaws.{handed_on}
use Rattle.rules.proofs.LoopLaws.{length-mapped}
use Rattle.ranges.proofs.RangeLaws.{HeldFacts}
use Rattle.calls.specs.Inner.{tracking_by}
use Rattle.calls.specs.Calls.{in_words}
use Rattle.calls.proofs.PlaceLaws.{placed_by, tracking_by-on, held_at, share-within}
use Rattle.track_receive.proofs.ReceiveLaws.{receives-nothing, receive-refused, receive-off, receive-short, receive-done, lists-few, lists-words}
use Rattle.track_receive.proofs.try_receive.Goals as goal
use Rattle.track_receive.proofs.try_receive.Goals.{In_ok-i, In-On}

-- the place that was found
found : (c : In_ok-i) → where_by c.args.d (length c.args.marks.now) c.args.manager c.args.id ≡ Ok c.in_ok-i.i
found c = sym c.locate_by.ensures ∙ c.in_ok-i.was

-- there a controller was found tracked, by the manager that asks
module _ (c : In-On) where
  abbrev it : Controller
  it = get_or c.args.d.controllers c.in_ok-i.i no_controller

  asked : where_by c.args.d (length c.args.marks.now) c.args.manager c.args.id ≡ Ok c.in_ok-i.i
  asked = sym c.locate_by.ensures ∙ c.in_ok-i.was

  placed : where_is c.args.d (length c.args.marks.now) c.args.id ≡ Ok c.in_ok-i.i
  placed = (where_by-at _ _ _ _ _ asked).1

  there : c.in_ok-i.i < length c.args.d.controllers
  there =
      let e : length c.args.d.controllers ≡ 8 = search (length-mapped, rules) in
      omega (arith, placed_by _ _ _ _ _ asked)

  by : tracking_by c.args.manager it.tracking it.manager ≡ On c.in-On.g c.in-On.n
  by = sym c.tracking_by.ensures ∙ c.in-On.is

  tracked : it.tracking ≡ On c.in-On.g c.in-On.n
  tracked = (tracking_by-on _ it.tracking it.manager _ _ by).0

  -- what it holds, and that its marks lie within the words
  held : HeldFacts c.args.d.settings c.in-On.g c.in-On.n (take c.in-On.n it.ranges)
  held = held_at _ _ _ _ placed there _ _ tracked

  fits : length it.ranges ≡ 16 → it.base + length (units c.in-On.g (take c.in-On.n it.ranges)) ≤ 64 * mark_words
  fits e = share-within _ _ _ _ placed there _ _ tracked (omega arith)

pub returns-in_err-i : goal.returns-in_err-i
returns-in_err-i c = receives-nothing _ _ _ _ _ (receive-refused _ _ _ _ _ _ _ (sym c.locate_by.ensures ∙ c.in_err-i.was)) (handed_on _ _ c.from_residual.ensures.1)

pub offset_bounds-d-i : goal.offset_bounds-d-i
offset_bounds-d-i c = omega (arith, placed_by _ _ _ _ _ (found c))

pub bounds-d-i : goal.bounds-d-i
bounds-d-i c = placed_by _ _ _ _ _ (found c)

pub returns-in_default : goal.returns-in_default
returns-in_default c =
    receives-nothing _ Untracked _ _ _ (receive-off _ _ _ _ _ _ _ (found (goal.at.returns-in_default c).In_ok-i) (sym c.tracking_by.ensures ∙ c.in_default.is)) refl

pub returns-then-size-lt32 : goal.returns-then-size-lt32
returns-then-size-lt32 c =
    receives-nothing _ Short _ _ _ (receive-short _ _ _ _ _ _ _ (asked (goal.at.returns-then-size-lt32 c).In-On) _ _ (by (goal.at.returns-then-size-lt32 c).In-On) c.if-size-lt32.true) refl

pub list_runs-listed-requires : goal.list_runs-listed-requires
list_runs-listed-requires c =
    let on = (goal.at.list_runs-listed-requires c).In-On in
    let w = (where_is-at _ _ _ _ (placed on)).whole in
    let f = fits on (ap length (sym c.ranges_of-ranges.ensures.0) ∙ c.ranges_of-ranges.ensures.1) in
    rw c.ranges_of-ranges.ensures.0 (record { within = omega (arith, f, w); small = omega (arith, f) }, omega arith)

pub invariant_of-rows : goal.invariant_of-rows
invariant_of-rows c =
    let h = held (goal.at.invariant_of-rows c).In-On in
    record { small = h.small; few = h.few; ok = rw c.ranges_of-ranges.ensures.0 h.rows }

pub overflow_cast-listed : goal.overflow_cast-listed
overflow_cast-listed c =
    omega (arith, lists-few _ _ _ _ _ _ _ _ _ _ _ (rw c.ranges_of-ranges.ensures.0 at c.list_runs-listed.ensures), fits (goal.at.overflow_cast-listed c).In-On (ap length (sym c.ranges_of-ranges.ensures.0) ∙ c.ranges_of-ranges.ensures.1))

pub returns : goal.returns
returns c =
    let s = rw c.ranges_of-ranges.ensures.0 at c.list_runs-listed.ensures in
    receive-done in_words _ _ _ _ _ _ (asked (goal.at.returns c).In-On) _ _ (by (goal.at.returns c).In-On) c.if-size-lt32.false _ _ _ _ _ _ s.count_is s.more_is s.groups_is
    (lists-words _ _ _ _ _ _ _ _ _ _ _ s (λ i. (c.type_inv.marks i).fits) c.list_runs-listed.auto.marks)
    s.bytes_are c.put_header.ensures
