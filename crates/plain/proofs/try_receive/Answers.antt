-- `plain::try_receive` is right: it refuses in the order of its table, lists the first runs and makes their bytes 0, and stores the header last, when the number of runs and More To
-- Report are known. Assumes nothing.
use mathlib.Core.Path.{◌≡◌, refl, sym, ◌∙◌}
use mathlib.Core.List.{List}
use Prim.Native.Nat.{ℕ, ◌<◌}
use native.Mathlib.Omega.{arith}
use lib.ListN.{length, get_or}
use borrow.Author.Rules.{rules}
use Rattle.record.specs.Record.{no_controller, where_is, where_by}
use Rattle.std.specs.declared.result.Result.TheVariants.{Ok}
use Rattle.record.proofs.RecordLaws.{where_by-at}
use Rattle.rules.specs.declared.Tracking.TheVariants.{On}
use Rattle.rules.specs.Settings.{bytes_of}
use Rattle.rules.specs.declared.Controller.{Controller}
use Rattle.rules.specs.declared.Range.{Range}
use Rattle.rules.specs.declared.Refusal.TheVariants.{Untracked, Short}
use Rattle.rules.proofs.RefusalLaws.{handed_on}
use Rattle.rules.proofs.LoopLaws.{length-mapped}
use Rattle.measures.proofs.MeasureLaws.{bytes_of-fits}
use Rattle.calls.specs.Inner.{tracking_by}
use Rattle.calls.proofs.PlaceLaws.{placed_by, tracking_by-on, held_at}
use Rattle.track_receive.proofs.ReceiveLaws.{receives-nothing, receive-refused, receive-off, receive-short, receive-done}
use Rattle.plain.specs.Bytes.{words_for, in_bytes}
use Rattle.plain.proofs.WayLaws.{one_unit, Way, way, lists-few}
use Rattle.plain.proofs.try_receive.Goals as goal
use Rattle.plain.proofs.try_receive.Goals.{In_ok-i, In-On}

-- the place that was found
found : (c : In_ok-i) → where_by c.args.d (words_for (length c.args.area.now)) c.args.manager c.args.id ≡ Ok c.in_ok-i.i
found c = rw (sym c.words_for.ensures) (sym c.locate_by.ensures ∙ c.in_ok-i.was)

-- there a controller was found tracked, by the manager that asks
module _ (c : In-On) where
  abbrev it : Controller
  it = get_or c.args.d.controllers c.in_ok-i.i no_controller

  asked : where_by c.args.d (words_for (length c.args.area.now)) c.args.manager c.args.id ≡ Ok c.in_ok-i.i
  asked = rw (sym c.words_for.ensures) (sym c.locate_by.ensures ∙ c.in_ok-i.was)

  placed : where_is c.args.d (words_for (length c.args.area.now)) c.args.id ≡ Ok c.in_ok-i.i
  placed = (where_by-at _ _ _ _ _ asked).1

  there : c.in_ok-i.i < length c.args.d.controllers
  there =
      let e : length c.args.d.controllers ≡ 8 = search (length-mapped, rules) in
      omega (arith, placed_by _ _ _ _ _ asked)

  by : tracking_by c.args.manager it.tracking it.manager ≡ On c.in-On.g c.in-On.n
  by = sym c.tracking_by.ensures ∙ c.in-On.is

  tracked : it.tracking ≡ On c.in-On.g c.in-On.n
  tracked = (tracking_by-on _ it.tracking it.manager _ _ by).0

  -- what the way over its units asks
  asks : (size : ℕ) → size ≡ bytes_of c.in-On.g 1 → (read : List Range) → read ≡ it.ranges → length read ≡ 16 → Way size c.in-On.n read c.args.area.now it.base
  asks = way _ _ _ _ placed there _ _ tracked

pub returns-in_err-i : goal.returns-in_err-i
returns-in_err-i c =
    receives-nothing _ _ _ _ _ (receive-refused in_bytes _ _ _ _ _ _ (rw (sym c.words_for.ensures) (sym c.locate_by.ensures ∙ c.in_err-i.was))) (handed_on _ _ c.from_residual.ensures.1)

pub offset_bounds-d-i : goal.offset_bounds-d-i
offset_bounds-d-i c = omega (arith, placed_by _ _ _ _ _ (found c))

pub bounds-d-i : goal.bounds-d-i
bounds-d-i c = placed_by _ _ _ _ _ (found c)

pub returns-in_default : goal.returns-in_default
returns-in_default c =
    receives-nothing _ Untracked _ _ _ (receive-off in_bytes _ _ _ _ _ _ (found (goal.at.returns-in_default c).In_ok-i) (sym c.tracking_by.ensures ∙ c.in_default.is)) refl

pub returns-then-size-lt32 : goal.returns-then-size-lt32
returns-then-size-lt32 c =
    let on = (goal.at.returns-then-size-lt32 c).In-On in
    receives-nothing _ Short _ _ _ (receive-short in_bytes _ _ _ _ _ _ (asked on) _ _ (by on) c.if-size-lt32.true) refl

pub bytes_of-unit-requires : goal.bytes_of-unit-requires
bytes_of-unit-requires c =
    let on = (goal.at.bytes_of-unit-requires c).In-On in
    let f = held_at _ _ _ _ (placed on) (there on) _ _ (tracked on) in
    (f.small, bytes_of-fits _ 1 f.small (omega arith))

pub list_units-listed-requires : goal.list_units-listed-requires
list_units-listed-requires c =
    let s = asks (goal.at.list_units-listed-requires c).In-On _ c.bytes_of-unit.ensures _ c.ranges_of-ranges.ensures.0 c.ranges_of-ranges.ensures.1 in
    (s.some, s.few, s.within, s.ends, omega arith)

pub overflow_cast-listed : goal.overflow_cast-listed
overflow_cast-listed c =
    let s = asks (goal.at.overflow_cast-listed c).In-On _ c.bytes_of-unit.ensures _ c.ranges_of-ranges.ensures.0 c.ranges_of-ranges.ensures.1 in
    omega (arith, lists-few _ _ _ _ _ _ _ _ _ _ c.list_units-listed.ensures, s.within, s.whole)

pub returns : goal.returns
returns c =
    let on = (goal.at.returns c).In-On in
    let s = rw (one_unit _ _ c.bytes_of-unit.ensures, c.ranges_of-ranges.ensures.0) at c.list_units-listed.ensures in
    receive-done in_bytes _ _ _ _ _ _ (asked on) _ _ (by on) c.if-size-lt32.false _ _ _ _ _ _ s.count_is s.more_is s.groups_is s.area_is s.buffer_is
    c.put_header.ensures
