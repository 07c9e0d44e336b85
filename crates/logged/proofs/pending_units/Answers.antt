-- `logged::pending_units` is right: of a sound record it counts the marks of the controller's share. Assumes nothing.
use mathlib.Core.Path.{◌≡◌, sym, ap, ◌∙◌}
use Prim.Native.Nat.{◌<◌}
use native.Mathlib.Omega.{arith}
use lib.ListN.{length, get_or, take}
use borrow.Author.Rules.{rules}
use Rattle.rules.specs.Units.{units}
use Rattle.rules.proofs.LoopLaws.{length-mapped}
use Rattle.ranges.proofs.RangeLaws.{HeldFacts}
use Rattle.record.specs.Record.{no_controller, where_is}
use Rattle.std.specs.declared.result.Result.TheVariants.{Ok}
use Rattle.record.proofs.RecordLaws.{where_is-at}
use Rattle.calls.proofs.PlaceLaws.{placed, held_at, share-within}
use Rattle.logged.proofs.HeldLaws.{held-nowhere, held-off, held_on}
use Rattle.logged.proofs.pending_units.Goals as goal
use Rattle.logged.proofs.pending_units.Given.{Over}
use Rattle.logged.proofs.pending_units.Goals.{In-Ok, In-On}

-- the place that was found
found : (g : Over) (c : In-Ok g) → where_is c.args.d (g.E.Notes.engine.words (g.E.Notes.area c.args.marks.now)) c.args.id ≡ Ok c.in-Ok.i
found g c = rw c.words.ensures at (sym c.locate.ensures ∙ c.in-Ok.is)

-- there a controller was found tracked
module _ (g : Over) (c : In-On g) where
  asked : where_is c.args.d (g.E.Notes.engine.words (g.E.Notes.area c.args.marks.now)) c.args.id ≡ Ok c.in-Ok.i
  asked = rw c.words.ensures at (sym c.locate.ensures ∙ c.in-Ok.is)

  there : c.in-Ok.i < length c.args.d.controllers
  there =
      let e : length c.args.d.controllers ≡ 8 = search (length-mapped, rules) in
      omega (arith, placed _ _ _ _ asked)

  -- what it holds
  held : HeldFacts c.args.d.settings c.in-On.g c.in-On.n (take c.in-On.n (get_or c.args.d.controllers c.in-Ok.i no_controller).ranges)
  held = held_at _ _ _ _ asked there _ _ c.in-On.is

pub returns-in_default : goal.returns-in_default
returns-in_default g c =
    let a = c.args in
    held-nowhere g.E.Notes.engine a.d (g.E.Notes.area a.marks.now) a.id _ (rw c.words.ensures at (sym c.locate.ensures ∙ c.in_default.is))

pub offset_bounds-d-i : goal.offset_bounds-d-i
offset_bounds-d-i g c = omega (arith, placed _ _ _ _ (found g c))

pub bounds-d-i : goal.bounds-d-i
bounds-d-i g c = placed _ _ _ _ (found g c)

pub overflow_cast-rows : goal.overflow_cast-rows
overflow_cast-rows g c = omega (arith, (held g (goal.at.overflow_cast-rows g c).In-On).few)

pub returns-in_default-tracking : goal.returns-in_default-tracking
returns-in_default-tracking g c s = held-off g.E.Notes.engine _ _ _ _ (found g (goal.at.returns-in_default-tracking g c).In-Ok) c.in_default-tracking.is

pub invariant_of-rows : goal.invariant_of-rows
invariant_of-rows g c = let h = held g (goal.at.invariant_of-rows g c).In-On in record { small = h.small; few = h.few; ok = rw c.ranges_of-ranges.ensures.0 h.rows }

-- its marks lie within those of the pool
pub count-requires : goal.count-requires
count-requires g c =
    let r = c.ranges_of-ranges in
    let u = c.units_in-units.ensures.0 in
    let at = asked g (goal.at.count-requires g c).In-On in
    ((where_is-at _ _ _ _ at).whole, omega (arith, rw r.ensures.0 at u, share-within _ _ _ _ at (there g (goal.at.count-requires g c).In-On) _ _ c.in-On.is (omega (arith, ap length r.ensures.0, r.ensures.1))))

pub returns : goal.returns
returns g c s =
    let u = c.units_in-units.ensures.0 in
    let us = units c.in-On.g (take c.in-On.n (get_or c.args.d.controllers c.in-Ok.i no_controller).ranges) in
    c.count.ensures us (rw c.ranges_of-ranges.ensures.0 at u) ∙ held_on g.E.Notes.engine _ _ _ _ (asked g (goal.at.returns g c).In-On) _ _ c.in-On.is
