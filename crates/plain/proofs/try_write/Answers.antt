-- `plain::try_write` is right: it refuses in the order of its table, and goes over the controller's units as the rules mark them. Assumes nothing.
use mathlib.Core.Path.{◌≡◌, refl, sym, ◌∙◌}
use Prim.Native.Nat.{◌<◌}
use native.Mathlib.Omega.{arith}
use lib.ListN.{length, get_or}
use borrow.Author.Rules.{rules}
use Rattle.record.specs.Record.{no_controller, where_is}
use Rattle.std.specs.declared.result.Result.TheVariants.{Ok}
use Rattle.rules.proofs.RefusalLaws.{number_of-pos}
use Rattle.rules.proofs.LoopLaws.{length-mapped}
use Rattle.measures.proofs.MeasureLaws.{bytes_of-fits}
use Rattle.calls.proofs.Answers.{leaves, leaves-unchanged}
use Rattle.calls.proofs.OutcomeLaws.{written-refused}
use Rattle.calls.proofs.PlaceLaws.{placed, held_at}
use Rattle.writes.proofs.WriteLaws.{note-passes, write-refused, write-on, on-refused, on-off}
use Rattle.plain.specs.Bytes.{words_for, in_bytes}
use Rattle.plain.proofs.WayLaws.{one_unit, Way, way}
use Rattle.plain.proofs.NoteLaws.{write-to, bytes-done, bytes-empty}
use Rattle.plain.proofs.try_write.Goals as goal
use Rattle.plain.proofs.try_write.Goals.{After-bytes_of-size, In_ok-i}

-- the place that was found
module _ (c : In_ok-i) where
  found : where_is c.args.d (words_for (length c.args.area.now)) c.args.id ≡ Ok c.in_ok-i.i
  found = rw (sym c.words_for.ensures) (sym c.locate.ensures ∙ c.in_ok-i.was)

  there : c.in_ok-i.i < length c.args.d.controllers
  there =
      let e : length c.args.d.controllers ≡ 8 = search (length-mapped, rules) in
      omega (arith, placed _ _ _ _ found)

-- what the way over the units of a tracked controller asks
asks : (c : After-bytes_of-size)
    → let a = c.args in
    Way c.bytes_of-size.result.0 c.in-On.n c.ranges_of-ranges.result a.area.now (get_or a.d.controllers c.in_ok-i.i no_controller).base
asks c =
    let found : where_is c.args.d (words_for (length c.args.area.now)) c.args.id ≡ Ok c.in_ok-i.i = rw (sym c.words_for.ensures) (sym c.locate.ensures ∙ c.in_ok-i.was) in
    let e : length c.args.d.controllers ≡ 8 = search (length-mapped, rules) in
    way _ _ _ _ found (omega (arith, placed _ _ _ _ found)) _ _ c.in-On.is _ c.bytes_of-size.ensures _ c.ranges_of-ranges.ensures.0 c.ranges_of-ranges.ensures.1

pub returns-in_err-i : goal.returns-in_err-i
returns-in_err-i c =
    leaves _ _ _ _ _ (write-refused in_bytes _ _ _ _ _ (rw (sym c.words_for.ensures) (sym c.locate.ensures ∙ c.in_err-i.was))) (written-refused _ _ c.from_residual.ensures.1) refl

pub offset_bounds-d-i : goal.offset_bounds-d-i
offset_bounds-d-i c = omega (arith, placed _ _ _ _ (found c))

pub bounds-d-i : goal.bounds-d-i
bounds-d-i c = placed _ _ _ _ (found c)

pub returns-in_err-note_refusal : goal.returns-in_err-note_refusal
returns-in_err-note_refusal c =
    leaves _ _ _ _ _
    (write-on in_bytes _ _ _ _ (found (goal.at.returns-in_err-note_refusal c).In_ok-i) _ ∙ on-refused in_bytes _ _ _ _ _ c.in_err-note_refusal.ensures (number_of-pos _))
    (written-refused _ _ c.from_residual-in_err-note_refusal.ensures.1) refl

pub returns-then-bytes-eq0 : goal.returns-then-bytes-eq0
returns-then-bytes-eq0 c =
    leaves-unchanged _ _ _ (write-on in_bytes _ _ _ _ (found (goal.at.returns-then-bytes-eq0 c).In_ok-i) _ ∙ bytes-empty _ _ _ _ _ c.in_ok-note_refusal.ensures refl c.if-bytes-eq0.true)

pub returns-in_default : goal.returns-in_default
returns-in_default c =
    leaves-unchanged _ _ _ (write-on in_bytes _ _ _ _ (found (goal.at.returns-in_default c).In_ok-i) _ ∙ on-off in_bytes _ _ _ _ _ c.in_ok-note_refusal.ensures refl c.in_default.is)

pub bytes_of-size-requires : goal.bytes_of-size-requires
bytes_of-size-requires c =
    let i = (goal.at.bytes_of-size-requires c).In_ok-i in
    let f = held_at _ _ _ _ (found i) (there i) _ _ c.in-On.is in
    (f.small, bytes_of-fits _ 1 f.small (omega arith))

-- the written range ends within memory
pub overflow_add-last : goal.overflow_add-last
overflow_add-last c =
    let a = c.args in
    let w = (note-passes (get_or a.d.controllers c.in_ok-i.i no_controller).suspended (record { address = a.at; bytes = a.bytes.0 }) (sym c.in_ok-note_refusal.ensures)).1 in
    omega (arith, w, c.if-bytes-eq0.false)

pub mark_units-requires : goal.mark_units-requires
mark_units-requires c = let s = asks (goal.at.mark_units-requires c).After-bytes_of-size in (s.some, s.few, s.within, s.ends)

pub returns : goal.returns
returns c =
    let a = c.args in
    let w = write-to a.at a.bytes.0 (omega (arith, c.if-bytes-eq0.false)) in
    let m = rw (w, one_unit _ _ c.bytes_of-size.ensures, c.ranges_of-ranges.ensures.0) at c.mark_units.ensures in
    leaves-unchanged _ _ _ (write-on in_bytes _ _ _ _ (found (goal.at.returns c).In_ok-i) _ ∙ bytes-done _ _ _ _ _ c.in_ok-note_refusal.ensures refl _ _ c.in-On.is _ _ m)
