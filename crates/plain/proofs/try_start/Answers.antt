-- `plain::try_start` is right: it refuses as the table does; done, the bytes of the shares are packed, the new one's 0, and what was admitted is recorded. Assumes nothing.
use mathlib.Core.Path.{◌≡◌, refl, ◌∙◌}
use lib.ListN.{length}
use borrow.Author.Rules.{rules}
use Rattle.rules.proofs.LoopLaws.{length-mapped}
use Rattle.record.proofs.RecordLaws.{where_is-at, where_by-at, sound_device-facts, sound_device-all}
use Rattle.calls.specs.Calls.{sizes_of}
use Rattle.calls.proofs.Answers.{leaves}
use Rattle.calls.proofs.OutcomeLaws.{started-refused}
use Rattle.track_send.specs.Inner.{tracking, Starts, Admission}
use Rattle.track_send.proofs.PackLaws.{starts-below, starts-sizes, starts_fit, starts-packs}
use Rattle.track_send.proofs.StartedLaws.{start-refuses, start-done}
use Rattle.plain.specs.Bytes.{words_for, in_bytes}
use Rattle.plain.proofs.AreaLaws.{area-whole}
use Rattle.plain.proofs.try_start.Goals as goal
use Rattle.plain.proofs.try_start.Goals.{After-sizes_with-sizes, In_ok-start}

-- the record has its eight controllers
eight : (c : In_ok-start) → length c.args.d.controllers ≡ 8
eight c = search (length-mapped, rules)

-- what was admitted
admitted : (c : In_ok-start)
    → let a = c.args in
    Admission a.d (words_for (length a.area.now)) a.manager a.id a.«data».now c.in_ok-start.start
admitted c = rw (c.in_ok-start.was, c.words_for.ensures) at c.admit.ensures.admits

-- the sizes are those of the record in which the controller is tracked
sizes : (c : After-sizes_with-sizes)
    → let a = c.args in
    Starts a.d c.in_ok-start.start → c.sizes_with-sizes.result ≡ sizes_of (tracking a.d a.manager c.in_ok-start.start)
sizes c s =
    let eight : length c.args.d.controllers ≡ 8 = search (length-mapped, rules) in
    c.sizes_with-sizes.ensures ∙ rw (c.shares-shares.ensures, c.units_in-units.ensures.0) (starts-sizes c.args.d eight _ s c.args.manager)

pub returns-in_err-start : goal.returns-in_err-start
returns-in_err-start c =
    let a = c.args in
    leaves _ _ _ _ _ (start-refuses in_bytes a.d a.area.now a.manager a.id a.«data».now _ (rw c.words_for.ensures at c.admit.ensures.refusal) _ c.in_err-start.was) (started-refused _ _ _ c.from_residual.ensures.1) refl

pub shares-shares-requires : goal.shares-shares-requires
shares-shares-requires c = let p = (admitted c).starts.sound in ((sound_device-facts c.args.d p).settings, sound_device-all c.args.d p)

pub invariant_of-rows : goal.invariant_of-rows
invariant_of-rows c = let s = (admitted (goal.at.invariant_of-rows c).In_ok-start).starts in record { small = s.small; few = s.few; ok = s.rows }

pub sizes_with-sizes-requires : goal.sizes_with-sizes-requires
sizes_with-sizes-requires c = let k = (goal.at.sizes_with-sizes-requires c).In_ok-start in starts-below c.args.d (eight k) _ (admitted k).starts

pub pack-requires : goal.pack-requires
pack-requires c =
    let a = c.args in
    let k = (goal.at.pack-requires c).In_ok-start in
    let whole = area-whole _ (where_is-at _ _ _ _ (where_by-at _ _ _ _ _ (admitted k).found).1).whole in
    (whole, rw (sizes (goal.at.pack-requires c).After-sizes_with-sizes (admitted k).starts, c.bases_of.ensures, c.shares-shares.ensures) (starts-packs a.d (eight k) _ (admitted k).starts a.manager a.area.now whole))

pub recorded-requires : goal.recorded-requires
recorded-requires c =
    let k = (goal.at.recorded-requires c).In_ok-start in
    let s = (admitted k).starts in
    let e = sizes (goal.at.recorded-requires c).After-sizes_with-sizes s in
    (starts-below c.args.d (eight k) _ s, e, rw e (starts_fit c.args.d (eight k) _ s c.args.manager))

pub returns : goal.returns
returns c =
    let a = c.args in
    let k = (goal.at.returns c).In_ok-start in
    leaves _ _ _ _ _ (start-done in_bytes a.d a.area.now a.manager a.id a.«data».now _ (rw c.words_for.ensures at c.admit.ensures.refusal) _ c.in_ok-start.was (rw c.words_for.ensures at c.admit.ensures.admits))
    (rw c.recorded.ensures) (c.pack.ensures ∙ rw (sizes (goal.at.returns c).After-sizes_with-sizes (admitted k).starts, c.bases_of.ensures, c.shares-shares.ensures))
