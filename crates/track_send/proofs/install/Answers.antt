-- `track_send::install` is right: the shares are packed by the sizes that they have with the new one, and the record says where they then are. Assumes nothing.
use mathlib.Core.Path.{◌≡◌, ◌∙◌}
use lib.ListN.{length}
use borrow.Author.Rules.{rules}
use Rattle.bits.specs.Flat.{flat}
use Rattle.bits.proofs.Flat.{flat-length}
use Rattle.rules.proofs.LoopLaws.{length-mapped}
use Rattle.calls.specs.Calls.{sizes_of}
use Rattle.record.proofs.RecordLaws.{sound_device-facts, sound_device-all}
use Rattle.track_send.specs.Inner.{tracking}
use Rattle.track_send.proofs.PackLaws.{starts-below, starts-sizes, starts_fit, starts-packs, packed-words}
use Rattle.track_send.proofs.install.Goals as goal
use Rattle.track_send.proofs.install.Goals.{After-sizes_with-sizes}

-- the record has its eight controllers
eight : (c : After-sizes_with-sizes) → length c.args.d.controllers ≡ 8
eight c = search (length-mapped, rules)

-- the sizes are those of the record in which the controller is tracked
sizes : (c : After-sizes_with-sizes)
    → let a = c.args in
    c.sizes_with-sizes.result ≡ sizes_of (tracking a.d a.manager a.start)
sizes c =
    c.sizes_with-sizes.ensures ∙ rw (c.shares-shares.ensures, c.units_in-units.ensures.0) (starts-sizes c.args.d (eight c) _ c.requires.starts c.args.manager)

pub shares-shares-requires : goal.shares-shares-requires
shares-shares-requires c = let p = c.requires.starts in ((sound_device-facts c.args.d p.sound).settings, sound_device-all c.args.d p.sound)

pub invariant_of-rows : goal.invariant_of-rows
invariant_of-rows c = let p = c.requires.starts in record { small = p.small; few = p.few; ok = p.rows }

pub sizes_with-sizes-requires : goal.sizes_with-sizes-requires
sizes_with-sizes-requires c = starts-below c.args.d (search (length-mapped, rules)) _ c.requires.starts

pub pack-requires : goal.pack-requires
pack-requires c =
    let p = c.requires in
    let ws = c.args.marks.now in
    (p.words, rw (sizes (goal.at.pack-requires c).After-sizes_with-sizes, c.bases_of.ensures, c.shares-shares.ensures) (starts-packs c.args.d (eight (goal.at.pack-requires c).After-sizes_with-sizes) _ p.starts c.args.manager (flat ws) (flat-length ws ∙ rw p.words)))

pub recorded-requires : goal.recorded-requires
recorded-requires c =
    let e = sizes (goal.at.recorded-requires c).After-sizes_with-sizes in
    let p = c.requires.starts in
    (starts-below c.args.d (eight (goal.at.recorded-requires c).After-sizes_with-sizes) _ p, e, rw e (starts_fit c.args.d (eight (goal.at.recorded-requires c).After-sizes_with-sizes) _ p c.args.manager))

pub returns : goal.returns
returns c =
    let m = c.pack in (
      c.recorded.ensures,
      packed-words _ m.new.marks _ _ _ m.auto.marks (λ i. search rules)
          (m.ensures ∙ rw (sizes (goal.at.returns c).After-sizes_with-sizes, c.bases_of.ensures, c.shares-shares.ensures)),
    )
