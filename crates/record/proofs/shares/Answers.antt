use mathlib.Core.Path.{◌≡◌, refl, ap, ◌∙◌}
use native.Mathlib.Omega.{arith}
use borrow.Author.Rules.{rules}
use lib.ListN.{get_or}
use Rattle.rules.specs.Device.{held_of, held_ok}
use Rattle.rules.proofs.LoopLaws.{all-front, length-mapped}
use Rattle.settings.proofs.SettingsLaws.{settings_ok-count, settings_ok-greatest}
use Rattle.record.specs.Record.{no_controller}
use Rattle.record.proofs.RecordLaws.{held_ok-countable, shares_to, shares_to-next}
use Rattle.record.proofs.shares.Goals as goal

pub loop-i-init : goal.loop-i-init
loop-i-init c = (refl, settings_ok-count c.args.d.settings c.requires.0, search (length-mapped, rules), omega arith, refl)

pub share_of-requires : goal.share_of-requires
share_of-requires c =
    let d = c.args.d in
    let k = get_or d.controllers c.loop-i.i no_controller in
    held_ok-countable d.settings k.tracking k.manager k.ranges (settings_ok-greatest d.settings c.requires.0)
    (all-front (λ c. held_ok d.settings (held_of c)) d.controllers d.settings.count c.loop-i.i no_controller (omega arith) (omega arith) c.requires.1)

pub loop-i-preserved : goal.loop-i-preserved
loop-i-preserved c =
    let d = c.args.d in
    let v = c.loop-i.invariant in (
      v.0,
      v.1,
      v.2,
      omega arith,
      shares_to-next d c.loop-i.i _ _ (omega arith) (omega arith) v.4 c.share_of.ensures,
    )

pub returns : goal.returns
returns c =
    let d = c.args.d in
    let e : c.loop-i.i ≡ d.settings.count = omega arith in
    c.loop-i.invariant.4 ∙ ap (shares_to d) e
