use mathlib.Core.Path.{refl}
use native.Mathlib.Omega.{arith}
use native.Mathlib.Numerals.{add-one}
use borrow.Author.Rules.{rules}
use Rattle.rules.proofs.LoopLaws.{length-mapped}
use Rattle.settings.proofs.SettingsLaws.{settings_ok-count, settings_ok-greatest}
use Rattle.record.proofs.WalkLaws.{reached-none, reached-next, reached-all}
use Rattle.record.proofs.walk.Goals as goal

pub loop-i-init : goal.loop-i-init
loop-i-init c =
    let d = c.args.d in
    (search (length-mapped, rules), settings_ok-count d.settings c.requires, refl, settings_ok-greatest d.settings c.requires, reached-none d)

pub loop-i-preserved : goal.loop-i-preserved
loop-i-preserved c =
    let i = c.loop-i.invariant in
    (i.0, i.1, i.2, i.3, rw add-one (reached-next c.args.d c.loop-i.i _ _ i.0 (omega arith) i.4 c.walk_on-w.ensures))

pub returns : goal.returns
returns c = reached-all c.args.d c.loop-i.i _ (omega arith) c.loop-i.invariant.4
