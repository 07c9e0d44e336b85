-- `record::managed` is right because the walk adds the weights of the controllers that the first manager tracks, which are its counts in a sound record, and the other
-- weights are the second's (`sound_device-second`).
use mathlib.Core.Path.{◌≡◌, ap, ◌∙◌}
use native.Mathlib.Omega.{arith}
use Rattle.record.specs.Record.{first_of, weights_of}
use Rattle.record.specs.declared.Walked.{Walked}
use Rattle.record.proofs.WalkLaws.{walk_of-first, walk_of-weight}
use Rattle.record.proofs.RecordLaws.{sound_device-facts, sound_device-first, sound_device-second}
use Rattle.record.proofs.managed.Goals as goal
use Rattle.record.proofs.managed.Goals.{After-walk-w}

-- what was walked
first : (c : After-walk-w) → c.walk-w.result.first ≡ first_of c.args.d
first c = ap (λ (w : Walked). w.first) c.walk-w.ensures.0 ∙ walk_of-first c.args.d

weighed : (c : After-walk-w) → c.walk-w.result.weight ≡ weights_of c.args.d
weighed c = ap (λ (w : Walked). w.weight) c.walk-w.ensures.0 ∙ walk_of-weight c.args.d

pub walk-w-requires : goal.walk-w-requires
walk-w-requires c = (sound_device-facts c.args.d c.requires.0).settings

pub returns-then-m-s : goal.returns-then-m-s
returns-then-m-s c =
    first (goal.at.returns-then-m-s c).After-walk-w ∙ sound_device-first c.args.d _ c.requires.0 c.if-m-s.true

pub returns-else-m-s : goal.returns-else-m-s
returns-else-m-s c =
    omega (arith, first (goal.at.returns-else-m-s c).After-walk-w, weighed (goal.at.returns-else-m-s c).After-walk-w, sound_device-second c.args.d _ c.requires.0 c.requires.1 c.if-m-s.false)
