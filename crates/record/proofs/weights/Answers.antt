-- `record::weights` is right because they are what the walk adds (`walk_of-weight`).
use mathlib.Core.Path.{ap, ◌∙◌}
use Rattle.record.specs.declared.Walked.{Walked}
use Rattle.record.proofs.WalkLaws.{walk_of-weight}
use Rattle.record.proofs.weights.Goals as goal

pub returns : goal.returns
returns c = ap (λ (w : Walked). w.weight) c.walk.ensures.0 ∙ walk_of-weight c.args.d
