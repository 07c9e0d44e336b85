use mathlib.Core.Path.{sym, ◌∙◌}
use native.Mathlib.Omega.{arith}
use Rattle.little.proofs.Numbers.{put-number-turn, put-number-end}
use Rattle.little.proofs.put_number.Goals as goal

pub loop-i-preserved : goal.loop-i-preserved
loop-i-preserved c = put-number-turn _ _ _ _ _ _ (omega arith) (omega arith) ∙ c.loop-i.invariant

pub returns : goal.returns
returns c = sym (put-number-end _ _ _ _ (omega arith)) ∙ c.loop-i.invariant
