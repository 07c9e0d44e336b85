-- `record::walk_on` is right because the weight, what of it is the first manager's, and the end are those of what the controller holds, and its queue is asked.
use mathlib.Core.Path.{ap, ◌∙◌}
use Rattle.std.proofs.Common.{rules}
use native.Mathlib.Omega.{arith}
use Rattle.record.specs.Inner.{end_after}
use Rattle.record.proofs.WalkLaws.{walked_by-is}
use Rattle.record.proofs.walk_on.Goals as goal

pub returns : goal.returns
returns c =
    let a = c.args in (
      walked_by-is a.s a.w a.c _ _ _ _ _ c.controller_kept-kept.ensures.0 c.weight-own.ensures.0 c.first_of-first.ensures.0 (c.end_after-end.ensures ∙ ap (end_after a.w.end a.c.base) c.most.ensures) (search rules),
      omega arith,
      omega (arith, c.first_of-first.ensures.1),
    )
