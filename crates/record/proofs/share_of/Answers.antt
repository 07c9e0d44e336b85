-- `record::share_of` is right because a controller that is off has no share, and the units of one that is on are counted.
use mathlib.Core.Path.{sym, subst}
use Rattle.record.specs.Inner.{Countable}
use Rattle.rules.specs.Device.{held_in}
use Rattle.record.proofs.RecordLaws.{share_in-off, share_in-on}
use Rattle.record.proofs.share_of.Goals as goal

pub returns-in_default : goal.returns-in_default
returns-in_default c = sym (share_in-off _ _ _ _ c.in_default.is)

pub invariant_of-rows : goal.invariant_of-rows
invariant_of-rows c =
    let f = subst (λ t. Countable (held_in t c.args.c.manager c.args.c.ranges)) c.in-On.is c.requires in
    record { small = f.0; few = f.1; ok = f.2 }

pub returns : goal.returns
returns c = sym (share_in-on _ _ _ _ _ _ _ c.in-On.is c.units_in-u.ensures.0)
