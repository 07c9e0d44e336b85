-- `marking::mark_one` is right because the units of a range that is listed alone are all of its own. Assumes nothing.
use Rattle.marking.proofs.NoteLaws.{units-alone, alone-held}
use Rattle.marking.proofs.mark_one.Goals as goal

pub mark_range-requires : goal.mark_range-requires
mark_range-requires c = let p = c.requires in (p.0, alone-held _ _ _ _ p.2)

pub returns : goal.returns
returns c =
    let a = c.args in
    rw (units-alone a.g a.r) c.mark_range.ensures
