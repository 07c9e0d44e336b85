-- The engine that holds marks in bytes counts those that are pending. Assumes nothing.
use mathlib.Core.Path.{ap, ◌∙◌}
use native.Mathlib.Omega.{arith}
use lib.ListN.{length}
use Rattle.plain_marks.specs.Plain.{marks_of, marks_set}
use Rattle.plain_marks.proofs.CountLaws.{marks_set-pending, marks-few}
use Rattle.plain.proofs.AreaLaws.{area-whole}
use Rattle.plain.proofs.InBytesNotes.count.Goals as goal

pub count_units-requires : goal.count_units-requires
count_units-requires c = omega (arith, area-whole (length c.args.area.now) c.requires.0, c.requires.1)

pub returns : goal.returns
returns c us e =
    let a = c.args in
    c.count_units.ensures ∙ ap (λ j. marks_set (marks_of a.area.now a.base j)) e
    ∙ marks_set-pending us (marks_of a.area.now a.base (length us)) (marks-few a.area.now a.base (length us))
