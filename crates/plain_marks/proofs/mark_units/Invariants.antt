-- `plain_marks::mark_units` is right because it goes over the units as they are listed, and marks each that is touched. The invariant of both loops
-- (`Marking`): what is still to be marked makes of the bytes and the count as they are now what is promised. Assumes nothing.
use mathlib.Core.Path.{◌≡◌}
use mathlib.Core.List.{List, [], ◌++◌}
use Prim.Native.Nat.{ℕ}
use lib.ListN.{length, take, drop}
use Rattle.rules.specs.Units.{units_from, newly}
use Rattle.pieces.specs.Pieces.{units_left}
use Rattle.plain_marks.specs.Plain.{marks_of, write_to, mark_bytes}
use Rattle.plain_marks.proofs.MarkLaws.{Marking}
use Rattle.plain_marks.proofs.mark_units.Given as goal

abbrev pub invariant-loop-unit : goal.invariant-loop-unit
invariant-loop-unit l =
    (length l.area ≡ length l.initial.area)
    × ((final : List ℕ) (total : ℕ) → Marking (write_to l.written.at l.written.last) (units_left l.size (take l.n l.ranges) l.row 0) l.initial.area l.initial.place l.initial.count final total
    → Marking (write_to l.written.at l.written.last) (units_left l.size (take l.n l.ranges) l.row l.unit) l.area l.place l.count final total)

abbrev pub invariant-loop-row : goal.invariant-loop-row
invariant-loop-row l =
    (length l.area ≡ length l.initial.area)
    × (length l.ranges ≡ 16)
    × Marking (write_to l.written.at l.written.last) (units_left l.size (take l.n l.ranges) l.row 0) l.area l.place l.count
    (take l.base l.initial.area ++ mark_bytes (write_to l.written.at l.written.last) (units_from l.size 0 [] (take l.n l.ranges)) (drop l.base l.initial.area))
    (newly (write_to l.written.at l.written.last) (units_from l.size 0 [] (take l.n l.ranges)) (marks_of l.initial.area l.base (length (units_from l.size 0 [] (take l.n l.ranges)))))
