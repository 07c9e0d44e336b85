-- `plain_marks::list_units` is right because it goes over the units as they are listed: a pending one begins a run or lengthens the one that is growing, and
-- any other ends it. The invariant of both loops (`Listing`): the runs from now on make of the bytes and the count as they are now what is promised, and
-- the marks of the units left tell the groups. Assumes nothing.
use mathlib.Core.Path.{◌≡◌}
use mathlib.Core.Bool.{Bool}
use mathlib.Core.List.{List, [], ◌++◌, map}
use Prim.Native.Nat.{ℕ}
use lib.ListN.{length, take, drop}
use Rattle.little.specs.Little.{put, records}
use Rattle.rules.specs.Lists.{join, non_empty}
use Rattle.rules.specs.Units.{units_from}
use Rattle.rules.specs.Report.{descriptor, descriptor_bytes, reported_runs, later_runs, groups_on}
use Rattle.plain_marks.specs.Plain.{marks_of, clear_bytes}
use Rattle.plain_marks.proofs.ListLaws.{Listing}
use Rattle.plain_marks.proofs.list_units.Given as goal

abbrev pub invariant-loop-unit : goal.invariant-loop-unit
invariant-loop-unit l =
    (length l.area ≡ length l.initial.area)
    × (length l.buffer ≡ length l.initial.buffer)
    × ((count : ℕ) (more : Bool) (groups : ℕ) (area'' x'' : List ℕ) → Listing l.size l.room l.base l.ranges l.n l.row 0 l.initial.area l.initial.buffer l.initial.place 0 0 l.initial.runs count more groups area'' x''
    → Listing l.size l.room l.base l.ranges l.n l.row l.unit l.area l.buffer l.place l.start l.units l.runs count more groups area'' x'')

abbrev pub invariant-loop-row : goal.invariant-loop-row
invariant-loop-row l =
    let us = units_from l.size 0 [] (take l.n l.ranges) in
    let p = marks_of l.initial.area l.base (length us) in
    (length l.area ≡ length l.initial.area)
    × (length l.buffer ≡ length l.initial.buffer)
    × (length l.ranges ≡ 16)
    × Listing l.size l.room l.base l.ranges l.n l.row 0 l.area l.buffer l.place 0 0 l.runs (length (reported_runs l.room us p)) (non_empty (later_runs l.room us p)) (groups_on l.room us p)
    (take l.base l.initial.area ++ clear_bytes (length (join (reported_runs l.room us p))) (drop l.base l.initial.area)) (put l.initial.buffer 16 (records descriptor_bytes (map descriptor (reported_runs l.room us p))))
