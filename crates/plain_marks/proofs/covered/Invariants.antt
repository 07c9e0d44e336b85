-- `plain_marks::covered` is right because it asks each earlier range. The loop's invariant: one of them covers the byte exactly if one from `i` on does.
use mathlib.Core.Path.{◌≡◌}
use lib.ListN.{length, take, drop}
use Rattle.plain_marks.specs.Plain.{covered_by}
use Rattle.plain_marks.proofs.covered.Given as goal

abbrev pub invariant-loop-i : goal.invariant-loop-i
invariant-loop-i l = (length l.ranges ≡ 16) × (covered_by l.size (take l.row l.ranges) l.address ≡ covered_by l.size (drop l.i (take l.row l.ranges)) l.address)
