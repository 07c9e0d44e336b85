-- `plain_marks::count_units` is right because it looks at each byte once. The loop's invariant: the count so far and the marks set from unit i on are all. Assumes nothing.
use mathlib.Core.Path.{◌≡◌}
use Prim.Native.Nat.{◌+◌, ◌-◌}
use Rattle.plain_marks.specs.Plain.{marks_of, marks_set}
use Rattle.plain_marks.proofs.count_units.Given as goal

abbrev pub invariant-loop-i : goal.invariant-loop-i
invariant-loop-i l = l.count + marks_set (marks_of l.area (l.base + l.i) (l.n - l.i)) ≡ marks_set (marks_of l.area l.base l.n)
