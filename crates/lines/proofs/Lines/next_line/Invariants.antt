-- `lines::Lines::next_line` is safe: what is there of a line lies in its buffer.
use Rattle.std.proofs.Common.{◌≤◌, length}
use Rattle.lines.proofs.Lines.next_line.Given as goal

abbrev pub invariant-loop : goal.invariant-loop
invariant-loop g l = l.used ≤ length l.line
