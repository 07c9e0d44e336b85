-- `ring::take_entries` is right because each turn copies the next entry behind those before it. The loop's invariant: the oldest `i` entries stand at the
-- buffer's front, and nothing else changed.
use Rattle.std.proofs.Common.{◌≡◌}
use Rattle.little.specs.Little.{put}
use Rattle.rules.specs.Queue.{joined}
use Rattle.ring.specs.Ring.{queued}
use Rattle.ring.proofs.take_entries.Given as goal

abbrev pub invariant-loop-i : goal.invariant-loop-i
invariant-loop-i l =
    l.buffer ≡ put l.initial.buffer 0 (joined (queued l.area l.n l.place l.i))
