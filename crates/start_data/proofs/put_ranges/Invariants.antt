-- `start_data::put_ranges` is right because each turn stores the record of one range, behind those that are stored (`records-again`).
-- The loop's invariant: storing the records that are left gives the promised buffer.
use Prim.Native.Nat.{◌+◌, ◌*◌}
use mathlib.Core.Path.{◌≡◌}
use lib.ListN.{drop}
use Rattle.little.specs.Little.{put, records}
use Rattle.rules.specs.StartData.{range_bytes}
use Rattle.start_data.proofs.put_ranges.Given as goal

abbrev pub invariant-loop-i : goal.invariant-loop-i
invariant-loop-i l =
    put l.buffer (8 + 12 * l.i) (records range_bytes (drop l.i l.range-items)) ≡ put l.initial.buffer 8 (records range_bytes l.range-items)
