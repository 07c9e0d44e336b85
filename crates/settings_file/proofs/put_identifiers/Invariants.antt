-- `settings_file::put_identifiers` is right because each turn stores one identifier, behind those that are stored (`records-again`).
-- The loop's invariant: storing those that are left gives the promised buffer. Assumes nothing.
use Prim.Native.Nat.{◌+◌, ◌*◌}
use mathlib.Core.Path.{◌≡◌}
use lib.ListN.{length, drop}
use Rattle.little.specs.Little.{put, records}
use Rattle.settings_file.specs.File.{identifier_bytes}
use Rattle.settings_file.proofs.put_identifiers.Given as goal

abbrev pub invariant-loop-i : goal.invariant-loop-i
invariant-loop-i l =
    (length l.id-items ≡ 8) × (put l.buffer (13 + 2 * l.i) (records identifier_bytes (drop l.i l.id-items)) ≡ put l.initial.buffer 13 (records identifier_bytes l.id-items))
