-- `records::run` is safe because fewer bytes of a case are there than it has.
use Rattle.std.proofs.Common.{◌<◌}
use Rattle.records.proofs.run.Given as goal

abbrev pub invariant-loop-byte : goal.invariant-loop-byte
invariant-loop-byte g l = l.there < 3056

abbrev pub invariant-loop : goal.invariant-loop
invariant-loop g l = l.there < 3056
