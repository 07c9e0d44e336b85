use Prim.Native.Nat.{◌+◌, ◌*◌}
use native.Mathlib.Omega.{arith}
use borrow.Author.Rules.{rules}
use Rattle.little.proofs.Records.{records-again, records-done}
use Rattle.settings_file.specs.File.{identifier_bytes}
use Rattle.settings_file.proofs.FieldLaws.{identifier_bytes-length}
use Rattle.settings_file.proofs.put_identifiers.Goals as goal

pub loop-i-preserved : goal.loop-i-preserved
loop-i-preserved c = (c.loop-i.invariant.0, search (rules, records-again identifier_bytes 2 identifier_bytes-length))

pub returns : goal.returns
returns c = records-done identifier_bytes _ _ _ (13 + 2 * c.loop-i.i) c.loop-i.i (omega arith) c.loop-i.invariant.1
