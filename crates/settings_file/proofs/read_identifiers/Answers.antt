-- `settings_file::read_identifiers` is right because each place's identifier is read where it stands. Assumes nothing.
use mathlib.Core.Path.{◌≡◌, sym}
use Prim.Native.Nat.{ℕ, ◌+◌, ◌*◌, ◌<◌}
use borrow.Author.Rules.{rules}
use lib.ListN.{get_or}
use Rattle.little.proofs.Records.{records_at-is}
use Rattle.settings_file.specs.File.{identifier_at}
use Rattle.settings_file.proofs.read_identifiers.Goals as goal

pub returns : goal.returns
returns c =
    let file = c.args.file.now in
    let each : (i : ℕ) → i < 8 → identifier_at file (13 + 2 * i) ≡ get_or c.from_fn.result i 0 = search rules in
    sym (records_at-is identifier_at 2 file 13 8 c.from_fn.result 0 c.from_fn.ensures.items.long each)
