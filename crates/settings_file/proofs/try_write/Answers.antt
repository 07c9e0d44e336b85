-- `settings_file::try_write` is right because it makes the tests of `write_tests` in their order. Assumes nothing.
use mathlib.Core.Path.{sym}
use native.Mathlib.Omega.{arith}
use Rattle.settings.proofs.SettingsLaws.{settings_ok-count}
use Rattle.settings_file.proofs.try_write.Goals as goal

pub put_file-requires : goal.put_file-requires
put_file-requires c = (settings_ok-count c.args.s (sym c.if-not-settings_ok.ensures), omega arith)
