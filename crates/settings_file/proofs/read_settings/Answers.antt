-- `settings_file::read_settings` is right because it reads each field where `settings_in` has it. Assumes nothing.
use Rattle.settings_file.proofs.read_settings.Goals as goal

pub returns : goal.returns
returns c = cc
