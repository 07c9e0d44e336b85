-- `settings_file::put_head` is right because its parts stand one after another. Assumes nothing.
use Rattle.settings_file.proofs.FieldLaws.{head-stored}
use Rattle.settings_file.proofs.put_head.Goals as goal

pub returns : goal.returns
returns c = search head-stored
