-- `settings_file::put_second` is right because its fields stand one after another (`put-number`). Assumes nothing.
use Rattle.little.proofs.Numbers.{put-number}
use Rattle.settings_file.proofs.put_second.Goals as goal

pub returns : goal.returns
returns c = simp put-number (cc)
