-- `settings_file::put_mark` is right because the mark is copied as a whole. Assumes nothing.
use native.Mathlib.Omega.{arith}
use Rattle.little.proofs.Put.{put_mid-put}
use Rattle.settings_file.specs.File.{mark}
use Rattle.settings_file.proofs.put_mark.Goals as goal

pub returns : goal.returns
returns c = rw c.copy_from_slice.ensures.after (put_mid-put c.args.buffer.now 0 3 mark (omega arith) (omega arith))
