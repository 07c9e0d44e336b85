-- `start_data::put_range` is right because a range's fields stand one after another (`put-number`).
use Rattle.little.proofs.Numbers.{put-number}
use Rattle.start_data.proofs.put_range.Goals as goal

pub returns : goal.returns
returns c = simp put-number (cc)
