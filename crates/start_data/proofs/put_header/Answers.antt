-- `start_data::put_header` is right because a header's fields stand one after another (`put-number`).
use Rattle.little.proofs.Numbers.{put-number}
use Rattle.start_data.proofs.put_header.Goals as goal

pub returns : goal.returns
returns c = simp put-number (cc)
