-- `report_data::put_descriptor` is right because a descriptor's fields stand one after another (`put-number`).
use native.Mathlib.Nat.{add_assoc}
use Rattle.little.proofs.Numbers.{put-number}
use Rattle.report_data.proofs.put_descriptor.Goals as goal

pub returns : goal.returns
returns c = simp (put-number, add_assoc) (cc)
