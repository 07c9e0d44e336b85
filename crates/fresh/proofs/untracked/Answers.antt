-- `fresh::untracked` is right: eight times the controller that it makes. Assumes nothing.
use Rattle.little.proofs.Put.{put-nil}
use Rattle.fresh.proofs.untracked.Goals as goal

pub returns : goal.returns
returns c = rw (c.no_ranges.ensures, put-nil)
