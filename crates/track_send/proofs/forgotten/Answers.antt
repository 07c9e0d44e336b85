-- `track_send::forgotten` is right: of the controller at the place its suspension and its queue stay. Assumes nothing.
use Rattle.little.proofs.Put.{put-nil}
use Rattle.track_send.proofs.forgotten.Goals as goal

pub returns : goal.returns
returns c = rw (c.no_ranges.ensures, put-nil)
