-- `track_send::recorded` is right: the controller's new record is stored, and each controller is given its new place. Assumes nothing.
use mathlib.Core.Path.{◌∙◌}
use Rattle.track_send.proofs.recorded.Goals as goal

pub returns : goal.returns
returns c = c.based.ensures ∙ rw c.requires.1
