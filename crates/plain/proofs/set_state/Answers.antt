-- `plain::set_state` is right because `controller_state::set_state_on` is, on as many words as the area stands for. Assumes nothing.
use Rattle.plain.proofs.set_state.Goals as goal

pub returns : goal.returns
returns c = rw c.words_for.ensures at c.set_state_on.ensures
