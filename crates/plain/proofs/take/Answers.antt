-- `plain::take` is right because `queue::take_on` is, on as many words as the area stands for. Assumes nothing.
use Rattle.plain.proofs.take.Goals as goal

pub returns : goal.returns
returns c = rw c.words_for.ensures at c.take_on.ensures
