-- `plain::make_queue` is right because `queue::make_queue_on` is, on as many words as the area stands for. Assumes nothing.
use Rattle.plain.proofs.make_queue.Goals as goal

pub returns : goal.returns
returns c = rw c.words_for.ensures at c.make_queue_on.ensures
