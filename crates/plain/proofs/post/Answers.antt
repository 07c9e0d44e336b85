-- `plain::post` is right because `queue::post_on` is, on as many words as the area stands for. Assumes nothing.
use Rattle.plain.proofs.post.Goals as goal

pub returns : goal.returns
returns c = rw c.words_for.ensures at c.post_on.ensures
