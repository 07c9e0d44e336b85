-- `plain_logged::totals` is right: what `totals_of` tells of as many words as the area stands for. Assumes nothing.
use Rattle.plain_logged.proofs.totals.Goals as goal

pub returns : goal.returns
returns c = rw c.words_for.ensures at c.totals_of.ensures
