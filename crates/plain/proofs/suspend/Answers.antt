-- `plain::suspend` is right because `migration_send::suspend_on` is, on as many words as the area stands for. Assumes nothing.
use Rattle.plain.proofs.suspend.Goals as goal

pub returns : goal.returns
returns c = rw c.words_for.ensures at c.suspend_on.ensures
