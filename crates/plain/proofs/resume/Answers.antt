-- `plain::resume` is right because `migration_send::resume_on` is, on as many words as the area stands for. Assumes nothing.
use Rattle.plain.proofs.resume.Goals as goal

pub returns : goal.returns
returns c = rw c.words_for.ensures at c.resume_on.ensures
