-- `engines::Plain` keeps the promise of `take`: what it takes fits. Assumes nothing.
use Rattle.engines.proofs.TakeLaws.{taken-fits}
use Rattle.engines.proofs.PlainEngine.take.Goals as goal

pub returns : goal.returns
returns c = taken-fits _ _ _ _ _ _ _ c.take.ensures.0
