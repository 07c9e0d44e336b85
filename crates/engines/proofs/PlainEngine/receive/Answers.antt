-- `engines::Plain` keeps the promise of `receive`: its receipts fit. Assumes nothing.
use Rattle.calls.proofs.ReceiptLaws.{answer-fits}
use Rattle.engines.proofs.PlainEngine.receive.Goals as goal

pub returns : goal.returns
returns c = answer-fits _ _ _ _ _ _ _ c.receive.ensures.0
