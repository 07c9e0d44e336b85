-- `engines::Words` keeps the promise of `receive_logged`: its receipts fit. Assumes nothing.
use Rattle.calls.proofs.ReceiptLaws.{answer-fits}
use Rattle.engines.proofs.WordsEngine.receive_logged.Goals as goal

pub returns : goal.returns
returns c = answer-fits _ _ _ _ _ _ _ c.receive.ensures.0
