use borrow.Author.Rules.{rules}
use lib.ListN.{length-set}
use Rattle.little.proofs.Records.{records_at-start, records_at-again, records_at-done}
use Rattle.start_data.proofs.listed_ranges.Goals as goal

pub loop-i-init : goal.loop-i-init
loop-i-init c = (search rules, rw c.no_ranges-a.ensures (records_at-start _ _ _ _ _ _))

pub loop-i-preserved : goal.loop-i-preserved
loop-i-preserved c = (simp length-set c.loop-i.invariant.0, search records_at-again)

pub returns : goal.returns
returns c = search records_at-done
