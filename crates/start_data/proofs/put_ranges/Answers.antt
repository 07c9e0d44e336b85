use Rattle.little.proofs.Records.{records-again, records-done}
use Rattle.rules.specs.StartData.{range_bytes}
use Rattle.rules.proofs.StartLaws.{range_bytes-length}
use Rattle.start_data.proofs.put_ranges.Goals as goal

pub loop-i-preserved : goal.loop-i-preserved
loop-i-preserved c = search (records-again range_bytes 12 range_bytes-length)

pub returns : goal.returns
returns c = search records-done
