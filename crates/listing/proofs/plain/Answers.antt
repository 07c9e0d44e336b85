-- `listing::plain` is right because it makes that record.
use Rattle.little.proofs.Put.{put-nil}
use Rattle.listing.proofs.plain.Goals as goal

pub returns : goal.returns
returns c = rw (c.no_ranges.ensures, put-nil)
