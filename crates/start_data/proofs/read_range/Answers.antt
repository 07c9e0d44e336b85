-- `start_data::read_range` is right because it reads a range's two fields where `range_at` has them.
use Rattle.start_data.proofs.read_range.Goals as goal

pub returns : goal.returns
returns c = rw (c.read-start.ensures, c.read-length.ensures)
