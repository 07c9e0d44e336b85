-- `state_bytes::byte_of` is right because a byte before the part is the area's, and any other stands in the part where it stands behind `offset`.
use Rattle.state_bytes.proofs.Cases.{byte-of-area, byte-of-data, byte-of-past}
use Rattle.state_bytes.proofs.byte_of.Goals as goal

pub returns-then-i-offset : goal.returns-then-i-offset
returns-then-i-offset c = search byte-of-area

pub returns-then-k-data : goal.returns-then-k-data
returns-then-k-data c = search byte-of-data

pub returns : goal.returns
returns c = search byte-of-past
