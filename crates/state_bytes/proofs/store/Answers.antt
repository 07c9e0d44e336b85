-- `state_bytes::store` is right because the part is copied as a whole.
use native.Mathlib.Omega.{arith}
use Rattle.little.proofs.Put.{put_mid-put}
use Rattle.state_bytes.proofs.store.Goals as goal

pub returns : goal.returns
returns c = rw c.copy_from_slice.ensures.after (put_mid-put c.args.area.now c.args.offset _ c.args.data.now (omega arith) (omega arith))
