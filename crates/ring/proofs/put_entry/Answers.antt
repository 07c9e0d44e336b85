-- `ring::put_entry` is right because the whole of the entry is copied, to the place after the newest.
use Rattle.std.proofs.Common.{◌*◌, arith}
use Rattle.little.proofs.Put.{put_mid-put}
use Rattle.ring.proofs.put_entry.Goals as goal

pub returns : goal.returns
returns c =
    let free = c.place_after-free in
    rw (c.copy_from_slice.ensures.after, ← free.ensures.0)
    (put_mid-put c.args.area.now (32 * free.result) _ c.args.entry.now (omega arith) (omega arith))
