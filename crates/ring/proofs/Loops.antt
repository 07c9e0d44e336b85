-- What the loop of `take_entries` keeps: the oldest i entries are stored. A law for where it begins, and one for a turn, with premises in the shape of what
-- is known there. For this crate's own proofs. Assumes nothing.
use Rattle.std.proofs.Common.{◌≡◌, ℕ, ◌+◌, ◌*◌, ◌<◌, List, ◌-◌, ◌≤◌, length, sym, zero-add, arith, length-take, length-drop}
use Rattle.std.specs.List.{between}
use borrow.Rule.Slice.PartMut.{put_mid}
use Rattle.little.specs.Little.{put}
use Rattle.little.proofs.Put.{put-nil, put-append, put_mid-put}
use Rattle.rules.specs.Queue.{joined}
use Rattle.ring.specs.Ring.{part, entry_at, place_after, queued}
use Rattle.ring.proofs.Entries.{queued-nil, queued-more, joined-nil, joined_snoc, queued-joined-length}

pub taken_start : (l area : List ℕ) (n place : ℕ) → l ≡ put l 0 (joined (queued area n place 0))
taken_start l area n place = rw (queued-nil, joined-nil) (sym (put-nil l 0))

pub taken-again : (l₀ l v area : List ℕ) (n place i here : ℕ) → length area ≡ 32 * n → place < n → here ≡ place_after n place i → here < n → 32 * i + 32 ≤ length l
    → v ≡ between (32 * here) (32 * here + 32) area → l ≡ put l₀ 0 (joined (queued area n place i))
    → put_mid (32 * i) (32 * i + 32 - 32 * i) l v ≡ put l₀ 0 (joined (queued area n place (i + 1)))
unfolding entry_at part
taken-again l₀ l v area n place i here whole inside p last room e inv =
    let k : 32 * here + 32 - 32 * here ≡ 32 = omega arith in
    let size : length v ≡ 32 = rw (e, k) (simp (length-take, length-drop) (omega arith)) in
    rw (
      put_mid-put l (32 * i) (32 * i + 32 - 32 * i) v (omega arith) (omega arith),
      e,
      k,
      p,
      inv,
      queued-more,
      joined_snoc,
      put-append,
      queued-joined-length area n place i whole inside,
      zero-add,
    )
