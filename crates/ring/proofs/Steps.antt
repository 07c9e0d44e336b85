-- A post and a take, for a queue of at most 1,024 places that is told by its place and its two totals: what is queued after them. The premises have the
-- shape in which a caller's proof knows them, what the functions ensure among them, so that `search` finds the law. All of it is the library's interface.
-- Assumes nothing.
use Rattle.std.proofs.Common.{◌≡◌, ℕ, ◌*◌, ◌^◌, ◌<◌, ◌≤◌, List, [], ◌∷◌, ◌++◌, length, take, drop, arith}
use Rattle.little.specs.Little.{put}
use Rattle.rules.specs.Queue.{joined, total_after, fill_of}
use Rattle.ring.specs.Ring.{place_after, queued}
use Rattle.ring.proofs.Entries.{queued-post, queued-take, queued-drop}
use Rattle.ring.proofs.Totals.{fill_of-post, fill_of-take}

-- an entry was stored, or the closing one
pub post-queued : (area area' e : List ℕ) (n place posted taken fill posted' : ℕ)
    → area' ≡ put area (32 * place_after n place fill) e → posted' ≡ total_after posted 1
    → fill ≡ fill_of posted taken → fill_of posted taken < n → length e ≡ 32 → length area ≡ 32 * n → n ≤ 1024 → place < n → posted < 2 ^ 32 → taken < 2 ^ 32
    → queued area' n place (fill_of posted' taken) ≡ queued area n place (fill_of posted taken) ++ e ∷ []
post-queued area area' e n place posted taken fill posted' a q f room size whole small inside p t =
    rw (a, q, fill_of-post posted taken p t (omega arith), f)
    (queued-post area e n place (fill_of posted taken) whole inside (omega arith) size)

-- m entries were handed out
pub take-taken : (buffer buffer' area : List ℕ) (n place m fill : ℕ) → m ≤ fill → buffer' ≡ put buffer 0 (joined (queued area n place m))
    → buffer' ≡ put buffer 0 (joined (take m (queued area n place fill)))
take-taken buffer buffer' area n place m fill h b = rw (queued-take area n place fill m h) b

pub take-queued : (area : List ℕ) (n place posted taken m place' taken' : ℕ) → posted < 2 ^ 32 → taken < 2 ^ 32 → m ≤ fill_of posted taken
    → place' ≡ place_after n place m → taken' ≡ total_after taken m
    → queued area n place' (fill_of posted taken') ≡ drop m (queued area n place (fill_of posted taken))
take-queued area n place posted taken m place' taken' p t h e q =
    rw (e, q, fill_of-take posted taken m p t h) (queued-drop area n place (fill_of posted taken) m h)
