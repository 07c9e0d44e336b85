-- Document 02, W8: a ring of n places of 32 bytes in an area of 32 * n bytes, of which the oldest entry's place and the number of entries are told. All of it is the
-- library's interface. What entries and totals are is defined in `rules`; which queue a controller has, and when it stops, is the matter of those who cite this file.
use Rattle.std.specs.Prelude.{ℕ, zero, suc, ◌+◌, ◌*◌, ◌%◌, List, [], ◌∷◌, ◌++◌, take, drop}

-- the `count` bytes from index `start` on
unfoldable pub part : List ℕ → ℕ → ℕ → List ℕ
part s start count = take count (drop start s)

-- the 32 bytes of place i
unfoldable pub entry_at : List ℕ → ℕ → List ℕ
entry_at area i = part area (32 * i) 32

-- the place that comes j places after `place`, in a ring of n
unfoldable pub place_after : ℕ → ℕ → ℕ → ℕ
place_after n place j = (place + j) % n

-- the `fill` entries from `place` on, oldest first: the j-th stands j places after it
unfoldable pub queued : List ℕ → ℕ → ℕ → ℕ → List (List ℕ)
queued area n place zero = []
queued area n place (suc fill) = queued area n place fill ++ entry_at area (place_after n place fill) ∷ []
