-- Document 02, W8: the queue of user-data changes. What it holds, and what a post and a take make of that; which calls are refused stands in Order.antt.
use Rattle.std.specs.Prelude.{ℕ, ◌+◌, ◌-◌, ◌/◌, ◌%◌, ◌^◌, Bool, true, false, ◌&&◌, ◌||◌, cond, List, [], ◌∷◌, ◌++◌, leb, ltb, eqb, length, take, drop, replicate}
use Rattle.little.specs.Little.{records}
use Rattle.rules.specs.declared.Ring.{Ring}
use Rattle.std.specs.declared.option.Option.{Option}
use Rattle.std.specs.declared.option.Option.TheVariants.{None, Some}

-- ---- sizes

-- the bytes of an entry
abbrev pub entry_bytes : ℕ
entry_bytes = 32

-- 28: an area of so many bytes is "a whole 2 to 1,024 places" of an entry each
abbrev pub places_ok : ℕ → Bool
places_ok bytes = eqb (bytes % entry_bytes) 0 && (leb 2 (bytes / entry_bytes) && leb (bytes / entry_bytes) 1024)

-- "the closing entry, 32 bytes of FFh"
unfoldable pub closing_entry : List ℕ
closing_entry = replicate entry_bytes 255

-- entries, one after another
unfoldable pub joined : List (List ℕ) → List ℕ
joined entries = records (λ e. e) entries

-- ---- "free-running 32-bit totals of entries posted and taken, which pass 2^32 in service and must still give the right fill"

-- a total that counted `by` more
unfoldable pub total_after : ℕ → ℕ → ℕ
total_after total by = (total + by) % 2 ^ 32

-- how many entries were posted and not taken
unfoldable pub fill_of : ℕ → ℕ → ℕ
fill_of posted taken = (posted + 2 ^ 32 - taken) % 2 ^ 32

-- ---- the record

-- "A fill above the queue's size, a place outside it, or a full queue not stopped, is unsound"
abbrev pub ring_ok : Ring → Bool
ring_ok r =
    let fill = fill_of r.posted r.taken in
    leb fill r.size && (ltb r.place r.size && (ltb fill r.size || r.stopped))

unfoldable pub queue_ok : Option Ring → Bool
queue_ok None = true
queue_ok (Some r) = ring_ok r

-- ---- what a controller's queue is for the rules: its places, the entries queued now, the oldest first, and whether logging has stopped

pub record Queued : Type 0 where
  pub size : ℕ
  pub entries : List (List ℕ)
  pub stopped : Bool

-- "made anew, empty", in an area of so many bytes
abbrev pub made_of : ℕ → Queued
made_of bytes = record { size = bytes / entry_bytes; entries = []; stopped = false }

-- a post finds at most one place free, of so many that have so many entries
abbrev pub closes_at : ℕ → ℕ → Bool
closes_at size fill = leb size (fill + 1)

-- "A post that finds only one free place is not stored: the closing entry goes there"
abbrev pub posted_to : List ℕ → Queued → Queued
posted_to e q =
    let last = closes_at q.size (length q.entries) in
    record { size = q.size; entries = q.entries ++ cond last closing_entry e ∷ []; stopped = last }

-- "the least of those asked for, those queued and those that fit whole in its buffer": the first so many of the queued
abbrev pub taken_of : ℕ → ℕ → List (List ℕ) → List (List ℕ)
taken_of asked bytes entries = take asked (take (bytes / entry_bytes) entries)

-- "a take says whether its last entry is the closing one": of a queue that has stopped, where it took some, and all
abbrev pub closes_with : Bool → ℕ → ℕ → Bool
closes_with stopped m fill = stopped && (ltb 0 m && eqb m fill)

-- a take hands out the m oldest entries, and the others stay
abbrev pub taken_from : ℕ → Queued → Queued
taken_from m q = record { size = q.size; entries = drop m q.entries; stopped = q.stopped }
