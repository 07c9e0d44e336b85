-- Document 01, "Refusal numbers": the calls, and the order of each call's refusals, a table each, first hit answers. What a call that is not refused
-- does stands in Machine.antt.
use Rattle.std.specs.Prelude.{ℕ, ◌+◌, ◌*◌, ◌%◌, ◌^◌, Bool, true, false, ◌&&◌, ◌||◌, not, cond, List, [], ◌∷◌, ◌++◌, leb, ltb, eqb, length}
use Rattle.std.specs.declared.option.Option.{Option}
use Rattle.std.specs.declared.option.Option.TheVariants.{None, Some}
use Rattle.rules.specs.Lists.{is_some}
use Rattle.rules.specs.Refusals.{Test, ◌else◌}
use Rattle.rules.specs.Settings.{mark_words, most_units, most_notes, settings_ok, is_manager, limit_of, granularity_ok}
use Rattle.rules.specs.Units.{Write, units}
use Rattle.rules.specs.Ranges.{list_tests}
use Rattle.rules.specs.StartData.{header_tests, ranges_there, granularity_of, count_of, ranges_of}
use Rattle.rules.specs.ControllerState.{state_most, state_ok}
use Rattle.rules.specs.Queue.{entry_bytes, places_ok}
use Rattle.rules.specs.declared.Settings.{Settings}

-- W6: a part of a controller's state as it is sent: its sequence indicator, its offset in two words of 32 bits, its count of dwords, and its data
pub record Part : Type 0 where
  pub indicator : ℕ
  pub low : ℕ
  pub high : ℕ
  pub count : ℕ
  pub bytes : List ℕ

-- W8: a call to a controller's queue: make it, post an entry, or take so many entries into a buffer
pub data QueueCall : Type 0 where
  make : QueueCall
  post : List ℕ → QueueCall
  take : ℕ → List ℕ → QueueCall

-- a call to one controller. Commands of a manager name it first (W12); a controller's write and a call to its queue name none. Then come the bytes that are lent with the
-- call: a start structure, a report's buffer, a part's data, or an entry or a buffer of a queue's call, which also lends so many bytes of the queue's area
pub data Op : Type 0 where
  start : ℕ → List ℕ → Op
  stop : ℕ → Op
  write : Write → Op
  receive : ℕ → List ℕ → Op
  suspend : ℕ → ℕ → Op
  resume : ℕ → Op
  part : ℕ → Part → Op
  queue : ℕ → QueueCall → Op

-- what a call sees of its device: whether the record is sound and the marks are there, whether the identifier is in the settings (a manager's
-- own never is in sound ones), whether its controller is suspended, which manager tracks it, if one does (W12), how many places its queue has, if there is one, and whether
-- that has stopped (W8); and of the controllers now tracked, together, the counts of those that a manager tracks (W12), the counts of all, and their different units (W7)
pub record Seen : Type 0 where
  pub sound : Bool
  pub known : Bool
  pub suspended : Bool
  pub tracker : Option ℕ
  pub places : Option ℕ
  pub stopped : Bool
  pub managed : ℕ → ℕ
  pub counts : ℕ
  pub units : ℕ

-- W6: what a part sees beside that: whether the lent area has its bytes, whether a sequence of another controller is open, and the bytes of its own, if one is
pub record Arriving : Type 0 where
  pub area : Bool
  pub others : Bool
  pub front : Option (List ℕ)

-- Fresh, from settings and a number of mark words
abbrev pub fresh_order : Settings → ℕ → List Test
fresh_order s words =
    (settings_ok s else 16)
    ∷ (eqb words mark_words else 1)
    ∷ []

-- ---- start by a manager, in parts that follow one another

-- the controller: running, and tracked by no manager yet
abbrev pub start_who : Settings → ℕ → Seen → List Test
start_who s m v =
    (v.sound else 1)
    ∷ (is_manager s m else 2)
    ∷ (v.known else 2)
    ∷ (not v.suspended else 4)
    ∷ (not (is_some v.tracker) else 3)
    ∷ []

-- the structure behind its header, by itself: 7, 8 (listed ranges), 18 to 21 with their rows (W3), 10
abbrev pub start_listed : Settings → List ℕ → List Test
start_listed s x =
    (granularity_ok s (granularity_of x) else 7)
    ∷ (ranges_there x else 8)
    ∷ list_tests s (granularity_of x) (count_of x) (ranges_of x)

-- what concerns the controller alone
abbrev pub start_own : Settings → ℕ → Seen → List ℕ → List Test
start_own s m v x = start_who s m v ++ (header_tests x ++ start_listed s x)

-- what controllers share, with so many units tracked now, so many counts by that manager and so many by all: 11, "exactly if the request and all tracked units together
-- pass 16,384" (W7), 12, "exactly if the request and that manager's tracked counts together pass its limit", and 34, "exactly if the request and both managers' tracked
-- counts together pass the shelf's" (W12)
abbrev pub start_shared : Settings → ℕ → ℕ → ℕ → ℕ → List ℕ → List Test
start_shared s m held managed counts x =
    (leb (length (units (granularity_of x) (ranges_of x)) + held) most_units else 11)
    ∷ (leb (count_of x + managed) (limit_of s m) else 12)
    ∷ (leb (count_of x + counts) s.shelf else 34)
    ∷ []

abbrev pub start_order : Settings → ℕ → Seen → List ℕ → List Test
start_order s m v x = start_own s m v x ++ start_shared s m v.units (v.managed m) v.counts x

-- ---- the other calls

-- whether it is that manager who tracks
abbrev pub is_tracker : ℕ → Option ℕ → Bool
is_tracker m None = false
is_tracker m (Some t) = eqb t m

abbrev pub stop_order : Settings → ℕ → Seen → List Test
stop_order s m v =
    (v.sound else 1)
    ∷ (is_manager s m else 2)
    ∷ (v.known else 2)
    ∷ (not v.suspended else 4)
    ∷ (is_tracker m v.tracker else 5)
    ∷ []

-- Write. It ends at most at 2^64
abbrev pub write_order : Seen → Write → List Test
write_order v w =
    (v.sound else 1)
    ∷ (v.known else 2)
    ∷ (not v.suspended else 4)
    ∷ (leb (w.address + w.bytes) (2 ^ 64) else 14)
    ∷ []

-- W4: a batch of so many records, on a record that is sound or not. Its notes have the table of a write each
abbrev pub batch_order : Bool → ℕ → List Test
batch_order sound total =
    (sound else 1)
    ∷ (leb total most_notes else 22)
    ∷ []

-- Receive, into a buffer
abbrev pub receive_order : Settings → ℕ → Seen → List ℕ → List Test
receive_order s m v x =
    (v.sound else 1)
    ∷ (is_manager s m else 2)
    ∷ (v.known else 2)
    ∷ (is_tracker m v.tracker else 5)
    ∷ (leb 32 (length x) else 8)
    ∷ []

-- W12: suspension belongs to the controller, whichever manager asks
abbrev pub suspend_order : Settings → ℕ → Seen → ℕ → List Test
suspend_order s m v kind =
    (v.sound else 1)
    ∷ (is_manager s m else 2)
    ∷ (v.known else 2)
    ∷ (leb kind 1 else 15)
    ∷ []

abbrev pub resume_order : Settings → ℕ → Seen → List Test
resume_order s m v =
    (v.sound else 1)
    ∷ (is_manager s m else 2)
    ∷ (v.known else 2)
    ∷ (v.suspended else 13)
    ∷ []

-- ---- W6: a part of a controller's state

-- where it begins, in bytes
abbrev pub offset_of : Part → ℕ
offset_of p = p.low + 2 ^ 32 * p.high

-- sequence indicators: 01b and 11b the first or only part of a sequence, 10b and 11b the last or only one
abbrev pub first_by : ℕ → Bool
first_by indicator = eqb indicator 1 || eqb indicator 3

abbrev pub last_by : ℕ → Bool
last_by indicator = eqb indicator 2 || eqb indicator 3

abbrev pub is_first : Part → Bool
is_first p = first_by p.indicator

abbrev pub is_last : Part → Bool
is_last p = last_by p.indicator

-- 24: whole dwords, and within the area
abbrev pub is_offset : ℕ → Bool
is_offset n = eqb (n % 4) 0 && leb n state_most

abbrev pub offset_ok : Part → Bool
offset_ok p = is_offset (offset_of p)

-- 25: an indicator of two bits, no dwords with 10b alone, and data of as many dwords as counted
abbrev pub are_counted : ℕ → ℕ → ℕ → Bool
are_counted indicator count bytes = leb indicator 3 && ((ltb 0 count || eqb indicator 2) && eqb bytes (4 * count))

abbrev pub data_ok : Part → Bool
data_ok p = are_counted p.indicator p.count (length p.bytes)

-- 26: "a first or only part begins anew at offset 0, every other where the open sequence's last accepted part ended"
abbrev pub follows_on : Option (List ℕ) → Part → Bool
follows_on None p = false
follows_on (Some f) p = eqb (offset_of p) (length f)

abbrev pub follows : Option (List ℕ) → Part → Bool
follows front p = cond (is_first p) (eqb (offset_of p) 0) (follows_on front p)

-- the bytes so far, with its own behind them
abbrev pub so_far : Option (List ℕ) → List ℕ
so_far None = []
so_far (Some f) = f

abbrev pub joined_with : Option (List ℕ) → Part → List ℕ
joined_with front p = cond (is_first p) p.bytes (so_far front ++ p.bytes)

-- 27: within the area, and where it is the last, a finished state
abbrev pub joined_ok : Option (List ℕ) → Part → Bool
joined_ok front p = leb (length (joined_with front p)) state_most && (not (is_last p) || state_ok (joined_with front p))

abbrev pub part_tests : Arriving → Part → List Test
part_tests a p =
    (not a.others else 23)
    ∷ (offset_ok p else 24)
    ∷ (data_ok p else 25)
    ∷ (follows a.front p else 26)
    ∷ (joined_ok a.front p else 27)
    ∷ []

abbrev pub part_order : Settings → ℕ → Seen → Arriving → Part → List Test
part_order s m v a p =
    (v.sound && a.area else 1)
    ∷ (is_manager s m else 2)
    ∷ (v.known else 2)
    ∷ (v.suspended else 13)
    ∷ part_tests a p

-- ---- W8: a call to a controller's queue, which lends so many bytes of its area

-- 28: "area isn't a whole 2 to 1,024 places, or, for posts and takes, not the size made"
abbrev pub size_made : Option ℕ → ℕ → Bool
size_made None bytes = true
size_made (Some n) bytes = eqb bytes (entry_bytes * n)

-- what a call to a queue asks past 1 and 2, of an area of so many bytes
abbrev pub queue_tests : Seen → ℕ → QueueCall → List Test
queue_tests v bytes make =
    (places_ok bytes else 28)
    ∷ []
queue_tests v bytes (post e) =
    (places_ok bytes && size_made v.places bytes else 28)
    ∷ (is_some v.places else 29)
    ∷ (eqb (length e) entry_bytes else 8)
    ∷ (not v.stopped else 30)
    ∷ []
queue_tests v bytes (take asked x) =
    (places_ok bytes && size_made v.places bytes else 28)
    ∷ (is_some v.places else 29)
    ∷ []

abbrev pub queue_order : Seen → ℕ → QueueCall → List Test
queue_order v bytes c =
    (v.sound else 1)
    ∷ (v.known else 2)
    ∷ queue_tests v bytes c

-- the table of a call
unfoldable pub order : Settings → Seen → Arriving → Op → List Test
order s v a (start m x) = start_order s m v x
order s v a (stop m) = stop_order s m v
order s v a (write w) = write_order v w
order s v a (receive m x) = receive_order s m v x
order s v a (suspend m kind) = suspend_order s m v kind
order s v a (resume m) = resume_order s m v
order s v a (part m p) = part_order s m v a p
order s v a (queue bytes c) = queue_order v bytes c
