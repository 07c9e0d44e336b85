-- What demand 2 speaks of, told from calls and answers alone: "an accepted write by its controller touched it after tracking last started and after
-- it was last reported". Nothing here looks at a device.
use Rattle.std.specs.Prelude.{ℕ, ◌/◌, ◌≡◌, Bool, true, false, ◌&&◌, ◌||◌, not, cond, List, [], ◌∷◌, ◌++◌, map, eqb, length, drop}
use Rattle.std.specs.declared.option.Option.{Option}
use Rattle.std.specs.declared.option.Option.TheVariants.{None, Some}
use Rattle.rules.specs.Lists.{any}
use Rattle.rules.specs.Settings.{unit_size}
use Rattle.rules.specs.Units.{Unit, covers, touches, units}
use Rattle.rules.specs.StartData.{granularity_of, ranges_of}
use Rattle.rules.specs.Report.{Descriptor, range_of}
use Rattle.rules.specs.Queue.{entry_bytes, closing_entry, Queued}
use Rattle.rules.specs.Order.{QueueCall, make, post, take, Op, start, stop, write, receive, suspend, resume, part, queue, Part, is_first, is_last}
use Rattle.rules.specs.Machine.{Answer, refused, done, wrote, reported, assembled, posted, taken, report_of, stopped_of, entries_of, Call, Event, Marks, off, on, Slot}
use Rattle.rules.specs.declared.Range.{Range}

-- a call to a controller with its answer
pub record Did : Type 0 where
  pub op : Op
  pub answer : Answer

-- the calls to a controller, and those with their answers: its history, the oldest first
abbrev pub only : ℕ → List Call → List Call
only a [] = []
only a (k ∷ ks) = cond (eqb k.id a) (k ∷ only a ks) (only a ks)

abbrev pub history_of : ℕ → List Event → List Did
history_of a [] = []
history_of a (e ∷ es) = cond (eqb e.call.id a) (record { op = e.call.op; answer = e.answer } ∷ history_of a es) (history_of a es)

-- ---- what one call did

abbrev pub is_accepted : Answer → Bool
is_accepted (refused n i) = false
is_accepted done = true
is_accepted (wrote n) = true
is_accepted (reported r) = true
is_accepted (assembled y) = true
is_accepted (posted b) = true
is_accepted (taken es b) = true

abbrev pub writes : Op → Unit → Bool
writes (write w) u = touches w u
writes (start m x) u = false
writes (stop m) u = false
writes (receive m x) u = false
writes (suspend m kind) u = false
writes (resume m) u = false
writes (part m p) u = false
writes (queue bytes k) u = false

abbrev pub starts : Op → Bool
starts (start m x) = true
starts (stop m) = false
starts (write w) = false
starts (receive m x) = false
starts (suspend m kind) = false
starts (resume m) = false
starts (part m p) = false
starts (queue bytes k) = false

-- an accepted write touched the unit
abbrev pub touched_by : Did → Unit → Bool
touched_by d u = is_accepted d.answer && writes d.op u

-- tracking started
abbrev pub started_by : Did → Bool
started_by d = is_accepted d.answer && starts d.op

-- a descriptor, in units of a granularity, lists the unit
abbrev pub lists : ℕ → Descriptor → Unit → Bool
lists g d u = covers (unit_size g) (range_of d) u.address

-- the unit was reported (an answer that is no report has no descriptors)
abbrev pub reported_by : Did → Unit → Bool
reported_by d u = any (λ (x : Descriptor). lists (report_of d.answer).granularity x u) (report_of d.answer).descriptors

-- ---- what a history says of a unit

-- tracking did not start, and the unit was not reported
abbrev pub quiet_since : List Did → Unit → Bool
quiet_since [] u = true
quiet_since (d ∷ h) u = not (started_by d || reported_by d u) && quiet_since h u

-- some accepted write touched the unit, and since then it was quiet
abbrev pub pending_by : List Did → Unit → Bool
pending_by [] u = false
pending_by (d ∷ h) u = touched_by d u && quiet_since h u || pending_by h u

-- the same as a statement: the history is `before`, then an accepted write that touched the unit, then `later`
pub record PendingBy (h : List Did) (u : Unit) : Type 0 where
  pub before : List Did
  pub last : Did
  pub later : List Did
  pub is : h ≡ before ++ last ∷ later
  pub touched : touched_by last u ≡ true
  pub quiet : quiet_since later u ≡ true

-- ---- what a history says of a controller

-- what its accepted calls make of something, one after another
abbrev pub told_by : {A : Type 0} → (A → Op → A) → A → List Did → A
told_by f x [] = x
told_by f x (d ∷ h) = told_by f (cond (is_accepted d.answer) (f x d.op) x) h

-- with what granularity and ranges it is tracked: those of the last accepted start, unless a stop was accepted after it
abbrev pub tracks_after : Option (ℕ × List Range) → Op → Option (ℕ × List Range)
tracks_after t (start m x) = Some (granularity_of x, ranges_of x)
tracks_after t (stop m) = None
tracks_after t (write w) = t
tracks_after t (receive m x) = t
tracks_after t (suspend m kind) = t
tracks_after t (resume m) = t
tracks_after t (part m p) = t
tracks_after t (queue bytes k) = t

abbrev pub tracks_by : Option (ℕ × List Range) → List Did → Option (ℕ × List Range)
tracks_by t h = told_by tracks_after t h

-- W12: by which manager, 0 where by none
abbrev pub manages_after : ℕ → Op → ℕ
manages_after t (start m x) = m
manages_after t (stop m) = 0
manages_after t (write w) = t
manages_after t (receive m x) = t
manages_after t (suspend m kind) = t
manages_after t (resume m) = t
manages_after t (part m p) = t
manages_after t (queue bytes k) = t

abbrev pub manager_by : List Did → ℕ
manager_by h = told_by manages_after 0 h

-- whether it is suspended: by the last accepted suspend of type 1 or resume
abbrev pub suspends_after : Bool → Op → Bool
suspends_after b (suspend m kind) = b || eqb kind 1
suspends_after b (resume m) = false
suspends_after b (start m x) = b
suspends_after b (stop m) = b
suspends_after b (write w) = b
suspends_after b (receive m x) = b
suspends_after b (part m p) = b
suspends_after b (queue bytes k) = b

abbrev pub suspended_by : Bool → List Did → Bool
suspended_by b h = told_by suspends_after b h

-- W6: whether a state of its own is under way: from an accepted part that is not the last one on, until a last or only one or a resume is accepted
abbrev pub opens_after : Bool → Op → Bool
opens_after b (part m p) = not (is_last p)
opens_after b (resume m) = false
opens_after b (start m x) = b
opens_after b (stop m) = b
opens_after b (write w) = b
opens_after b (receive m x) = b
opens_after b (suspend m kind) = b
opens_after b (queue bytes k) = b

abbrev pub open_by : List Did → Bool
open_by h = told_by opens_after false h

-- and its bytes so far: the data of the accepted parts since and with the last accepted first or only one, joined
abbrev pub joins_with : List ℕ → Part → List ℕ
joins_with x p = cond (is_first p) p.bytes (x ++ p.bytes)

abbrev pub joins_after : List ℕ → Op → List ℕ
joins_after x (part m p) = joins_with x p
joins_after x (start m y) = x
joins_after x (stop m) = x
joins_after x (write w) = x
joins_after x (receive m y) = x
joins_after x (suspend m kind) = x
joins_after x (resume m) = x
joins_after x (queue bytes k) = x

abbrev pub joined_by : List Did → List ℕ
joined_by h = told_by joins_after [] h

abbrev pub front_by : List Did → Option (List ℕ)
front_by h = cond (open_by h) (Some (joined_by h)) None

-- ---- W8: what a history says of a controller's queue

-- what a call to its queue makes of something; any other call leaves that
abbrev pub on_queue : {A : Type 0} → (A → ℕ → QueueCall → Answer → A) → A → Op → Answer → A
on_queue f x (queue bytes k) a = f x bytes k a
on_queue f x (start m y) a = x
on_queue f x (stop m) a = x
on_queue f x (write w) a = x
on_queue f x (receive m y) a = x
on_queue f x (suspend m kind) a = x
on_queue f x (resume m) a = x
on_queue f x (part m p) a = x

-- what its accepted calls, with their answers, make of something, one after another
abbrev pub logged_by : {A : Type 0} → (A → ℕ → QueueCall → Answer → A) → A → List Did → A
logged_by f x [] = x
logged_by f x (d ∷ h) = logged_by f (cond (is_accepted d.answer) (on_queue f x d.op d.answer) x) h

-- how many places the queue has: as the last accepted make says
abbrev pub size_after : Option ℕ → ℕ → QueueCall → Answer → Option ℕ
size_after n bytes make a = Some (bytes / entry_bytes)
size_after n bytes (post e) a = n
size_after n bytes (take asked x) a = n

abbrev pub size_by : List Did → Option ℕ
size_by h = logged_by size_after None h

-- the entries stored since then, in order: those of the accepted posts, and for one that is marked stopped the closing entry in its place
abbrev pub stores_after : List (List ℕ) → ℕ → QueueCall → Answer → List (List ℕ)
stores_after es bytes make a = []
stores_after es bytes (post e) a = es ++ cond (stopped_of a) closing_entry e ∷ []
stores_after es bytes (take asked x) a = es

abbrev pub stored_by : List Did → List (List ℕ)
stored_by h = logged_by stores_after [] h

-- the entries taken since then, in order
abbrev pub takes_after : List (List ℕ) → ℕ → QueueCall → Answer → List (List ℕ)
takes_after es bytes make a = []
takes_after es bytes (post e) a = es
takes_after es bytes (take asked x) a = es ++ entries_of a

abbrev pub taken_by : List Did → List (List ℕ)
taken_by h = logged_by takes_after [] h

-- whether an accepted post since then was marked stopped: no later one is accepted
abbrev pub stops_after : Bool → ℕ → QueueCall → Answer → Bool
stops_after b bytes make a = false
stops_after b bytes (post e) a = stopped_of a
stops_after b bytes (take asked x) a = b

abbrev pub stopped_by : List Did → Bool
stopped_by h = logged_by stops_after false h

-- the queue that it tells: what was stored and not taken yet
abbrev pub queued_by : List Did → Option ℕ → Option Queued
queued_by h None = None
queued_by h (Some n) = Some (record { size = n; entries = drop (length (taken_by h)) (stored_by h); stopped = stopped_by h })

abbrev pub queue_by : List Did → Option Queued
queue_by h = queued_by h (size_by h)

-- the slot that a history tells: each unit of the tracked ranges is pending as the history says
abbrev pub marks_by : List Did → Option (ℕ × List Range) → Marks
marks_by h None = off
marks_by h (Some t) = on t.0 t.1 (map (pending_by h) (units t.0 t.1))

abbrev pub slot_by : List Did → Slot
slot_by h = record { suspended = suspended_by false h; manager = manager_by h; marks = marks_by h (tracks_by None h); front = front_by h; queue = queue_by h }
