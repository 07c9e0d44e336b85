-- Document 01 as a machine: a device is its settings and a slot for each controller; a call to a controller is answered and leaves a device.
-- One call sees the settings, its own controller's slot and what `Seen` says of the device, and changes that slot alone.
use Rattle.std.specs.Prelude.{ℕ, Bool, true, false, ◌&&◌, ◌||◌, not, cond, List, [], ◌∷◌, map, eqb, length, get_or, set}
use Rattle.std.specs.declared.option.Option.{Option}
use Rattle.std.specs.declared.option.Option.TheVariants.{None, Some}
use Rattle.little.specs.Little.{put}
use Rattle.rules.specs.Lists.{all, any, sum, is_some}
use Rattle.rules.specs.Refusals.{verdict}
use Rattle.rules.specs.Settings.{identifiers_of, place_of}
use Rattle.rules.specs.Units.{Unit, Write, units, clear, mark, newly, pending}
use Rattle.rules.specs.StartData.{granularity_of, ranges_of}
use Rattle.rules.specs.Report.{Report, room, report_on, marks_left, report_bytes}
use Rattle.rules.specs.Queue.{joined, Queued, made_of, closes_at, posted_to, taken_of, closes_with, taken_from}
use Rattle.rules.specs.Order.{QueueCall, make, post, take, Op, start, stop, write, receive, suspend, resume, part, queue, Part, is_last, joined_with, Seen, Arriving, fresh_order, order}
use Rattle.rules.specs.Device.{Held, held_count, counts_by, held_units, front_ok, sound, cleaned, closed_settings}
use Rattle.rules.specs.declared.Range.{Range}
use Rattle.rules.specs.declared.Settings.{Settings}

-- ---- a controller's slot

-- not tracked, or tracked with a granularity, ranges and a mark for each of their units
pub data Marks : Type 0 where
  off : Marks
  on : ℕ → List Range → List Bool → Marks

-- suspended or running, how it is tracked and by which manager (W12), which is 0 where it is not, the bytes so far of a state of its own that arrives in parts (W6), if one
-- does, and its queue (W8), if it has one
pub record Slot : Type 0 where
  pub suspended : Bool
  pub manager : ℕ
  pub marks : Marks
  pub front : Option (List ℕ)
  pub queue : Option Queued

abbrev pub fresh_slot : Slot
fresh_slot = record { suspended = false; manager = 0; marks = off; front = None; queue = None }

-- the same slot tracked by another manager with other marks, with other marks alone, with its flag set or clear, with other bytes so far, and with another queue
abbrev pub tracked_with : Slot → ℕ → Marks → Slot
tracked_with c m t = record { suspended = c.suspended; manager = m; marks = t; front = c.front; queue = c.queue }

abbrev pub with_marks_of : Slot → Marks → Slot
with_marks_of c t = tracked_with c c.manager t

abbrev pub with_flag : Slot → Bool → Slot
with_flag c b = record { suspended = b; manager = c.manager; marks = c.marks; front = c.front; queue = c.queue }

abbrev pub with_front : Slot → Option (List ℕ) → Slot
with_front c f = record { suspended = c.suspended; manager = c.manager; marks = c.marks; front = f; queue = c.queue }

abbrev pub with_queued : Slot → Option Queued → Slot
with_queued c q = record { suspended = c.suspended; manager = c.manager; marks = c.marks; front = c.front; queue = q }

abbrev pub is_suspended : Slot → Bool
is_suspended c = c.suspended

-- the manager that tracks it, if one does
abbrev pub tracker_on : ℕ → Marks → Option ℕ
tracker_on m off = None
tracker_on m (on g rs p) = Some m

abbrev pub tracker_in : Slot → Option ℕ
tracker_in c = tracker_on c.manager c.marks

-- what it holds
abbrev pub held_on : ℕ → Marks → Option Held
held_on m off = None
held_on m (on g rs p) = Some (record { manager = m; granularity = g; count = length rs; ranges = rs })

abbrev pub held_by : Slot → Option Held
held_by c = held_on c.manager c.marks

-- whether a state of its own is under way, and whether that is as it may be: of a suspended controller, and as long as parts can be
abbrev pub is_open : Slot → Bool
is_open c = is_some c.front

abbrev pub front_kept : Bool → Option (List ℕ) → Bool
front_kept b None = true
front_kept b (Some f) = b && front_ok (length f)

abbrev pub open_ok : Slot → Bool
open_ok c = front_kept c.suspended c.front

-- its pending units
abbrev pub pending_on : Marks → List Unit
pending_on off = []
pending_on (on g rs p) = pending (units g rs) p

abbrev pub pending_in : Slot → List Unit
pending_in c = pending_on c.marks

-- W8: the places of its queue, if it has one, whether that has stopped, and the entries queued
abbrev pub places_in : Option Queued → Option ℕ
places_in None = None
places_in (Some q) = Some q.size

abbrev pub stopped_in : Option Queued → Bool
stopped_in None = false
stopped_in (Some q) = q.stopped

abbrev pub entries_in : Option Queued → List (List ℕ)
entries_in None = []
entries_in (Some q) = q.entries

-- ---- one call

-- a refusal's number, and its row, which is 0 save where a rule of a row is broken (W3); or done, for a write with its count, for a report with the report, for the
-- last part of a state with its assembled bytes (W6), for a post with whether it is marked stopped, and for a take with the entries taken and whether the last of
-- them is the closing one (W8)
pub data Answer : Type 0 where
  refused : ℕ → ℕ → Answer
  done : Answer
  wrote : ℕ → Answer
  reported : Report → Answer
  assembled : List ℕ → Answer
  posted : Bool → Answer
  taken : List (List ℕ) → Bool → Answer

-- what a write answers and leaves of the marks
abbrev pub wrote_in : Write → Marks → Answer × Marks
wrote_in w off = (wrote 0, off)
wrote_in w (on g rs p) = (wrote (newly w (units g rs) p), on g rs (mark w (units g rs) p))

-- the same of a report into a buffer of so many bytes, which says whether the controller is suspended. (Of one that is not tracked it is refused with 5.)
abbrev pub reported_in : Bool → ℕ → Marks → Answer × Marks
reported_in b bytes off = (done, off)
reported_in b bytes (on g rs p) = (reported (report_on b g (room bytes) (units g rs) p), on g rs (marks_left (room bytes) (units g rs) p))

-- what a part answers and leaves of the bytes so far: the last one yields them all
abbrev pub arrived_in : Part → Option (List ℕ) → Answer × Option (List ℕ)
arrived_in p f = cond (is_last p) (assembled (joined_with f p), None) (done, Some (joined_with f p))

-- what a call to a queue answers and leaves of it. (Of one that was not made a post and a take are refused with 29.)
abbrev pub posted_in : List ℕ → Option Queued → Answer × Option Queued
posted_in e None = (done, None)
posted_in e (Some q) = (posted (closes_at q.size (length q.entries)), Some (posted_to e q))

abbrev pub taken_in : ℕ → ℕ → Option Queued → Answer × Option Queued
taken_in asked bytes None = (done, None)
taken_in asked bytes (Some q) =
    let es = taken_of asked bytes q.entries in
    (taken es (closes_with q.stopped (length es) (length q.entries)), Some (taken_from (length es) q))

abbrev pub queue_in : ℕ → QueueCall → Option Queued → Answer × Option Queued
queue_in bytes make q = (done, Some (made_of bytes))
queue_in bytes (post e) q = posted_in e q
queue_in bytes (take asked x) q = taken_in asked (length x) q

-- an answer, and the slot with the marks that it leaves
abbrev pub leaving : Slot → Answer × Marks → Answer × Slot
leaving c r = (r.0, with_marks_of c r.1)

-- what a call that is not refused answers and leaves
abbrev pub accepted : Slot → Op → Answer × Slot
accepted c (start m x) = (done, tracked_with c m (on (granularity_of x) (ranges_of x) (clear (units (granularity_of x) (ranges_of x)))))
accepted c (stop m) = (done, tracked_with c 0 off)
accepted c (write w) = leaving c (wrote_in w c.marks)
accepted c (receive m x) = leaving c (reported_in c.suspended (length x) c.marks)
accepted c (suspend m kind) = (done, with_flag c (c.suspended || eqb kind 1))
accepted c (resume m) = (done, with_front (with_flag c false) None)
accepted c (part m p) = ((arrived_in p c.front).0, with_front c (arrived_in p c.front).1)
accepted c (queue bytes k) = ((queue_in bytes k c.queue).0, with_queued c (queue_in bytes k c.queue).1)

-- a refused call leaves the slot as it was
abbrev pub slot_step : Settings → Seen → Arriving → Slot → Op → Answer × Slot
slot_step s v w c o = verdict (order s v w o) (accepted c o) (λ n i. (refused n i, c))

-- ---- the device

-- `amiss`: a state arrives for a controller that the settings lack, shares overlap or leave the pool (W7), or a queue is not as it may be (W8), which no calls from a
-- fresh device lead to
pub record State : Type 0 where
  pub settings : Settings
  pub slots : List Slot
  pub amiss : Bool

abbrev pub closed : State
closed = record { settings = closed_settings; slots = []; amiss = false }

-- the device that fresh makes of settings and a number of mark words (a refused one is closed)
abbrev pub opened : Settings → State
opened s = record { settings = cleaned s; slots = map (λ (i : ℕ). fresh_slot) (identifiers_of s); amiss = false }

unfoldable pub fresh : Settings → ℕ → State
fresh s words = verdict (fresh_order s words) (opened s) (λ n i. closed)

abbrev pub sound_state : State → Bool
sound_state st = sound st.settings (map held_by st.slots) (not st.amiss && all open_ok st.slots)

-- the counts of the controllers now tracked by a manager, and of all
abbrev pub managed_in : State → ℕ → ℕ
managed_in st m = counts_by m (map held_by st.slots)

abbrev pub counts_in : State → ℕ
counts_in st = sum (map held_count (map held_by st.slots))

-- and their different units
abbrev pub units_in : State → ℕ
units_in st = sum (map held_units (map held_by st.slots))

-- the slot at a place, and a device with it replaced
abbrev pub slot_at : State → Option ℕ → Slot
slot_at st None = fresh_slot
slot_at st (Some i) = get_or st.slots i fresh_slot

abbrev pub with_slot : State → Option ℕ → Slot → State
with_slot st None c = st
with_slot st (Some i) c = record { settings = st.settings; slots = set st.slots i c; amiss = st.amiss }

-- the slot of a controller
abbrev pub slot_of : State → ℕ → Slot
slot_of st id = slot_at st (place_of st.settings id)

-- what a call to a place sees
abbrev pub seen_at : State → Option ℕ → Seen
seen_at st i =
    record {
      sound = sound_state st;
      known = is_some i;
      suspended = is_suspended (slot_at st i);
      tracker = tracker_in (slot_at st i);
      places = places_in (slot_at st i).queue;
      stopped = stopped_in (slot_at st i).queue;
      managed = managed_in st;
      counts = counts_in st;
      units = units_in st;
    }

-- whether a state is under way in another slot than that at a place
abbrev pub others_open : State → Option ℕ → Bool
others_open st None = any is_open st.slots
others_open st (Some i) = any is_open (set st.slots i fresh_slot)

-- what a part sees beside that. The area that a session hands on has its bytes
abbrev pub arriving_at : State → Option ℕ → Arriving
arriving_at st i = record { area = true; others = others_open st i; front = (slot_at st i).front }

abbrev pub step_at : State → Option ℕ → Op → Answer × State
step_at st i o =
    let r = slot_step st.settings (seen_at st i) (arriving_at st i) (slot_at st i) o in
    (r.0, with_slot st i r.1)

pub record Call : Type 0 where
  pub id : ℕ
  pub op : Op

-- the answer to a call, and the device that it leaves
unfoldable pub step : State → Call → Answer × State
step st k = step_at st (place_of st.settings k.id) k.op

-- ---- sessions

-- a call with its answer
pub record Event : Type 0 where
  pub call : Call
  pub answer : Answer

-- the device that calls leave, each given what the last one left
abbrev pub after : State → List Call → State
after st [] = st
after st (k ∷ ks) = after (step st k).1 ks

-- the calls with their answers, the oldest first
abbrev pub events : State → List Call → List Event
events st [] = []
events st (k ∷ ks) = record { call = k; answer = (step st k).0 } ∷ events (step st k).1 ks

-- the bytes lent with a call. (A queue's area is handed on, and not among them.)
abbrev pub lent_to : QueueCall → List ℕ
lent_to make = []
lent_to (post e) = e
lent_to (take asked x) = x

abbrev pub lent : Op → List ℕ
lent (start m x) = x
lent (stop m) = []
lent (write w) = []
lent (receive m x) = x
lent (suspend m kind) = []
lent (resume m) = []
lent (part m p) = p.bytes
lent (queue bytes k) = lent_to k

-- lent bytes after an answer to a controller's call: a report, and entries that were taken, are stored at the buffer's front, all else is as it was
abbrev pub stored : ℕ → List ℕ → Answer → List ℕ
stored id x (reported r) = put x 0 (report_bytes id r)
stored id x (refused n i) = x
stored id x done = x
stored id x (wrote n) = x
stored id x (assembled y) = x
stored id x (posted b) = x
stored id x (taken es b) = put x 0 (joined es)

-- ---- what an answer says in numbers; a refusal says zero beside its own number

abbrev pub number_of : Answer → ℕ
number_of (refused n i) = n
number_of done = 0
number_of (wrote n) = 0
number_of (reported r) = 0
number_of (assembled y) = 0
number_of (posted b) = 0
number_of (taken es b) = 0

abbrev pub newly_of : Answer → ℕ
newly_of (wrote n) = n
newly_of (refused n i) = 0
newly_of done = 0
newly_of (reported r) = 0
newly_of (assembled y) = 0
newly_of (posted b) = 0
newly_of (taken es b) = 0

abbrev pub no_report : Report
no_report = record { suspended = false; more = false; granularity = 0; descriptors = []; groups = 0 }

abbrev pub report_of : Answer → Report
report_of (reported r) = r
report_of (refused n i) = no_report
report_of done = no_report
report_of (wrote n) = no_report
report_of (assembled y) = no_report
report_of (posted b) = no_report
report_of (taken es b) = no_report

-- the bytes that a finished state has, none otherwise
abbrev pub assembled_of : Answer → List ℕ
assembled_of (assembled y) = y
assembled_of (refused n i) = []
assembled_of done = []
assembled_of (wrote n) = []
assembled_of (reported r) = []
assembled_of (posted b) = []
assembled_of (taken es b) = []

-- whether a post is marked stopped, the entries that a take took, and whether the last of them is the closing one
abbrev pub stopped_of : Answer → Bool
stopped_of (posted b) = b
stopped_of (taken es b) = false
stopped_of (refused n i) = false
stopped_of done = false
stopped_of (wrote n) = false
stopped_of (reported r) = false
stopped_of (assembled y) = false

abbrev pub entries_of : Answer → List (List ℕ)
entries_of (taken es b) = es
entries_of (posted b) = []
entries_of (refused n i) = []
entries_of done = []
entries_of (wrote n) = []
entries_of (reported r) = []
entries_of (assembled y) = []

abbrev pub closing_of : Answer → Bool
closing_of (taken es b) = b
closing_of (posted b) = false
closing_of (refused n i) = false
closing_of done = false
closing_of (wrote n) = false
closing_of (reported r) = false
closing_of (assembled y) = false
