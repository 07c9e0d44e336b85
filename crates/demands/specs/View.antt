-- A record, its marks, the area for a state and those of the queues, seen as a device of the rules (rules' `State`); and the calls of an engine, `tracker`'s or the plain
-- one's (W9), seen as calls of the rules.
use Rattle.std.specs.Prelude.{ℕ, suc, ◌*◌, Bool, false, ◌&&◌, ◌||◌, not, cond, List, [], ◌∷◌, ◌++◌, eqb, length, take, drop}
use Rattle.std.specs.declared.option.Option.{Option}
use Rattle.rules.specs.declared.Ring.{Ring}
use Rattle.std.specs.declared.option.Option.TheVariants.{None, Some}
use Rattle.rules.specs.Units.{units}
use Rattle.rules.specs.Queue.{entry_bytes, Queued}
use Rattle.rules.specs.Order.{Op, start, stop, write, receive, suspend, resume, part, queue, make, post}
use Rattle.rules.specs.Order as order
use Rattle.rules.specs.Device.{controllers_of, shares_of, shares_ok, queues_ok}
use Rattle.rules.specs.Machine.{Marks, off, on, Slot, State, Answer, refused, done, wrote, reported, assembled, posted, taken, Call}
use Rattle.rules.specs.declared.Range.{Range}
use Rattle.rules.specs.declared.Tracking.{Tracking}
use Rattle.rules.specs.declared.Tracking.TheVariants.{Off, On}
use Rattle.rules.specs.declared.Controller.{Controller}
use Rattle.rules.specs.declared.Device.{Device}
use Rattle.calls.specs.declared.Changed.{Changed}
use Rattle.calls.specs.declared.Started.{Started}
use Rattle.rules.specs.Settings.{place_of}
use Rattle.rules.specs.Lists.{is_some}
use Rattle.rules.specs.declared.Settings.{Settings}
use Rattle.rules.specs.declared.Sequence.{Sequence}
use Rattle.ring.specs.Ring.{queued}
use Rattle.record.specs.Record.{front_of}
use Rattle.calls.specs.Calls.{Engine, Change, start_by, stop_by, suspend_change, resume_change, Note, write_by, Receipt, receive_by, Arrival, part_change, queued_in, make_change, Posting, post_change, Taking, take_change}

-- ---- a record and its marks

-- a controller's marks: those of its units, from its share's first bit on
abbrev pub marks_of : Engine → List ℕ → ℕ → Tracking → List Range → Marks
marks_of en ws base Off rs = off
marks_of en ws base (On g n) rs = on g (take n rs) (en.marks ws base (length (units g (take n rs))))

-- W8: a controller's queue, whose entries stand in an area of its own, of which it has the first so many bytes
abbrev pub queue_of : List ℕ → Option Ring → Option Queued
queue_of x None = None
queue_of x (Some r) = Some (record { size = r.size; entries = queued_in (front_of (entry_bytes * r.size) x) r; stopped = r.stopped })

-- W12: the manager that tracks it, 0 where none does
abbrev pub manager_in : Tracking → ℕ → ℕ
manager_in Off m = 0
manager_in (On g n) m = m

-- a controller, with the bytes so far of a state of its own, if one is under way, and with the area of its queue
abbrev pub slot_of : Engine → List ℕ → Controller → Option (List ℕ) → List ℕ → Slot
slot_of en ws c f x =
    record {
      suspended = c.suspended;
      manager = manager_in c.tracking c.manager;
      marks = marks_of en ws c.base c.tracking c.ranges;
      front = f;
      queue = queue_of x c.queue;
    }

-- those of the controller at a place: it is the owner of the open sequence, or there are none
abbrev pub is_at : Option ℕ → ℕ → Bool
is_at None i = false
is_at (Some j) i = eqb j i

abbrev pub front_at : Settings → Option Sequence → List ℕ → ℕ → Option (List ℕ)
front_at s None area i = None
front_at s (Some seq) area i = cond (is_at (place_of s seq.owner) i) (Some (front_of seq.end area)) None

-- the controllers from a place on; each has the area of its place
abbrev pub slots_from : Engine → List ℕ → (ℕ → Option (List ℕ)) → (ℕ → List ℕ) → ℕ → List Controller → List Slot
slots_from en ws f qs i [] = []
slots_from en ws f qs i (c ∷ cs) = slot_of en ws c (f i) (qs i) ∷ slots_from en ws f qs (suc i) cs

-- whether the owner of an open sequence is not in the settings
abbrev pub stray_in : Settings → Option Sequence → Bool
stray_in s None = false
stray_in s (Some seq) = not (is_some (place_of s seq.owner))

-- or the shares (W7) or the queues (W8) are not as they may be
abbrev pub amiss_in : Device → Bool
amiss_in d = stray_in d.settings d.sequence || not (shares_ok (shares_of d) && queues_ok d)

abbrev pub view : Engine → Device → List ℕ → List ℕ → (ℕ → List ℕ) → State
view en d ws area qs = record { settings = d.settings; slots = slots_from en ws (front_at d.settings d.sequence area) qs 0 (controllers_of d); amiss = amiss_in d }

-- ---- a call

-- what a call answers and leaves: the record, the marks, the area for a state, for each place the area of its queue, and the bytes that were lent with it
pub record Outcome : Type 0 where
  pub answer : Answer
  pub device : Device
  pub marks : List ℕ
  pub area : List ℕ
  pub queues : ℕ → List ℕ
  pub bytes : List ℕ

-- a number and its row as an answer: 0 is done. Of the calls, a start alone has a row (W3)
abbrev pub answered : ℕ → ℕ → Answer → Answer
answered n row a = cond (eqb n 0) a (refused n row)

-- what a start comes to, with what was lent with it, and a stop
abbrev pub starts : List ℕ → (ℕ → List ℕ) → List ℕ → Change Started → Outcome
starts area qs x c =
    record { answer = answered c.answer.number c.answer.row done; device = c.answer.device; marks = c.marks; area = area; queues = qs; bytes = x }

abbrev pub stops : List ℕ → (ℕ → List ℕ) → Change Changed → Outcome
stops area qs c = record { answer = answered c.answer.number 0 done; device = c.answer.device; marks = c.marks; area = area; queues = qs; bytes = [] }

-- suspend, resume and a make of a queue change the record alone
abbrev pub flags : List ℕ → List ℕ → (ℕ → List ℕ) → Changed → Outcome
flags ws area qs c = record { answer = answered c.number 0 done; device = c.device; marks = ws; area = area; queues = qs; bytes = [] }

-- a write and a receive leave the record as it was
abbrev pub notes : Device → List ℕ → (ℕ → List ℕ) → Note → Outcome
notes d area qs n =
    record { answer = answered n.answer.number 0 (wrote n.answer.count); device = d; marks = n.marks; area = area; queues = qs; bytes = [] }

abbrev pub receipts : Device → List ℕ → (ℕ → List ℕ) → Receipt → Outcome
receipts d area qs r =
    record { answer = answered r.answer.number 0 (reported r.report); device = d; marks = r.marks; area = area; queues = qs; bytes = r.buffer }

-- a part leaves the marks as they were. Where it answers how many bytes the state has, these are the area's first so many
abbrev pub yields : ℕ → List ℕ → Answer
yields whole area = cond (eqb whole 0) done (assembled (take whole area))

abbrev pub arrives : List ℕ → (ℕ → List ℕ) → List ℕ → Arrival → Outcome
arrives ws qs x a =
    record { answer = answered a.answer.number 0 (yields a.answer.whole a.area); device = a.answer.device; marks = ws; area = a.area; queues = qs; bytes = x }

-- W8: what a call to a queue is lent: the first so many bytes of the area of its controller's place
abbrev pub lent_at : (ℕ → List ℕ) → Option ℕ → ℕ → List ℕ
lent_at qs None bytes = front_of bytes []
lent_at qs (Some i) bytes = front_of bytes (qs i)

-- areas in which these first bytes, at a place, are others
abbrev pub handed_on : (ℕ → List ℕ) → Option ℕ → List ℕ → ℕ → List ℕ
handed_on qs None x = qs
handed_on qs (Some i) x = λ j. cond (eqb j i) (x ++ drop (length x) (qs i)) (qs j)

-- a post hands its area on. (A refused one leaves it as it was lent: Demand1.)
abbrev pub posts : List ℕ → List ℕ → (ℕ → List ℕ) → Option ℕ → List ℕ → Posting → Outcome
posts ws area qs i e r =
    record {
      answer = answered r.answer.number 0 (posted r.answer.stopped);
      device = r.answer.device;
      marks = ws;
      area = area;
      queues = cond (eqb r.answer.number 0) (handed_on qs i r.area) qs;
      bytes = e;
    }

-- the entries that a take answers to have taken are the buffer's first so many
abbrev pub takes : List ℕ → List ℕ → (ℕ → List ℕ) → Taking → Outcome
takes ws area qs r =
    record {
      answer = answered r.answer.number 0 (taken (queued r.buffer r.answer.count 0 r.answer.count) r.answer.closing);
      device = r.answer.device;
      marks = ws;
      area = area;
      queues = qs;
      bytes = r.buffer;
    }

-- the calls of an engine, on a record, marks and areas
abbrev pub run_as : Engine → Device → List ℕ → List ℕ → (ℕ → List ℕ) → ℕ → Op → Outcome
run_as en d ws area qs id (start m x) = starts area qs x (start_by en d ws m id x)
run_as en d ws area qs id (stop m) = stops area qs (stop_by en d ws m id)
run_as en d ws area qs id (write w) = notes d area qs (write_by en d ws id w)
run_as en d ws area qs id (receive m x) = receipts d area qs (receive_by en d ws m id x)
run_as en d ws area qs id (suspend m kind) = flags ws area qs (suspend_change d (en.words ws) m id kind)
run_as en d ws area qs id (resume m) = flags ws area qs (resume_change d (en.words ws) m id)
run_as en d ws area qs id (part m p) = arrives ws qs p.bytes (part_change d (en.words ws) area m id p)
run_as en d ws area qs id (queue bytes make) = flags ws area qs (make_change d (en.words ws) id bytes)
run_as en d ws area qs id (queue bytes (post e)) =
    posts ws area qs (place_of d.settings id) e (post_change d (en.words ws) (lent_at qs (place_of d.settings id) bytes) id e)
run_as en d ws area qs id (queue bytes (order.take asked x)) =
    takes ws area qs (take_change d (en.words ws) (lent_at qs (place_of d.settings id) bytes) id asked x)

unfoldable pub run : Engine → Device → List ℕ → List ℕ → (ℕ → List ℕ) → Call → Outcome
run en d ws area qs k = run_as en d ws area qs k.id k.op
