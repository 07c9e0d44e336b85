-- What each call answers and leaves, as a total function of what it is given: any record, any words, any bytes. The refusals are the tables of
-- `rules` (Order.antt), and what is done is done by the rules' own functions on the controller's units and marks. The calls that touch marks are said once for
-- any engine (W9), which is a way to hold marks in an area; `…Change`, `write_note` and `receive_receipt` are those of the engine that holds them in words. A call of
-- a manager's names it first, then its controller (W12).
use Rattle.std.specs.Prelude.{ℕ, suc, ◌+◌, ◌*◌, ◌/◌, Bool, false, ◌||◌, cond, List, [], ◌∷◌, map, eqb, length, take, get_or, replicate}
use Rattle.std.specs.declared.option.Option.{Option}
use Rattle.std.specs.declared.option.Option.TheVariants.{None, Some}
use Rattle.bits.specs.Flat.{flat}
use Rattle.bits.specs.Span.{fill}
use Rattle.bits.specs.Share.{get_share, put_share}
use Rattle.bits.specs.Pack.{pack}
use Rattle.pool.specs.Pool.{new_base, packed}
use Rattle.little.specs.Little.{put}
use Rattle.rules.specs.Refusals.{verdict}
use Rattle.rules.specs.Settings.{place_of}
use Rattle.rules.specs.Units.{Unit, Write, units, mark, newly}
use Rattle.rules.specs.StartData.{granularity_of, count_of, ranges_of, placed}
use Rattle.rules.specs.Report.{Report, room, report_on, marks_left, report_bytes}
use Rattle.rules.specs.Queue.{entry_bytes, closing_entry, joined, total_after, fill_of, closes_at, taken_of, closes_with}
use Rattle.rules.specs.Order.{fresh_order, start_order, stop_order, write_order, batch_order, receive_order, suspend_order, resume_order, Part, offset_of, is_last, joined_with, part_order, make, post, queue_order}
use Rattle.rules.specs.Order as order
use Rattle.rules.specs.Device.{held_units, held_of, shares_of, fresh_of}
use Rattle.rules.specs.Machine.{no_report}
use Rattle.rules.specs.declared.Range.{Range}
use Rattle.rules.specs.declared.Tracking.{Tracking}
use Rattle.rules.specs.declared.Tracking.TheVariants.{Off, On}
use Rattle.rules.specs.declared.Share.{Share}
use Rattle.rules.specs.declared.Sequence.{Sequence}
use Rattle.rules.specs.declared.Ring.{Ring}
use Rattle.rules.specs.declared.Controller.{Controller}
use Rattle.rules.specs.declared.Settings.{Settings}
use Rattle.rules.specs.declared.Device.{Device}
use Rattle.ring.specs.Ring.{place_after, queued}
use Rattle.record.specs.Record.{sound_with, controller_at, with_controller, with_sequence, seen_in, owned_by, front_in, arriving_in}
use Rattle.calls.specs.declared.Changed.{Changed}
use Rattle.calls.specs.declared.Started.{Started}
use Rattle.calls.specs.declared.Written.{Written}
use Rattle.calls.specs.declared.WriteRecord.{WriteRecord}
use Rattle.calls.specs.declared.Batched.{Batched}
use Rattle.calls.specs.declared.Received.{Received}
use Rattle.calls.specs.declared.StateSet.{StateSet}
use Rattle.calls.specs.declared.Posted.{Posted}
use Rattle.calls.specs.declared.Taken.{Taken}

-- ---- a controller's marks

-- so many marks from a bit on
abbrev pub marks_at : List ℕ → ℕ → ℕ → List Bool
marks_at ws base n = get_share (flat ws) base n

-- words with other marks from a bit on, and every other bit as it was
unfoldable pub with_marks : List ℕ → ℕ → List Bool → List ℕ
with_marks ws base p = pack (length ws) (put_share (flat ws) base p)

-- words with so many marks clear from a bit on
unfoldable pub with_clear : List ℕ → ℕ → ℕ → List ℕ
with_clear ws base n = pack (length ws) (fill false (flat ws) base n)

-- ---- W7: the shares of the pool

-- where the shares of a record's places begin, and how many bits they have
abbrev pub bases_of : Device → List ℕ
bases_of d = map (λ (a : Share). a.base) (shares_of d)

abbrev pub sizes_of : Device → List ℕ
sizes_of d = map (λ (a : Share). a.size) (shares_of d)

-- the same controller with its share elsewhere
abbrev pub with_base : Controller → ℕ → Controller
with_base c base = record { tracking = c.tracking; manager = c.manager; base = base; suspended = c.suspended; ranges = c.ranges; queue = c.queue }

-- controllers from place i on whose shares, of these sizes, are packed: one that has none is as it was
abbrev pub packed_from : List ℕ → ℕ → List Controller → List Controller
packed_from sizes i [] = []
packed_from sizes i (c ∷ cs) = cond (eqb (get_or sizes i 0) 0) c (with_base c (new_base sizes i)) ∷ packed_from sizes (suc i) cs

-- a record whose shares stand one after another from bit 0 on, in the order of the settings
abbrev pub packed_device : Device → Device
packed_device d = record { settings = d.settings; controllers = packed_from (sizes_of d) 0 d.controllers; sequence = d.sequence }

-- the words in which shares that began at these bits, of these sizes, stand so, with their marks, but for the one at place i, which is clear; every bit behind
-- them is 0
unfoldable pub packed_words : List ℕ → List ℕ → List ℕ → ℕ → List ℕ
packed_words ws bases sizes i = pack (length ws) (packed (flat ws) bases sizes i)

-- ---- an engine (W9)

-- how marks are held in an area: for how many words it stands, of which 1 asks, the marks of so many units from a place on, and what it is after a fresh, after a
-- write to the units from a place on, after a report of them with room for so many runs, with so many of them clear, and with its shares packed
pub record Engine : Type 0 where
  pub words : List ℕ → ℕ
  pub marks : List ℕ → ℕ → ℕ → List Bool
  pub emptied : List ℕ → List ℕ
  pub marked : List ℕ → ℕ → Write → List Unit → List ℕ
  pub reported : List ℕ → ℕ → ℕ → List Unit → List ℕ
  pub cleared : List ℕ → ℕ → ℕ → List ℕ
  pub packed : List ℕ → List ℕ → List ℕ → ℕ → List ℕ

-- in words, one bit a unit
abbrev pub in_words : Engine
in_words =
    record {
      words = λ ws. length ws;
      marks = marks_at;
      emptied = λ ws. replicate (length ws) 0;
      marked = λ ws base w us. with_marks ws base (mark w us (marks_at ws base (length us)));
      reported = λ ws base k us. with_marks ws base (marks_left k us (marks_at ws base (length us)));
      cleared = with_clear;
      packed = packed_words;
    }

-- ---- what a call answers, and the marks that it leaves

pub record Change (A : Type 0) : Type 0 where
  pub answer : A
  pub marks : List ℕ

-- of a call that may change the record
abbrev pub changed : ℕ → Device → List ℕ → Change Changed
changed n d ws = record { answer = record { number = n; device = d }; marks = ws }

-- a start's answer has a row too
abbrev pub started_with : ℕ → ℕ → Device → List ℕ → Change Started
started_with n row d ws = record { answer = record { number = n; row = row; device = d }; marks = ws }

-- ---- calls that may change the record

-- fresh: done, all marks are 0; refused, the device is closed
unfoldable pub fresh_by : Engine → Settings → List ℕ → Change Changed
fresh_by e s ws =
    verdict (fresh_order s (e.words ws))
    (changed 0 (fresh_of s (e.words ws)) (e.emptied ws))
    (λ n i. changed n (fresh_of s (e.words ws)) ws)

abbrev pub fresh_change : Settings → List ℕ → Change Changed
fresh_change s ws = fresh_by in_words s ws

-- a start by a manager records it (W12), granularity, count and ranges, with zeros in the other places, and packs the shares, its own clear among them
abbrev pub started : Controller → ℕ → List ℕ → Controller
started c m x = record { tracking = On (granularity_of x) (count_of x); manager = m; base = 0; suspended = c.suspended; ranges = placed (ranges_of x); queue = c.queue }

abbrev pub start_done : Engine → Device → List ℕ → ℕ → List ℕ → Option ℕ → Change Started
start_done e d ws m x None = started_with 0 0 d ws
start_done e d ws m x (Some i) =
    let d' = with_controller d i (started (controller_at d (Some i)) m x) in
    started_with 0 0 (packed_device d') (e.packed ws (bases_of d) (sizes_of d') i)

abbrev pub start_at : Engine → Device → List ℕ → ℕ → List ℕ → Option ℕ → Change Started
start_at e d ws m x p = verdict (start_order d.settings m (seen_in d (e.words ws) p) x) (start_done e d ws m x p) (λ n i. started_with n i d ws)

unfoldable pub start_by : Engine → Device → List ℕ → ℕ → ℕ → List ℕ → Change Started
start_by e d ws m id x = start_at e d ws m x (place_of d.settings id)

abbrev pub start_change : Device → List ℕ → ℕ → ℕ → List ℕ → Change Started
start_change d ws m id x = start_by in_words d ws m id x

-- a stop forgets the ranges and the manager and clears the share; no other moves
abbrev pub stopped : Controller → Controller
stopped c = record { tracking = Off; manager = 0; base = 0; suspended = c.suspended; ranges = placed []; queue = c.queue }

abbrev pub stop_done : Engine → Device → List ℕ → Option ℕ → Change Changed
stop_done e d ws None = changed 0 d ws
stop_done e d ws (Some i) =
    let c = controller_at d (Some i) in
    changed 0 (with_controller d i (stopped c)) (e.cleared ws c.base (held_units (held_of c)))

abbrev pub stop_at : Engine → Device → List ℕ → ℕ → Option ℕ → Change Changed
stop_at e d ws m p = verdict (stop_order d.settings m (seen_in d (e.words ws) p)) (stop_done e d ws p) (λ n i. changed n d ws)

unfoldable pub stop_by : Engine → Device → List ℕ → ℕ → ℕ → Change Changed
stop_by e d ws m id = stop_at e d ws m (place_of d.settings id)

abbrev pub stop_change : Device → List ℕ → ℕ → ℕ → Change Changed
stop_change d ws m id = stop_by in_words d ws m id

-- a suspend changes the flag alone
abbrev pub flagged : Controller → Bool → Controller
flagged c b = record { tracking = c.tracking; manager = c.manager; base = c.base; suspended = b; ranges = c.ranges; queue = c.queue }

abbrev pub flag_done : Device → Option ℕ → Bool → Changed
flag_done d None b = record { number = 0; device = d }
flag_done d (Some i) b = record { number = 0; device = with_controller d i (flagged (controller_at d (Some i)) b) }

abbrev pub suspend_at : Device → ℕ → ℕ → ℕ → Option ℕ → Changed
suspend_at d words m kind p =
    verdict (suspend_order d.settings m (seen_in d words p) kind) (flag_done d p ((controller_at d p).suspended || eqb kind 1)) (λ n i. record { number = n; device = d })

unfoldable pub suspend_change : Device → ℕ → ℕ → ℕ → ℕ → Changed
suspend_change d words m id kind = suspend_at d words m kind (place_of d.settings id)

-- a resume changes the flag, and drops a state of its own that is under way (W6)
abbrev pub dropped : ℕ → Option Sequence → Option Sequence
dropped id q = cond (owned_by id q) None q

abbrev pub resume_done : Device → ℕ → Option ℕ → Changed
resume_done d id None = record { number = 0; device = d }
resume_done d id (Some i) = record { number = 0; device = with_sequence (with_controller d i (flagged (controller_at d (Some i)) false)) (dropped id d.sequence) }

abbrev pub resume_at : Device → ℕ → ℕ → ℕ → Option ℕ → Changed
resume_at d words m id p = verdict (resume_order d.settings m (seen_in d words p)) (resume_done d id p) (λ n i. record { number = n; device = d })

unfoldable pub resume_change : Device → ℕ → ℕ → ℕ → Changed
resume_change d words m id = resume_at d words m id (place_of d.settings id)

-- ---- write

-- what a noted write answers, and the marks that it leaves
abbrev pub Note : Type 0
Note = Change Written

abbrev pub noted : ℕ → ℕ → List ℕ → Note
noted n count ws = record { answer = record { number = n; count = count }; marks = ws }

-- touched units of tracked ranges become pending, and those that were not are counted
abbrev pub note_in : Engine → List ℕ → ℕ → Tracking → List Range → Write → Note
note_in e ws base Off rs w = noted 0 0 ws
note_in e ws base (On g n) rs w =
    noted 0 (newly w (units g (take n rs)) (e.marks ws base (length (units g (take n rs))))) (e.marked ws base w (units g (take n rs)))

abbrev pub write_done : Engine → Device → List ℕ → Write → Option ℕ → Note
write_done e d ws w None = noted 0 0 ws
write_done e d ws w (Some i) = note_in e ws (controller_at d (Some i)).base (controller_at d (Some i)).tracking (controller_at d (Some i)).ranges w

abbrev pub write_at : Engine → Device → List ℕ → Write → Option ℕ → Note
write_at e d ws w p = verdict (write_order (seen_in d (e.words ws) p) w) (write_done e d ws w p) (λ n i. noted n 0 ws)

unfoldable pub write_by : Engine → Device → List ℕ → ℕ → Write → Note
write_by e d ws id w = write_at e d ws w (place_of d.settings id)

abbrev pub write_note : Device → List ℕ → ℕ → Write → Note
write_note d ws id w = write_by in_words d ws id w

-- ---- a batch of notes (W4)

-- a record as a write
abbrev pub write_in : WriteRecord → Write
write_in r = record { address = r.address; bytes = r.bytes.0 }

abbrev pub batched : ℕ → ℕ → ℕ → ℕ → List ℕ → Change Batched
batched number done count refusal ws = record { answer = record { number = number; done = done; count = count; refusal = refusal }; marks = ws }

-- the notes of a list, one after another, up to the first that is refused, after so many done and so many units
abbrev pub notes_from : Engine → Device → List ℕ → ℕ → ℕ → List WriteRecord → Change Batched
notes_from e d ws done count [] = batched 0 done count 0 ws
notes_from e d ws done count (r ∷ rs) =
    let n = write_by e d ws r.id (write_in r) in
    cond (eqb n.answer.number 0) (notes_from e d n.marks (done + 1) (count + n.answer.count) rs) (batched 0 done count n.answer.number n.marks)

unfoldable pub batch_by : Engine → Device → List ℕ → List WriteRecord → Change Batched
batch_by e d ws rs = verdict (batch_order (sound_with d (e.words ws)) (length rs)) (notes_from e d ws 0 0 rs) (λ n i. batched n 0 0 0 ws)

abbrev pub batch_change : Device → List ℕ → List WriteRecord → Change Batched
batch_change d ws rs = batch_by in_words d ws rs

-- ---- receive

-- what a receive answers, the report that its answer and its buffer are made of, and the marks and the buffer that it leaves
pub record Receipt : Type 0 where
  pub answer : Received
  pub report : Report
  pub marks : List ℕ
  pub buffer : List ℕ

abbrev pub received : ℕ → Report → List ℕ → List ℕ → Receipt
received n r ws x =
    record {
      answer =
          record {
            number = n;
            suspended = r.suspended;
            more = r.more;
            granularity = r.granularity;
            runs = length r.descriptors;
            groups = r.groups;
          };
      report = r;
      marks = ws;
      buffer = x;
    }

-- the report of a tracked controller, whose units are us: the reported units are made clear, and the report is stored at the buffer's front
abbrev pub report_in : Engine → List ℕ → ℕ → ℕ → Bool → ℕ → List Unit → List ℕ → Receipt
report_in e ws base id b g us x =
    let r = report_on b g (room (length x)) us (e.marks ws base (length us)) in
    received 0 r (e.reported ws base (room (length x)) us) (put x 0 (report_bytes id r))

abbrev pub receive_in : Engine → List ℕ → ℕ → ℕ → Bool → Tracking → List Range → List ℕ → Receipt
receive_in e ws base id b Off rs x = received 0 no_report ws x
receive_in e ws base id b (On g n) rs x = report_in e ws base id b g (units g (take n rs)) x

abbrev pub receive_done : Engine → Device → List ℕ → ℕ → List ℕ → Option ℕ → Receipt
receive_done e d ws id x None = received 0 no_report ws x
receive_done e d ws id x (Some i) =
    receive_in e ws (controller_at d (Some i)).base id (controller_at d (Some i)).suspended (controller_at d (Some i)).tracking (controller_at d (Some i)).ranges x

abbrev pub receive_at : Engine → Device → List ℕ → ℕ → ℕ → List ℕ → Option ℕ → Receipt
receive_at e d ws m id x p = verdict (receive_order d.settings m (seen_in d (e.words ws) p) x) (receive_done e d ws id x p) (λ n i. received n no_report ws x)

unfoldable pub receive_by : Engine → Device → List ℕ → ℕ → ℕ → List ℕ → Receipt
receive_by e d ws m id x = receive_at e d ws m id x (place_of d.settings id)

abbrev pub receive_receipt : Device → List ℕ → ℕ → ℕ → List ℕ → Receipt
receive_receipt d ws m id x = receive_by in_words d ws m id x

-- ---- a part of a state (W6)

-- what a part answers, and the area that it leaves
pub record Arrival : Type 0 where
  pub answer : StateSet
  pub area : List ℕ

abbrev pub arrival : ℕ → ℕ → Device → List ℕ → Arrival
arrival n whole d area = record { answer = record { number = n; whole = whole; device = d }; area = area }

-- its data are stored in their place. The last part yields the whole and ends the sequence, any other leaves it open
abbrev pub part_done : Device → List ℕ → ℕ → Part → Arrival
part_done d area id p =
    let joined = joined_with (front_in id d.sequence area) p in
    let stored = put area (offset_of p) p.bytes in
    cond (is_last p) (arrival 0 (length joined) (with_sequence d None) stored) (arrival 0 0 (with_sequence d (Some (record { owner = id; end = length joined }))) stored)

abbrev pub part_at : Device → ℕ → List ℕ → ℕ → ℕ → Part → Option ℕ → Arrival
part_at d words area m id p i = verdict (part_order d.settings m (seen_in d words i) (arriving_in d.sequence area id) p) (part_done d area id p) (λ n j. arrival n 0 d area)

unfoldable pub part_change : Device → ℕ → List ℕ → ℕ → ℕ → Part → Arrival
part_change d words area m id p = part_at d words area m id p (place_of d.settings id)

-- ---- a controller's queue (W8)

-- a record in which the controller at a place has another queue
abbrev pub queuing : Controller → Option Ring → Controller
queuing c q = record { tracking = c.tracking; manager = c.manager; base = c.base; suspended = c.suspended; ranges = c.ranges; queue = q }

abbrev pub with_queue : Device → ℕ → Option Ring → Device
with_queue d i q = with_controller d i (queuing (controller_at d (Some i)) q)

-- a make: an empty queue, with totals 0, as large as the area
abbrev pub made_ring : ℕ → Ring
made_ring bytes = record { size = bytes / entry_bytes; posted = 0; taken = 0; place = 0; stopped = false }

abbrev pub make_done : Device → ℕ → Option ℕ → Changed
make_done d bytes None = record { number = 0; device = d }
make_done d bytes (Some i) = record { number = 0; device = with_queue d i (Some (made_ring bytes)) }

abbrev pub make_at : Device → ℕ → ℕ → Option ℕ → Changed
make_at d words bytes p = verdict (queue_order (seen_in d words p) bytes make) (make_done d bytes p) (λ n i. record { number = n; device = d })

unfoldable pub make_change : Device → ℕ → ℕ → ℕ → Changed
make_change d words id bytes = make_at d words bytes (place_of d.settings id)

-- how many entries a ring has queued, and these, in an area
abbrev pub fill_in : Ring → ℕ
fill_in r = fill_of r.posted r.taken

abbrev pub queued_in : List ℕ → Ring → List (List ℕ)
queued_in area r = queued area r.size r.place (fill_in r)

-- a ring with one entry more, which was the closing one or not, and one without its m oldest entries
abbrev pub ring_posted : Ring → Bool → Ring
ring_posted r closed = record { size = r.size; posted = total_after r.posted 1; taken = r.taken; place = r.place; stopped = closed }

abbrev pub ring_taken : Ring → ℕ → Ring
ring_taken r m =
    record { size = r.size; posted = r.posted; taken = total_after r.taken m; place = place_after r.size r.place m; stopped = r.stopped }

-- what a post answers, and the area that it leaves: the entry, or the closing one, behind those that are queued
pub record Posting : Type 0 where
  pub answer : Posted
  pub area : List ℕ

abbrev pub posting : ℕ → Bool → Device → List ℕ → Posting
posting n stopped d area = record { answer = record { number = n; stopped = stopped; device = d }; area = area }

abbrev pub post_in : Device → ℕ → List ℕ → List ℕ → Option Ring → Posting
post_in d i area e None = posting 0 false d area
post_in d i area e (Some r) =
    let last = closes_at r.size (fill_in r) in
    posting 0 last (with_queue d i (Some (ring_posted r last)))
    (put area (entry_bytes * place_after r.size r.place (fill_in r)) (cond last closing_entry e))

abbrev pub post_done : Device → List ℕ → List ℕ → Option ℕ → Posting
post_done d area e None = posting 0 false d area
post_done d area e (Some i) = post_in d i area e (controller_at d (Some i)).queue

abbrev pub post_at : Device → ℕ → List ℕ → List ℕ → Option ℕ → Posting
post_at d words area e p = verdict (queue_order (seen_in d words p) (length area) (post e)) (post_done d area e p) (λ n i. posting n false d area)

unfoldable pub post_change : Device → ℕ → List ℕ → ℕ → List ℕ → Posting
post_change d words area id e = post_at d words area e (place_of d.settings id)

-- what a take answers, and the buffer that it leaves: the oldest entries at its front
pub record Taking : Type 0 where
  pub answer : Taken
  pub buffer : List ℕ

abbrev pub taking : ℕ → ℕ → Bool → Device → List ℕ → Taking
taking n count closing d x = record { answer = record { number = n; count = count; closing = closing; device = d }; buffer = x }

abbrev pub take_in : Device → ℕ → List ℕ → ℕ → List ℕ → Option Ring → Taking
take_in d i area asked x None = taking 0 0 false d x
take_in d i area asked x (Some r) =
    let es = taken_of asked (length x) (queued_in area r) in
    let m = length es in
    taking 0 m (closes_with r.stopped m (fill_in r)) (with_queue d i (Some (ring_taken r m))) (put x 0 (joined es))

abbrev pub take_done : Device → List ℕ → ℕ → List ℕ → Option ℕ → Taking
take_done d area asked x None = taking 0 0 false d x
take_done d area asked x (Some i) = take_in d i area asked x (controller_at d (Some i)).queue

abbrev pub take_at : Device → ℕ → List ℕ → ℕ → List ℕ → Option ℕ → Taking
take_at d words area asked x p = verdict (queue_order (seen_in d words p) (length area) (order.take asked x)) (take_done d area asked x p) (λ n i. taking n 0 false d x)

unfoldable pub take_change : Device → ℕ → List ℕ → ℕ → ℕ → List ℕ → Taking
take_change d words area id asked x = take_at d words area asked x (place_of d.settings id)
