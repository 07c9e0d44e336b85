-- Demand 2, as statements about the calls of `tracker`, after any session of them: fresh, then any calls in any order. Its settings have the eight places of
-- their type. What is said of a controller begins with what its own calls and answers tell (rules' History), not with what the record says.
use Rattle.std.specs.Prelude.{ℕ, ◌+◌, ◌-◌, ◌/◌, ◌%◌, ◌^◌, ◌≤◌, ◌<◌, ◌≡◌, ◌≢◌, ◌↔◌, Bool, true, false, ◌||◌, List, [], ◌++◌, map, eqb, length, take, drop, get_or, set, replicate}
use Rattle.std.specs.declared.option.Option.TheVariants.{None, Some}
use Rattle.std.specs.List.{slice_get}
use Rattle.bits.specs.Flat.{flat}
use Rattle.rules.specs.Refusals.{passes}
use Rattle.rules.specs.Settings.{place_of}
use Rattle.rules.specs.Lists.{sum}
use Rattle.rules.specs.Units.{Unit, Write, units, touches, newly}
use Rattle.rules.specs.StartData.{granularity_of, count_of, ranges_of, header_tests, placed}
use Rattle.rules.specs.Report.{room, report_on, marks_left, report_bytes}
use Rattle.rules.specs.ReportReader.{report_size}
use Rattle.rules.specs.Order.{Op, start, stop, write, receive, Part, start_listed}
use Rattle.rules.specs.Device.{no_share, shares_of, cleaned, fresh_device, closed_settings, closed_device}
use Rattle.rules.specs.Machine.{refused, pending_in, entries_in, managed_in, counts_in, units_in, slot_of, Call, step, lent, stored}
use Rattle.rules.specs.History.{Did, PendingBy, pending_by, tracks_by, manager_by, suspended_by, slot_by}
use Rattle.rules.specs.Demands.{session_end, session_history, lent_bytes, UnitsListed, Runs, Reports, Room, ReadBack, Touches, Writes}
use Rattle.rules.specs.declared.Range.{Range}
use Rattle.rules.specs.declared.Tracking.TheVariants.{Off, On}
use Rattle.rules.specs.declared.Ring.{Ring}
use Rattle.rules.specs.declared.Settings.{Settings}
use Rattle.rules.specs.declared.Controller.{Controller}
use Rattle.rules.specs.declared.Device.{Device}
use Rattle.record.specs.Record.{controller_at}
use Rattle.calls.specs.Calls.{Engine, in_words, sizes_of, Receipt, fresh_change, start_change, stop_change, suspend_change, resume_change, write_note, receive_receipt, part_change}
use Rattle.demands.specs.Managers.{Manages, IsManager, CallOf}
use Rattle.demands.specs.View.{Outcome, view}
use Rattle.demands.specs.Sessions.{Left, Given, Sized, outcome, next, end_of, history_in, bytes_in}
use Rattle.demands.specs.Soundness.{base_at}
use Rattle.demands.specs.Parts.{whole_by, IsFinal, arriving, Arrives}
use Rattle.demands.specs.Queues.{Logs, QueueCalls}

-- ---- a session, beside the rules' session

-- a controller's pending units
abbrev pub pending_of : Engine → Left → ℕ → List Unit
pending_of en l a = pending_in (slot_of (view en l.device l.marks l.area l.queues) a)

-- its queued entries (W8)
abbrev pub queued_of : Engine → Left → ℕ → List (List ℕ)
queued_of en l a = entries_in (slot_of (view en l.device l.marks l.area l.queues) a).queue

-- a session of the calls is for a controller what the rules give for some calls: every answer, every byte lent with its calls, its reports' among them, its
-- pending units and its queued entries
pub record Equals (en : Engine) (s : Settings) (a : ℕ) (m : Given) (ks ks' : List Call) : Type 0 where
  pub answers : history_in en s m ks a ≡ session_history s (en.words m.marks) ks' a
  pub bytes : bytes_in en s m ks a ≡ lent_bytes a (session_history s (en.words m.marks) ks' a)
  pub units : pending_of en (end_of en s m ks) a ≡ pending_in (slot_of (session_end s (en.words m.marks) ks') a)
  pub queued : queued_of en (end_of en s m ks) a ≡ entries_in (slot_of (session_end s (en.words m.marks) ks') a).queue

-- a record and marks that anyone may have made, of their sizes: eight controllers, of which none counts more ranges than it has places, totals of 32 bits, and the marks'
-- words. (A call on marks of another number of words, or on a record that counts more, answers 1.)
pub record Shaped (en : Engine) (l : Left) : Type 0 where
  pub controllers : length l.device.controllers ≡ 8
  pub identifiers : length l.device.settings.identifiers ≡ 8
  pub listed : (i g n : ℕ) → (controller_at l.device (Some i)).tracking ≡ On g n → n ≤ length (controller_at l.device (Some i)).ranges
  pub totals : (i : ℕ) (r : Ring) → (controller_at l.device (Some i)).queue ≡ Some r → (r.posted < 2 ^ 32) × (r.taken < 2 ^ 32)
  pub words : en.words l.marks ≡ 256
  pub bytes : length l.area ≡ 4096

-- a call is a step of the rules, on the device that is seen in record and marks
pub record Steps (en : Engine) (l : Left) (k : Call) : Type 0 where
  pub answer : (outcome en l k).answer ≡ (step (view en l.device l.marks l.area l.queues) k).0
  pub device : view en (outcome en l k).device (outcome en l k).marks (outcome en l k).area (outcome en l k).queues ≡ (step (view en l.device l.marks l.area l.queues) k).1
  pub bytes : (outcome en l k).bytes ≡ stored k.id (lent k.op) (outcome en l k).answer

-- ---- marks in words

-- the mark of unit m of a controller whose share begins at a bit
abbrev pub bit_of : List ℕ → ℕ → ℕ → Bool
bit_of ws base m = get_or (flat ws) (base + m) false

-- how many bits the share of the controller at a place has (W7); it begins at `base_at`
abbrev pub size_at : Device → ℕ → ℕ
size_at d i = (get_or (shares_of d) i no_share).size

-- words that differ at most in n bits from a base on: not in any bit of another share, nor in one that is in none
pub record Elsewhere (base n : ℕ) (ws ws' : List ℕ) : Type 0 where
  pub words : length ws' ≡ length ws
  pub below : (b : ℕ) → b < base → get_or (flat ws') b false ≡ get_or (flat ws) b false
  pub above : (b : ℕ) → base + n ≤ b → get_or (flat ws') b false ≡ get_or (flat ws) b false

-- settings t as they were given, with zeros in the places of identifiers that are not in use
pub record Kept (s t : Settings) : Type 0 where
  pub manager : t.manager ≡ s.manager
  pub least : t.least ≡ s.least
  pub greatest : t.greatest ≡ s.greatest
  pub powers : t.powers ≡ s.powers
  pub limit : t.limit ≡ s.limit
  pub second : t.second ≡ s.second
  pub shelf : t.shelf ≡ s.shelf
  pub count : t.count ≡ s.count
  pub identifiers : t.identifiers ≡ take s.count s.identifiers ++ replicate (8 - s.count) 0

-- the marks that a history tells of some units
abbrev pub told_of : List Did → List Unit → List Bool
told_of h us = map (pending_by h) us

-- ---- a refused call

-- all is as it was, and so are the bytes that were lent
abbrev pub refused_on : Left → Op → ℕ → Outcome
refused_on l o n = record { answer = refused n 0; device = l.device; marks = l.marks; area = l.area; queues = l.queues; bytes = lent o }

-- ---- an accepted call

-- a record in which the controller at place i is another, and all else as it was
abbrev pub replaced_at : Device → ℕ → Controller → Device
replaced_at d i c = record { settings = d.settings; controllers = set d.controllers i c; sequence = d.sequence }

-- one in which its flag is set or clear
abbrev pub flagged_at : Device → ℕ → Bool → Device
flagged_at d i b =
    let was = controller_at d (Some i) in
    replaced_at d i (record { tracking = was.tracking; manager = was.manager; base = was.base; suspended = b; ranges = was.ranges; queue = was.queue })

-- a resume of controller a at place i makes its flag clear; W6: "its resume drops its unfinished sequence", and no other's
pub record Resumed (d : Device) (a i : ℕ) (d' : Device) : Type 0 where
  pub flag : d' ≡ record { settings = d.settings; controllers = (flagged_at d i false).controllers; sequence = d'.sequence }
  pub drops : (end : ℕ) → d.sequence ≡ Some (record { owner = a; end = end }) → d'.sequence ≡ None
  pub keeps : ((end : ℕ) → d.sequence ≢ Some (record { owner = a; end = end })) → d'.sequence ≡ d.sequence

-- a start by manager b of the controller at place i, on d and ws, leaves d' and ws' (W7)
pub record Started (d : Device) (ws : List ℕ) (b i g n : ℕ) (ranges : List Range) (d' : Device) (ws' : List ℕ) : Type 0 where
  -- its manager (W12), granularity, count and ranges are recorded, with zeros in the other places; of every other controller nothing changes but where its share begins
  pub settings : d'.settings ≡ d.settings
  pub sequence : d'.sequence ≡ d.sequence
  pub controllers : length d'.controllers ≡ length d.controllers
  pub own : controller_at d' (Some i) ≡ record { tracking = On g n; manager = b; base = base_at d' i; suspended = false; ranges = placed ranges; queue = (controller_at d (Some i)).queue }
  pub other : (j : ℕ) → j < 8 → j ≢ i
      → let was = controller_at d (Some j) in
      controller_at d' (Some j) ≡ record { tracking = was.tracking; manager = was.manager; base = base_at d' j; suspended = was.suspended; ranges = was.ranges; queue = was.queue }
  -- the shares are packed: from bit 0 on, in the order of the settings, each where those before it end; one that has no bits stays as it was
  pub size : size_at d' i ≡ length (units g ranges)
  pub sizes : (j : ℕ) → j < 8 → j ≢ i → size_at d' j ≡ size_at d j
  pub begins : (j : ℕ) → j < 8 → 1 ≤ size_at d' j → base_at d' j ≡ sum (take j (sizes_of d'))
  pub none : (j : ℕ) → j < 8 → j ≢ i → size_at d' j ≡ 0 → base_at d' j ≡ base_at d j
  -- every mark of the others went with its share, the new share is clear, and so is every bit behind the last one
  pub moved : (j m : ℕ) → j < 8 → j ≢ i → m < size_at d j → bit_of ws' (base_at d' j) m ≡ bit_of ws (base_at d j) m
  pub clear : (m : ℕ) → m < size_at d' i → bit_of ws' (base_at d' i) m ≡ false
  pub behind : (b : ℕ) → sum (sizes_of d') ≤ b → get_or (flat ws') b false ≡ false
  pub words : length ws' ≡ length ws

-- a stop of it forgets the ranges and the manager, with zeros in all places; its share is clear, and no other moves
pub record Stopped (d : Device) (ws : List ℕ) (i : ℕ) (d' : Device) (ws' : List ℕ) : Type 0 where
  pub record_is : d' ≡ replaced_at d i (record { tracking = Off; manager = 0; base = 0; suspended = false; ranges = placed []; queue = (controller_at d (Some i)).queue })
  pub clear : (m : ℕ) → m < size_at d i → bit_of ws' (base_at d i) m ≡ false
  pub elsewhere : Elsewhere (base_at d i) (size_at d i) ws ws'

-- a write w by a controller whose share begins at a base and that is tracked with units us, of which a history h tells, on words ws: it answers a count and leaves ws'
pub record Wrote (h : List Did) (base : ℕ) (us : List Unit) (w : Write) (ws : List ℕ) (count : ℕ) (ws' : List ℕ) : Type 0 where
  -- a unit is pending afterwards exactly if it was, or the write touches it
  pub marked : (m : ℕ) (u : Unit) → slice_get us m ≡ Some u → bit_of ws' base m ≡ (bit_of ws base m || touches w u)
  pub elsewhere : Elsewhere base (length us) ws ws'
  -- the count is that of the units that were not pending before and are afterwards
  pub counted : count ≡ newly w us (told_of h us)
  pub writes : Writes w us (told_of h us)

-- a receive into a buffer x on a controller a whose share begins at a base and that is tracked with granularity g and units us, of which a history h tells, on words
-- ws
pub record Received (h : List Did) (a base g : ℕ) (us : List Unit) (x : List ℕ) (ws : List ℕ) (r : Receipt) : Type 0 where
  -- "A report lists the earliest pending runs that fit; More To Report is clear exactly when nothing stays pending"; it says suspended as the history does
  pub report : r.report ≡ report_on (suspended_by false h) g (room (length x)) us (told_of h us)
  pub says : (r.report.suspended ≡ suspended_by false h) × (r.report.granularity ≡ g)
  pub reports : Reports (suspended_by false h) g (room (length x)) us (told_of h us)
  pub fits : Room (length x)
  -- the answer says what the report's header says, and how many groups were examined (W10: `Reports`, `examined` and its like)
  pub answer : r.answer
      ≡ record { number = 0; suspended = r.report.suspended; more = r.report.more; granularity = r.report.granularity; runs = length r.report.descriptors; groups = r.report.groups }
  pub most : r.answer.groups ≤ 256
  -- the report stands at the buffer's front; bytes after the last descriptor are unchanged
  pub front : take (report_size (length r.report.descriptors)) r.buffer ≡ report_bytes a r.report
  pub rest : drop (report_size (length r.report.descriptors)) r.buffer ≡ drop (report_size (length r.report.descriptors)) x
  -- W1: the host's reader accepts it, and answers exactly its runs
  pub read_back : a < 2 ^ 16 → ReadBack a r.report r.buffer
  -- the units of the reported runs are made clear, later ones stay
  pub left : (m : ℕ) (u : Unit) → slice_get us m ≡ Some u → bit_of r.marks base m ≡ get_or (marks_left (room (length x)) us (told_of h us)) m false
  pub elsewhere : Elsewhere base (length us) ws r.marks

-- ---- a controller after a session, which left l; of it a history h tells

-- a controller a at place i, of which h tells that it is tracked with granularity g and ranges rs; by which manager, `manager_by` tells (W12)
pub record Tracked (l : Left) (h : List Did) (a i g : ℕ) (rs : List Range) : Type 0 where
  -- its units: which, in what order, and that each is there once (W2)
  pub listed : UnitsListed g rs
  -- "a unit of a tracked range is pending exactly if an accepted write by its controller touched it after tracking last started and after it was last
  -- reported"
  pub pending : (m : ℕ) (u : Unit) → slice_get (units g rs) m ≡ Some u → (bit_of l.marks (base_at l.device i) m ≡ true) ↔ PendingBy h u
  pub written : (w : Write)
      → let n = write_note l.device l.marks a w in
      n.answer.number ≡ 0 → Wrote h (base_at l.device i) (units g rs) w l.marks n.answer.count n.marks
  pub received : (b : ℕ) (x : List ℕ)
      → let r = receive_receipt l.device l.marks b a x in
      r.answer.number ≡ 0 → Received h a (base_at l.device i) g (units g rs) x l.marks r
  -- its share has a bit for each unit
  pub size : size_at l.device i ≡ length (units g rs)
  -- a stop and a receive by the manager that started it are refused for nothing but what document 01 says
  pub may_stop : suspended_by false h ≡ false → (stop_change l.device l.marks (manager_by h) a).answer.number ≡ 0
  pub may_receive : (x : List ℕ) → 32 ≤ length x → (receive_receipt l.device l.marks (manager_by h) a x).answer.number ≡ 0
  -- W12: "A start is refused with 3 if either manager tracks that controller; stop and receive by the other manager get 5", and change nothing
  pub again : (b : ℕ) (x : List ℕ) → IsManager l.device.settings b → suspended_by false h ≡ false → outcome in_words l (record { id = a; op = start b x }) ≡ refused_on l (start b x) 3
  pub other_stops : (b : ℕ) → IsManager l.device.settings b → b ≢ manager_by h → suspended_by false h ≡ false → outcome in_words l (record { id = a; op = stop b }) ≡ refused_on l (stop b) 5
  pub other_receives : (b : ℕ) (x : List ℕ) → IsManager l.device.settings b → b ≢ manager_by h → outcome in_words l (record { id = a; op = receive b x }) ≡ refused_on l (receive b x) 5

-- the calls that a suspended controller is refused, by managers of these settings
pub data Moves (s : Settings) : Op → Type 0 where
  starts : (b : ℕ) (x : List ℕ) → IsManager s b → Moves s (start b x)
  stops : (b : ℕ) → IsManager s b → Moves s (stop b)
  writes : (w : Write) → Moves s (write w)

-- any controller a of a device that was made from settings s and now tracks so many units, so many counts for each manager (W12) and so many in all
pub record Stands (s : Settings) (l : Left) (h : List Did) (held : ℕ) (managed : ℕ → ℕ) (counts a : ℕ) : Type 0 where
  -- what record and marks hold of it is what its calls and answers tell: its manager, granularity, ranges, the suspended flag, and each unit's mark
  pub told : slot_of (view in_words l.device l.marks l.area l.queues) a ≡ slot_by h
  pub tracked : (i g : ℕ) (rs : List Range) → place_of s a ≡ Some i → tracks_by None h ≡ Some (g, rs) → Tracked l h a i g rs
  -- "For a controller that isn't tracked a call not refused is done with count 0", and no mark changes
  pub untracked : (w : Write) → tracks_by None h ≡ None
      → let n = write_note l.device l.marks a w in
      (n.answer.count ≡ 0) × (n.marks ≡ l.marks)
  -- a suspended controller's start, stop and write are refused, and change nothing
  pub suspended : suspended_by false h ≡ true → (o : Op) → Moves s o → outcome in_words l (record { id = a; op = o }) ≡ refused_on l o 4
  -- W12: "2 for an unknown manager", whatever it asks for
  pub unknown : (b : ℕ) (o : Op) → CallOf b o → (IsManager s b → ⊥) → outcome in_words l (record { id = a; op = o }) ≡ refused_on l o 2
  -- a write and a start are refused for nothing but what the documents say
  pub may_write : (i : ℕ) (w : Write) → place_of s a ≡ Some i → suspended_by false h ≡ false → w.address + w.bytes ≤ 2 ^ 64
      → (write_note l.device l.marks a w).answer.number ≡ 0
  pub may_start : (b limit i : ℕ) (x : List ℕ) → Manages s b limit → place_of s a ≡ Some i → suspended_by false h ≡ false → tracks_by None h ≡ None
      → passes (header_tests x ++ start_listed s x) ≡ true → length (units (granularity_of x) (ranges_of x)) + held ≤ 16384 → count_of x + managed b ≤ limit → count_of x + counts ≤ s.shelf
      → (start_change l.device l.marks b a x).answer.number ≡ 0
  -- "An accepted start clears the controller's [share] and records granularity and ranges"; W7: wherever the others' shares go, their marks go along
  pub started : (b i : ℕ) (x : List ℕ) → place_of s a ≡ Some i
      → let c = start_change l.device l.marks b a x in
      c.answer.number ≡ 0 → Started l.device l.marks b i (granularity_of x) (count_of x) (ranges_of x) c.answer.device c.marks
  -- "An accepted stop clears them again and forgets the ranges"
  pub stopped : (b i : ℕ) → place_of s a ≡ Some i
      → let c = stop_change l.device l.marks b a in
      c.answer.number ≡ 0 → Stopped l.device l.marks i c.answer.device c.marks
  -- "Suspend type 1 suspends, also where already suspended. Type 0 is a notice and changes nothing"; it is refused for another type alone. W12: "Suspension belongs to the
  -- controller, whoever asked"
  pub suspends : (b i kind : ℕ) → IsManager s b → place_of s a ≡ Some i
      → let c = suspend_change l.device (length l.marks) b a kind in
      ((c.number ≡ 0) ↔ (kind ≤ 1)) × (c.number ≡ 0 → c.device ≡ flagged_at l.device i (suspended_by false h || eqb kind 1))
  -- a resume makes the flag clear; it is refused for one that is not suspended alone
  pub resumes : (b i : ℕ) → IsManager s b → place_of s a ≡ Some i
      → let c = resume_change l.device (length l.marks) b a in
      ((c.number ≡ 0) ↔ (suspended_by false h ≡ true)) × (c.number ≡ 0 → Resumed l.device a i c.device)
  -- W6: a state of its own that arrives in parts
  pub parts : (i : ℕ) → place_of s a ≡ Some i → Arrives l h a
  -- W8: its queue
  pub queues : (i : ℕ) → place_of s a ≡ Some i → Logs l h a i

-- ---- a record that no session made

-- what the calls of the controller a at place i leave of the pool, with the shares in any order and with any gaps, and anything in the bits that are in none (W7)
pub record Keeps (l : Left) (a i : ℕ) : Type 0 where
  pub started : (b : ℕ) (x : List ℕ)
      → let c = start_change l.device l.marks b a x in
      c.answer.number ≡ 0 → Started l.device l.marks b i (granularity_of x) (count_of x) (ranges_of x) c.answer.device c.marks
  pub stopped : (b : ℕ)
      → let c = stop_change l.device l.marks b a in
      c.answer.number ≡ 0 → Stopped l.device l.marks i c.answer.device c.marks
  -- a write and a receive change no bit but those of its share
  pub written : (w : Write) → Elsewhere (base_at l.device i) (size_at l.device i) l.marks (write_note l.device l.marks a w).marks
  pub received : (b : ℕ) (x : List ℕ) → Elsewhere (base_at l.device i) (size_at l.device i) l.marks (receive_receipt l.device l.marks b a x).marks
  -- a suspend and a resume change the flag (and its own sequence), a part the sequence, and nothing else, no queue, used or not, among it
  pub suspended : (b kind : ℕ)
      → let c = suspend_change l.device (length l.marks) b a kind in
      c.number ≡ 0 → c.device ≡ flagged_at l.device i ((controller_at l.device (Some i)).suspended || eqb kind 1)
  pub resumed : (b : ℕ) → let c = resume_change l.device (length l.marks) b a in c.number ≡ 0 → Resumed l.device a i c.device
  pub arrived : (b : ℕ) (p : Part)
      → let r = part_change l.device (length l.marks) l.area b a p in
      r.answer.number ≡ 0 → r.answer.device ≡ arriving l.device r.answer.device.sequence

-- ---- all of it

-- a controller with zeros in every place
abbrev pub zeroed : Controller
zeroed = record { tracking = Off; manager = 0; base = 0; suspended = false; ranges = replicate 16 (record { start = 0; length = 0 }); queue = None }

pub record Demand2 : Type 1 where
  -- the rules are those of document 01: any session comes for each controller to what they give for the same calls
  pub rules : (s : Settings) (a : ℕ) (m : Given) (ks : List Call) → Sized s m → Equals in_words s a m ks ks
  -- and so does each call on a record that no session made
  pub steps : (l : Left) → Shaped in_words l → (k : Call) → Steps in_words l k
  -- a fresh device, and all marks are 0
  pub fresh : (s : Settings) (ws : List ℕ)
      → let c = fresh_change s ws in
      c.answer.number ≡ 0 → (c.answer.device ≡ fresh_device s) × (c.marks ≡ replicate 256 0)
  -- "[Fresh fills] those they leave unused with zeros", so the bases (W7) and managers (W12) too, and no state is under way (W6) and no queue made (W8); the closed device is "all zeros"
  pub zeros : (s : Settings)
      → ((fresh_device s).controllers ≡ replicate 8 zeroed)
      × ((fresh_device s).sequence ≡ None)
      × (closed_device
      ≡ record {
        settings = record { manager = 0; least = 0; greatest = 0; powers = false; limit = 0; second = None; shelf = 0; count = 0; identifiers = replicate 8 0 };
        controllers = replicate 8 zeroed;
        sequence = None;
      })
  -- settings with zeros in the places that are not in use, as a settings file gives them back (W11): nothing else of them changes. With a refused file come zeros alone
  pub cleaned : (s : Settings) → length s.identifiers ≡ 8 → Kept s (cleaned s)
  pub closed-settings : closed_settings
      ≡ record { manager = 0; least = 0; greatest = 0; powers = false; limit = 0; second = None; shelf = 0; count = 0; identifiers = replicate 8 0 }
  -- the controller at a place, in use or not, is the one that stands there in the record
  pub controller : (d : Device) (i : ℕ) (c : Controller) → slice_get d.controllers i ≡ Some c → controller_at d (Some i) ≡ c
  -- "one bit a unit, lowest bit first"
  pub bits : (ws : List ℕ) (base m : ℕ) → bit_of ws base m ≡ eqb (get_or ws ((base + m) / 64) 0 / 2 ^ ((base + m) % 64) % 2) 1
  -- an identifier stands where the settings list it
  pub place : (s : Settings) (a i : ℕ) → length s.identifiers ≡ 8 → place_of s a ≡ Some i → (i < s.count) × (get_or s.identifiers i 0 ≡ a)
  -- and each one that they list is found, 0 too
  pub found : (s : Settings) (a i : ℕ) → length s.identifiers ≡ 8 → i < s.count → i < 8 → get_or s.identifiers i 0 ≡ a → place_of s a ≢ None
  -- after any calls from it, each given what the last one left: the settings are those that it was made with, and each controller stands as its calls and
  -- answers tell
  pub settings : (s : Settings) (m : Given) (ks : List Call) → Sized s m → (fresh_change s m.marks).answer.number ≡ 0
      → Kept s (end_of in_words s m ks).device.settings
  pub stands : (s : Settings) (m : Given) (ks : List Call) → Sized s m → (fresh_change s m.marks).answer.number ≡ 0
      → (a : ℕ) → let st = session_end s (length m.marks) ks in Stands s (end_of in_words s m ks) (history_in in_words s m ks a) (units_in st) (managed_in st) (counts_in st) a
  -- W7: "moving marks changes no pending unit": a call to one controller, a start or a stop too, changes no pending unit of another, wherever its marks went
  pub undisturbed : (s : Settings) (m : Given) (ks : List Call) → Sized s m → (k : Call) (b : ℕ) → k.id ≢ b → pending_of in_words (next in_words (end_of in_words s m ks) k) b ≡ pending_of in_words (end_of in_words s m ks) b
  -- and so of a record that no session made, with its shares in any order and with any gaps
  pub unmoved : (l : Left) → Shaped in_words l → (k : Call) (b : ℕ) → k.id ≢ b → pending_of in_words (next in_words l k) b ≡ pending_of in_words l b
  -- there too every bit is accounted for
  pub keeps : (l : Left) → Shaped in_words l → (a i : ℕ) → place_of l.device.settings a ≡ Some i → Keeps l a i
  -- W8: and so is every field, and every byte of area and buffer, of a call to a queue, whatever its totals
  pub queue_calls : (l : Left) → Shaped in_words l → (a i : ℕ) → place_of l.device.settings a ≡ Some i → QueueCalls l.device (length l.marks) a i
  -- W6: "the same however divided": where the data that two finishing parts complete are the same, in any two sessions and of any two controllers, so is what they
  -- yield
  pub divided : (s s' : Settings) (m m' : Given) (ks ks' : List Call) → Sized s m → Sized s' m'
      → (fresh_change s m.marks).answer.number ≡ 0 → (fresh_change s' m'.marks).answer.number ≡ 0 → (b b' a a' : ℕ) (p p' : Part)
      → let l = end_of in_words s m ks in
      let l' = end_of in_words s' m' ks' in
      let r = part_change l.device (length l.marks) l.area b a p in
      let r' = part_change l'.device (length l'.marks) l'.area b' a' p' in
      r.answer.number ≡ 0 → r'.answer.number ≡ 0 → IsFinal p → IsFinal p' → whole_by (history_in in_words s m ks a) p ≡ whole_by (history_in in_words s' m' ks' a') p'
      → (r.answer.whole ≡ r'.answer.whole) × (take r.answer.whole r.area ≡ take r'.answer.whole r'.area)
  -- "A run is a longest row of consecutive pending units within one range"
  pub runs : Runs
  -- "A written range … touches each unit with which it shares a byte"
  pub touches : (w : Write) (u : Unit) → Touches w u
