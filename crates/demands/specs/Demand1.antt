-- Demand 1, as statements about the calls, the start structure's reader and writer and the report's reader: of any record, any words, any bytes
-- and any numbers. That each of them returns, whatever it is given, is the checker's own: none has a `requires`.
use Rattle.std.specs.Prelude.{ℕ, ◌+◌, ◌*◌, ◌/◌, ◌%◌, ◌^◌, ◌≤◌, ◌<◌, leb, ltb, eqb, ◌≡◌, ◌≢◌, ◌⊎◌, ◌↔◌, true, false, not, cond, ◌&&◌, ◌||◌, List, [], ◌∷◌, length, take, get_or}
use Rattle.little.specs.Little.{number_at}
use Rattle.std.specs.declared.option.Option.TheVariants.{None, Some}
use Rattle.rules.specs.Refusals.{Test, ◌else◌, refusal, place_in, passes}
use Rattle.rules.specs.Lists.{is_some}
use Rattle.rules.specs.Settings.{settings_ok, is_manager, limit_of, place_of}
use Rattle.rules.specs.Units.{Write}
use Rattle.rules.specs.StartData.{granularity_of, ranges_of, placed, header_tests, header_of, read_tests, start_data, write_tests, start_written}
use Rattle.rules.specs.ReportReader.{report_tests, index_tests, report_refusal, report_bad_index, report_suspended, report_more, report_identifier, report_granularity, report_count, report_refusal_at, report_address, report_length}
use Rattle.rules.specs.Order.{Seen, Arriving, fresh_order, start_order, stop_order, write_order, receive_order, is_tracker, suspend_order, resume_order, Part, follows_on, joined_ok, part_order, size_made, queue_order}
use Rattle.rules.specs.Order as order
use Rattle.rules.specs.Device.{closed_device, sound_device}
use Rattle.rules.specs.declared.Tracking.TheVariants.{Off, On}
use Rattle.rules.specs.Demands.{Rowless, Names}
use Rattle.rules.specs.declared.Range.{Range}
use Rattle.rules.specs.declared.Ring.{Ring}
use Rattle.rules.specs.declared.Settings.{Settings}
use Rattle.rules.specs.declared.Header.TheVariants.{Is, Refused}
use Rattle.rules.specs.declared.Device.{Device}
use Rattle.record.specs.Record.{managed_of, counts_of, units_of, controller_at, seen_in, arriving_in}
use Rattle.start_data.specs.Answer.{header_says}
use Rattle.demands.specs.Managers.{Manages, IsManager}
use Rattle.calls.specs.Calls.{Engine, in_words, fresh_by, start_by, stop_by, write_by, receive_by, suspend_change, resume_change, part_change, make_change, post_change, take_change}

-- "A refusal returns its number from document 01 and zeros (the structure reader adds a place), and the device record, the marks and the
-- report buffer stay as they were"; W3: a start adds its row

-- a call answers the number of the first test of its table that is not passed, or 0; and a refused one leaves all as it was
pub record Answers (number : ℕ) (tests : List Test) (as_it_was : Type 0) : Type 0 where
  pub first : number ≡ refusal tests
  pub refused : number ≢ 0 → as_it_was

-- the calls of an engine that touch marks (W9): of any record, and any area, which stands for so many words
pub record MarkCalls (en : Engine) : Type 0 where
  -- a refused fresh returns the closed device
  pub fresh : (s : Settings) (ws : List ℕ)
      → let c = fresh_by en s ws in
      Answers c.answer.number (fresh_order s (en.words ws)) ((c.answer.device ≡ closed_device) × (c.marks ≡ ws))
  pub start : (d : Device) (ws : List ℕ) (m id : ℕ) (x : List ℕ)
      → let c = start_by en d ws m id x in
      Answers c.answer.number (start_order d.settings m (seen_in d (en.words ws) (place_of d.settings id)) x) ((c.answer.device ≡ d) × (c.marks ≡ ws))
  -- W3: its row is the place of that test; so past the first nine tests (1, 2, 2, 4, 3, 8, 6, 7, 8) it names the rule of ranges that is broken and the row, and
  -- else it has row 0
  pub row : (d : Device) (ws : List ℕ) (m id : ℕ) (x : List ℕ)
      → (start_by en d ws m id x).answer.row ≡ place_in (start_order d.settings m (seen_in d (en.words ws) (place_of d.settings id)) x)
  pub names : (d : Device) (ws : List ℕ) (m id : ℕ) (x : List ℕ)
      → let a = (start_by en d ws m id x).answer in
      let first = passes (take 9 (start_order d.settings m (seen_in d (en.words ws) (place_of d.settings id)) x)) in
      (first ≡ true → Names d.settings m (units_of d) (managed_of d m) (counts_of d) (granularity_of x) (ranges_of x) a.number a.row) × (first ≡ false → Rowless a.number a.row)
  pub stop : (d : Device) (ws : List ℕ) (m id : ℕ)
      → let c = stop_by en d ws m id in
      Answers c.answer.number (stop_order d.settings m (seen_in d (en.words ws) (place_of d.settings id))) ((c.answer.device ≡ d) × (c.marks ≡ ws))
  pub write : (d : Device) (ws : List ℕ) (id : ℕ) (w : Write)
      → let n = write_by en d ws id w in
      Answers n.answer.number (write_order (seen_in d (en.words ws) (place_of d.settings id)) w) ((n.answer.count ≡ 0) × (n.marks ≡ ws))
  pub receive : (d : Device) (ws : List ℕ) (m id : ℕ) (x : List ℕ)
      → let r = receive_by en d ws m id x in
      Answers r.answer.number (receive_order d.settings m (seen_in d (en.words ws) (place_of d.settings id)) x)
      ((r.answer ≡ record { number = r.answer.number; suspended = false; more = false; granularity = 0; runs = 0; groups = 0 }) × (r.marks ≡ ws) × (r.buffer ≡ x))
  -- done or refused, it answers what its report's header says, and the groups that were examined (W10)
  pub says : (d : Device) (ws : List ℕ) (m id : ℕ) (x : List ℕ)
      → let r = receive_by en d ws m id x in
      r.answer
      ≡ record { number = r.answer.number; suspended = r.report.suspended; more = r.report.more; granularity = r.report.granularity; runs = length r.report.descriptors; groups = r.report.groups }

pub record Demand1 : Type 0 where
  pub mark_calls : MarkCalls in_words
  -- 16, then 1 unless there are 256 words (W7), and for nothing else
  pub fresh-order : (s : Settings) (words : ℕ) → fresh_order s words ≡ (settings_ok s else 16) ∷ (eqb words 256 else 1) ∷ []
  -- W12: a manager is one that the settings name, and it has the limit that they give it
  pub managers : (s : Settings) (m : ℕ) → (is_manager s m ≡ true) ↔ IsManager s m
  pub limits : (s : Settings) (m limit : ℕ) → settings_ok s ≡ true → Manages s m limit → limit_of s m ≡ limit
  -- a start's first nine tests, in the order of document 01: "refused with 3 if either manager tracks that controller"
  pub before : (s : Settings) (m : ℕ) (v : Seen) (x : List ℕ)
      → take 9 (start_order s m v x)
      ≡ (v.sound else 1)
      ∷ (is_manager s m else 2)
      ∷ (v.known else 2)
      ∷ (not v.suspended else 4)
      ∷ (not (is_some v.tracker) else 3)
      ∷ (leb 8 (length x) else 8)
      ∷ (eqb (get_or x 0 0) 0 else 6)
      ∷ (leb s.least (get_or x 3 0) && leb (get_or x 3 0) s.greatest else 7)
      ∷ (leb (8 + 12 * number_at x 4 4) (length x) else 8)
      ∷ []
  pub suspend : (d : Device) (words m id kind : ℕ)
      → let c = suspend_change d words m id kind in
      Answers c.number (suspend_order d.settings m (seen_in d words (place_of d.settings id)) kind) (c.device ≡ d)
  pub resume : (d : Device) (words m id : ℕ)
      → let c = resume_change d words m id in
      Answers c.number (resume_order d.settings m (seen_in d words (place_of d.settings id))) (c.device ≡ d)
  -- W6: a refused part leaves the area as it was, too
  pub part : (d : Device) (words : ℕ) (area : List ℕ) (m id : ℕ) (p : Part)
      → let a = part_change d words area m id p in
      Answers a.answer.number (part_order d.settings m (seen_in d words (place_of d.settings id)) (arriving_in d.sequence area id) p)
      ((a.answer.whole ≡ 0) × (a.answer.device ≡ d) × (a.area ≡ area))
  -- marks of 256 words and an area of 4,096 bytes, or 1, whatever else it is given
  pub part_lent : (d : Device) (words : ℕ) (area : List ℕ) (m id : ℕ) (p : Part) → (words ≢ 256) ⊎ (length area ≢ 4096) → (part_change d words area m id p).answer.number ≡ 1
  -- its tests, in the order of document 02. (When a part is accepted, and so the last two of them, is said in plain numbers by `Fitting`.)
  pub part-order : (s : Settings) (m : ℕ) (v : Seen) (a : Arriving) (p : Part)
      → let offset = p.low + 2 ^ 32 * p.high in
      part_order s m v a p
      ≡ (v.sound && a.area else 1)
      ∷ (is_manager s m else 2)
      ∷ (v.known else 2)
      ∷ (v.suspended else 13)
      ∷ (not a.others else 23)
      ∷ (eqb (offset % 4) 0 && leb offset 4096 else 24)
      ∷ (leb p.indicator 3 && ((ltb 0 p.count || eqb p.indicator 2) && eqb (length p.bytes) (4 * p.count)) else 25)
      ∷ (cond (eqb p.indicator 1 || eqb p.indicator 3) (eqb offset 0) (follows_on a.front p) else 26)
      ∷ (joined_ok a.front p else 27)
      ∷ []
  pub part_next : (f : List ℕ) (p : Part) → (follows_on None p ≡ false) × (follows_on (Some f) p ≡ eqb (p.low + 2 ^ 32 * p.high) (length f))
  pub part_others : (area : List ℕ) (id owner end : ℕ)
      → ((arriving_in None area id).others ≡ false) × ((arriving_in (Some (record { owner = owner; end = end })) area id).others ≡ not (eqb owner id))
  -- a suspend leaves an open sequence, whosever it is
  pub suspend_leaves : (d : Device) (words m id kind : ℕ) → (suspend_change d words m id kind).device.sequence ≡ d.sequence
  -- W8: a refused call to a queue leaves its area or its buffer as it was, too
  pub make : (d : Device) (words id bytes : ℕ)
      → let c = make_change d words id bytes in
      Answers c.number (queue_order (seen_in d words (place_of d.settings id)) bytes order.make) (c.device ≡ d)
  pub post : (d : Device) (words : ℕ) (area : List ℕ) (id : ℕ) (e : List ℕ)
      → let r = post_change d words area id e in
      Answers r.answer.number (queue_order (seen_in d words (place_of d.settings id)) (length area) (order.post e))
      ((r.answer.stopped ≡ false) × (r.answer.device ≡ d) × (r.area ≡ area))
  pub take : (d : Device) (words : ℕ) (area : List ℕ) (id asked : ℕ) (x : List ℕ)
      → let r = take_change d words area id asked x in
      Answers r.answer.number (queue_order (seen_in d words (place_of d.settings id)) (length area) (order.take asked x))
      ((r.answer ≡ record { number = r.answer.number; count = 0; closing = false; device = d }) × (r.buffer ≡ x))
  -- their tests, in the order of document 02
  pub make_order : (v : Seen) (bytes : ℕ)
      → queue_order v bytes order.make ≡ (v.sound else 1) ∷ (v.known else 2) ∷ (eqb (bytes % 32) 0 && (leb 2 (bytes / 32) && leb (bytes / 32) 1024) else 28) ∷ []
  pub post_order : (v : Seen) (bytes : ℕ) (e : List ℕ)
      → queue_order v bytes (order.post e)
      ≡ (v.sound else 1)
      ∷ (v.known else 2)
      ∷ ((eqb (bytes % 32) 0 && (leb 2 (bytes / 32) && leb (bytes / 32) 1024)) && size_made v.places bytes else 28)
      ∷ (is_some v.places else 29)
      ∷ (eqb (length e) 32 else 8)
      ∷ (not v.stopped else 30)
      ∷ []
  pub take_order : (v : Seen) (bytes asked : ℕ) (x : List ℕ)
      → queue_order v bytes (order.take asked x)
      ≡ (v.sound else 1)
      ∷ (v.known else 2)
      ∷ ((eqb (bytes % 32) 0 && (leb 2 (bytes / 32) && leb (bytes / 32) 1024)) && size_made v.places bytes else 28)
      ∷ (is_some v.places else 29)
      ∷ []
  -- "not the size made"; and what they see of a controller's queue
  pub size-made : (n bytes : ℕ) → (size_made None bytes ≡ true) × (size_made (Some n) bytes ≡ eqb bytes (32 * n))
  pub sees_none : (d : Device) (words i : ℕ) → (controller_at d (Some i)).queue ≡ None
      → ((seen_in d words (Some i)).places ≡ None) × ((seen_in d words (Some i)).stopped ≡ false)
  pub sees_queue : (d : Device) (words i : ℕ) (r : Ring) → (controller_at d (Some i)).queue ≡ Some r
      → ((seen_in d words (Some i)).places ≡ Some r.size) × ((seen_in d words (Some i)).stopped ≡ r.stopped)
  -- what any call sees of a record beside that: 1 and 2 are answered for nothing else
  pub sees : (d : Device) (words i : ℕ)
      → ((seen_in d words (Some i)).sound ≡ (sound_device d && eqb words 256)) × ((seen_in d words (Some i)).known ≡ true) × ((seen_in d words (Some i)).suspended ≡ (controller_at d (Some i)).suspended)
  pub sees_nobody : (d : Device) (words : ℕ) → ((seen_in d words None).sound ≡ (sound_device d && eqb words 256)) × ((seen_in d words None).known ≡ false)
  -- W12: which manager tracks a controller, and what that is to another
  pub sees_off : (d : Device) (words i : ℕ) → (controller_at d (Some i)).tracking ≡ Off → (seen_in d words (Some i)).tracker ≡ None
  pub sees_on : (d : Device) (words i g n : ℕ) → (controller_at d (Some i)).tracking ≡ On g n → (seen_in d words (Some i)).tracker ≡ Some (controller_at d (Some i)).manager
  pub tracks : (m t : ℕ) → (is_tracker m None ≡ false) × (is_tracker m (Some t) ≡ eqb t m)
  -- the tables of the calls that have none above: no queue is looked at
  pub stop-order : (s : Settings) (m : ℕ) (v : Seen)
      → stop_order s m v ≡ (v.sound else 1) ∷ (is_manager s m else 2) ∷ (v.known else 2) ∷ (not v.suspended else 4) ∷ (is_tracker m v.tracker else 5) ∷ []
  pub write-order : (v : Seen) (w : Write) → write_order v w ≡ (v.sound else 1) ∷ (v.known else 2) ∷ (not v.suspended else 4) ∷ (leb (w.address + w.bytes) (2 ^ 64) else 14) ∷ []
  pub receive-order : (s : Settings) (m : ℕ) (v : Seen) (x : List ℕ)
      → receive_order s m v x ≡ (v.sound else 1) ∷ (is_manager s m else 2) ∷ (v.known else 2) ∷ (is_tracker m v.tracker else 5) ∷ (leb 32 (length x) else 8) ∷ []
  pub suspend-order : (s : Settings) (m : ℕ) (v : Seen) (kind : ℕ) → suspend_order s m v kind ≡ (v.sound else 1) ∷ (is_manager s m else 2) ∷ (v.known else 2) ∷ (leb kind 1 else 15) ∷ []
  pub resume-order : (s : Settings) (m : ℕ) (v : Seen) → resume_order s m v ≡ (v.sound else 1) ∷ (is_manager s m else 2) ∷ (v.known else 2) ∷ (v.suspended else 13) ∷ []
  -- the structure's readers add the place of that test
  pub read-header : (x : List ℕ)
      → let h = header_says (header_of x) in
      Answers h.number (header_tests x) ((h.place ≡ place_in (header_tests x)) × (h.granularity ≡ 0) × (h.count ≡ 0))
  pub read-start : (x : List ℕ)
      → let h = header_says (start_data x).header in
      Answers h.number (read_tests x) ((h.place ≡ place_in (read_tests x)) × (h.granularity ≡ 0) × (h.count ≡ 0) × ((start_data x).ranges ≡ placed []))
  -- W3: a count over 16 is 18 at the count's place, byte 4; a smaller one, 0 too, is read where its ranges are there
  pub read_many : (x : List ℕ) → 8 ≤ length x → get_or x 0 0 ≡ 0 → 16 < number_at x 4 4 → (start_data x).header ≡ Refused 18 4
  pub read_whole : (x : List ℕ) → 8 ≤ length x → get_or x 0 0 ≡ 0 → number_at x 4 4 ≤ 16 → 8 + 12 * number_at x 4 4 ≤ length x
      → (start_data x).header ≡ Is (get_or x 3 0) (number_at x 4 4)
  -- its writer leaves every byte
  pub write-start : (buffer : List ℕ) (g n : ℕ) (rs : List Range)
      → Answers (refusal (write_tests (length buffer) n)) (write_tests (length buffer) n) (start_written buffer g n rs ≡ buffer)
  pub write_many : (size n : ℕ) → 16 < n → refusal (write_tests size n) ≡ 18
  pub write_whole : (size n : ℕ) → n ≤ 16 → 8 + 12 * n ≤ size → refusal (write_tests size n) ≡ 0
  -- W1: of a refused report, and of a refused index, every other answer is 0
  pub read_report : (x : List ℕ)
      → Answers (report_refusal x) (report_tests x)
      ((report_bad_index x ≡ place_in (report_tests x)) × (report_suspended x ≡ 0) × (report_more x ≡ 0) × (report_identifier x ≡ 0) × (report_granularity x ≡ 0) × (report_count x ≡ 0))
  -- W3: "W1's use of 9 is unchanged"
  pub read_none : (x : List ℕ) → 16 ≤ length x → get_or x 0 0 ≡ 0 → number_at x 8 2 ≤ 20 → get_or x 1 0 % 2 ≡ 1 → number_at x 4 4 ≡ 0 → report_refusal x ≡ 9
  pub read_index : (x : List ℕ) (i : ℕ) → Answers (report_refusal_at x i) (index_tests x i) ((report_address x i ≡ 0) × (report_length x i ≡ 0))
