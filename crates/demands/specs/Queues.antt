-- W8, as statements: a controller's queue of user-data changes. What an accepted call does, in plain numbers, of any record, area, entry and buffer; and what is queued
-- after a session, by what its controller's calls and answers tell (rules' `stored_by`, `taken_by`), not by what the record says.
use Rattle.std.specs.Prelude.{ℕ, ◌+◌, ◌-◌, ◌*◌, ◌/◌, ◌%◌, ◌^◌, ◌≤◌, ◌<◌, ◌≡◌, ◌↔◌, ◌⊎◌, true, false, List, [], ◌∷◌, ◌++◌, length, take, drop, set, replicate}
use Rattle.std.specs.declared.option.Option.TheVariants.{None, Some}
use Rattle.std.specs.List.{slice_get}
use Rattle.rules.specs.History.{Did, size_by, stored_by, taken_by, stopped_by}
use Rattle.rules.specs.declared.Ring.{Ring}
use Rattle.std.specs.declared.option.Option.{Option}
use Rattle.rules.specs.declared.Device.{Device}
use Rattle.record.specs.Record.{controller_at, front_of}
use Rattle.calls.specs.Calls.{make_change, Posting, post_change, Taking, take_change}
use Rattle.demands.specs.Sessions.{Left}

-- how many entries a queue has: of two totals of 32 bits, which go on from 0, the entries posted less those taken
abbrev pub fill_by : Ring → ℕ
fill_by r = (r.posted + 2 ^ 32 - r.taken) % 2 ^ 32

-- the place that comes k places after that of the oldest entry
abbrev pub place_behind : Ring → ℕ → ℕ
place_behind r k = (r.place + k) % r.size

-- the 32 bytes of a place, or the k-th 32 bytes of a buffer
abbrev pub entry_in : List ℕ → ℕ → List ℕ
entry_in x k = take 32 (drop (32 * k) x)

-- a record in which the controller at place i has another queue, and all else is as it was
abbrev pub queuing_at : Device → ℕ → Option Ring → Device
queuing_at d i q =
    let was = controller_at d (Some i) in
    record {
      settings = d.settings;
      controllers = set d.controllers i (record { tracking = was.tracking; manager = was.manager; base = was.base; suspended = was.suspended; ranges = was.ranges; queue = q });
      sequence = d.sequence;
    }

-- ---- an accepted call, on any record

-- a post of an entry e to a queue r in an area
pub record PostedTo (d : Device) (i : ℕ) (r : Ring) (area e : List ℕ) (p : Posting) : Type 0 where
  -- it is "marked stopped" exactly if it "finds only one free place"
  pub stops : (p.answer.stopped ≡ true) ↔ (fill_by r + 1 ≡ r.size)
  -- one entry more is posted, the closing one too; nothing else of the queue changes but that it has stopped
  pub device : p.answer.device
      ≡ queuing_at d i (Some (record { size = r.size; posted = (r.posted + 1) % 2 ^ 32; taken = r.taken; place = r.place; stopped = p.answer.stopped }))
  -- the place behind those queued has the entry, or "32 bytes of FFh"; every other byte is as it was
  pub stored : p.answer.stopped ≡ false → let at = 32 * place_behind r (fill_by r) in p.area ≡ (take at area ++ e) ++ drop (at + 32) area
  pub closed : p.answer.stopped ≡ true → let at = 32 * place_behind r (fill_by r) in p.area ≡ (take at area ++ replicate 32 255) ++ drop (at + 32) area

-- a take of so many entries as are asked for, from a queue r in an area, into a buffer x
pub record TakenFrom (d : Device) (i : ℕ) (r : Ring) (area : List ℕ) (asked : ℕ) (x : List ℕ) (t : Taking) : Type 0 where
  -- "the least of those asked for, those queued and those that fit whole in its buffer"
  pub most_asked : t.answer.count ≤ asked
  pub most_queued : t.answer.count ≤ fill_by r
  pub most_fit : 32 * t.answer.count ≤ length x
  pub least : (t.answer.count ≡ asked) ⊎ ((t.answer.count ≡ fill_by r) ⊎ (length x < 32 * (t.answer.count + 1)))
  -- the oldest come first; "the rest of its buffer is unchanged"
  pub entries : (k : ℕ) → k < t.answer.count → entry_in t.buffer k ≡ entry_in area (place_behind r k)
  pub rest : drop (32 * t.answer.count) t.buffer ≡ drop (32 * t.answer.count) x
  pub size : length t.buffer ≡ length x
  -- it says closing exactly if it took the last entry of a queue that has stopped
  pub closing : (t.answer.closing ≡ true) ↔ ((1 ≤ t.answer.count) × (r.stopped ≡ true) × (t.answer.count ≡ fill_by r))
  pub device : t.answer.device
      ≡ queuing_at d i
      (Some (record { size = r.size; posted = r.posted; taken = (r.taken + t.answer.count) % 2 ^ 32; place = place_behind r t.answer.count; stopped = r.stopped }))

-- the calls to the queue of controller a at place i, with so many words of marks
pub record QueueCalls (d : Device) (words a i : ℕ) : Type 0 where
  -- "made anew, empty, with totals 0", whatever there was before
  pub makes : (bytes : ℕ)
      → let c = make_change d words a bytes in
      c.number ≡ 0 → c.device ≡ queuing_at d i (Some (record { size = bytes / 32; posted = 0; taken = 0; place = 0; stopped = false }))
  pub posts : (r : Ring) (area e : List ℕ) → (controller_at d (Some i)).queue ≡ Some r
      → let p = post_change d words area a e in
      p.answer.number ≡ 0 → PostedTo d i r area e p
  pub takes : (r : Ring) (area : List ℕ) (asked : ℕ) (x : List ℕ) → (controller_at d (Some i)).queue ≡ Some r
      → let t = take_change d words area a asked x in
      t.answer.number ≡ 0 → TakenFrom d i r area asked x t

-- ---- after a session

-- a queue r of n places that controller a at place i has, after a session that left l and in which its calls and answers were h. What is said of "stored" and "taken" is
-- since the last make
pub record Logged (l : Left) (h : List Did) (i n : ℕ) (r : Ring) : Type 0 where
  pub size : r.size ≡ n
  pub stopped : r.stopped ≡ stopped_by h
  -- "The host takes entries in order, each once": those taken are the first of those stored, …
  pub taken : take (length (taken_by h)) (stored_by h) ≡ taken_by h
  -- … and those queued now, from the oldest's place on, are the others, in order
  pub all : length (stored_by h) ≡ length (taken_by h) + fill_by r
  pub queued : (k : ℕ) → k < fill_by r → slice_get (stored_by h) (length (taken_by h) + k) ≡ Some (entry_in (front_of (32 * n) (l.queues i)) (place_behind r k))
  -- "then the closing one": the last stored, once a post was marked stopped
  pub last : stopped_by h ≡ true → (es : List (List ℕ)) × (stored_by h ≡ es ++ replicate 32 255 ∷ [])

pub record Logs (l : Left) (h : List Did) (a i : ℕ) : Type 0 where
  -- there is a queue exactly if one was made
  pub is : (n : ℕ) → size_by h ≡ Some n → (r : Ring) × ((controller_at l.device (Some i)).queue ≡ Some r) × Logged l h i n r
  pub none : size_by h ≡ None → (r : Ring) → (controller_at l.device (Some i)).queue ≡ Some r → ⊥
  -- what is not refused: an area of 2 to 1,024 places; entries of 32 bytes until it has stopped; and every take
  pub may_make : (n : ℕ) → 2 ≤ n → n ≤ 1024 → (make_change l.device (length l.marks) a (32 * n)).number ≡ 0
  pub may_post : (n : ℕ) (e : List ℕ) → size_by h ≡ Some n → stopped_by h ≡ false → length e ≡ 32
      → (post_change l.device (length l.marks) (front_of (32 * n) (l.queues i)) a e).answer.number ≡ 0
  pub may_take : (n asked : ℕ) (x : List ℕ) → size_by h ≡ Some n
      → (take_change l.device (length l.marks) (front_of (32 * n) (l.queues i)) a asked x).answer.number ≡ 0
  -- a take says closing exactly if "its last entry is the closing one": some post was marked stopped, and all that was stored is taken with it
  pub closing : (bytes asked : ℕ) (x : List ℕ)
      → let t = take_change l.device (length l.marks) (front_of bytes (l.queues i)) a asked x in
      t.answer.number ≡ 0 → (t.answer.closing ≡ true) ↔ ((1 ≤ t.answer.count) × (stopped_by h ≡ true) × (length (taken_by h) + t.answer.count ≡ length (stored_by h)))
