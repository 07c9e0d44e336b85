-- What is asked of the rules, as statements, each proved in proofs/Theorems.antt. A session is any list of calls from a fresh device, each call given what
-- the last one left; a refused fresh makes the closed device, and the statements hold of it too.
use Rattle.std.specs.Prelude.{ℕ, suc, ◌+◌, ◌*◌, ◌/◌, ◌%◌, ◌^◌, ◌≤◌, ◌<◌, ◌≡◌, ◌≢◌, ◌↔◌, ◌⊎◌, Bool, true, false, ◌&&◌, not, List, [], ◌∷◌, ◌++◌, map, leb, length, take, drop, get_or}
use Rattle.std.specs.declared.option.Option.TheVariants.{None, Some}
use Rattle.std.specs.List.{slice_get}
use Rattle.rules.specs.Lists.{all, any, join, member, sum}
use Rattle.rules.specs.Refusals.{◌else◌, refusal}
use Rattle.rules.specs.Settings.{is_manager, limit_of, unit_size, bytes_of}
use Rattle.rules.specs.Units.{Unit, Write, units, touches, mark, newly, pending}
use Rattle.rules.specs.Ranges.{rows_ok, powers_ok}
use Rattle.rules.specs.StartData.{no_range, start_size, start_bytes, start_data, start_written, placed}
use Rattle.rules.specs.Report.{follows, runs, Descriptor, descriptor, Report, room, report_on, marks_left}
use Rattle.rules.specs.ReportReader.{report_size, bit, report_refusal, report_suspended, report_more, report_identifier, report_granularity, report_count, report_refusal_at, report_address, report_length}
use Rattle.rules.specs.Order.{Op, start, stop, write, receive, suspend, resume, fresh_order, part, queue}
use Rattle.rules.specs.Device.{held_ok, no_share, shares_ok}
use Rattle.rules.specs.declared.Share.{Share}
use Rattle.rules.specs.Machine.{refused, done, reported, on, pending_in, entries_in, State, fresh, sound_state, slot_of, Call, step, after, events, lent, stored, number_of, newly_of, no_report, report_of, assembled_of, stopped_of, entries_of, closing_of}
use Rattle.rules.specs.History.{Did, only, history_of, PendingBy, lists, slot_by}
use Rattle.rules.specs.Totals.{units_marked, units_reported, units_dropped, known, unknown, shown_by}
use Rattle.rules.specs.declared.Range.{Range}
use Rattle.rules.specs.declared.Settings.{Settings}
use Rattle.rules.specs.declared.Header.TheVariants.{Is}

-- the device that a session leaves, from settings and a number of mark words, and a controller's history in it
abbrev pub session_end : Settings → ℕ → List Call → State
session_end s words ks = after (fresh s words) ks

abbrev pub session_history : Settings → ℕ → List Call → ℕ → List Did
session_history s words ks a = history_of a (events (fresh s words) ks)

-- ---- demand 1, as far as it speaks of the rules

-- "A refusal returns its number and zeros, and the device record, the marks and the report buffer stay as they were"
pub record Refusals : Type 0 where
  pub unchanged : (st : State) (k : Call) (n i : ℕ) → (step st k).0 ≡ refused n i → (step st k).1 ≡ st
  pub bytes : (id : ℕ) (x : List ℕ) (n i : ℕ) → stored id x (refused n i) ≡ x
  pub number : (n i : ℕ) → number_of (refused n i) ≡ n
  pub zeros : (n i : ℕ) → (newly_of (refused n i) ≡ 0) × (report_of (refused n i) ≡ no_report) × (assembled_of (refused n i) ≡ [])
  pub queues : (n i : ℕ) → (stopped_of (refused n i) ≡ false) × (entries_of (refused n i) ≡ []) × (closing_of (refused n i) ≡ false)

-- W3: "Say which rule and row, counted from 0, the earliest row first; within a row length 0, unaligned, past the end"

-- a range that breaks no rule of a row, with units of 2^g times 4 KiB
pub record Good (g : ℕ) (r : Range) : Type 0 where
  pub some : 1 ≤ r.length
  pub aligned : r.start % 2 ^ (12 + g) ≡ 0
  pub within : r.start + r.length * 2 ^ (12 + g) ≤ 2 ^ 64

-- the first of the three rules that a range breaks, by its number
pub data Breaks (g : ℕ) (r : Range) : ℕ → Type 0 where
  empty : r.length ≡ 0 → Breaks g r 19
  unaligned : 1 ≤ r.length → r.start % 2 ^ (12 + g) ≢ 0 → Breaks g r 20
  past : 1 ≤ r.length → r.start % 2 ^ (12 + g) ≡ 0 → 2 ^ 64 < r.start + r.length * 2 ^ (12 + g) → Breaks g r 21

-- a number that names no rule of ranges, and row 0
abbrev pub Rowless : ℕ → ℕ → Type 0
Rowless number row = ((number < 18) ⊎ (21 < number)) × (row ≡ 0)

-- number and row of a start by a manager on ranges rs that breaks nothing before their rules, with so many units tracked now, so many counts by that manager and by all
pub record Names (s : Settings) (m held managed counts g : ℕ) (rs : List Range) (number row : ℕ) : Type 0 where
  pub count : (length rs ≡ 0) ⊎ (16 < length rs) → (number ≡ 18) × (row ≡ 0)
  -- the earliest row that breaks a rule: those before it are good
  pub rule : (i k : ℕ) → length rs ≤ 16 → i < length rs → ((j : ℕ) → j < i → Good g (get_or rs j no_range)) → Breaks g (get_or rs i no_range) k
      → (number ≡ k) × (row ≡ i)
  pub none : 1 ≤ length rs → length rs ≤ 16 → ((j : ℕ) → j < length rs → Good g (get_or rs j no_range)) → Rowless number row
  -- behind the rows 10, 11, 12 and 34 answer, and nothing else
  pub behind : 1 ≤ length rs → length rs ≤ 16 → ((j : ℕ) → j < length rs → Good g (get_or rs j no_range))
      → number ≡ refusal ((powers_ok s rs else 10) ∷ (leb (length (units g rs) + held) 16384 else 11) ∷ (leb (length rs + managed) (limit_of s m) else 12) ∷ (leb (length rs + counts) s.shelf else 34) ∷ [])

-- what soundness asks of a tracked controller's granularity and ranges is what a start asks: 7, 18 to 21 and 10
pub record Lawful (s : Settings) (g n : ℕ) (rs : List Range) : Type 0 where
  pub granularity : (s.least ≤ g) × (g ≤ s.greatest)
  pub count : (1 ≤ n) × (n ≤ 16)
  pub rows : (j : ℕ) → j < length rs → Good g (get_or rs j no_range)
  pub powers : powers_ok s rs ≡ true

-- W7: what it asks of the shares: none that has bits leaves the pool, and no two of them overlap
pub record Lying (shares : List Share) : Type 0 where
  pub inside : (i : ℕ) → i < length shares → let a = get_or shares i no_share in 1 ≤ a.size → a.base + a.size ≤ 16384
  pub apart : (i j : ℕ) → i < length shares → j < length shares → i ≢ j
      → let a = get_or shares i no_share in
      let b = get_or shares j no_share in
      1 ≤ a.size → 1 ≤ b.size → (a.base + a.size ≤ b.base) ⊎ (b.base + b.size ≤ a.base)

abbrev pub Lie : Type 0
Lie = (shares : List Share) → (shares_ok shares ≡ true) ↔ Lying shares

-- and of its manager that it is one (W12)
abbrev pub Held : Type 0
Held = (s : Settings) (m g n : ℕ) (rs : List Range)
    → (held_ok s (Some (record { manager = m; granularity = g; count = n; ranges = rs })) ≡ true) ↔ ((is_manager s m ≡ true) × Lawful s g n rs)

-- "From a fresh device no sequence of calls leads to an unsound record, save the closed device of a refused fresh", which answers 1 to every call
pub record Soundness : Type 0 where
  pub kept : (s : Settings) (words : ℕ) (ks : List Call) → refusal (fresh_order s words) ≡ 0 → sound_state (session_end s words ks) ≡ true
  pub closed : (s : Settings) (words : ℕ) (ks : List Call) (k : Call) → refusal (fresh_order s words) ≢ 0 → (step (session_end s words ks) k).0 ≡ refused 1 0

-- ---- demand 2

-- "A unit of a tracked range is pending exactly if an accepted write by its controller touched it after tracking last started and after it was
-- last reported": for a controller that is tracked after a session, and each unit of its ranges
pub record Pending (s : Settings) (words : ℕ) (ks : List Call) (a : ℕ) : Type 0 where
  -- what the controller's slot holds is told by its calls and answers alone
  pub told : slot_of (session_end s words ks) a ≡ slot_by (session_history s words ks a)
  pub exactly : (g : ℕ) (rs : List Range) (p : List Bool) → (slot_of (session_end s words ks) a).marks ≡ on g rs p
      → (n : ℕ) (u : Unit) → slice_get (units g rs) n ≡ Some u
      → (slice_get p n ≡ Some true) ↔ PendingBy (session_history s words ks a) u

-- a byte lies in a range, with units of 2^g times 4 KiB
abbrev pub InRange : ℕ → Range → ℕ → Type 0
InRange g r x = (r.start ≤ x) × (x < r.start + r.length * 2 ^ (12 + g))

-- which units ranges have, and their order: of ranges of which each breaks no rule of a row
pub record UnitsListed (g : ℕ) (rs : List Range) : Type 0 where
  -- "A granularity n means a unit of 2^n times 4 KiB": each has that size, and stands at a multiple of it
  pub sized : (m : ℕ) (u : Unit) → slice_get (units g rs) m ≡ Some u → u.size ≡ unit_size g
  pub multiple : (m : ℕ) (u : Unit) → slice_get (units g rs) m ≡ Some u → u.address % unit_size g ≡ 0
  -- "in the order of the ranges as listed and by address within a range"
  pub in_order : (m n : ℕ) (u v : Unit) → m < n → slice_get (units g rs) m ≡ Some u → slice_get (units g rs) n ≡ Some v
      → (u.row < v.row) ⊎ ((u.row ≡ v.row) × (u.address < v.address))
  -- W2: "A unit covered by several ranges counts once and belongs to the earliest listed": it is covered by the range in whose row it stands, and by none
  -- that is listed before
  pub own : (m : ℕ) (u : Unit) → slice_get (units g rs) m ≡ Some u → InRange g (get_or rs u.row no_range) u.address
  pub earliest : (m : ℕ) (u : Unit) → slice_get (units g rs) m ≡ Some u → (j : ℕ) → j < u.row → InRange g (get_or rs j no_range) u.address → ⊥
  -- each one that a range covers is there
  pub there : (x j : ℕ) → x % unit_size g ≡ 0 → InRange g (get_or rs j no_range) x → (m : ℕ) × (u : Unit) × (slice_get (units g rs) m ≡ Some u) × (u.address ≡ x)
  -- and once: no two have a byte in common
  pub apart : (m n : ℕ) (u v : Unit) → slice_get (units g rs) m ≡ Some u → slice_get (units g rs) n ≡ Some v
      → (x : ℕ) → (u.address ≤ x) × (x < u.address + u.size) → (v.address ≤ x) × (x < v.address + v.size) → m ≡ n

-- each unit of a run follows the one before it, in one range
abbrev pub is_row : List Unit → Bool
is_row [] = false
is_row (u ∷ []) = true
is_row (u ∷ v ∷ us) = follows u v && is_row (v ∷ us)

-- where a run ends the next one's first unit does not follow
abbrev pub last_of : Unit → List Unit → Unit
last_of u [] = u
last_of u (v ∷ vs) = last_of v vs

abbrev pub is_cut : List Unit → List Unit → Bool
is_cut [] q = false
is_cut (u ∷ us) [] = false
is_cut (u ∷ us) (v ∷ vs) = not (follows (last_of u us) v)

abbrev pub are_cut : List (List Unit) → Bool
are_cut [] = true
are_cut (r ∷ []) = true
are_cut (r ∷ q ∷ rs) = is_cut r q && are_cut (q ∷ rs)

-- how many of some marks are set
abbrev pub set_in : List Bool → ℕ
set_in [] = 0
set_in (true ∷ p) = suc (set_in p)
set_in (false ∷ p) = set_in p

-- a pending unit stands behind as many as are pending before it, and there are no others
pub record PendingAre (us : List Unit) (p : List Bool) : Type 0 where
  pub each : (n : ℕ) (u : Unit) → slice_get us n ≡ Some u → slice_get p n ≡ Some true → slice_get (pending us p) (set_in (take n p)) ≡ Some u
  pub no_more : length (pending us p) ≤ set_in p

-- "A run is a longest row of consecutive pending units within one range"; it is told by its first address and its length in units
pub record Runs : Type 0 where
  pub follows : (u v : Unit) → (follows u v ≡ true) ↔ ((u.row ≡ v.row) × (u.address + u.size ≡ v.address))
  pub descriptor : (u : Unit) (us : List Unit) → descriptor (u ∷ us) ≡ record { address = u.address; length = length (u ∷ us) }

-- "A report lists the earliest pending runs that fit; More To Report is clear exactly when nothing stays pending": of a controller that a session
-- left with marks p on the units us of its ranges, and a report with room for k runs
pub record Reports (b : Bool) (g k : ℕ) (us : List Unit) (p : List Bool) : Type 0 where
  -- the pending units, each once and in the order of the units
  pub are_pending : PendingAre us p
  -- the runs are the pending units in their order, cut where the next unit does not follow in the same range, and nowhere else
  pub in_order : join (runs (pending us p)) ≡ pending us p
  pub rows : all is_row (runs (pending us p)) ≡ true
  pub longest : are_cut (runs (pending us p)) ≡ true
  -- the first k are listed
  pub earliest : (report_on b g k us p).descriptors ≡ map descriptor (take k (runs (pending us p)))
  -- what is reported was pending and is clear afterwards; all else is unchanged
  pub was_pending : (n : ℕ) (u : Unit) → slice_get us n ≡ Some u
      → any (λ (d : Descriptor). lists g d u) (report_on b g k us p).descriptors ≡ true → slice_get p n ≡ Some true
  pub clear_afterwards : (n : ℕ) (u : Unit) → slice_get us n ≡ Some u
      → any (λ (d : Descriptor). lists g d u) (report_on b g k us p).descriptors ≡ true → slice_get (marks_left k us p) n ≡ Some false
  pub else_unchanged : (n : ℕ) (u : Unit) → slice_get us n ≡ Some u
      → any (λ (d : Descriptor). lists g d u) (report_on b g k us p).descriptors ≡ false → slice_get (marks_left k us p) n ≡ slice_get p n
  -- More is clear exactly when nothing stays pending
  pub more : ((report_on b g k us p).more ≡ false) ↔ (pending us (marks_left k us p) ≡ [])
  -- W10: "up to and including the one where run k + 1 begins", which is unit n, "or, if there is none, all"; there is one exactly if More is set
  pub examined : (n : ℕ) (u : Unit) (vs : List Unit) → slice_get (runs (pending us p)) k ≡ Some (u ∷ vs) → slice_get us n ≡ Some u → (report_on b g k us p).groups ≡ n / 64 + 1
  pub examined_all : slice_get (runs (pending us p)) k ≡ None → (report_on b g k us p).groups ≡ (length us + 63) / 64
  pub stays : ((report_on b g k us p).more ≡ false) ↔ (slice_get (runs (pending us p)) k ≡ None)
  pub examined_most : length us ≤ 16384 → (report_on b g k us p).groups ≤ 256
  -- and nothing behind these groups is asked: with other marks there the report is the same
  pub no_further : (q : List Bool) → length q ≡ length p
      → let n = 64 * (report_on b g k us p).groups in
      take n q ≡ take n p → report_on b g k us q ≡ report_on b g k us p

-- "That fit": a buffer of so many bytes has room for as many descriptors as fit behind 16 bytes, and one more would not fit
pub record Room (bytes : ℕ) : Type 0 where
  pub fits : report_size (room bytes) ≤ bytes
  pub no_more : bytes < report_size (suc (room bytes))

-- "A written range … touches each unit with which it shares a byte. Length 0 touches none."
pub record Touches (w : Write) (u : Unit) : Type 0 where
  pub exactly : 0 < u.size
      → (touches w u ≡ true) ↔ ((x : ℕ) × (w.address ≤ x) × (x < w.address + w.bytes) × (u.address ≤ x) × (x < u.address + u.size))
  pub none : w.bytes ≡ 0 → touches w u ≡ false

-- the count of a write is the number of units that were not pending before it and are after it
abbrev pub becomes : List Bool → List Bool → ℕ
becomes [] q = 0
becomes (b ∷ p) [] = 0
becomes (true ∷ p) (c ∷ q) = becomes p q
becomes (false ∷ p) (true ∷ q) = suc (becomes p q)
becomes (false ∷ p) (false ∷ q) = becomes p q

pub record Writes (w : Write) (us : List Unit) (p : List Bool) : Type 0 where
  pub count : newly w us p ≡ becomes p (mark w us p)
  pub grows : length (pending us (mark w us p)) ≡ length (pending us p) + newly w us p

-- all of it, after any session and of any controller
pub record Demand2 : Type 1 where
  pub listed : (g : ℕ) (rs : List Range) → rows_ok g rs ≡ true → UnitsListed g rs
  pub pending : (s : Settings) (words : ℕ) (ks : List Call) (a : ℕ) → Pending s words ks a
  pub reports : (s : Settings) (words : ℕ) (ks : List Call) (a : ℕ) (b : Bool) (g : ℕ) (rs : List Range) (p : List Bool)
      → (slot_of (session_end s words ks) a).suspended ≡ b → (slot_of (session_end s words ks) a).marks ≡ on g rs p → (k : ℕ) → Reports b g k (units g rs) p
  -- and of any device, made by a session or not: a receive that is not refused answers this report
  pub answers : (st : State) (a m : ℕ) (x : List ℕ) (g : ℕ) (rs : List Range) (p : List Bool) → (slot_of st a).marks ≡ on g rs p
      → number_of (step st (record { id = a; op = receive m x })).0 ≡ 0
      → (step st (record { id = a; op = receive m x })).0 ≡ reported (report_on (slot_of st a).suspended g (room (length x)) (units g rs) p)
  pub runs : Runs
  pub room : (bytes : ℕ) → 16 ≤ bytes → Room bytes
  pub touches : (w : Write) (u : Unit) → Touches w u
  pub writes : (w : Write) (us : List Unit) (p : List Bool) → Writes w us p

-- ---- "Start structures are read and written without loss"

-- the fields of a range fit their bytes
pub record Fits (r : Range) : Type 0 where
  pub start : r.start < 2 ^ 64
  pub length : r.length < 2 ^ 32

-- a list of bytes
abbrev pub Bytes : List ℕ → Type 0
Bytes x = (i : ℕ) → get_or x i 0 < 256

pub record WithoutLoss : Type 0 where
  -- reading what was written gives the same values
  pub read_written : (buffer : List ℕ) (g : ℕ) (rs : List Range) → g < 256 → ((i : ℕ) → i < length rs → Fits (get_or rs i (record { start = 0; length = 0 })))
      → length rs ≤ 16 → start_size (length rs) ≤ length buffer
      → start_data (start_written buffer g (length rs) rs) ≡ record { header = Is g (length rs); ranges = placed rs }
  -- writing what was read gives the same bytes where the reserved bytes were zero
  pub written_read : (x : List ℕ) (g n : ℕ) (rs : List Range) → Bytes x → get_or x 1 0 ≡ 0 → get_or x 2 0 ≡ 0
      → start_data x ≡ record { header = Is g n; ranges = rs } → start_bytes g (take n rs) ≡ take (start_size n) x
  -- bytes after the structure are unchanged, and a refused writer changes none
  pub rest : (buffer : List ℕ) (g n : ℕ) (rs : List Range) → drop (start_size (length rs)) (start_written buffer g n rs) ≡ drop (start_size (length rs)) buffer

-- ---- W1: the host's reader "accepts each report the core can write, returning exactly its runs"

-- the bytes of a report r on a controller, asked with each question of the reader
pub record ReadBack (id : ℕ) (r : Report) (x : List ℕ) : Type 0 where
  pub accepted : report_refusal x ≡ 0
  pub identifier : report_identifier x ≡ id
  pub suspended : report_suspended x ≡ bit r.suspended
  pub more : report_more x ≡ bit r.more
  pub granularity : report_granularity x ≡ r.granularity
  pub count : report_count x ≡ length r.descriptors
  -- each run at its index
  pub run : (i : ℕ) (d : Descriptor) → slice_get r.descriptors i ≡ Some d
      → (report_refusal_at x i ≡ 0) × (report_address x i ≡ d.address) × (report_length x i ≡ d.length)
  -- and none from the count on
  pub past : (i : ℕ) → length r.descriptors ≤ i → report_refusal_at x i ≡ 33

-- ---- demand 3

-- the refusals of a call that tell of what controllers share: of a start the pool (W7), its manager's descriptor limit and the shelf's (W12), of a part of a state that
-- another's is under way (W6), and of no other call any
abbrev pub shared_refusals : Op → List ℕ
shared_refusals (start m x) = 11 ∷ 12 ∷ 34 ∷ []
shared_refusals (stop m) = []
shared_refusals (write w) = []
shared_refusals (receive m x) = []
shared_refusals (suspend m kind) = []
shared_refusals (resume m) = []
shared_refusals (part m p) = 23 ∷ []
shared_refusals (queue bytes k) = []

-- none of a controller's calls was refused for what it shares
abbrev pub unhindered : List Did → Bool
unhindered h = all (λ (d : Did). not (member (number_of d.answer) (shared_refusals d.op))) h

-- the bytes that a controller's calls leave in what was lent with them
abbrev pub lent_bytes : ℕ → List Did → List (List ℕ)
lent_bytes a h = map (λ (d : Did). stored a (lent d.op) d.answer) h

-- two sessions agree for a controller: every answer, every byte lent, its pending units and its queued entries (W8)
pub record Agree (s : Settings) (words a : ℕ) (ks ks' : List Call) : Type 0 where
  pub answers : session_history s words ks a ≡ session_history s words ks' a
  pub bytes : lent_bytes a (session_history s words ks a) ≡ lent_bytes a (session_history s words ks' a)
  pub units : pending_in (slot_of (session_end s words ks) a) ≡ pending_in (slot_of (session_end s words ks') a)
  pub queued : entries_in (slot_of (session_end s words ks) a).queue ≡ entries_in (slot_of (session_end s words ks') a).queue

-- "Two sessions from the same settings in which controller A gets the same calls, while the others get anything: if in neither a start for A is refused
-- for the shared descriptor limit, every answer to A, every byte of A's reports and A's pending units agree, and equal what demand 2's rules give for A's
-- calls alone"
pub record Demand3 : Type 0 where
  pub alone : (s : Settings) (words a : ℕ) (ks : List Call) → unhindered (session_history s words ks a) ≡ true → Agree s words a ks (only a ks)
  pub together : (s : Settings) (words a : ℕ) (ks ks' : List Call) → only a ks ≡ only a ks'
      → unhindered (session_history s words ks a) ≡ true → unhindered (session_history s words ks' a) ≡ true → Agree s words a ks ks'

-- ---- W13: numbers for the migration log

-- a total of three passes 2^64 − 1
abbrev pub Passes : ℕ → ℕ → ℕ → Type 0
Passes m r d = (2 ^ 64 ≤ m) ⊎ ((2 ^ 64 ≤ r) ⊎ (2 ^ 64 ≤ d))

-- of a controller after any session, and of any history h
pub record Totals : Type 0 where
  -- what a call adds to each, and no other call does: a write its count, a report the lengths of its descriptors; only a stop drops
  pub none : (units_marked [] ≡ 0) × (units_reported [] ≡ 0) × (units_dropped [] ≡ 0)
  pub marks : (h : List Did) (d : Did) → units_marked (h ++ d ∷ []) ≡ units_marked h + newly_of d.answer
  pub lists : (h : List Did) (d : Did) → units_reported (h ++ d ∷ []) ≡ units_reported h + sum (map (λ (x : Descriptor). x.length) (report_of d.answer).descriptors)
  pub keeps : (h : List Did) (d : Did) → ((m : ℕ) → d.op ≢ stop m) → units_dropped (h ++ d ∷ []) ≡ units_dropped h
  -- "At every moment marked is reported plus dropped plus pending": after any session, for each controller
  pub account : (s : Settings) (words : ℕ) (ks : List Call) (a : ℕ)
      → let h = session_history s words ks a in
      units_marked h ≡ (units_reported h + units_dropped h) + length (pending_in (slot_of (session_end s words ks) a))
  -- "dropped by a stop while still pending": an accepted stop drops as many as are pending when it comes
  pub drops : (s : Settings) (words : ℕ) (ks : List Call) (a m : ℕ)
      → let h = session_history s words ks a in
      units_dropped (h ++ record { op = stop m; answer = done } ∷ []) ≡ units_dropped h + length (pending_in (slot_of (session_end s words ks) a))
  -- a refused call adds nothing to any
  pub refusal : (h : List Did) (o : Op) (n i : ℕ)
      → let h' = h ++ record { op = o; answer = refused n i } ∷ [] in
      (units_marked h' ≡ units_marked h) × (units_reported h' ≡ units_reported h) × (units_dropped h' ≡ units_dropped h)
  -- the three are read where none passes 2^64 − 1, and unknown, all three, exactly where one does
  pub read : (h : List Did) → units_marked h < 2 ^ 64 → units_reported h < 2 ^ 64 → units_dropped h < 2 ^ 64
      → shown_by h ≡ known (units_marked h) (units_reported h) (units_dropped h)
  pub passed : (h : List Did) → (shown_by h ≡ unknown) ↔ Passes (units_marked h) (units_reported h) (units_dropped h)
  -- they never fall as a history grows
  pub marked_grows : (h h' : List Did) → units_marked h ≤ units_marked (h ++ h')
  pub reported_grows : (h h' : List Did) → units_reported h ≤ units_reported (h ++ h')
  pub dropped_grows : (h h' : List Did) → units_dropped h ≤ units_dropped (h ++ h')
  -- so they read "unknown from then on": of any history, and of a session that goes on
  pub stays : (h h' : List Did) → shown_by h ≡ unknown → shown_by (h ++ h') ≡ unknown
  pub from_then_on : (s : Settings) (words : ℕ) (ks ks' : List Call) (a : ℕ)
      → shown_by (session_history s words ks a) ≡ unknown → shown_by (session_history s words (ks ++ ks') a) ≡ unknown

-- ---- granularities

-- of each granularity from 0 to 20: a unit is 4 KiB at least, memory is a whole number of units, and any 32-bit length in units is in bytes below 2^64
pub record Granularity (g : ℕ) : Type 0 where
  pub least : 4096 ≤ unit_size g
  pub whole : 2 ^ 64 % unit_size g ≡ 0
  pub fits : (units : ℕ) → units < 2 ^ 32 → bytes_of g units < 2 ^ 64

-- "A fact about granularity is proved once for all 0 to 20"
abbrev pub Granularities : Type 0
Granularities = (g : ℕ) → g ≤ 20 → Granularity g
