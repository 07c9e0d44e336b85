-- W9, as statements: the plain engine (`plain`), which holds marks one byte a unit, beside the other one (`tracker`), which holds them in words; and demands 1 to 3 of it.
use Rattle.std.specs.Prelude.{ℕ, ◌+◌, ◌≤◌, ◌<◌, ◌≡◌, ◌≢◌, ◌↔◌, ◌⊎◌, true, false, List, [], ◌∷◌, length, get_or, replicate}
use Rattle.std.specs.declared.option.Option.TheVariants.{None, Some}
use Rattle.std.specs.List.{slice_get}
use Rattle.bits.specs.Flat.{flat}
use Rattle.rules.specs.Lists.{sum}
use Rattle.rules.specs.Settings.{place_of}
use Rattle.rules.specs.Units.{Unit, Write, units}
use Rattle.rules.specs.Device.{sound_device}
use Rattle.rules.specs.Machine.{Answer, Call, slot_of}
use Rattle.rules.specs.History.{PendingBy, tracks_by, slot_by}
use Rattle.rules.specs.declared.Range.{Range}
use Rattle.rules.specs.declared.Settings.{Settings}
use Rattle.rules.specs.declared.Device.{Device}
use Rattle.calls.specs.declared.WriteRecord.{WriteRecord}
use Rattle.calls.specs.declared.Batched.{Batched}
use Rattle.calls.specs.Calls.{Engine, in_words, sizes_of, fresh_by, start_by, stop_by, write_by, batch_by, receive_by}
use Rattle.plain.specs.Bytes.{in_bytes}
use Rattle.demands.specs.View.{view}
use Rattle.demands.specs.Sessions.{Left, Given, Sized, Step, one, batch, begun, outcome, stepped, left_by, end_of, history_in}
use Rattle.demands.specs.Demand1.{MarkCalls}
use Rattle.demands.specs.Demand2.{size_at, Equals, Shaped, Steps}
use Rattle.demands.specs.Demand3.{Demand3}
use Rattle.demands.specs.Batches.{Batches}
use Rattle.demands.specs.Soundness.{base_at}

-- ---- a session of calls and batches, as its caller sees it

-- what a step answers: number, row, count, report, state, entries; of a batch the number, how many notes were done, how many units, and the refusal
pub data Said : Type 0 where
  to_call : Answer → Said
  to_batch : Batched → Said

abbrev pub said_of : Engine → Left → Step → Said
said_of en l (one k) = to_call (outcome en l k).answer
said_of en l (batch rs) = to_batch (batch_by en l.device l.marks rs).answer

-- the bytes that are lent with it, as they are afterwards. (A batch's records are only read.)
abbrev pub lent_of : Engine → Left → Step → List ℕ
lent_of en l (one k) = (outcome en l k).bytes
lent_of en l (batch rs) = []

abbrev pub said_by : Engine → Left → List Step → List Said
said_by en l [] = []
said_by en l (x ∷ xs) = said_of en l x ∷ said_by en (stepped en l x) xs

abbrev pub lent_by : Engine → Left → List Step → List (List ℕ)
lent_by en l [] = []
lent_by en l (x ∷ xs) = lent_of en l x ∷ lent_by en (stepped en l x) xs

-- ---- both engines

-- areas that hold the same marks: byte i is not 0 exactly if bit i is set
abbrev pub Alike : List ℕ → List ℕ → Type 0
Alike ws bs = (i : ℕ) → (get_or bs i 0 ≢ 0) ↔ (get_or (flat ws) i false ≡ true)

-- the same with bytes in the place of words
abbrev pub lending : Given → List ℕ → Given
lending m bs = record { marks = bs; area = m.area; queues = m.queues }

abbrev pub holding : Left → List ℕ → Left
holding l bs = record { device = l.device; marks = bs; area = l.area; queues = l.queues }

-- what both are left with: one record, the same marks, and the same bytes in all other areas
pub record Beside (l l' : Left) : Type 0 where
  pub device : l.device ≡ l'.device
  pub marks : Alike l.marks l'.marks
  pub area : l.area ≡ l'.area
  pub queues : (i : ℕ) → l.queues i ≡ l'.queues i

-- "From the same settings both engines meet every sequence of calls with the same answers, refusals, counts and report bytes": words and bytes of their number, with
-- anything in them
pub record SameAnswers : Type 0 where
  pub fresh : (s : Settings) (ws bs : List ℕ) → length ws ≡ 256 → length bs ≡ 16384 → (fresh_by in_words s ws).answer ≡ (fresh_by in_bytes s bs).answer
  pub answers : (s : Settings) (m : Given) (bs : List ℕ) (xs : List Step) → Sized s m → length m.marks ≡ 256 → length bs ≡ 16384
      → said_by in_words (begun in_words s m) xs ≡ said_by in_bytes (begun in_bytes s (lending m bs)) xs
  pub bytes : (s : Settings) (m : Given) (bs : List ℕ) (xs : List Step) → Sized s m → length m.marks ≡ 256 → length bs ≡ 16384
      → lent_by in_words (begun in_words s m) xs ≡ lent_by in_bytes (begun in_bytes s (lending m bs)) xs
  -- they have one record all along, and the same marks
  pub left : (s : Settings) (m : Given) (bs : List ℕ) (xs : List Step) → Sized s m → length m.marks ≡ 256 → length bs ≡ 16384 → (fresh_by in_bytes s bs).answer.number ≡ 0
      → Beside (left_by in_words (begun in_words s m) xs) (left_by in_bytes (begun in_bytes s (lending m bs)) xs)
  -- and so of each step on a record that no session made
  pub steps : (l : Left) (bs : List ℕ) → Shaped in_words l → length bs ≡ 16384 → Alike l.marks bs → (x : Step)
      → (said_of in_words l x ≡ said_of in_bytes (holding l bs) x) × (lent_of in_words l x ≡ lent_of in_bytes (holding l bs) x) × Beside (stepped in_words l x) (stepped in_bytes (holding l bs) x)

-- ---- the plain engine's bytes

-- what its calls leave of each byte, of any record and any bytes: those that are not 0 stay as they are, until they are reported or their tracking stops
pub record BytesKept : Type 0 where
  pub fresh : (s : Settings) (bs : List ℕ) → let c = fresh_by in_bytes s bs in c.answer.number ≡ 0 → c.marks ≡ replicate (length bs) 0
  pub written : (d : Device) (bs : List ℕ) (id : ℕ) (w : Write) (i : ℕ)
      → let byte = get_or (write_by in_bytes d bs id w).marks i 0 in
      (byte ≡ get_or bs i 0) ⊎ ((get_or bs i 0 ≡ 0) × (byte ≡ 1))
  pub received : (d : Device) (bs : List ℕ) (b id : ℕ) (x : List ℕ) (i : ℕ)
      → let byte = get_or (receive_by in_bytes d bs b id x).marks i 0 in
      (byte ≡ get_or bs i 0) ⊎ (byte ≡ 0)
  pub stopped : (d : Device) (bs : List ℕ) (b id i : ℕ) → let byte = get_or (stop_by in_bytes d bs b id).marks i 0 in (byte ≡ get_or bs i 0) ⊎ (byte ≡ 0)
  -- a start moves the others' bytes as they are
  pub moved : (l : Left) → Shaped in_bytes l → (b a i : ℕ) (x : List ℕ) → place_of l.device.settings a ≡ Some i
      → let c = start_by in_bytes l.device l.marks b a x in
      c.answer.number ≡ 0 → (j m : ℕ) → j < 8 → j ≢ i → m < size_at l.device j
      → get_or c.marks (base_at c.answer.device j + m) 0 ≡ get_or l.marks (base_at l.device j + m) 0
  -- none changes how many bytes there are
  pub fresh_bytes : (s : Settings) (bs : List ℕ) → length (fresh_by in_bytes s bs).marks ≡ length bs
  pub written_bytes : (d : Device) (bs : List ℕ) (id : ℕ) (w : Write) → length (write_by in_bytes d bs id w).marks ≡ length bs
  pub received_bytes : (d : Device) (bs : List ℕ) (b id : ℕ) (x : List ℕ) → length (receive_by in_bytes d bs b id x).marks ≡ length bs

-- ---- the demands, of the plain engine

pub record Plain : Type 1 where
  -- demand 1: "1 speaks of each engine's own record and area"; every other refusal is as for the other engine (`Demand1`)
  pub area : (bs : List ℕ) → (in_bytes.words bs ≡ 256) ↔ (length bs ≡ 16384)
  pub mark_calls : MarkCalls in_bytes
  -- demand 2: any session comes for each controller to what the rules give for the same calls, and so does each call on a record that no session made
  pub rules : (s : Settings) (a : ℕ) (m : Given) (ks : List Call) → Sized s m → Equals in_bytes s a m ks ks
  pub steps : (l : Left) → Shaped in_bytes l → (k : Call) → Steps in_bytes l k
  -- what record and bytes hold of a controller is what its calls and answers tell
  pub told : (s : Settings) (m : Given) (ks : List Call) → Sized s m → (fresh_by in_bytes s m.marks).answer.number ≡ 0 → (a : ℕ)
      → let l = end_of in_bytes s m ks in
      slot_of (view in_bytes l.device l.marks l.area l.queues) a ≡ slot_by (history_in in_bytes s m ks a)
  -- "a unit of a tracked range is pending exactly if an accepted write by its controller touched it after tracking last started and after it was last reported"; and
  -- "0 is clear, all else pending"
  pub pending : (s : Settings) (m : Given) (ks : List Call) → Sized s m → (fresh_by in_bytes s m.marks).answer.number ≡ 0 → (a i g : ℕ) (rs : List Range) (n : ℕ) (u : Unit)
      → place_of s a ≡ Some i → tracks_by None (history_in in_bytes s m ks a) ≡ Some (g, rs) → slice_get (units g rs) n ≡ Some u
      → let l = end_of in_bytes s m ks in
      (get_or l.marks (base_at l.device i + n) 0 ≢ 0) ↔ PendingBy (history_in in_bytes s m ks a) u
  -- no sequence of calls leads to an unsound record, or to an area of another size
  pub kept : (s : Settings) (m : Given) (ks : List Call) → Sized s m → (fresh_by in_bytes s m.marks).answer.number ≡ 0
      → (sound_device (end_of in_bytes s m ks).device ≡ true) × (length (end_of in_bytes s m ks).marks ≡ 16384)
  -- demand 3
  pub apart : Demand3 in_bytes
  -- W4: its batches
  pub batches : Batches in_bytes
  pub bytes : BytesKept
