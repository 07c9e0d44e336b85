-- W4, as statements, of any engine: a batch of write notes is its tried notes as single calls, and demands 2 and 3 are read over those.
use Rattle.std.specs.Prelude.{ℕ, ◌+◌, ◌≤◌, ◌<◌, ◌≡◌, ◌≢◌, ◌↔◌, true, false, cond, List, [], ◌∷◌, map, length}
use Rattle.rules.specs.Lists.{sum}
use Rattle.rules.specs.Units.{Write}
use Rattle.rules.specs.Order.{batch_order}
use Rattle.rules.specs.Machine.{Call, Event, managed_in, counts_in, units_in, number_of, newly_of}
use Rattle.rules.specs.History.{only, is_accepted}
use Rattle.rules.specs.Demands.{session_end, unhindered}
use Rattle.rules.specs.declared.Settings.{Settings}
use Rattle.record.specs.Record.{sound_with}
use Rattle.calls.specs.declared.WriteRecord.{WriteRecord}
use Rattle.calls.specs.Calls.{Engine, in_words, fresh_change, write_by, batch_by}
use Rattle.demands.specs.Sessions.{Left, Given, Sized, Step, one, left_after, answers_to, tried, end_of, end_by, calls_in, history_in}
use Rattle.demands.specs.Demand1.{Answers}
use Rattle.demands.specs.Demand2.{Equals, Stands}
use Rattle.demands.specs.Demand3.{Agree}

-- ---- what the answers to some notes say together

-- how many were done
abbrev pub done_in : List Event → ℕ
done_in es = sum (map (λ (e : Event). cond (is_accepted e.answer) 1 0) es)

-- how many units they made pending
abbrev pub newly_in : List Event → ℕ
newly_in es = sum (map (λ (e : Event). newly_of e.answer) es)

-- the number of the last one, 0 where there is none
abbrev pub last_number : List Event → ℕ
last_number [] = 0
last_number (e ∷ []) = number_of e.answer
last_number (e ∷ f ∷ es) = last_number (f ∷ es)

-- ---- a batch

-- "It does exactly the single notes in list order up to the first refused one and answers the number done, the total newly pending and the refusal, if any; such a
-- batch counts as done. An empty list is done with 0. At most 1,024 records": a batch of records rs, given l
pub record IsNotes (en : Engine) (l : Left) (rs : List WriteRecord) : Type 0 where
  -- 1, then 22; a refused one answers zeros and changes no mark
  pub answers : let c = batch_by en l.device l.marks rs in
      Answers c.answer.number (batch_order (sound_with l.device (en.words l.marks)) (length rs))
      ((c.answer.done ≡ 0) × (c.answer.count ≡ 0) × (c.answer.refusal ≡ 0) × (c.marks ≡ l.marks))
  pub unsound : sound_with l.device (en.words l.marks) ≡ false → (batch_by en l.device l.marks rs).answer.number ≡ 1
  pub many : sound_with l.device (en.words l.marks) ≡ true → 1024 < length rs → (batch_by en l.device l.marks rs).answer.number ≡ 22
  pub few : sound_with l.device (en.words l.marks) ≡ true → length rs ≤ 1024 → (batch_by en l.device l.marks rs).answer.number ≡ 0
  -- a done one leaves what its tried notes leave, and answers what they answer together
  pub leaves : let c = batch_by en l.device l.marks rs in
      c.answer.number ≡ 0 → record { device = l.device; marks = c.marks; area = l.area; queues = l.queues } ≡ left_after en l (tried en l rs)
  pub says : let c = batch_by en l.device l.marks rs in
      let es = answers_to en l (tried en l rs) in
      c.answer.number ≡ 0 → (c.answer.done ≡ done_in es) × (c.answer.count ≡ newly_in es) × (c.answer.refusal ≡ last_number es)

-- the same by the single note itself, with no definition between: what a batch on l answers and leaves, from what its first note answers and leaves, and the
-- batch of the others on that
pub record ByNote (en : Engine) (l : Left) : Type 0 where
  -- 1 exactly where any single note is refused with 1
  pub unsound : (rs : List WriteRecord) (id : ℕ) (w : Write)
      → ((batch_by en l.device l.marks rs).answer.number ≡ 1) ↔ ((write_by en l.device l.marks id w).answer.number ≡ 1)
  pub none : let c = batch_by en l.device l.marks [] in
      c.answer.number ≡ 0 → c ≡ record { answer = record { number = 0; done = 0; count = 0; refusal = 0 }; marks = l.marks }
  pub cut : (r : WriteRecord) (rs : List WriteRecord)
      → let n = write_by en l.device l.marks r.id (record { address = r.address; bytes = r.bytes.0 }) in
      let c = batch_by en l.device l.marks (r ∷ rs) in
      c.answer.number ≡ 0 → n.answer.number ≢ 0 → c ≡ record { answer = record { number = 0; done = 0; count = 0; refusal = n.answer.number }; marks = l.marks }
  pub goes_on : (r : WriteRecord) (rs : List WriteRecord)
      → let n = write_by en l.device l.marks r.id (record { address = r.address; bytes = r.bytes.0 }) in
      let c = batch_by en l.device l.marks (r ∷ rs) in
      let others = batch_by en l.device n.marks rs in
      c.answer.number ≡ 0 → n.answer.number ≡ 0
      → c
      ≡ record {
        answer = record { number = others.answer.number; done = 1 + others.answer.done; count = n.answer.count + others.answer.count; refusal = others.answer.refusal };
        marks = others.marks;
      }

-- ---- sessions

pub record Batches (en : Engine) : Type 1 where
  pub notes : (l : Left) (rs : List WriteRecord) → IsNotes en l rs
  pub by_note : (l : Left) → ByNote en l
  -- a session with batches leaves what the session of its calls leaves; one with none is its calls
  pub session : (s : Settings) (m : Given) (xs : List Step) → end_by en s m xs ≡ end_of en s m (calls_in en s m xs)
  pub calls : (s : Settings) (m : Given) (ks : List Call) → calls_in en s m (map one ks) ≡ ks
  -- demand 2: it comes for each controller to what the rules give for these calls
  pub rules : (s : Settings) (a : ℕ) (m : Given) (xs : List Step) → Sized s m → Equals en s a m (calls_in en s m xs) (calls_in en s m xs)
  -- demand 3: "For demand 3 a batch is its notes carried out, each answered singly; a cut by another controller's note is outside": then A's calls differ
  pub together : (s : Settings) (a : ℕ) (m m' : Given) (xs xs' : List Step) → Sized s m → Sized s m' → en.words m.marks ≡ en.words m'.marks
      → only a (calls_in en s m xs) ≡ only a (calls_in en s m' xs') → unhindered (history_in en s m (calls_in en s m xs) a) ≡ true → unhindered (history_in en s m' (calls_in en s m' xs') a) ≡ true
      → Agree en s a m m' (calls_in en s m xs) (calls_in en s m' xs')
  pub alone : (s : Settings) (a : ℕ) (m : Given) (xs : List Step) → Sized s m
      → unhindered (history_in en s m (calls_in en s m xs) a) ≡ true → Equals en s a m (calls_in en s m xs) (only a (calls_in en s m xs))

-- and each controller of `tracker` stands as its calls and answers tell
pub record BatchesStand : Type 1 where
  pub stands : (s : Settings) (m : Given) (xs : List Step) → Sized s m → (fresh_change s m.marks).answer.number ≡ 0
      → (a : ℕ)
      → let st = session_end s (length m.marks) (calls_in in_words s m xs) in
      Stands s (end_by in_words s m xs) (history_in in_words s m (calls_in in_words s m xs) a) (units_in st) (managed_in st) (counts_in st) a
