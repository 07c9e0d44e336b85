-- A session of an engine's calls themselves: fresh, then any calls in any order, each given the record, the marks, the area for a state and the areas of the queues that the last
-- one left.
use Rattle.std.specs.Prelude.{ℕ, ◌≡◌, cond, List, [], ◌∷◌, ◌++◌, eqb, length}
use Rattle.rules.specs.Order.{write}
use Rattle.rules.specs.Machine.{Call, Event}
use Rattle.rules.specs.History.{Did, history_of, is_accepted}
use Rattle.rules.specs.declared.Settings.{Settings}
use Rattle.rules.specs.declared.Device.{Device}
use Rattle.calls.specs.declared.WriteRecord.{WriteRecord}
use Rattle.calls.specs.Calls.{Engine, fresh_by, batch_by}
use Rattle.demands.specs.View.{Outcome, run}

-- what a call leaves to the next
pub record Left : Type 0 where
  pub device : Device
  pub marks : List ℕ
  pub area : List ℕ
  pub queues : ℕ → List ℕ

-- what a session is lent: words for the marks, an area for a state, and for each place of the settings an area of its own for a queue (W8), which fresh does not touch.
-- A call to a queue says how many bytes of it are lent; zeros stand for those that it lacks, so that areas of any size will do
pub record Given : Type 0 where
  pub marks : List ℕ
  pub area : List ℕ
  pub queues : ℕ → List ℕ

-- of the sizes that are meant: the eight places of the settings' type, and a state's bytes. (With an area of another size a part answers 1.)
pub record Sized (s : Settings) (m : Given) : Type 0 where
  pub places : length s.identifiers ≡ 8
  pub area : length m.area ≡ 4096

-- what fresh leaves
abbrev pub begun : Engine → Settings → Given → Left
begun en s m = record { device = (fresh_by en s m.marks).answer.device; marks = (fresh_by en s m.marks).marks; area = m.area; queues = m.queues }

-- what a call comes to, and what it leaves
abbrev pub outcome : Engine → Left → Call → Outcome
outcome en l k = run en l.device l.marks l.area l.queues k

abbrev pub next : Engine → Left → Call → Left
next en l k = record { device = (outcome en l k).device; marks = (outcome en l k).marks; area = (outcome en l k).area; queues = (outcome en l k).queues }

abbrev pub left_after : Engine → Left → List Call → Left
left_after en l [] = l
left_after en l (k ∷ ks) = left_after en (next en l k) ks

-- the calls with their answers, the oldest first
abbrev pub answers_to : Engine → Left → List Call → List Event
answers_to en l [] = []
answers_to en l (k ∷ ks) = record { call = k; answer = (outcome en l k).answer } ∷ answers_to en (next en l k) ks

-- the bytes that were lent with each call to a controller, as they are afterwards
abbrev pub bytes_to : Engine → ℕ → Left → List Call → List (List ℕ)
bytes_to en a l [] = []
bytes_to en a l (k ∷ ks) = cond (eqb k.id a) ((outcome en l k).bytes ∷ bytes_to en a (next en l k) ks) (bytes_to en a (next en l k) ks)

-- ---- W4: a session whose steps are calls and batches

pub data Step : Type 0 where
  one : Call → Step
  batch : List WriteRecord → Step

-- what a step leaves
abbrev pub stepped : Engine → Left → Step → Left
stepped en l (one k) = next en l k
stepped en l (batch rs) = record { device = l.device; marks = (batch_by en l.device l.marks rs).marks; area = l.area; queues = l.queues }

abbrev pub left_by : Engine → Left → List Step → Left
left_by en l [] = l
left_by en l (x ∷ xs) = left_by en (stepped en l x) xs

-- a record of a batch as the call that it is
abbrev pub note_of : WriteRecord → Call
note_of r = record { id = r.id; op = write (record { address = r.address; bytes = r.bytes.0 }) }

-- the notes of a list that are tried one after another, as single calls: up to the first that is refused, with that one
abbrev pub tried : Engine → Left → List WriteRecord → List Call
tried en l [] = []
tried en l (r ∷ rs) = note_of r ∷ cond (is_accepted (outcome en l (note_of r)).answer) (tried en (next en l (note_of r)) rs) []

-- the calls that a step is: a call itself, a batch its tried notes, and a refused batch none
abbrev pub calls_of : Engine → Left → Step → List Call
calls_of en l (one k) = k ∷ []
calls_of en l (batch rs) = cond (eqb (batch_by en l.device l.marks rs).answer.number 0) (tried en l rs) []

abbrev pub expand : Engine → Left → List Step → List Call
expand en l [] = []
expand en l (x ∷ xs) = calls_of en l x ++ expand en (stepped en l x) xs

-- ---- a session from fresh

abbrev pub end_of : Engine → Settings → Given → List Call → Left
end_of en s m ks = left_after en (begun en s m) ks

-- the same of a session with batches, and the calls that it is
abbrev pub end_by : Engine → Settings → Given → List Step → Left
end_by en s m xs = left_by en (begun en s m) xs

abbrev pub calls_in : Engine → Settings → Given → List Step → List Call
calls_in en s m xs = expand en (begun en s m) xs

-- a controller's calls and answers
abbrev pub history_in : Engine → Settings → Given → List Call → ℕ → List Did
history_in en s m ks a = history_of a (answers_to en (begun en s m) ks)

abbrev pub bytes_in : Engine → Settings → Given → List Call → ℕ → List (List ℕ)
bytes_in en s m ks a = bytes_to en a (begun en s m) ks
