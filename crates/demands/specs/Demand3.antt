-- Demand 3, as a statement about the calls of an engine and about the rules: "Two sessions from the same settings in which controller A gets the same calls,
-- while the others get anything: if in neither a start for A is refused for the shared descriptor limit, every answer to A, every byte of A's reports and A's
-- pending units agree, and equal what demand 2's rules give for A's calls alone." W12: A's calls name their manager, so the same calls are by the same managers.
use Rattle.std.specs.Prelude.{ℕ, ◌≡◌, true, List, length}
use Rattle.std.specs.declared.option.Option.TheVariants.{Some}
use Rattle.std.specs.List.{slice_get}
use Rattle.rules.specs.Order.{Op, start, Part, part}
use Rattle.rules.specs.Machine.{Call, number_of}
use Rattle.rules.specs.History.{Did, only}
use Rattle.rules.specs.Demands.{unhindered}
use Rattle.rules.specs.declared.Settings.{Settings}
use Rattle.calls.specs.Calls.{Engine}
use Rattle.demands.specs.Sessions.{Given, Sized, end_of, history_in, bytes_in}
use Rattle.demands.specs.Demand2.{pending_of, queued_of, Equals}

-- two sessions of the calls agree for a controller: every answer, every byte lent with its calls, its reports' among them, its pending units, and its queued entries (W8)
pub record Agree (en : Engine) (s : Settings) (a : ℕ) (m m' : Given) (ks ks' : List Call) : Type 0 where
  pub answers : history_in en s m ks a ≡ history_in en s m' ks' a
  pub bytes : bytes_in en s m ks a ≡ bytes_in en s m' ks' a
  pub units : pending_of en (end_of en s m ks) a ≡ pending_of en (end_of en s m' ks') a
  pub queued : queued_of en (end_of en s m ks) a ≡ queued_of en (end_of en s m' ks') a

-- a refusal for what controllers share: of a start the pool's shortage (W7), its manager's descriptor limit or the shelf's (W12), of a part of a state that another's is under way (W6)
pub data Shared : Op → ℕ → Type 0 where
  pool : (m : ℕ) (x : List ℕ) → Shared (start m x) 11
  limit : (m : ℕ) (x : List ℕ) → Shared (start m x) 12
  shelf : (m : ℕ) (x : List ℕ) → Shared (start m x) 34
  sequence : (m : ℕ) (p : Part) → Shared (part m p) 23

-- the marks of two sessions may differ, as fresh makes them 0, and so may their areas; that they stand for as many words is meant, as fresh refuses another number of them
pub record Demand3 (en : Engine) : Type 0 where
  -- what is asked of A's answers: that none is such a refusal, and nothing else
  pub premise : (h : List Did) → ((i : ℕ) (d : Did) → slice_get h i ≡ Some d → Shared d.op (number_of d.answer) → ⊥) → unhindered h ≡ true
  pub together : (s : Settings) (a : ℕ) (m m' : Given) (ks ks' : List Call) → Sized s m → Sized s m' → en.words m.marks ≡ en.words m'.marks
      → only a ks ≡ only a ks' → unhindered (history_in en s m ks a) ≡ true → unhindered (history_in en s m' ks' a) ≡ true → Agree en s a m m' ks ks'
  pub alone : (s : Settings) (a : ℕ) (m : Given) (ks : List Call) → Sized s m
      → unhindered (history_in en s m ks a) ≡ true → Equals en s a m ks (only a ks)
