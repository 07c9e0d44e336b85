-- W13, as statements, of both engines: a session whose calls are logged. The numbers that a controller's calls and answers tell are defined in rules' Totals.antt, what a call books in
-- booking's Booking.antt; here, that the log shows these numbers, and that they are accounted for.
use Rattle.std.specs.Prelude.{ℕ, ◌+◌, ◌^◌, ◌<◌, ◌≡◌, ◌≢◌, true, false, cond, List, [], ◌∷◌, ◌++◌, map, ltb, length, get_or}
use Rattle.std.specs.declared.option.Option.TheVariants.{None, Some}
use Rattle.rules.specs.Lists.{sum}
use Rattle.rules.specs.Settings.{place_of}
use Rattle.rules.specs.Order.{Op, start, stop, write, receive, suspend, resume, part, queue}
use Rattle.rules.specs.Machine.{Call, number_of}
use Rattle.rules.specs.History.{only}
use Rattle.rules.specs.Totals.{units_marked, units_reported, units_dropped, shown_by}
use Rattle.rules.specs.Demands.{Passes, session_history, unhindered}
use Rattle.rules.specs.declared.Settings.{Settings}
use Rattle.log_numbers.specs.declared.Log.{Log}
use Rattle.log_numbers.specs.Log.{showing, added_to, empty_account}
use Rattle.std.specs.declared.option.Option.{Option}
use Rattle.log_numbers.specs.declared.Totals.{Totals}
use Rattle.log_numbers.specs.declared.Sums.{Sums}
use Rattle.log_numbers.specs.Sums.{no_sums, summed_with}
use Rattle.record.specs.Record.{sound_with, where_is}
use Rattle.calls.specs.declared.WriteRecord.{WriteRecord}
use Rattle.calls.specs.Calls.{Engine, in_words, fresh_by, batch_by}
use Rattle.booking.specs.declared.Reading.{Reading}
use Rattle.booking.specs.Booking.{fresh_log, stop_log, write_log, batch_log, receive_log, reading_at}
use Rattle.plain.specs.Bytes.{in_bytes}
use Rattle.demands.specs.Sessions.{Left, Given, Sized, Step, one, batch, begun, outcome, stepped, end_by, calls_in, history_in}
use Rattle.demands.specs.Demand2.{pending_of}

-- ---- a session that is logged

-- the log after a call, given what the last one left: stop, write and receive are logged, every other call leaves the log as it was
abbrev pub logged_as : Engine → Left → Log → ℕ → Op → Log
logged_as en l g id (stop m) = stop_log en g l.device l.marks m id
logged_as en l g id (write w) = write_log en g l.device l.marks id w
logged_as en l g id (receive m x) = receive_log en g l.device l.marks m id x
logged_as en l g id (start m x) = g
logged_as en l g id (suspend m kind) = g
logged_as en l g id (resume m) = g
logged_as en l g id (part m p) = g
logged_as en l g id (queue bytes k) = g

-- after a step
abbrev pub logged_by : Engine → Left → Log → Step → Log
logged_by en l g (one k) = logged_as en l g k.id k.op
logged_by en l g (batch rs) = batch_log en g l.device l.marks rs

-- after steps, each given what the last one left
abbrev pub log_after : Engine → Left → Log → List Step → Log
log_after en l g [] = g
log_after en l g (x ∷ xs) = log_after en (stepped en l x) (logged_by en l g x) xs

-- after a session from fresh, where any log was before
abbrev pub log_in : Engine → Settings → Given → Log → List Step → Log
log_in en s m g xs = log_after en (begun en s m) (fresh_log en g s m.marks) xs

-- what a controller's totals are read as, on what a step left, and when a session is over
abbrev pub read_on : Engine → Left → Log → ℕ → Reading
read_on en l g a = reading_at g (where_is l.device (en.words l.marks) a)

abbrev pub read_in : Engine → Settings → Given → Log → List Step → ℕ → Reading
read_in en s m g xs a = read_on en (end_by en s m xs) (log_in en s m g xs) a

-- ---- what it shows

-- of a controller a, after a session in which fresh was not refused
pub record Shows (en : Engine) (s : Settings) (m : Given) (g : Log) (xs : List Step) (a : ℕ) : Type 0 where
  -- "At every moment marked is reported plus dropped plus pending"
  pub account : let h = history_in en s m (calls_in en s m xs) a in units_marked h ≡ (units_reported h + units_dropped h) + length (pending_of en (end_by en s m xs) a)
  -- the three numbers where none passes 2^64 − 1, and unknown for all three where one does
  pub known : (i : ℕ) → place_of s a ≡ Some i
      → let h = history_in en s m (calls_in en s m xs) a in
      units_marked h < 2 ^ 64 → units_reported h < 2 ^ 64 → units_dropped h < 2 ^ 64
      → read_in en s m g xs a ≡ record { number = 0; totals = Some (record { marked = units_marked h; reported = units_reported h; dropped = units_dropped h }) }
  pub unknown : (i : ℕ) → place_of s a ≡ Some i
      → let h = history_in en s m (calls_in en s m xs) a in
      Passes (units_marked h) (units_reported h) (units_dropped h) → read_in en s m g xs a ≡ record { number = 0; totals = None }
  -- they are what the rules show of the same calls (`WorkedTotals`), and stand in the log at the controller's place
  pub rules : (i : ℕ) → place_of s a ≡ Some i
      → read_in en s m g xs a ≡ record { number = 0; totals = showing (shown_by (session_history s (en.words m.marks) (calls_in en s m xs) a)) }
  pub place : (i : ℕ) → place_of s a ≡ Some i → (get_or (log_in en s m g xs).accounts i empty_account).totals ≡ (read_in en s m g xs a).totals
  -- a controller that is not in the settings
  pub nobody : place_of s a ≡ None → read_in en s m g xs a ≡ record { number = 2; totals = Some (record { marked = 0; reported = 0; dropped = 0 }) }
  -- "unknown from then on"
  pub from_then_on : (ys : List Step) → read_in en s m g xs a ≡ record { number = 0; totals = None } → read_in en s m g (xs ++ ys) a ≡ record { number = 0; totals = None }

pub record MigrationLog (en : Engine) : Type 1 where
  pub shows : (s : Settings) (m : Given) (g : Log) (xs : List Step) → Sized s m → (fresh_by en s m.marks).answer.number ≡ 0 → (a : ℕ) → Shows en s m g xs a
  -- it is read from the log, and each step is given the log that the last one left
  pub reads : (s : Settings) (m : Given) (g : Log) (xs : List Step) (a : ℕ) → read_in en s m g xs a ≡ read_on en (end_by en s m xs) (log_in en s m g xs) a
  pub threads : (s : Settings) (m : Given) (g : Log) (xs : List Step) (x : Step) → log_in en s m g (xs ++ x ∷ []) ≡ logged_by en (end_by en s m xs) (log_in en s m g xs) x
  -- of a record that is not sound nothing is read, whatever the log
  pub unsound : (l : Left) (g : Log) (a : ℕ) → sound_with l.device (en.words l.marks) ≡ false → read_on en l g a ≡ record { number = 1; totals = Some (record { marked = 0; reported = 0; dropped = 0 }) }
  -- a refused fresh leaves the log that there was, and no call of its closed device changes it
  pub closed : (s : Settings) (m : Given) (g : Log) (xs : List Step) → (fresh_by en s m.marks).answer.number ≢ 0 → log_in en s m g xs ≡ g
  -- nor does any refused call or batch, on any record
  pub refused : (l : Left) (g : Log) (k : Call) → number_of (outcome en l k).answer ≢ 0 → logged_by en l g (one k) ≡ g
  pub refused_batch : (l : Left) (g : Log) (rs : List WriteRecord) → (batch_by en l.device l.marks rs).answer.number ≢ 0 → logged_by en l g (batch rs) ≡ g
  -- demand 3: what others do alters no total of a controller
  pub apart : (s : Settings) (a i : ℕ) (m m' : Given) (g g' : Log) (xs xs' : List Step) → Sized s m → Sized s m' → en.words m.marks ≡ en.words m'.marks
      → (fresh_by en s m.marks).answer.number ≡ 0 → (fresh_by en s m'.marks).answer.number ≡ 0 → place_of s a ≡ Some i
      → only a (calls_in en s m xs) ≡ only a (calls_in en s m' xs') → unhindered (history_in en s m (calls_in en s m xs) a) ≡ true → unhindered (history_in en s m' (calls_in en s m' xs') a) ≡ true
      → read_in en s m g xs a ≡ read_in en s m' g' xs' a

-- of both engines
abbrev pub MigrationLogs : Type 1
MigrationLogs = MigrationLog in_words × MigrationLog in_bytes

-- totals that anyone may have made, with so many units more
pub record Adding : Type 0 where
  pub known : (m r d a b c : ℕ) → m + a < 2 ^ 64 → r + b < 2 ^ 64 → d + c < 2 ^ 64 → added_to (Some (record { marked = m; reported = r; dropped = d })) a b c ≡ Some (record { marked = m + a; reported = r + b; dropped = d + c })
  pub passed : (m r d a b c : ℕ) → Passes (m + a) (r + b) (d + c) → added_to (Some (record { marked = m; reported = r; dropped = d })) a b c ≡ None
  pub unknown : (a b c : ℕ) → added_to None a b c ≡ None

-- ---- the last line of the log's program

-- sums over controllers, taken one after another
abbrev pub sums_in : Sums → List (Option Totals) → Sums
sums_in sums [] = sums
sums_in sums (t ∷ ts) = sums_in (summed_with sums t) ts

-- "last a sum over all, unknown if it holds an unknown or passes 2^64 − 1", each of the three by itself
pub record Summing : Type 0 where
  -- of controllers whose three are known
  pub exact : (xs : List (ℕ × ℕ × ℕ))
      → let r = sums_in no_sums (map (λ (x : ℕ × ℕ × ℕ). Some (record { marked = x.0; reported = x.1; dropped = x.2 })) xs) in
      let marked = sum (map (λ (x : ℕ × ℕ × ℕ). x.0) xs) in
      let reported = sum (map (λ (x : ℕ × ℕ × ℕ). x.1) xs) in
      let dropped = sum (map (λ (x : ℕ × ℕ × ℕ). x.2) xs) in
      (r.marked ≡ cond (ltb marked (2 ^ 64)) (Some marked) None) × (r.reported ≡ cond (ltb reported (2 ^ 64)) (Some reported) None)
      × (r.dropped ≡ cond (ltb dropped (2 ^ 64)) (Some dropped) None)
  -- and where one's are not
  pub unknown : (ts us : List (Option Totals)) → sums_in no_sums (ts ++ None ∷ us) ≡ record { marked = None; reported = None; dropped = None }
  -- two controllers, 2^63 marked and 1 dropped each
  pub worked : sums_in no_sums (Some (record { marked = 2 ^ 63; reported = 0; dropped = 1 }) ∷ Some (record { marked = 2 ^ 63; reported = 0; dropped = 1 }) ∷ []) ≡ record { marked = None; reported = Some 0; dropped = Some 2 }
