-- Document 02, W13, "Numbers for the migration log": for each controller since the device was made, units newly marked, units reported, and units dropped by a stop while
-- still pending. Each is told by the controller's calls and answers alone, and none by the others. Then what a log shows of them.
use Rattle.std.specs.Prelude.{ℕ, ◌+◌, ◌^◌, Bool, true, false, ◌&&◌, cond, List, [], ◌∷◌, ◌++◌, map, ltb, length}
use Rattle.std.specs.declared.option.Option.{Option}
use Rattle.std.specs.declared.option.Option.TheVariants.{None, Some}
use Rattle.rules.specs.Lists.{keep, sum}
use Rattle.rules.specs.Units.{units}
use Rattle.rules.specs.Report.{Descriptor, Report}
use Rattle.rules.specs.Order.{Op, start, stop, write, receive, suspend, resume, part, queue}
use Rattle.rules.specs.Machine.{newly_of, report_of}
use Rattle.rules.specs.History.{Did, is_accepted, pending_by, tracks_by}
use Rattle.rules.specs.declared.Range.{Range}

-- ---- units newly marked

-- the counts of its writes, together (an answer that is no write's has none)
abbrev pub units_marked : List Did → ℕ
units_marked h = sum (map (λ (d : Did). newly_of d.answer) h)

-- ---- units reported

-- the units that a report lists: the lengths of its descriptors, together
abbrev pub report_units : Report → ℕ
report_units r = sum (map (λ (x : Descriptor). x.length) r.descriptors)

-- those of its reports, together (an answer that is no report has no descriptors)
abbrev pub units_reported : List Did → ℕ
units_reported h = sum (map (λ (d : Did). report_units (report_of d.answer)) h)

-- ---- units dropped

abbrev pub stops : Op → Bool
stops (stop m) = true
stops (start m x) = false
stops (write w) = false
stops (receive m x) = false
stops (suspend m kind) = false
stops (resume m) = false
stops (part m p) = false
stops (queue bytes k) = false

-- tracking was stopped
abbrev pub ended_by : Did → Bool
ended_by d = is_accepted d.answer && stops d.op

-- how many units of ranges, if there are any, are pending by a history
abbrev pub pending_among : List Did → Option (ℕ × List Range) → ℕ
pending_among h None = 0
pending_among h (Some t) = length (keep (pending_by h) (units t.0 t.1))

-- and of the ranges tracked by then
abbrev pub units_pending : List Did → ℕ
units_pending h = pending_among h (tracks_by None h)

-- how many units a call dropped, after a history: an accepted stop those that were still pending by it, any other call none
abbrev pub dropped_by : List Did → Did → ℕ
dropped_by before d = cond (ended_by d) (units_pending before) 0

-- the same of several calls, one after another
abbrev pub dropped_from : List Did → List Did → ℕ
dropped_from before [] = 0
dropped_from before (d ∷ h) = dropped_by before d + dropped_from (before ++ d ∷ []) h

-- those that its stops dropped, together
abbrev pub units_dropped : List Did → ℕ
units_dropped h = dropped_from [] h

-- ---- what a log shows

-- a total does not pass 2^64 − 1
abbrev pub is_counted : ℕ → Bool
is_counted n = ltb n (2 ^ 64)

-- the units newly marked, reported and dropped; or all three unknown
pub data Shown : Type 0 where
  known : ℕ → ℕ → ℕ → Shown
  unknown : Shown

-- "If a total would pass 2^64 − 1, that controller's three read unknown"
abbrev pub shown_of : ℕ → ℕ → ℕ → Shown
shown_of m r d = cond (is_counted m && (is_counted r && is_counted d)) (known m r d) unknown

-- of a controller with a history
abbrev pub shown_by : List Did → Shown
shown_by h = shown_of (units_marked h) (units_reported h) (units_dropped h)
