-- What the inner functions of the calls promise. These serve the calls' crates alone.
use Rattle.std.specs.Prelude.{ℕ, false, cond, eqb}
use Rattle.std.specs.declared.result.Result.{Result}
use Rattle.std.specs.declared.result.Result.TheVariants.{Err, Ok}
use Rattle.rules.specs.Refusals.{number_of}
use Rattle.rules.specs.declared.Device.{Device}
use Rattle.rules.specs.declared.Refusal.{Refusal}
use Rattle.rules.specs.declared.RowRefusal.{RowRefusal}
use Rattle.rules.specs.declared.Tracking.{Tracking}
use Rattle.rules.specs.declared.Tracking.TheVariants.{Off, On}
use Rattle.calls.specs.declared.Changed.{Changed}
use Rattle.calls.specs.declared.Started.{Started}
use Rattle.calls.specs.declared.Written.{Written}
use Rattle.calls.specs.declared.Received.{Received}
use Rattle.calls.specs.declared.StateSet.{StateSet}
use Rattle.calls.specs.declared.Posted.{Posted}
use Rattle.calls.specs.declared.Taken.{Taken}

-- W12: how a manager finds a controller tracked that is tracked by another or by itself: not at all, or as it is
abbrev pub tracking_by : ℕ → Tracking → ℕ → Tracking
tracking_by m Off tracker = Off
tracking_by m (On g n) tracker = cond (eqb tracker m) (On g n) Off

-- ---- what a call answers, by its outcome: of a refused one its refusal's number, the record as it was, and zeros for everything else

abbrev pub changed_by : Device → Result Device Refusal → Changed
changed_by d (Ok e) = record { number = 0; device = e }
changed_by d (Err r) = record { number = number_of r; device = d }

abbrev pub started_by : Device → Result Device RowRefusal → Started
started_by d (Ok e) = record { number = 0; row = 0; device = e }
started_by d (Err r) = record { number = number_of r.refusal; row = r.row; device = d }

abbrev pub written_by : Result ℕ Refusal → Written
written_by (Ok n) = record { number = 0; count = n }
written_by (Err r) = record { number = number_of r; count = 0 }

abbrev pub received_by : Result Received Refusal → Received
received_by (Ok a) = a
received_by (Err r) = record { number = number_of r; suspended = false; more = false; granularity = 0; runs = 0; groups = 0 }

abbrev pub state_set_by : Device → Result StateSet Refusal → StateSet
state_set_by d (Ok a) = a
state_set_by d (Err r) = record { number = number_of r; whole = 0; device = d }

abbrev pub posted_by : Device → Result Posted Refusal → Posted
posted_by d (Ok a) = a
posted_by d (Err r) = record { number = number_of r; stopped = false; device = d }

abbrev pub taken_by : Device → Result Taken Refusal → Taken
taken_by d (Ok a) = a
taken_by d (Err r) = record { number = number_of r; count = 0; closing = false; device = d }
