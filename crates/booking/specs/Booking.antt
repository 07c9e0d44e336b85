-- Document 02, W13: the log after each call that is logged, as a total function of what the call is given, on any engine. What the call itself answers and leaves stands in
-- `calls`; every other call leaves the log as it was.
use Rattle.std.specs.Prelude.{ℕ, cond, List, [], ◌∷◌, map, eqb, length, take}
use Rattle.std.specs.declared.option.Option.{Option}
use Rattle.std.specs.declared.option.Option.TheVariants.{None, Some}
use Rattle.little.specs.Little.{records_at}
use Rattle.rules.specs.Lists.{sum}
use Rattle.rules.specs.Refusals.{refusal, number_of}
use Rattle.rules.specs.Settings.{place_of}
use Rattle.rules.specs.Units.{Write, units, pending}
use Rattle.rules.specs.Report.{Descriptor}
use Rattle.rules.specs.ReportReader.{descriptor_at}
use Rattle.rules.specs.Order.{batch_order}
use Rattle.rules.specs.Totals.{report_units}
use Rattle.rules.specs.declared.Range.{Range}
use Rattle.rules.specs.declared.Tracking.{Tracking}
use Rattle.rules.specs.declared.Tracking.TheVariants.{Off, On}
use Rattle.rules.specs.declared.Settings.{Settings}
use Rattle.rules.specs.declared.Device.{Device}
use Rattle.log_numbers.specs.declared.Log.{Log}
use Rattle.log_numbers.specs.Log.{empty_log, totals_at, booked_at}
use Rattle.record.specs.Record.{sound_with, controller_at}
use Rattle.std.specs.declared.result.Result.{Result}
use Rattle.std.specs.declared.result.Result.TheVariants.{Err, Ok}
use Rattle.rules.specs.declared.Refusal.{Refusal}
use Rattle.calls.specs.declared.WriteRecord.{WriteRecord}
use Rattle.calls.specs.Calls.{Engine, fresh_by, stop_by, write_by, write_in, receive_by}
use Rattle.booking.specs.declared.Reading.{Reading}

-- ---- what is booked

-- so many units marked, reported and dropped, in the account of the controller at a place, if there is one; a refusal books nothing
abbrev pub booked_in : Log → Option ℕ → ℕ → ℕ → ℕ → Log
booked_in l None marked reported dropped = l
booked_in l (Some i) marked reported dropped = booked_at l i marked reported dropped

unfoldable pub booked_by : Log → Option ℕ → ℕ → ℕ → ℕ → ℕ → Log
booked_by l p number marked reported dropped = cond (eqb number 0) (booked_in l p marked reported dropped) l

-- a new device begins a log, a refused one does not
unfoldable pub begun_by : Log → ℕ → Log
begun_by l number = cond (eqb number 0) empty_log l

-- ---- the calls

abbrev pub fresh_log : Engine → Log → Settings → List ℕ → Log
fresh_log e l s ws = begun_by l (fresh_by e s ws).answer.number

-- a write: the units that it newly marked
abbrev pub write_log : Engine → Log → Device → List ℕ → ℕ → Write → Log
write_log e l d ws id w = let n = (write_by e d ws id w).answer in booked_by l (place_of d.settings id) n.number n.count 0 0

-- a batch: each of its notes by itself, up to the first that is refused
abbrev pub notes_log : Engine → Log → Device → List ℕ → List WriteRecord → Log
notes_log e l d ws [] = l
notes_log e l d ws (r ∷ rs) =
    let n = write_by e d ws r.id (write_in r) in
    let l' = write_log e l d ws r.id (write_in r) in
    cond (eqb n.answer.number 0) (notes_log e l' d n.marks rs) l'

unfoldable pub batch_log : Engine → Log → Device → List ℕ → List WriteRecord → Log
batch_log e l d ws rs = cond (eqb (refusal (batch_order (sound_with d (e.words ws)) (length rs))) 0) (notes_log e l d ws rs) l

-- a receive: the units of the runs that its report lists. (The source adds up the lengths in its buffer, `units_listed`; that these are the report's is proved in `logged`.)
abbrev pub receive_log : Engine → Log → Device → List ℕ → ℕ → ℕ → List ℕ → Log
receive_log e l d ws m id x = let r = receive_by e d ws m id x in booked_by l (place_of d.settings id) r.answer.number 0 (report_units r.report) 0

-- how many units are pending of a controller that is tracked so
abbrev pub pending_with : Engine → List ℕ → ℕ → Tracking → List Range → ℕ
pending_with e ws base Off rs = 0
pending_with e ws base (On g n) rs = let us = units g (take n rs) in length (pending us (e.marks ws base (length us)))

-- and of the one at a place of a record
abbrev pub pending_for : Engine → Device → List ℕ → Option ℕ → ℕ
pending_for e d ws None = 0
pending_for e d ws (Some i) = let c = controller_at d (Some i) in pending_with e ws c.base c.tracking c.ranges

unfoldable pub units_held : Engine → Device → List ℕ → ℕ → ℕ
units_held e d ws id = pending_for e d ws (place_of d.settings id)

-- a stop: the units that were still pending when it came
abbrev pub stop_log : Engine → Log → Device → List ℕ → ℕ → ℕ → Log
stop_log e l d ws m id = booked_by l (place_of d.settings id) (stop_by e d ws m id).answer.number 0 0 (units_held e d ws id)

-- ---- in the report's bytes

-- the lengths of the first n descriptors, together
abbrev pub units_listed : List ℕ → ℕ → ℕ
units_listed x n = sum (map (λ (d : Descriptor). d.length) (records_at descriptor_at 16 x 16 n))

-- ---- what is read

-- the totals of the controller at a place, or a refusal's number and zeros
abbrev pub reading_at : Log → Result ℕ Refusal → Reading
reading_at l (Ok i) = record { number = 0; totals = totals_at l i }
reading_at l (Err r) = record { number = number_of r; totals = Some (record { marked = 0; reported = 0; dropped = 0 }) }
