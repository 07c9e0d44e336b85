-- What the inner functions of `start` speak of.
use Rattle.std.specs.Prelude.{◌≡◌, true, false, List, ◌++◌, ℕ, ◌+◌, ◌<◌, ◌≤◌, length, get_or, take}
use Rattle.rules.specs.Settings.{mark_words, most_units}
use Rattle.rules.specs.Units.{units}
use Rattle.rules.specs.Ranges.{rows_ok}
use Rattle.rules.specs.Device.{sound_device}
use Rattle.std.specs.declared.result.Result.{Result}
use Rattle.std.specs.declared.result.Result.TheVariants.{Err, Ok}
use Rattle.little.specs.Little.{records_at}
use Rattle.rules.specs.Refusals.{refusal_at}
use Rattle.rules.specs.StartData.{range_at, header_of, placed}
use Rattle.rules.specs.Order.{start_listed, start_shared}
use Rattle.rules.specs.declared.Header.TheVariants.{Is}
use Rattle.rules.specs.declared.RowRefusal.{RowRefusal}
use Rattle.rules.specs.declared.Tracking.TheVariants.{Off, On}
use Rattle.rules.specs.declared.Controller.{Controller}
use Rattle.rules.specs.declared.Device.{Device}
use Rattle.track_send.specs.declared.Admitted.{Admitted}
use Rattle.record.specs.Record.{no_controller, with_controller, where_by, managed_of, counts_of, units_of}

-- the controller at its place, tracked by a manager, its share still nowhere and its queue as it was, and the record with it
abbrev pub tracked : Device → ℕ → Admitted → Controller
tracked d m s =
    record { tracking = On s.granularity s.count; manager = m; base = 0; suspended = false; ranges = s.ranges; queue = (get_or d.controllers s.place no_controller).queue }

abbrev pub tracking : Device → ℕ → Admitted → Device
tracking d m s = with_controller d s.place (tracked d m s)

-- what is known of the record and of the ranges where a start is not refused: the record is sound, the controller at a place in use is off, its ranges keep their
-- rules, and their units are in the pool's room
pub record Starts (d : Device) (s : Admitted) : Type 0 where
  pub sound : sound_device d ≡ true
  pub used : s.place < d.settings.count
  pub off : (get_or d.controllers s.place no_controller).tracking ≡ Off
  pub small : s.granularity ≤ 20
  pub few : s.count ≤ 16
  pub rows : rows_ok s.granularity (take s.count s.ranges) ≡ true
  pub room : length (units s.granularity (take s.count s.ranges)) + units_of d ≤ most_units

-- and of the marks' words
pub record Installs (d : Device) (ws : List ℕ) (s : Admitted) : Type 0 where
  pub starts : Starts d s
  pub words : length ws ≡ mark_words

-- and of the call: its controller was found and is not suspended, and its structure has these ranges, which pass the rest of the table
pub record Admission (d : Device) (words m id : ℕ) (x : List ℕ) (s : Admitted) : Type 0 where
  pub found : where_by d words m id ≡ Ok s.place
  pub awake : (get_or d.controllers s.place no_controller).suspended ≡ false
  pub header : header_of x ≡ Is s.granularity s.count
  pub read : s.ranges ≡ placed (records_at range_at 12 x 8 s.count)
  pub passed : refusal_at (start_listed d.settings x ++ start_shared d.settings m (units_of d) (managed_of d m) (counts_of d) x) ≡ record { number = 0; row = 0 }
  pub starts : Starts d s

abbrev pub Admits : Device → ℕ → ℕ → ℕ → List ℕ → Result Admitted RowRefusal → Type 0
Admits d words m id x (Ok s) = Admission d words m id x s
Admits d words m id x (Err r) = Unit
