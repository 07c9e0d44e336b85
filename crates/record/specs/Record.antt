-- The device record as a call meets it: where its controller stands, and what it sees (rules' `Seen`). All of it is the library's interface.
-- What makes a record sound, and which refusals follow, is defined in `rules`.
use Rattle.std.specs.Prelude.{ℕ, Bool, false, ◌&&◌, not, cond, List, [], ◌++◌, map, eqb, length, take, get_or, set, replicate}
use Rattle.std.specs.declared.option.Option.{Option}
use Rattle.std.specs.declared.option.Option.TheVariants.{None, Some}
use Rattle.rules.specs.Lists.{sum, is_some}
use Rattle.rules.specs.Settings.{mark_words, is_manager, place_of}
use Rattle.rules.specs.ControllerState.{state_most}
use Rattle.rules.specs.Order.{Seen, Arriving}
use Rattle.rules.specs.Device.{held_count, counts_by, held_units, held_of, held_ok, controllers_of, sound_device}
use Rattle.rules.specs.declared.Tracking.{Tracking}
use Rattle.rules.specs.declared.Tracking.TheVariants.{Off, On}
use Rattle.rules.specs.declared.Ring.{Ring}
use Rattle.rules.specs.declared.Sequence.{Sequence}
use Rattle.rules.specs.declared.Controller.{Controller}
use Rattle.rules.specs.declared.Settings.{Settings}
use Rattle.rules.specs.declared.Device.{Device}
use Rattle.std.specs.declared.result.Result.{Result}
use Rattle.std.specs.declared.result.Result.TheVariants.{Err, Ok}
use Rattle.rules.specs.declared.Refusal.TheVariants.{Unknown, Unsound}
use Rattle.rules.specs.declared.Refusal.{Refusal}

-- refusal 1: the record is sound and the marks have their words
unfoldable pub sound_with : Device → ℕ → Bool
sound_with d words = sound_device d && eqb words mark_words

-- refusals 1 and 2, or the place of the call's controller
abbrev pub place_at : Option ℕ → Result ℕ Refusal
place_at None = Err Unknown
place_at (Some i) = Ok i

unfoldable pub where_is : Device → ℕ → ℕ → Result ℕ Refusal
where_is d words id = cond (sound_with d words) (place_at (place_of d.settings id)) (Err Unsound)

-- the same for a call by a manager (W12)
unfoldable pub where_by : Device → ℕ → ℕ → ℕ → Result ℕ Refusal
where_by d words m id = cond (sound_with d words) (cond (is_manager d.settings m) (place_at (place_of d.settings id)) (Err Unknown)) (Err Unsound)

-- what stands past the end of the controllers, which no rule looks at
abbrev pub no_controller : Controller
no_controller = record { tracking = Off; manager = 0; base = 0; suspended = false; ranges = []; queue = None }

-- the controller at a place
abbrev pub controller_at : Device → Option ℕ → Controller
controller_at d None = no_controller
controller_at d (Some i) = get_or d.controllers i no_controller

-- a record with the controller at a place replaced
abbrev pub with_controller : Device → ℕ → Controller → Device
with_controller d i c = record { settings = d.settings; controllers = set d.controllers i c; sequence = d.sequence }

-- a record with another sequence
abbrev pub with_sequence : Device → Option Sequence → Device
with_sequence d q = record { settings = d.settings; controllers = d.controllers; sequence = q }

-- W12: the manager that tracks a controller, if one does
abbrev pub tracked_by : Tracking → ℕ → Option ℕ
tracked_by Off m = None
tracked_by (On g n) m = Some m

abbrev pub tracker_of : Controller → Option ℕ
tracker_of c = tracked_by c.tracking c.manager

-- W8: how many places a queue has, if there is one, and whether it has stopped
abbrev pub places_of : Option Ring → Option ℕ
places_of None = None
places_of (Some r) = Some r.size

abbrev pub has_stopped : Option Ring → Bool
has_stopped None = false
has_stopped (Some r) = r.stopped

-- the counts of the controllers that a manager tracks (W12), and of all that are tracked
abbrev pub managed_of : Device → ℕ → ℕ
managed_of d m = counts_by m (map held_of (controllers_of d))

abbrev pub counts_of : Device → ℕ
counts_of d = sum (map held_count (map held_of (controllers_of d)))

-- and their different units (W7)
abbrev pub units_of : Device → ℕ
units_of d = sum (map held_units (map held_of (controllers_of d)))

-- what a controller weighs: its count, or 65,536, above every limit, where it may not hold what it does
abbrev pub weight_of : Settings → Controller → ℕ
weight_of s c = cond (held_ok s (held_of c)) (held_count (held_of c)) 65536

-- and so much of it as counts for the first manager
abbrev pub first_weight_of : Settings → Controller → ℕ
first_weight_of s c = cond (eqb c.manager s.manager) (weight_of s c) 0

-- the weights of all controllers in use, and of those that the first manager tracks
abbrev pub first_of : Device → ℕ
first_of d = sum (map (first_weight_of d.settings) (controllers_of d))

abbrev pub weights_of : Device → ℕ
weights_of d = sum (map (weight_of d.settings) (controllers_of d))

-- what a call to a place sees of a record and so many mark words
abbrev pub seen_in : Device → ℕ → Option ℕ → Seen
seen_in d words p =
    record {
      sound = sound_with d words;
      known = is_some p;
      suspended = (controller_at d p).suspended;
      tracker = tracker_of (controller_at d p);
      places = places_of (controller_at d p).queue;
      stopped = has_stopped (controller_at d p).queue;
      managed = managed_of d;
      counts = counts_of d;
      units = units_of d;
    }

-- ---- W6: a state that arrives in parts

-- whether it is a controller's own, and whether it is another's
abbrev pub owned_by : ℕ → Option Sequence → Bool
owned_by id None = false
owned_by id (Some seq) = eqb seq.owner id

abbrev pub others_in : ℕ → Option Sequence → Bool
others_in id None = false
others_in id (Some seq) = not (eqb seq.owner id)

-- the bytes of an area up to an end. (Zeros stand for those that it lacks; an area of another length than a state's is refused.)
unfoldable pub front_of : ℕ → List ℕ → List ℕ
front_of end area = take end (area ++ replicate end 0)

-- the bytes so far of a controller's own
abbrev pub front_in : ℕ → Option Sequence → List ℕ → Option (List ℕ)
front_in id None area = None
front_in id (Some seq) area = cond (eqb seq.owner id) (Some (front_of seq.end area)) None

-- what a part to a controller sees of the sequence and an area
abbrev pub arriving_in : Option Sequence → List ℕ → ℕ → Arriving
arriving_in q area id = record { area = eqb (length area) state_most; others = others_in id q; front = front_in id q area }
