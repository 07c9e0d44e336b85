-- Document 01, "Refusal numbers": when a record is sound (refusal 1), a fresh device and the closed one. Unused places are not looked at, and
-- fresh fills them with zeros.
use Rattle.std.specs.Prelude.{ℕ, ◌+◌, ◌-◌, ◌%◌, Bool, true, false, ◌&&◌, ◌||◌, cond, List, [], ◌∷◌, ◌++◌, map, leb, eqb, length, take, get_or, replicate}
use Rattle.std.specs.declared.option.Option.{Option}
use Rattle.std.specs.declared.option.Option.TheVariants.{None, Some}
use Rattle.rules.specs.Lists.{all, every, sum}
use Rattle.rules.specs.Refusals.{◌else◌, passes, verdict}
use Rattle.rules.specs.Settings.{most_units, settings_ok, managers_of, is_manager, limit_of, granularity_ok, identifiers_of, place_of}
use Rattle.rules.specs.Units.{units}
use Rattle.rules.specs.Ranges.{list_tests}
use Rattle.rules.specs.StartData.{placed}
use Rattle.rules.specs.ControllerState.{state_most}
use Rattle.rules.specs.Queue.{queue_ok}
use Rattle.rules.specs.Order.{fresh_order}
use Rattle.rules.specs.declared.Range.{Range}
use Rattle.rules.specs.declared.Tracking.{Tracking}
use Rattle.rules.specs.declared.Tracking.TheVariants.{Off, On}
use Rattle.rules.specs.declared.Share.{Share}
use Rattle.rules.specs.declared.Sequence.{Sequence}
use Rattle.rules.specs.declared.Controller.{Controller}
use Rattle.rules.specs.declared.Settings.{Settings}
use Rattle.rules.specs.declared.Device.{Device}

-- ---- soundness

-- what a tracked controller holds, and the manager that tracks it (W12)
pub record Held : Type 0 where
  pub manager : ℕ
  pub granularity : ℕ
  pub count : ℕ
  pub ranges : List Range

-- whether a controller is not tracked, or its manager is in the settings and its granularity and ranges pass 7, 18 to 21 and 10
unfoldable pub held_ok : Settings → Option Held → Bool
held_ok s None = true
held_ok s (Some h) = is_manager s h.manager && passes ((granularity_ok s h.granularity else 7) ∷ list_tests s h.granularity h.count h.ranges)

-- how many ranges it holds
abbrev pub held_count : Option Held → ℕ
held_count None = 0
held_count (Some h) = h.count

-- W12: how many of these a manager tracks
abbrev pub held_count_by : ℕ → Option Held → ℕ
held_count_by m None = 0
held_count_by m (Some h) = cond (eqb h.manager m) h.count 0

-- how many different units they have
abbrev pub held_units : Option Held → ℕ
held_units None = 0
held_units (Some h) = length (units h.granularity h.ranges)

-- W7: a share of the pool that has no bits is nowhere
abbrev pub no_share : Share
no_share = record { base = 0; size = 0 }

-- a share does not leave the pool, and two do not overlap
abbrev pub is_inside : Share → Bool
is_inside a = eqb a.size 0 || leb (a.base + a.size) most_units

abbrev pub are_apart : Share → Share → Bool
are_apart a b = (eqb a.size 0 || eqb b.size 0) || (leb (a.base + a.size) b.base || leb (b.base + b.size) a.base)

unfoldable pub shares_ok : List Share → Bool
shares_ok [] = true
shares_ok (a ∷ as') = is_inside a && (all (are_apart a) as' && shares_ok as')

-- W6: so many bytes can be there of a state that is not whole yet: "whole dwords, 4 to 4,096 bytes"
abbrev pub front_ok : ℕ → Bool
front_ok n = leb 4 n && (leb n state_most && eqb (n % 4) 0)

-- W12: the counts of those that a manager tracks, together, and whether they are within its limit
abbrev pub counts_by : ℕ → List (Option Held) → ℕ
counts_by m hs = sum (map (held_count_by m) hs)

abbrev pub is_within : Settings → List (Option Held) → ℕ → Bool
is_within s hs m = leb (counts_by m hs) (limit_of s m)

-- the settings pass 16, each controller holds what it may, each manager's counts together are within its limit and all counts within the shelf's (W12), the units
-- together are within the pool, and an open sequence, the shares and the queues are as they may be
abbrev pub sound_rules : Settings → List (Option Held) → Bool → List Bool
sound_rules s hs rest =
    settings_ok s
    ∷ all (held_ok s) hs
    ∷ all (is_within s hs) (managers_of s)
    ∷ leb (sum (map held_count hs)) s.shelf
    ∷ leb (sum (map held_units hs)) most_units
    ∷ rest
    ∷ []

unfoldable pub sound : Settings → List (Option Held) → Bool → Bool
sound s hs rest = every (sound_rules s hs rest)

-- ---- the record

-- what a controller of the record holds: of its ranges as many as it counts
abbrev pub held_in : Tracking → ℕ → List Range → Option Held
held_in Off m rs = None
held_in (On g n) m rs = Some (record { manager = m; granularity = g; count = n; ranges = take n rs })

abbrev pub held_of : Controller → Option Held
held_of c = held_in c.tracking c.manager c.ranges

-- its share: one that is not tracked has none, whatever its base
abbrev pub share_in : ℕ → Option Held → Share
share_in base None = no_share
share_in base (Some h) = record { base = base; size = held_units (Some h) }

abbrev pub share_of : Controller → Share
share_of c = share_in c.base (held_of c)

-- a controller that is neither tracked nor suspended, and has no queue
abbrev pub fresh_controller : Controller
fresh_controller = record { tracking = Off; manager = 0; base = 0; suspended = false; ranges = placed []; queue = None }

-- the controllers in use
abbrev pub controllers_of : Device → List Controller
controllers_of d = take d.settings.count d.controllers

-- W6: whether the controller at a place in use is suspended
abbrev pub suspended_at : List Controller → Option ℕ → Bool
suspended_at cs None = false
suspended_at cs (Some i) = (get_or cs i fresh_controller).suspended

-- no sequence is open, or its owner is in the settings and suspended, and its end is one that parts can have
abbrev pub sequence_ok : Settings → List Controller → Option Sequence → Bool
sequence_ok s cs None = true
sequence_ok s cs (Some seq) = suspended_at cs (place_of s seq.owner) && front_ok seq.end

-- W7: the shares of its eight places; one that is not in use has none
abbrev pub shares_of : Device → List Share
shares_of d = map share_of (controllers_of d) ++ replicate (8 - d.settings.count) no_share

-- W8: whether the queues of the controllers in use are as they may be
abbrev pub queues_ok : Device → Bool
queues_ok d = all (λ (c : Controller). queue_ok c.queue) (controllers_of d)

-- whether a record is sound
abbrev pub sound_device : Device → Bool
sound_device d =
    sound d.settings (map held_of (controllers_of d)) (sequence_ok d.settings (controllers_of d) d.sequence && (shares_ok (shares_of d) && queues_ok d))

-- ---- fresh

-- settings with zeros in the places that are not in use
abbrev pub cleaned : Settings → Settings
cleaned s =
    record {
      manager = s.manager;
      least = s.least;
      greatest = s.greatest;
      powers = s.powers;
      limit = s.limit;
      second = s.second;
      shelf = s.shelf;
      count = s.count;
      identifiers = identifiers_of s ++ replicate (length s.identifiers - s.count) 0;
    }

abbrev pub fresh_device : Settings → Device
fresh_device s = record { settings = cleaned s; controllers = replicate 8 fresh_controller; sequence = None }

-- the device of a refused fresh: all zeros, which no settings rule passes
abbrev pub closed_settings : Settings
closed_settings = record { manager = 0; least = 0; greatest = 0; powers = false; limit = 0; second = None; shelf = 0; count = 0; identifiers = replicate 8 0 }

abbrev pub closed_device : Device
closed_device = record { settings = closed_settings; controllers = replicate 8 fresh_controller; sequence = None }

-- what fresh returns, from settings and a number of mark words
unfoldable pub fresh_of : Settings → ℕ → Device
fresh_of s words = verdict (fresh_order s words) (fresh_device s) (λ n i. closed_device)
