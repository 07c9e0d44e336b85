-- What the inner functions of soundness compute: the walk over the controllers, and what counting units asks. These serve this crate alone.
use Rattle.std.specs.Prelude.{ℕ, ◌+◌, ◌-◌, ◌≤◌, ◌≡◌, Bool, true, ◌&&◌, cond, List, [], ◌∷◌, leb, ltb, eqb}
use Rattle.std.specs.declared.option.Option.{Option}
use Rattle.std.specs.declared.option.Option.TheVariants.{None, Some}
use Rattle.rules.specs.Settings.{second_limit}
use Rattle.rules.specs.Ranges.{rows_ok}
use Rattle.rules.specs.Queue.{queue_ok}
use Rattle.rules.specs.Device.{Held, held_ok, held_of, controllers_of}
use Rattle.rules.specs.declared.Controller.{Controller}
use Rattle.rules.specs.declared.Settings.{Settings}
use Rattle.rules.specs.declared.Device.{Device}
use Rattle.rules.specs.declared.Units.{Units}
use Rattle.ranges.specs.Kept.{most_of, kept_by, most_in}
use Rattle.record.specs.Record.{weight_of, first_weight_of}
use Rattle.record.specs.declared.Walked.{Walked}

-- at least as many as there are different units of what is held
abbrev pub held_most : Option Held → ℕ
held_most None = 0
held_most (Some h) = most_of h.granularity h.ranges

-- these, where a controller may hold what it does
abbrev pub kept_in : Settings → Option Held → Option Units
kept_in s h = kept_by (held_ok s h) (held_most h)

-- where shares end that lie one behind the other, with one more of at most so many bits from its base on: one of none is nowhere, and one that begins before the end
-- of those so far makes it more than every base
abbrev pub end_after : ℕ → ℕ → ℕ → ℕ
end_after end base size = cond (eqb size 0) end (cond (ltb base end) 131072 (base + size))

-- the walk: one controller more
unfoldable pub walked_by : Settings → Walked → Controller → Walked
walked_by s w c =
    record {
      weight = w.weight + weight_of s c;
      first = w.first + first_weight_of s c;
      end = end_after w.end c.base (most_in (kept_in s (held_of c)));
      queues = w.queues && queue_ok c.queue;
    }

-- several more
abbrev pub walk_from : Settings → Walked → List Controller → Walked
walk_from s w [] = w
walk_from s w (c ∷ cs) = walk_from s (walked_by s w c) cs

-- before the first
abbrev pub nothing_walked : Walked
nothing_walked = record { weight = 0; first = 0; end = 0; queues = true }

-- all controllers in use
abbrev pub walk_of : Device → Walked
walk_of d = walk_from d.settings nothing_walked (controllers_of d)

-- whether weights, of which so much is the first manager's, are within the limits of each manager and of the shelf
abbrev pub within_limits : Settings → ℕ → ℕ → Bool
within_limits s first weight = leb weight s.shelf && (leb first s.limit && leb (weight - first) (second_limit s.second))

-- what counting the units of what is held asks of it
abbrev pub Countable : Option Held → Type 0
Countable None = Unit {0}
Countable (Some h) = (h.granularity ≤ 20) × (h.count ≤ 16) × (rows_ok h.granularity h.ranges ≡ true)
