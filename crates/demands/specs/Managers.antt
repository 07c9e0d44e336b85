-- W12, in plain words: the managers that settings name, each with its limit, and the calls that name one.
use Rattle.std.specs.Prelude.{ℕ, ◌≡◌, List}
use Rattle.rules.specs.Order.{Op, start, stop, receive, suspend, resume, Part, part}
use Rattle.std.specs.declared.option.Option.TheVariants.{Some}
use Rattle.rules.specs.declared.Settings.{Settings}

-- "Settings name one or two managers", which "each have a descriptor limit"
pub data Manages (s : Settings) : ℕ → ℕ → Type 0 where
  first : Manages s s.manager s.limit
  second : (id limit : ℕ) → s.second ≡ Some (record { id = id; limit = limit }) → Manages s id limit

-- an identifier is a manager's
abbrev pub IsManager : Settings → ℕ → Type 0
IsManager s m = (limit : ℕ) × Manages s m limit

-- a call of a manager's: those of Track Send, Track Receive and Migration Send, and no other
pub data CallOf (m : ℕ) : Op → Type 0 where
  starts : (x : List ℕ) → CallOf m (start m x)
  stops : CallOf m (stop m)
  receives : (x : List ℕ) → CallOf m (receive m x)
  suspends : (kind : ℕ) → CallOf m (suspend m kind)
  resumes : CallOf m (resume m)
  sends : (p : Part) → CallOf m (part m p)
