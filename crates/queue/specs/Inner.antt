-- What the inner functions of a queue's calls promise. These serve this crate alone.
use Rattle.std.specs.Prelude.{ℕ, ◌≡◌, false, ◌&&◌, cond, ◌*◌, ◌<◌, ◌≤◌}
use Rattle.std.specs.declared.option.Option.{Option}
use Rattle.std.specs.declared.option.Option.TheVariants.{None, Some}
use Rattle.std.specs.declared.result.Result.{Result}
use Rattle.std.specs.declared.result.Result.TheVariants.{Ok, Err}
use Rattle.rules.specs.Queue.{places_ok}
use Rattle.rules.specs.Order.{size_made}
use Rattle.rules.specs.declared.Device.{Device}
use Rattle.rules.specs.declared.Refusal.{Refusal}
use Rattle.rules.specs.declared.Refusal.TheVariants.{Area, NoQueue}
use Rattle.rules.specs.declared.Ring.{Ring}
use Rattle.record.specs.Record.{places_of, controller_at}
use Rattle.calls.specs.Calls.{fill_in}

-- a place and the queue there, which an area of so many bytes is lent to: 28, then 29
abbrev pub there : ℕ → Option Ring → Result (ℕ × Ring) Refusal
there i None = Err NoQueue
there i (Some r) = Ok (i, r)

abbrev pub lent_at : ℕ → Option Ring → ℕ → Result (ℕ × Ring) Refusal
lent_at i q bytes = cond (places_ok bytes && size_made (places_of q) bytes) (there i q) (Err Area)

-- of a place that was found, or not: 1 and 2
abbrev pub lent_to : Device → ℕ → Result ℕ Refusal → Result (ℕ × Ring) Refusal
lent_to d bytes (Err r) = Err r
lent_to d bytes (Ok i) = lent_at i (controller_at d (Some i)).queue bytes

-- a queue that a post or a take may use, in an area of so many bytes
pub record Usable (bytes : ℕ) (r : Ring) : Type 0 where
  pub whole : bytes ≡ 32 * r.size
  pub inside : r.place < r.size
  pub most : fill_in r ≤ r.size
  pub room : r.stopped ≡ false → fill_in r < r.size
