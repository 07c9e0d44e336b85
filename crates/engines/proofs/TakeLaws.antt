-- A law of `take_change`. Assumes nothing.
use mathlib.Core.Path.{◌≡◌}
use mathlib.Core.Bool.{Bool, true, false, cond}
use mathlib.Core.List.{List, [], ◌∷◌}
use Rattle.std.specs.declared.option.Option.{Option}
use Rattle.std.specs.declared.option.Option.TheVariants.{None, Some}
use Prim.Native.Nat.{ℕ, ◌*◌, ◌≤◌}
use native.Mathlib.Omega.{arith}
use lib.ListN.{length, length-take}
use Rattle.rules.specs.Refusals.{Test, verdict}
use Rattle.rules.specs.Settings.{place_of}
use Rattle.rules.specs.Order.{queue_order}
use Rattle.rules.specs.Order as order
use Rattle.rules.specs.declared.Device.{Device}
use Rattle.rules.specs.declared.Ring.{Ring}
use Rattle.record.specs.Record.{controller_at, seen_in}
use Rattle.calls.specs.declared.Taken.{Taken}
use Rattle.calls.specs.Calls.{Taking, taking, take_in, take_done, take_change}

-- the entries that a take answers stand in its buffer
abbrev Fits : List ℕ → Taking → Type 0
Fits x t = 32 * t.answer.count ≤ length x

module _ (d : Device) (area : List ℕ) (asked : ℕ) (x : List ℕ) where
  -- as many are taken as fit, at most
  queue-fits : (i : ℕ) (q : Option Ring) → Fits x (take_in d i area asked x q)
  queue-fits i None = omega arith
  queue-fits i (Some r) = rw (length-take, length-take) (omega arith)

  done-fits : (p : Option ℕ) → Fits x (take_done d area asked x p)
  done-fits None = omega arith
  done-fits (Some i) = queue-fits i (controller_at d (Some i)).queue

  -- none are where it is refused
  verdict-fits : (ts : List Test) (t : Taking) → Fits x t → Fits x (verdict ts t (λ n i. taking n 0 false d x))
  verdict-fits [] t h = h
  verdict-fits (s ∷ ts) t h = go s.ok (verdict-fits ts t h)
    where
      go : (b : Bool) → Fits x (verdict ts t (λ n i. taking n 0 false d x)) → Fits x (cond b (verdict ts t (λ n i. taking n 0 false d x)) (taking s.number 0 false d x))
      go true ih = ih
      go false ih = omega arith

  change-fits : (words id : ℕ) → Fits x (take_change d words area id asked x)
  unfolding take_change
  change-fits words id =
      let p = place_of d.settings id in
      verdict-fits (queue_order (seen_in d words p) (length area) (order.take asked x)) (take_done d area asked x p) (done-fits p)

  -- the same of its answer
  pub taken-fits : (words id : ℕ) (r : Taken) → r ≡ (take_change d words area id asked x).answer → 32 * r.count ≤ length x
  taken-fits words id r e = rw e (change-fits words id)
