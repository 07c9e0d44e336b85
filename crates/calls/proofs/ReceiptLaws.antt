-- Laws of `receive_by`. Assumes nothing.
use mathlib.Core.Path.{◌≡◌}
use mathlib.Core.Bool.{Bool}
use mathlib.Core.List.{List, map}
use Rattle.std.specs.declared.option.Option.{Option}
use Rattle.std.specs.declared.option.Option.TheVariants.{None, Some}
use Prim.Native.Nat.{ℕ, ◌+◌, ◌*◌, ◌≤◌}
use native.Mathlib.Omega.{arith}
use borrow.Author.Tests.{leb-true}
use lib.ListN.{length, take, length-take, length-map}
use Rattle.rules.specs.Settings.{place_of}
use Rattle.rules.specs.Units.{Unit, units, pending}
use Rattle.rules.specs.Report.{runs, descriptor, room}
use Rattle.rules.specs.Order.{receive_order}
use Rattle.rules.specs.Machine.{no_report}
use Rattle.rules.specs.declared.Device.{Device}
use Rattle.rules.specs.declared.Range.{Range}
use Rattle.rules.specs.declared.Tracking.{Tracking}
use Rattle.rules.specs.declared.Tracking.TheVariants.{Off, On}
use Rattle.rules.proofs.RefusalLaws.{verdict-both}
use Rattle.record.specs.Record.{controller_at, seen_in}
use Rattle.calls.specs.declared.Received.{Received}
use Rattle.calls.specs.Calls.{Engine, Receipt, received, receive_in, receive_done, receive_by}

-- the runs that a receive answers stand in its buffer, behind the report's header
abbrev Fits : List ℕ → Receipt → Type 0
Fits x r = 16 + 16 * r.answer.runs ≤ length x

module _ (en : Engine) (ws : List ℕ) (id : ℕ) (x : List ℕ) (long : 32 ≤ length x) where
  -- as many runs are listed as there is room for, at most
  listed-fit : (us : List Unit) (p : List Bool) → 16 + 16 * length (map descriptor (take (room (length x)) (runs (pending us p)))) ≤ length x
  listed-fit us p = rw (length-map, length-take) (omega arith)

  -- a report's
  report-fits : (base : ℕ) (b : Bool) (t : Tracking) (rs : List Range) → Fits x (receive_in en ws base id b t rs x)
  report-fits base b Off rs = omega arith
  report-fits base b (On g n) rs = listed-fit (units g (take n rs)) (en.marks ws base (length (units g (take n rs))))

  -- those of a receive that is not refused
  done-fits : (d : Device) (p : Option ℕ) → Fits x (receive_done en d ws id x p)
  done-fits d None = omega arith
  done-fits d (Some i) = report-fits (controller_at d (Some i)).base (controller_at d (Some i)).suspended (controller_at d (Some i)).tracking (controller_at d (Some i)).ranges

module _ (en : Engine) (d : Device) (ws : List ℕ) (m id : ℕ) (x : List ℕ) where
  -- a receive that answers 0 was not refused
  receipt-fits : (receive_by en d ws m id x).answer.number ≡ 0 → Fits x (receive_by en d ws m id x)
  unfolding receive_by
  receipt-fits =
      verdict-both (λ (r : Receipt) (n : ℕ). r.answer.number ≡ 0 → Fits x r) (receive_order d.settings m (seen_in d (en.words ws) (place_of d.settings id)) x)
      (receive_done en d ws id x (place_of d.settings id)) 0 (λ n i. received n no_report ws x) (λ n i. 0)
      ((λ e. absurd (omega arith)), ((λ e. absurd (omega arith)), ((λ e. absurd (omega arith)), ((λ e. absurd (omega arith)), ((λ e. absurd (omega arith)), tt)))))
      (λ passed e. done-fits en ws id x (leb-true 32 (length x) passed.1.1.1.1.0) d (place_of d.settings id))

  -- the same of its answer
  pub answer-fits : (r : Received) → r ≡ (receive_by en d ws m id x).answer → r.number ≡ 0 → 16 + 16 * r.runs ≤ length x
  answer-fits r e f = rw e (receipt-fits (rw e at f))
