-- What a stop answers, case by case of its table. Assumes nothing.
use mathlib.Core.Path.{◌≡◌}
use mathlib.Core.Bool.{true, false}
use mathlib.Core.List.{List}
use Prim.Native.Nat.{ℕ}
use lib.ListN.{length, get_or, take, drop}
use Rattle.bits.specs.Flat.{flat, Words}
use Rattle.bits.specs.Span.{fill}
use Rattle.bits.proofs.Pack.{pack-only}
use Rattle.rules.specs.Refusals.{number_of}
use Rattle.rules.specs.declared.Refusal.{Refusal}
use Rattle.rules.specs.Settings.{is_manager, place_of}
use Rattle.rules.specs.Units.{units}
use Rattle.rules.specs.Order.{stop_order}
use Rattle.rules.specs.declared.Controller.{Controller}
use Rattle.rules.specs.declared.Device.{Device}
use Rattle.rules.specs.declared.Tracking.TheVariants.{Off, On}
use Rattle.record.specs.Record.{no_controller, with_controller, where_by, seen_in}
use Rattle.std.specs.declared.result.Result.TheVariants.{Err, Ok}
use Rattle.record.proofs.RecordLaws.{Located, where_is-at, where_by-at, where_by-tests}
use Rattle.calls.specs.Calls.{Engine, stop_by, changed, with_clear, stopped, stop_done}
use Rattle.calls.specs.Inner.{tracking_by}
use Rattle.calls.proofs.PlaceLaws.{tracking_by-on, tracking_by-off}

-- words that have a share clear
pub cleared : (ws ws' : List ℕ) (base size : ℕ) → length ws' ≡ length ws → Words ws' → flat ws' ≡ fill false (flat ws) base size → ws' ≡ with_clear ws base size
unfolding with_clear
cleared ws ws' base size n h e = pack-only (length ws) ws' (fill false (flat ws) base size) n h e

module _ (en : Engine) (d : Device) (m id : ℕ) where
  -- ---- stop

  module _ (ws : List ℕ) where
    pub stop-refused : (r : Refusal) → where_by d (en.words ws) m id ≡ Err r → stop_by en d ws m id ≡ changed (number_of r) d ws
    unfolding stop_by
    stop-refused r e =
        where_by-tests d (en.words ws) m id r e (drop 3 (stop_order d.settings m (seen_in d (en.words ws) (place_of d.settings id)))) (stop_done en d ws (place_of d.settings id)) (λ n i. changed n d ws)

    module _ (i : ℕ) (e : where_by d (en.words ws) m id ≡ Ok i) where
      abbrev it : Controller
      it = get_or d.controllers i no_controller

      by : is_manager d.settings m ≡ true
      by = (where_by-at d (en.words ws) m id i e).0

      l : Located d (en.words ws) id i
      l = where_is-at d (en.words ws) id i (where_by-at d (en.words ws) m id i e).1

      pub stop-suspended : it.suspended ≡ true → stop_by en d ws m id ≡ changed 4 d ws
      unfolding stop_by
      stop-suspended f = rw (l.place, l.seen, by, f)

      -- not tracked by this manager (W12)
      pub stop-off : it.suspended ≡ false → tracking_by m it.tracking it.manager ≡ Off → stop_by en d ws m id ≡ changed 5 d ws
      unfolding stop_by
      stop-off f t = rw (l.place, l.seen, by, f, tracking_by-off m it.tracking it.manager t)

      pub stop-done : (g n : ℕ) → it.suspended ≡ false → tracking_by m it.tracking it.manager ≡ On g n
          → stop_by en d ws m id
          ≡ changed 0 (with_controller d i (stopped it)) (en.cleared ws it.base (length (units g (take n it.ranges))))
      unfolding stop_by
      stop-done g n f t = let o = tracking_by-on m it.tracking it.manager g n t in rw (l.place, l.seen, by, f, o.1, o.0)
