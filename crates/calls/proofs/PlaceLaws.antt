-- The place that a call finds: what a manager finds tracked there, and what a tracked controller of a sound record holds there. Assumes nothing.
use mathlib.Core.Path.{◌≡◌, refl}
use mathlib.Core.Bool.{Bool, true, false, cond}
use Prim.Native.Nat.{ℕ, ◌+◌, ◌*◌, ◌≤◌, ◌<◌}
use native.Mathlib.Omega.{arith}
use lib.ListN.{length, get_or, take}
use lib.Dec.{eqb}
use Rattle.rules.specs.Order.{is_tracker}
use Rattle.rules.specs.Settings.{mark_words}
use Rattle.rules.specs.Units.{units}
use Rattle.rules.specs.declared.Device.{Device}
use Rattle.rules.specs.declared.Tracking.{Tracking}
use Rattle.rules.specs.declared.Tracking.TheVariants.{Off, On}
use Rattle.record.specs.Record.{no_controller, tracked_by, where_is, where_by}
use Rattle.std.specs.declared.result.Result.TheVariants.{Ok}
use Rattle.record.proofs.RecordLaws.{where_is-at, where_by-at, sound_device-held, sound_device-inside}
use Rattle.ranges.proofs.RangeLaws.{HeldFacts}
use Rattle.calls.specs.Inner.{tracking_by}

-- ---- the place

-- there is a controller at a place that was found, whoever asked
pub placed : (d : Device) (words id i : ℕ) → where_is d words id ≡ Ok i → i < 8
placed d words id i e = (where_is-at d words id i e).below

pub placed_by : (d : Device) (words m id i : ℕ) → where_by d words m id ≡ Ok i → i < 8
placed_by d words m id i e = placed d words id i (where_by-at d words m id i e).1

-- ---- W12: a controller that a manager finds tracked

module _ (m : ℕ) (t : Tracking) (who : ℕ) where
  -- it is tracked, and by that manager
  pub tracking_by-on : (g n : ℕ) → tracking_by m t who ≡ On g n → (t ≡ On g n) × (is_tracker m (tracked_by t who) ≡ true)
  tracking_by-on g n = go t
    where
      by : (f k : ℕ) (b : Bool) → cond b (On f k) Off ≡ On g n → (On f k ≡ On g n) × (b ≡ true)
      by f k true e = (e, refl)
      by f k false e = let z : ◌≡◌ {A = ℕ} 0 1 = cc in absurd (omega arith)

      go : (t : Tracking) → tracking_by m t who ≡ On g n → (t ≡ On g n) × (is_tracker m (tracked_by t who) ≡ true)
      go Off e = let z : ◌≡◌ {A = ℕ} 0 1 = cc in absurd (omega arith)
      go (On f k) e = by f k (eqb who m) e

  -- or it is not
  pub tracking_by-off : tracking_by m t who ≡ Off → is_tracker m (tracked_by t who) ≡ false
  tracking_by-off = go t
    where
      by : (f k : ℕ) (b : Bool) → cond b (On f k) Off ≡ Off → b ≡ false
      by f k true e = let z : ◌≡◌ {A = ℕ} 0 1 = cc in absurd (omega arith)
      by f k false e = refl

      go : (t : Tracking) → tracking_by m t who ≡ Off → is_tracker m (tracked_by t who) ≡ false
      go Off e = refl
      go (On f k) e = by f k (eqb who m) e

-- ---- a tracked controller of a sound record

module _ (d : Device) (words id i : ℕ) (e : where_is d words id ≡ Ok i) (there : i < length d.controllers) (g n : ℕ) (t : (get_or d.controllers i no_controller).tracking ≡ On g n) where
  -- what it holds
  pub held_at : HeldFacts d.settings g n (take n (get_or d.controllers i no_controller).ranges)
  held_at = let l = where_is-at d words id i e in sound_device-held d i g n l.sound l.used there t

  -- its marks lie within the words
  pub share-within : 1 ≤ length (get_or d.controllers i no_controller).ranges
      → (get_or d.controllers i no_controller).base + length (units g (take n (get_or d.controllers i no_controller).ranges)) ≤ 64 * mark_words
  share-within some = let l = where_is-at d words id i e in omega (arith, sound_device-inside d i g n l.sound l.used there t some)
