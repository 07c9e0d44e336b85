-- How many units of a controller are pending, by what its place tells, and what a stop books of it, on any engine. Assumes nothing.
use mathlib.Core.Path.{◌≡◌, refl, sym, ap, ◌∙◌}
use mathlib.Core.Bool.{Bool, true, false}
use mathlib.Core.List.{List}
use Rattle.std.specs.declared.option.Option.{Option}
use Rattle.std.specs.declared.option.Option.TheVariants.{None, Some}
use Prim.Native.Nat.{ℕ}
use native.Mathlib.Omega.{arith}
use lib.Dec.{eqb}
use lib.ListN.{length, get_or, take}
use borrow.Author.Tests.{eqb-true, eqb-false}
use Rattle.rules.specs.Settings.{place_of}
use Rattle.rules.specs.Units.{units, pending}
use Rattle.rules.specs.Order.{stop_order}
use Rattle.rules.specs.declared.Controller.{Controller}
use Rattle.rules.specs.declared.Device.{Device}
use Rattle.rules.specs.declared.Refusal.{Refusal}
use Rattle.rules.specs.declared.Tracking.TheVariants.{Off, On}
use Rattle.rules.proofs.RefusalLaws.{verdict-both}
use Rattle.log_numbers.specs.declared.Log.{Log}
use Rattle.record.specs.Record.{no_controller, sound_with, place_at, where_is, seen_in}
use Rattle.std.specs.declared.result.Result.TheVariants.{Err, Ok}
use Rattle.record.proofs.RecordLaws.{where_is-at}
use Rattle.calls.specs.declared.Changed.{Changed}
use Rattle.calls.specs.Calls.{Engine, Change, changed, stop_done, stop_by}
use Rattle.booking.specs.Booking.{booked_by, units_held, stop_log}
use Rattle.booking.proofs.BookLaws.{book-refused}

module _ (en : Engine) (d : Device) (ws : List ℕ) (id : ℕ) where
  abbrev words : ℕ
  words = en.words ws

  -- of a controller that is not in the settings of a sound record
  pub held-nowhere : (r : Refusal) → where_is d words id ≡ Err r → sound_with d words ≡ true → 0 ≡ units_held en d ws id
  unfolding where_is units_held
  held-nowhere n e s = go (place_of d.settings id) refl (rw s at e)
    where
      go : (p : Option ℕ) → place_of d.settings id ≡ p → place_at p ≡ Err n → 0 ≡ units_held en d ws id
      go None f r = rw f
      go (Some i) f r = let x : ◌≡◌ {A = ℕ} 0 1 = cc in absurd (omega arith)

  module _ (i : ℕ) (e : where_is d words id ≡ Ok i) where
    abbrev it : Controller
    it = get_or d.controllers i no_controller

    pub held-off : it.tracking ≡ Off → 0 ≡ units_held en d ws id
    unfolding units_held
    held-off t = rw ((where_is-at d words id i e).place, t)

    pub held_on : (g n : ℕ) → it.tracking ≡ On g n
        → let us = units g (take n it.ranges) in
        length (pending us (en.marks ws it.base (length us))) ≡ units_held en d ws id
    unfolding units_held
    held_on g n t = rw ((where_is-at d words id i e).place, t)

  -- a stop that is not refused was made on a sound record
  stop-sound : (m : ℕ) → (stop_by en d ws m id).answer.number ≡ 0 → sound_with d words ≡ true
  unfolding stop_by
  stop-sound m =
      verdict-both (λ (c : Change Changed) (n : ℕ). c.answer.number ≡ 0 → sound_with d words ≡ true) (stop_order d.settings m (seen_in d words (place_of d.settings id)))
      (stop_done en d ws (place_of d.settings id)) 0 (λ n i. changed n d ws) (λ n i. 0)
      ((λ e. absurd (omega arith)), ((λ e. absurd (omega arith)), ((λ e. absurd (omega arith)), ((λ e. absurd (omega arith)), ((λ e. absurd (omega arith)), tt)))))
      (λ passed e. passed.0)

  -- what it books, where so many units were counted
  pub stop-books : (l : Log) (m k number : ℕ) → (sound_with d words ≡ true → k ≡ units_held en d ws id) → number ≡ (stop_by en d ws m id).answer.number
      → booked_by l (place_of d.settings id) number 0 0 k ≡ stop_log en l d ws m id
  stop-books l m k number h f = rw f (go (eqb done 0) refl)
    where
      done : ℕ
      done = (stop_by en d ws m id).answer.number

      place : Option ℕ
      place = place_of d.settings id

      go : (b : Bool) → eqb done 0 ≡ b → booked_by l place done 0 0 k ≡ booked_by l place done 0 0 (units_held en d ws id)
      go true e = ap (λ j. booked_by l place done 0 0 j) (h (stop-sound m (eqb-true done 0 e)))
      go false e = let n = eqb-false done 0 e in sym (book-refused l done 0 0 k place n) ∙ book-refused l done 0 0 (units_held en d ws id) place n
