-- What a suspend and a resume answer, case by case of its table. Assumes nothing.
use mathlib.Core.Path.{◌≡◌, ap, ◌∙◌}
use mathlib.Core.Bool.{true, false, ◌||◌, or-true, or-false}
use Prim.Native.Nat.{ℕ, ◌<◌}
use lib.Dec.{eqb}
use lib.ListN.{get_or, drop}
use lib.Seq.{set-get_or}
use borrow.Author.Tests.{lt-leb}
use Rattle.rules.specs.Settings.{is_manager, place_of}
use Rattle.rules.specs.Order.{suspend_order, resume_order}
use Rattle.rules.specs.Refusals.{number_of}
use Rattle.rules.specs.declared.Refusal.{Refusal}
use Rattle.rules.specs.declared.Sequence.{Sequence}
use Rattle.std.specs.declared.option.Option.{Option}
use Rattle.rules.specs.declared.Controller.{Controller}
use Rattle.rules.specs.declared.Device.{Device}
use Rattle.record.specs.Record.{no_controller, controller_at, with_controller, with_sequence, where_by, seen_in}
use Rattle.std.specs.declared.result.Result.TheVariants.{Err, Ok}
use Rattle.record.proofs.RecordLaws.{Located, where_is-at, where_by-tests, where_by-at}
use Rattle.calls.specs.Calls.{flagged, flag_done, dropped, resume_done, suspend_change, resume_change}
use Rattle.calls.specs.declared.Changed.{Changed}

-- a record with a controller put back as it was
controller-same : (d : Device) (i : ℕ) → with_controller d i (get_or d.controllers i no_controller) ≡ d
controller-same d i = ap (λ l. record { settings = d.settings; controllers = l; sequence = d.sequence }) (set-get_or d.controllers i no_controller)

-- ---- suspend and resume

module _ (d : Device) (words m id : ℕ) where
  abbrev answer : ℕ → Device → Changed
  answer n d = record { number = n; device = d }

  pub suspend-refused : (kind : ℕ) (r : Refusal) → where_by d words m id ≡ Err r → suspend_change d words m id kind ≡ answer (number_of r) d
  unfolding suspend_change
  suspend-refused kind r e =
      where_by-tests d words m id r e (drop 3 (suspend_order d.settings m (seen_in d words (place_of d.settings id)) kind))
      (flag_done d (place_of d.settings id) ((controller_at d (place_of d.settings id)).suspended || eqb kind 1)) (λ n i. answer n d)

  pub resume-refused : (r : Refusal) → where_by d words m id ≡ Err r → resume_change d words m id ≡ answer (number_of r) d
  unfolding resume_change
  resume-refused r e =
      where_by-tests d words m id r e (drop 3 (resume_order d.settings m (seen_in d words (place_of d.settings id)))) (resume_done d id (place_of d.settings id)) (λ n i. answer n d)

  module _ (i : ℕ) (e : where_by d words m id ≡ Ok i) where
    l : Located d words id i
    l = where_is-at d words id i (where_by-at d words m id i e).1

    by : is_manager d.settings m ≡ true
    by = (where_by-at d words m id i e).0

    abbrev it : Controller
    it = get_or d.controllers i no_controller

    pub suspend-type : (kind : ℕ) → 1 < kind → suspend_change d words m id kind ≡ answer 15 d
    unfolding suspend_change
    suspend-type kind h = rw (l.place, l.seen, by, lt-leb kind 1 h)

    pub suspend-notice : (kind : ℕ) → kind ≡ 0 → suspend_change d words m id kind ≡ answer 0 d
    unfolding suspend_change
    suspend-notice kind h =
        rw (l.place, l.seen, by, h)
        (ap (λ b. answer 0 (with_controller d i (flagged it b))) (or-false it.suspended) ∙ ap (answer 0) (controller-same d i))

    pub suspend-done : (kind : ℕ) → kind ≡ 1 → suspend_change d words m id kind ≡ answer 0 (with_controller d i (flagged it true))
    unfolding suspend_change
    suspend-done kind h = rw (l.place, l.seen, by, h) (ap (λ b. answer 0 (with_controller d i (flagged it b))) (or-true it.suspended))

    pub resume-running : it.suspended ≡ false → resume_change d words m id ≡ answer 13 d
    unfolding resume_change
    resume-running f = rw (l.place, l.seen, by, f)

    pub resume-done : it.suspended ≡ true → (q : Option Sequence) → q ≡ dropped id d.sequence
        → resume_change d words m id ≡ answer 0 (with_sequence (with_controller d i (flagged it false)) q)
    unfolding resume_change
    resume-done f q s = rw (l.place, l.seen, by, f, s)
