-- W12: the managers that settings name, by the rules' test and in plain words. Assumes nothing.
use Prim.Native.Nat.{ℕ, ◌≤◌, ◌<◌}
use mathlib.Core.Path.{◌≡◌, refl, sym, ap, subst, ◌∙◌}
use mathlib.Core.Logic.{◌≢◌}
use mathlib.Core.Bool.{Bool, true, false, cond, ◌||◌, true≢false}
use mathlib.Core.List.{List}
use Rattle.std.specs.declared.option.Option.{Option}
use native.Mathlib.Omega.{arith}
use lib.Dec.{eqb}
use lib.ListN.{length, get_or}
use borrow.Author.Tests.{eqb-true, eqb-false, eq-eqb, ne_eqb}
use Rattle.rules.specs.Lists.{member}
use Rattle.rules.specs.Settings.{settings_ok, seconds, is_manager, second_limit, limit_of}
use Rattle.rules.specs.Device.{held_in, held_of, held_ok, sound_device}
use Rattle.rules.specs.declared.Tracking.{Tracking}
use Rattle.rules.specs.declared.Tracking.TheVariants.{On}
use Rattle.rules.specs.declared.Second.{Second}
use Rattle.std.specs.declared.option.Option.TheVariants.{None, Some}
use Rattle.rules.specs.declared.Settings.{Settings}
use Rattle.rules.specs.declared.Device.{Device}
use Rattle.rules.proofs.ListLaws.{and_left, or_cases}
use Rattle.rules.proofs.LoopLaws.{all-front}
use Rattle.settings.proofs.SettingsLaws.{settings_ok-other}
use Rattle.record.specs.Record.{no_controller}
use Rattle.record.proofs.RecordLaws.{sound_device-all}
use Rattle.demands.specs.Managers.{Manages, first, second, IsManager}

-- the manager that tracks a controller of a sound record is one
pub tracker-known : (d : Device) (i g n : ℕ) → sound_device d ≡ true → i < d.settings.count → i < length d.controllers → (get_or d.controllers i no_controller).tracking ≡ On g n
    → is_manager d.settings (get_or d.controllers i no_controller).manager ≡ true
unfolding held_ok
tracker-known d i g n e h k t =
    let c = get_or d.controllers i no_controller in
    and_left (is_manager d.settings c.manager) _
    (subst (λ (x : Tracking). held_ok d.settings (held_in x c.manager c.ranges) ≡ true) t
    (all-front (λ c. held_ok d.settings (held_of c)) d.controllers d.settings.count i no_controller h k (sound_device-all d e)))

module _ (s : Settings) where
  -- a manager by the rules is one
  pub manager-named : (m : ℕ) → is_manager s m ≡ true → IsManager s m
  unfolding is_manager
  manager-named m e =
      or_cases (eqb s.manager m) (member m (seconds s.second)) (IsManager s m) e
      (λ p. subst (IsManager s) (eqb-true s.manager m p) (s.limit, first))
      (λ p. go s.second refl p)
    where
      go : (x : Option Second) → s.second ≡ x → member m (seconds x) ≡ true → IsManager s m
      go None q p = absurd (true≢false (sym p))
      go (Some two) q p =
          or_cases (eqb two.id m) false (IsManager s m) p (λ w. subst (IsManager s) (eqb-true two.id m w) (two.limit, second two.id two.limit q)) (λ w. absurd (true≢false (sym w)))

  -- and one is so by the rules
  pub named-manager : (m : ℕ) → IsManager s m → is_manager s m ≡ true
  unfolding is_manager
  named-manager m n = go m n.0 n.1
    where
      go : (m limit : ℕ) → Manages s m limit → is_manager s m ≡ true
      go m limit first = rw (eq-eqb s.manager s.manager refl)
      go m limit (second id l q) = rw (q, eq-eqb id id refl) (or-last (eqb s.manager id))
        where
          or-last : (b : Bool) → (b || true) ≡ true
          or-last true = refl
          or-last false = refl

  pub not_named : (m : ℕ) → (IsManager s m → ⊥) → is_manager s m ≡ false
  not_named m h = go (is_manager s m) refl
    where
      go : (b : Bool) → is_manager s m ≡ b → b ≡ false
      go true e = absurd (h (manager-named m e))
      go false e = refl

  -- its limit is the one that the settings give it
  module _ (ok : settings_ok s ≡ true) where
    pub limit-named : (m limit : ℕ) → Manages s m limit → limit_of s m ≡ limit
    unfolding limit_of
    limit-named m limit first = rw (eq-eqb s.manager s.manager refl)
    limit-named m limit (second id l q) = rw (ne_eqb id s.manager (settings_ok-other s (record { id = id; limit = l }) ok q).0, q)

    -- so what holds of each manager's limit by the rules holds of each that they name
    pub within-named : (f : ℕ → ℕ) → ((m : ℕ) → is_manager s m ≡ true → f m ≤ limit_of s m) → (m limit : ℕ) → Manages s m limit → f m ≤ limit
    within-named f h m limit n = omega (arith, h m (named-manager m (limit, n)), limit-named m limit n)

    pub named-within : (f : ℕ → ℕ) → ((m limit : ℕ) → Manages s m limit → f m ≤ limit) → (m : ℕ) → is_manager s m ≡ true → f m ≤ limit_of s m
    named-within f h m e = let n = manager-named m e in omega (arith, h m n.0 n.1, limit-named m n.0 n.1)
