-- Laws of the device record: its weights, what a sound one is known by, and what a call's place says of its table. All of it is the library's
-- interface. Assumes nothing.
use Prim.Native.Nat.{ℕ, zero, suc, ◌+◌, ◌-◌, ◌%◌, ◌<◌, ◌≤◌}
use mathlib.Core.Path.{◌≡◌, refl, ap, sym, ◌∙◌}
use mathlib.Core.Logic.{◌≢◌, ◌⊎◌}
use mathlib.Core.Bool.{Bool, true, false, ◌&&◌, cond, and-true, and-false}
use mathlib.Core.List.{List, [], ◌∷◌, ◌++◌, map}
use Rattle.std.specs.declared.option.Option.{Option}
use Rattle.std.specs.declared.option.Option.TheVariants.{None, Some}
use native.Mathlib.Numerals.{add-one}
use native.Mathlib.Omega.{arith}
use lib.ListN.{length, get_or, take, drop, set, replicate, length-map, length-take, length-append, length-replicate}
use lib.Seq.{get_or-take}
use lib.Dec.{leb, eqb}
use borrow.Author.Tests.{eqb-true, eq-eqb, ne_eqb, le-leb, leb-true}
use Rattle.rules.specs.Lists.{all, sum, is_some}
use Rattle.rules.specs.Refusals.{Test, ◌else◌, verdict, number_of}
use Rattle.rules.specs.Settings.{mark_words, most_units, identifiers_of, settings_ok, managers_of, is_manager, place_of, granularity_ok}
use Rattle.rules.specs.Units.{units}
use Rattle.rules.specs.Ranges.{list_tests}
use Rattle.rules.specs.Queue.{queue_ok}
use Rattle.rules.specs.Device.{Held, held_units, held_in, held_of, held_ok, no_share, shares_ok, share_in, share_of, shares_of, fresh_controller, controllers_of, suspended_at, front_ok, sequence_ok, queues_ok, is_within, sound_rules, sound, sound_device}
use Rattle.rules.specs.declared.Range.{Range}
use Rattle.rules.specs.declared.Tracking.{Tracking}
use Rattle.rules.specs.declared.Tracking.TheVariants.{Off, On}
use Rattle.rules.specs.declared.Share.{Share}
use Rattle.rules.specs.declared.Sequence.{Sequence}
use Rattle.rules.specs.declared.Controller.{Controller}
use Rattle.rules.specs.declared.Settings.{Settings}
use Rattle.rules.specs.declared.Device.{Device}
use Rattle.rules.proofs.ListLaws.{every-not, get_d_any, all_map, and_left, and_right, and_intro, place_from-is}
use Rattle.rules.proofs.RefusalLaws.{passes-Passed}
use Rattle.rules.proofs.SoundLaws.{sound-settings, sound-held, sound-shelf, sound-units, sound-rest}
use Rattle.rules.proofs.HeldLaws.{lie}
use Rattle.record.specs.Record.{no_controller, managed_of, counts_of, units_of, first_of, weights_of, sound_with, place_at, where_is, where_by, seen_in, front_of}
use Rattle.record.specs.Inner.{kept_in, nothing_walked, walk_of, within_limits, Countable}
use Rattle.std.specs.declared.result.Result.{Result}
use Rattle.std.specs.declared.result.Result.TheVariants.{Err, Ok}
use Rattle.rules.specs.declared.Refusal.TheVariants.{Unknown, Unsound}
use Rattle.rules.specs.declared.Refusal.{Refusal}
use Rattle.rules.proofs.LoopLaws.{all-front}
use Rattle.settings.proofs.SettingsLaws.{settings_ok-count, settings_ok-greatest, settings_ok-shelf}
use Rattle.ranges.specs.Kept.{kept_by, kept_of}
use Rattle.ranges.proofs.RangeLaws.{units-some, HeldFacts, list_tests-facts}
use Rattle.record.proofs.LimitLaws.{weights-counts, weights-held, firsts-counts, limits-are, rest-managed, every-both}
use Rattle.record.proofs.ShareLaws.{Lined-nowhere}
use Rattle.record.proofs.WalkLaws.{walk_from-lined}

-- ---- what one controller holds, by its tracking and its ranges

module _ (s : Settings) (t : Tracking) (m : ℕ) (rs : List Range) where
  pub kept_in-off : t ≡ Off → kept_in s (held_in t m rs) ≡ kept_by true 0
  unfolding held_ok
  kept_in-off e = rw e

  -- one that is on by a manager that the settings lack, one with a granularity that breaks 7, and one whose manager and granularity pass
  pub kept_in-stray : (g n : ℕ) → t ≡ On g n → is_manager s m ≡ false → kept_in s (held_in t m rs) ≡ None
  unfolding held_ok
  kept_in-stray g n e f = rw (e, f)

  pub kept_in-seven : (g n : ℕ) → t ≡ On g n → is_manager s m ≡ true → granularity_ok s g ≡ false → kept_in s (held_in t m rs) ≡ None
  unfolding held_ok
  kept_in-seven g n e k f = rw (e, k, f)

  pub kept_in-on : (g n : ℕ) → t ≡ On g n → is_manager s m ≡ true → granularity_ok s g ≡ true → kept_in s (held_in t m rs) ≡ kept_of s g n (take n rs)
  unfolding held_ok
  kept_in-on g n e k f = rw (e, k, f)

  -- what one is known by that is on and may hold what it does
  pub held_ok-facts : (g n : ℕ) → s.greatest ≤ 20 → t ≡ On g n → held_ok s (held_in t m rs) ≡ true → HeldFacts s g n (take n rs)
  unfolding held_ok
  held_ok-facts g n h e f =
      let p = passes-Passed ((granularity_ok s g else 7) ∷ list_tests s g n (take n rs)) (and_right (is_manager s m) _ (rw e at f)) in
      list_tests-facts s g n (take n rs) h p.0 p.1

-- its units can be counted
pub held_ok-countable : (s : Settings) (t : Tracking) (m : ℕ) (rs : List Range) → s.greatest ≤ 20 → held_ok s (held_in t m rs) ≡ true → Countable (held_in t m rs)
held_ok-countable s Off m rs h e = tt
held_ok-countable s (On g n) m rs h e = let f = held_ok-facts s (On g n) m rs g n h refl e in (f.small, f.few, f.rows)

-- its share, where it is off and where it is on
module _ (base : ℕ) (t : Tracking) (m : ℕ) (rs : List Range) where
  pub share_in-off : t ≡ Off → share_in base (held_in t m rs) ≡ no_share
  share_in-off e = rw e

  pub share_in-on : (g n size : ℕ) → t ≡ On g n → size ≡ length (units g (take n rs)) → share_in base (held_in t m rs) ≡ record { base = base; size = size }
  share_in-on g n size e f = rw (e, f)

-- ---- W7: the shares of a record

-- the shares of the first i controllers, and no_share in the places behind them
abbrev pub shares_to : Device → ℕ → List Share
shares_to d i = map share_of (take i d.controllers) ++ replicate (8 - i) no_share

filled_next : {A B : Type 0} (f : A → B) (z : B) (xs : List A) (i m : ℕ) (x : A) → i < length xs
    → set (map f (take i xs) ++ replicate (suc m) z) i (f (get_or xs i x)) ≡ map f (take (suc i) xs) ++ replicate m z
filled_next f z [] i m x h = absurd (omega arith)
filled_next f z (y ∷ xs) zero m x h = refl
filled_next f z (y ∷ xs) (suc i) m x h = ap (λ l. f y ∷ l) (filled_next f z xs i m x (omega arith))

pub shares_to-next : (d : Device) (i : ℕ) (xs : List Share) (a : Share) → i < 8 → i < length d.controllers → xs ≡ shares_to d i → a ≡ share_of (get_or d.controllers i no_controller)
    → set xs i a ≡ shares_to d (i + 1)
shares_to-next d i xs a h k e f =
    let m : 8 - i ≡ suc (8 - suc i) = omega arith in
    rw (add-one, e, f, m) (filled_next share_of no_share d.controllers i (8 - suc i) no_controller k)

-- the share of a place in use
filled_at : {A B : Type 0} (f : A → B) (z : B) (xs : List A) (rest : List B) (n i : ℕ) (x : A) → i < n → i < length xs → get_or (map f (take n xs) ++ rest) i z ≡ f (get_or xs i x)
filled_at f z [] rest n i x h k = absurd (omega arith)
filled_at f z (y ∷ xs) rest zero i x h k = absurd (omega arith)
filled_at f z (y ∷ xs) rest (suc n) zero x h k = refl
filled_at f z (y ∷ xs) rest (suc n) (suc i) x h k = filled_at f z xs rest n i x (omega arith) (omega arith)

pub shares_of-at : (d : Device) (i : ℕ) → i < d.settings.count → i < length d.controllers → get_or (shares_of d) i no_share ≡ share_of (get_or d.controllers i no_controller)
shares_of-at d i h k = filled_at share_of no_share d.controllers (replicate (8 - d.settings.count) no_share) d.settings.count i no_controller h k

pub shares_of-used : (d : Device) (i : ℕ) → i < d.settings.count → i < length d.controllers → i < length (shares_of d)
shares_of-used d i h k =
    omega (arith, length-append (map share_of (controllers_of d)) (replicate (8 - d.settings.count) no_share), length-map (controllers_of d) share_of, length-take d.settings.count d.controllers)

-- which, where it has bits, has as many as its controller has units, from its base on
share_in-size : (base : ℕ) (h : Option Held) → (share_in base h).size ≡ held_units h
share_in-size base None = refl
share_in-size base (Some h) = refl

share_in-some : (base : ℕ) (h : Option Held) → 1 ≤ held_units h → share_in base h ≡ record { base = base; size = held_units h }
share_in-some base None l = absurd (omega arith)
share_in-some base (Some h) l = refl

-- their sizes together are the units
shares-sizes : (n : ℕ) (cs : List Controller) → sum (map (λ (a : Share). a.size) (map share_of cs ++ replicate n no_share)) ≡ sum (map held_units (map held_of cs))
shares-sizes zero [] = refl
shares-sizes (suc n) [] = omega (arith, shares-sizes n [])
shares-sizes n (c ∷ cs) = omega (arith, share_in-size c.base (held_of c), shares-sizes n cs)

pub shares_of-sizes : (d : Device) → sum (map (λ (a : Share). a.size) (shares_of d)) ≡ units_of d
shares_of-sizes d = shares-sizes (8 - d.settings.count) (controllers_of d)

-- ---- W6: a state that arrives in parts

-- the bytes of an area up to an end are so many; within the area they are its first ones
pub front_of-length : (end : ℕ) (area : List ℕ) → length (front_of end area) ≡ end
unfolding front_of
front_of-length end area =
    omega (arith, length-take end (area ++ replicate end 0), length-append area (replicate end 0), length-replicate {A = ℕ} end 0)

take-front : (end : ℕ) (area rest : List ℕ) → end ≤ length area → take end (area ++ rest) ≡ take end area
take-front zero area rest h = refl
take-front (suc end) [] rest h = absurd (omega arith)
take-front (suc end) (x ∷ area) rest h = ap (λ l. x ∷ l) (take-front end area rest (omega arith))

pub front_of-take : (end : ℕ) (area : List ℕ) → end ≤ length area → front_of end area ≡ take end area
unfolding front_of
front_of-take end area h = take-front end area (replicate end 0) h

pub front_rest : (n : ℕ) → 4 ≤ n → n ≤ 4096 → eqb (n % 4) 0 ≡ front_ok n
front_rest n h k = rw (le-leb 4 n h, le-leb n 4096 k)

-- a place that was found is in use
pub found-used : (s : Settings) (id i : ℕ) → place_of s id ≡ Some i → i < s.count
unfolding place_of
found-used s id i = go (place_of s id) refl
  where
    go : (p : Option ℕ) → place_of s id ≡ p → p ≡ Some i → i < s.count
    go None e f = let z : ◌≡◌ {A = ℕ} 0 1 = cc in absurd (omega arith)
    go (Some j) e f =
        let z : j ≡ i = cc in
        let m = place_from-is (identifiers_of s) 0 id j e in
        omega (arith, m.1, m.2, length-take s.count s.identifiers)

module _ (d : Device) where
  module _ (q : Option Sequence) (owner end : ℕ) (e : q ≡ Some (record { owner = owner; end = end })) where
    -- of a controller at a place: whether it is suspended
    module _ (i : ℕ) (f : place_of d.settings owner ≡ Some i) (h : i < d.settings.count) (k : i < length d.controllers) where
      pub sequence-owned : sequence_ok d.settings (controllers_of d) q ≡ ((get_or d.controllers i no_controller).suspended && front_ok end)
      sequence-owned = rw e (go (place_of d.settings owner) f)
        where
          same : get_or (controllers_of d) i fresh_controller ≡ get_or d.controllers i no_controller
          same = get_or-take d.settings.count d.controllers i fresh_controller h ∙ get_d_any d.controllers i fresh_controller no_controller k

          go : (p : Option ℕ) → p ≡ Some i → (suspended_at (controllers_of d) p && front_ok end) ≡ ((get_or d.controllers i no_controller).suspended && front_ok end)
          go None f = let z : ◌≡◌ {A = ℕ} 0 1 = cc in absurd (omega arith)
          go (Some j) f = let z : j ≡ i = cc in rw z (ap (λ (c : Controller). c.suspended && front_ok end) same)

-- ---- soundness, rule by rule

module _ (d : Device) where
  abbrev rules_of : List Bool
  rules_of =
      sound_rules d.settings (map held_of (controllers_of d)) (sequence_ok d.settings (controllers_of d) d.sequence && (shares_ok (shares_of d) && queues_ok d))

  -- W12: each manager's counts are within its limit, and all within the shelf's
  abbrev managers : Bool
  managers = all (is_within d.settings (map held_of (controllers_of d))) (managers_of d.settings)

  abbrev together : Bool
  together = leb (counts_of d) d.settings.shelf

  pub sound_device-settings-not : settings_ok d.settings ≡ false → sound_device d ≡ false
  unfolding sound
  sound_device-settings-not e = every-not rules_of 0 e

  pub sound_device-sequence-not : sequence_ok d.settings (controllers_of d) d.sequence ≡ false → sound_device d ≡ false
  unfolding sound
  sound_device-sequence-not e = every-not rules_of 5 (rw e)

  pub sound_device-queues-not : queues_ok d ≡ false → sound_device d ≡ false
  unfolding sound
  sound_device-queues-not e =
      let q = sequence_ok d.settings (controllers_of d) d.sequence in
      every-not rules_of 5 (ap (λ b. q && (shares_ok (shares_of d) && b)) e ∙ ap (λ b. q && b) (and-false (shares_ok (shares_of d))) ∙ and-false q)

  module _ (e : settings_ok d.settings ≡ true) where
    -- a controller that may not hold what it does weighs more than every limit
    pub sound_device-heavy : within_limits d.settings (first_of d) (weights_of d) ≡ false → sound_device d ≡ false
    unfolding sound
    sound_device-heavy h = go (all (λ c. held_ok d.settings (held_of c)) (controllers_of d)) refl
      where
        go : (b : Bool) → all (λ c. held_ok d.settings (held_of c)) (controllers_of d) ≡ b → sound_device d ≡ false
        go true f = every-both (take 2 rules_of) managers together (drop 4 rules_of) (sym (limits-are d.settings e (controllers_of d) f) ∙ h)
        go false f = every-not rules_of 1 (all_map (held_ok d.settings) held_of (controllers_of d) ∙ f)

    module _ (l : within_limits d.settings (first_of d) (weights_of d) ≡ true) where
      pub sound_device-all-held : all (λ c. held_ok d.settings (held_of c)) (controllers_of d) ≡ true
      sound_device-all-held =
          weights-held d.settings (controllers_of d) (omega (arith, leb-true (weights_of d) d.settings.shelf (and_left _ _ l), settings_ok-shelf d.settings e))

      -- where the weights are within the limits and the sequence and the queues pass, the pool is left
      pub sound_device-pool : sequence_ok d.settings (controllers_of d) d.sequence ≡ true → queues_ok d ≡ true
          → sound_device d ≡ (leb (units_of d) most_units && shares_ok (shares_of d))
      unfolding sound
      sound_device-pool q z =
          let held = sound_device-all-held in
          let few = sym (limits-are d.settings e (controllers_of d) held) ∙ l in
          rw (e, all_map (held_ok d.settings) held_of (controllers_of d), held, and_left managers together few, and_right managers together few, q, z, and-true (shares_ok (shares_of d)), and-true (shares_ok (shares_of d)))

      -- which is as it may be where the shares lie one behind the other by as many units as they have at most
      pub sound_device-lined : sequence_ok d.settings (controllers_of d) d.sequence ≡ true → queues_ok d ≡ true → (walk_of d).end ≤ most_units → sound_device d ≡ true
      sound_device-lined q z h =
          let nowhere = Lined-nowhere (8 - d.settings.count) (walk_of d).end in
          let lined = walk_from-lined d.settings nothing_walked (controllers_of d) (replicate (8 - d.settings.count) no_share) (walk_of d).end sound_device-all-held h nowhere in
          sound_device-pool q z
          ∙ and_intro (leb (units_of d) most_units) (shares_ok (shares_of d)) (le-leb (units_of d) most_units (omega (arith, lined.sizes, shares_of-sizes d))) lined.lie

-- ---- what a sound record is known by

pub record SoundFacts (d : Device) : Type 0 where
  pub settings : settings_ok d.settings ≡ true
  pub count : d.settings.count ≤ 8
  pub greatest : d.settings.greatest ≤ 20
  pub shelf : d.settings.shelf ≤ 128
  pub counts : counts_of d ≤ d.settings.shelf
  pub units : units_of d ≤ most_units

pub sound_device-facts : (d : Device) → sound_device d ≡ true → SoundFacts d
sound_device-facts d e =
    let s = sound-settings d.settings (map held_of (controllers_of d)) _ e in
    record {
      settings = s;
      count = settings_ok-count d.settings s;
      greatest = settings_ok-greatest d.settings s;
      shelf = settings_ok-shelf d.settings s;
      counts = sound-shelf d.settings (map held_of (controllers_of d)) _ e;
      units = sound-units d.settings (map held_of (controllers_of d)) _ e;
    }

-- W8: its queues are as they may be
pub sound_device-queues : (d : Device) → sound_device d ≡ true → queues_ok d ≡ true
sound_device-queues d e =
    and_right (shares_ok (shares_of d)) _ (and_right (sequence_ok d.settings (controllers_of d) d.sequence) _ (sound-rest d.settings (map held_of (controllers_of d)) _ e))

pub sound_device-queue : (d : Device) (i : ℕ) → sound_device d ≡ true → i < d.settings.count → i < length d.controllers → queue_ok (get_or d.controllers i no_controller).queue ≡ true
sound_device-queue d i e h k = all-front (λ (c : Controller). queue_ok c.queue) d.controllers d.settings.count i no_controller h k (sound_device-queues d e)

-- W6: its sequence is as it may be
pub sound_device-sequence : (d : Device) → sound_device d ≡ true → sequence_ok d.settings (controllers_of d) d.sequence ≡ true
sound_device-sequence d e = and_left (sequence_ok d.settings (controllers_of d) d.sequence) _ (sound-rest d.settings (map held_of (controllers_of d)) _ e)

-- and an open one ends within a state's bytes
pub sequence-within : (d : Device) → sound_device d ≡ true → (owner end : ℕ) → d.sequence ≡ Some (record { owner = owner; end = end }) → end ≤ 4096
sequence-within d e owner end q =
    let k : sequence_ok d.settings (controllers_of d) (Some (record { owner = owner; end = end })) ≡ true = sym (ap (sequence_ok d.settings (controllers_of d)) q) ∙ sound_device-sequence d e in
    let f = and_right (suspended_at (controllers_of d) (place_of d.settings owner)) (front_ok end) k in
    leb-true end 4096 (and_left (leb end 4096) _ (and_right (leb 4 end) _ f))

-- each controller of it holds what it may
pub sound_device-all : (d : Device) → sound_device d ≡ true → all (λ c. held_ok d.settings (held_of c)) (controllers_of d) ≡ true
sound_device-all d e = sym (all_map (held_ok d.settings) held_of (controllers_of d)) ∙ sound-held d.settings (map held_of (controllers_of d)) _ e

-- so its weights are its counts
pub sound_device-counts : (d : Device) → sound_device d ≡ true → weights_of d ≡ counts_of d
sound_device-counts d e = weights-counts d.settings (controllers_of d) (sound_device-all d e)

-- W12: and what the first manager tracks of them, and what it does not, are the counts of each
pub sound_device-first : (d : Device) (m : ℕ) → sound_device d ≡ true → m ≡ d.settings.manager → first_of d ≡ managed_of d m
sound_device-first d m e q = firsts-counts d.settings (controllers_of d) (sound_device-all d e) ∙ ap (managed_of d) (sym q)

pub sound_device-second : (d : Device) (m : ℕ) → sound_device d ≡ true → is_manager d.settings m ≡ true → (m ≡ d.settings.manager → ⊥) → weights_of d - first_of d ≡ managed_of d m
sound_device-second d m e k f = rest-managed d.settings (sound_device-facts d e).settings (controllers_of d) (sound_device-all d e) m k f

-- and a controller of it that is on is known by this
pub sound_device-held : (d : Device) (i g n : ℕ) → sound_device d ≡ true → i < d.settings.count → i < length d.controllers
    → (get_or d.controllers i no_controller).tracking ≡ On g n
    → HeldFacts d.settings g n (take n (get_or d.controllers i no_controller).ranges)
sound_device-held d i g n e h k t =
    let s = d.settings in
    let c = get_or d.controllers i no_controller in
    held_ok-facts s c.tracking c.manager c.ranges g n (sound_device-facts d e).greatest t
    (all-front (λ c. held_ok s (held_of c)) d.controllers s.count i no_controller h k (sound_device-all d e))

-- ---- W7: its shares

pub sound_device-shares : (d : Device) → sound_device d ≡ true → shares_ok (shares_of d) ≡ true
sound_device-shares d e =
    and_left (shares_ok (shares_of d)) _ (and_right (sequence_ok d.settings (controllers_of d) d.sequence) _ (sound-rest d.settings (map held_of (controllers_of d)) _ e))

-- those of the places in use that have bits: within the pool, and no two overlap
module _ (d : Device) (e : sound_device d ≡ true) (i : ℕ) (h : i < d.settings.count) (k : i < length d.controllers) (some : 1 ≤ held_units (held_of (get_or d.controllers i no_controller))) where
  pub shares-inside : (get_or d.controllers i no_controller).base + held_units (held_of (get_or d.controllers i no_controller)) ≤ 16384
  shares-inside = (rw (shares_of-at d i h k, share_in-some (get_or d.controllers i no_controller).base (held_of (get_or d.controllers i no_controller)) some) at (((lie (shares_of d)).0 (sound_device-shares d e)).inside i (shares_of-used d i h k))) some

  pub shares-apart : (j : ℕ) → j < d.settings.count → j < length d.controllers → i ≢ j → 1 ≤ held_units (held_of (get_or d.controllers j no_controller))
      → ((get_or d.controllers i no_controller).base + held_units (held_of (get_or d.controllers i no_controller)) ≤ (get_or d.controllers j no_controller).base)
      ⊎ ((get_or d.controllers j no_controller).base + held_units (held_of (get_or d.controllers j no_controller)) ≤ (get_or d.controllers i no_controller).base)
  shares-apart j l m z other =
      (rw (shares_of-at d i h k, shares_of-at d j l m, share_in-some (get_or d.controllers i no_controller).base (held_of (get_or d.controllers i no_controller)) some, share_in-some (get_or d.controllers j no_controller).base (held_of (get_or d.controllers j no_controller)) other) at (((lie (shares_of d)).0 (sound_device-shares d e)).apart i j (shares_of-used d i h k) (shares_of-used d j l m) z)) some other

-- so those of controllers that are on, which have units
held-units : (t : Tracking) (m : ℕ) (rs : List Range) (g n : ℕ) → t ≡ On g n → held_units (held_in t m rs) ≡ length (units g (take n rs))
held-units t m rs g n e = rw e

module _ (d : Device) (i g n : ℕ) (e : sound_device d ≡ true) (h : i < d.settings.count) (k : i < length d.controllers) (t : (get_or d.controllers i no_controller).tracking ≡ On g n) (there : 1 ≤ length (get_or d.controllers i no_controller).ranges) where
  same : held_units (held_of (get_or d.controllers i no_controller)) ≡ length (units g (take n (get_or d.controllers i no_controller).ranges))
  same = held-units (get_or d.controllers i no_controller).tracking (get_or d.controllers i no_controller).manager (get_or d.controllers i no_controller).ranges g n t

  pub sound_device-some : 1 ≤ held_units (held_of (get_or d.controllers i no_controller))
  sound_device-some =
      let f = sound_device-held d i g n e h k t in
      let rs = (get_or d.controllers i no_controller).ranges in
      omega (arith, same, units-some g (take n rs) f.rows (omega (arith, f.some, length-take n rs)))

  -- they lie within the pool, and away from those of another
  pub sound_device-inside : (get_or d.controllers i no_controller).base + length (units g (take n (get_or d.controllers i no_controller).ranges)) ≤ 16384
  sound_device-inside = omega (arith, same, shares-inside d e i h k sound_device-some)

pub sound_device-apart : (d : Device) (i g n j f m : ℕ) → sound_device d ≡ true → i ≢ j → i < d.settings.count → j < d.settings.count → i < length d.controllers → j < length d.controllers
    → (get_or d.controllers i no_controller).tracking ≡ On g n → (get_or d.controllers j no_controller).tracking ≡ On f m
    → 1 ≤ length (get_or d.controllers i no_controller).ranges → 1 ≤ length (get_or d.controllers j no_controller).ranges
    → ((get_or d.controllers i no_controller).base + length (units g (take n (get_or d.controllers i no_controller).ranges)) ≤ (get_or d.controllers j no_controller).base)
    ⊎ ((get_or d.controllers j no_controller).base + length (units f (take m (get_or d.controllers j no_controller).ranges)) ≤ (get_or d.controllers i no_controller).base)
sound_device-apart d i g n j f m e z h l k p t u x y =
    rw (held-units (get_or d.controllers i no_controller).tracking (get_or d.controllers i no_controller).manager (get_or d.controllers i no_controller).ranges g n t, held-units (get_or d.controllers j no_controller).tracking (get_or d.controllers j no_controller).manager (get_or d.controllers j no_controller).ranges f m u) at
    (shares-apart d e i h k (sound_device-some d i g n e h k t x) j l p z (sound_device-some d j f m e l p u y))

-- ---- where a call finds its controller

module _ (d : Device) (words id : ℕ) where
  pub where_is-words : (words ≡ mark_words → ⊥) → where_is d words id ≡ Err Unsound
  unfolding where_is sound_with
  where_is-words h = rw (ne_eqb words mark_words h, and-false (sound_device d))

  pub where_is-unsound : sound_device d ≡ false → where_is d words id ≡ Err Unsound
  unfolding where_is sound_with
  where_is-unsound e = rw e

  -- else as the search finds
  pub where_is-nothing : words ≡ mark_words → sound_device d ≡ true → place_of d.settings id ≡ None → where_is d words id ≡ Err Unknown
  unfolding where_is sound_with
  where_is-nothing h e f = rw (e, eq-eqb words mark_words h) (go (place_of d.settings id) f)
    where
      go : (p : Option ℕ) → p ≡ None → place_at p ≡ Err Unknown
      go None e = refl
      go (Some i) e = let z : ◌≡◌ {A = ℕ} 0 1 = cc in absurd (omega arith)

  pub where_is-found : (i : ℕ) → words ≡ mark_words → sound_device d ≡ true → place_of d.settings id ≡ Some i → where_is d words id ≡ Ok i
  unfolding where_is sound_with
  where_is-found i h e f = rw (e, eq-eqb words mark_words h) (go (place_of d.settings id) f)
    where
      go : (p : Option ℕ) → p ≡ Some i → place_at p ≡ Ok i
      go None e = let z : ◌≡◌ {A = ℕ} 0 1 = cc in absurd (omega arith)
      go (Some j) e = let z : j ≡ i = cc in ap Ok z

place_at-at : (b : Bool) (p : Option ℕ) (i : ℕ) → cond b (place_at p) (Err Unsound) ≡ Ok i → (b ≡ true) × (p ≡ Some i)
place_at-at true (Some j) i e = let z : j ≡ i = cc in (refl, ap Some z)
place_at-at true None i e = let z : ◌≡◌ {A = ℕ} 0 1 = cc in absurd (omega arith)
place_at-at false p i e = let z : ◌≡◌ {A = ℕ} 0 1 = cc in absurd (omega arith)

-- by a manager: a refusal stays, and of a place that was found the manager is asked
module _ (d : Device) (words m id : ℕ) where
  pub where_by-refused : (p : Result ℕ Refusal) (r : Refusal) → p ≡ where_is d words id → p ≡ Err r → p ≡ where_by d words m id
  unfolding where_is where_by
  where_by-refused p r e f = go (sound_with d words) (is_manager d.settings m) (place_of d.settings id) e
    where
      go : (b k : Bool) (o : Option ℕ) → p ≡ cond b (place_at o) (Err Unsound) → p ≡ cond b (cond k (place_at o) (Err Unknown)) (Err Unsound)
      go false k o e = e
      go true true o e = e
      go true false None e = e
      go true false (Some i) e = let z : ◌≡◌ {A = ℕ} 0 1 = cc in absurd (omega arith)

  pub where_by-stray : (i : ℕ) → where_is d words id ≡ Ok i → is_manager d.settings m ≡ false → where_by d words m id ≡ Err Unknown
  unfolding where_is where_by
  where_by-stray i e k = let w = place_at-at (sound_with d words) (place_of d.settings id) i e in rw (w.0, k)

  pub where_by-found : is_manager d.settings m ≡ true → where_by d words m id ≡ where_is d words id
  unfolding where_is where_by
  where_by-found k = rw k

-- ---- what a call's place says of the first tests of its table

-- a refusal is the table's, whatever tests follow
pub where_is-refused : (d : Device) (words id : ℕ) (r : Refusal) → where_is d words id ≡ Err r
    → {A : Type 0} (ts : List Test) (done : A) (refuse : ℕ → ℕ → A)
    → verdict (((seen_in d words (place_of d.settings id)).sound else 1) ∷ ((seen_in d words (place_of d.settings id)).known else 2) ∷ ts) done refuse ≡ refuse (number_of r) 0
unfolding where_is
where_is-refused d words id r e ts done refuse = go (sound_with d words) (place_of d.settings id) e
  where
    go : (b : Bool) (p : Option ℕ) → cond b (place_at p) (Err Unsound) ≡ Err r → verdict ((b else 1) ∷ (is_some p else 2) ∷ ts) done refuse ≡ refuse (number_of r) 0
    go false p e = let z : Unsound ≡ r = cc in ap (λ k. refuse (number_of k) 0) z
    go true None e = let z : Unknown ≡ r = cc in ap (λ k. refuse (number_of k) 0) z
    go true (Some i) e = let z : ◌≡◌ {A = ℕ} 0 1 = cc in absurd (omega arith)

-- by a manager there is one test more
pub where_by-tests : (d : Device) (words m id : ℕ) (r : Refusal) → where_by d words m id ≡ Err r
    → {A : Type 0} (ts : List Test) (done : A) (refuse : ℕ → ℕ → A)
    → verdict (((seen_in d words (place_of d.settings id)).sound else 1) ∷ (is_manager d.settings m else 2) ∷ ((seen_in d words (place_of d.settings id)).known else 2) ∷ ts) done refuse ≡ refuse (number_of r) 0
unfolding where_by
where_by-tests d words m id r e ts done refuse = go (sound_with d words) (is_manager d.settings m) (place_of d.settings id) e
  where
    go : (b k : Bool) (p : Option ℕ) → cond b (cond k (place_at p) (Err Unknown)) (Err Unsound) ≡ Err r
        → verdict ((b else 1) ∷ (k else 2) ∷ (is_some p else 2) ∷ ts) done refuse ≡ refuse (number_of r) 0
    go false k p e = let z : Unsound ≡ r = cc in ap (λ k. refuse (number_of k) 0) z
    go true false p e = let z : Unknown ≡ r = cc in ap (λ k. refuse (number_of k) 0) z
    go true true None e = let z : Unknown ≡ r = cc in ap (λ k. refuse (number_of k) 0) z
    go true true (Some i) e = let z : ◌≡◌ {A = ℕ} 0 1 = cc in absurd (omega arith)

-- a place that was found by a manager was found, and it is one
pub where_by-at : (d : Device) (words m id i : ℕ) → where_by d words m id ≡ Ok i → (is_manager d.settings m ≡ true) × (where_is d words id ≡ Ok i)
unfolding where_by where_is
where_by-at d words m id i e = go (sound_with d words) (is_manager d.settings m) (place_of d.settings id) e
  where
    go : (b k : Bool) (p : Option ℕ) → cond b (cond k (place_at p) (Err Unknown)) (Err Unsound) ≡ Ok i → (k ≡ true) × (cond b (place_at p) (Err Unsound) ≡ Ok i)
    go true true p e = (refl, e)
    go true false p e = let z : ◌≡◌ {A = ℕ} 0 1 = cc in absurd (omega arith)
    go false k p e = let z : ◌≡◌ {A = ℕ} 0 1 = cc in absurd (omega arith)

-- what is known where a place was found: the record is sound and the marks have their words, together and each by itself; the identifier stands
-- there in the settings; the place is one of 8, and in use
pub record Located (d : Device) (words id i : ℕ) : Type 0 where
  pub seen : sound_with d words ≡ true
  pub sound : sound_device d ≡ true
  pub whole : words ≡ mark_words
  pub place : place_of d.settings id ≡ Some i
  pub below : i < 8
  pub used : i < d.settings.count

pub where_is-at : (d : Device) (words id i : ℕ) → where_is d words id ≡ Ok i → Located d words id i
unfolding where_is sound_with place_of
where_is-at d words id i e =
    let w = place_at-at (sound_with d words) (place_of d.settings id) i e in
    let s = and_left (sound_device d) (eqb words mark_words) w.0 in
    let m = place_from-is (identifiers_of d.settings) 0 id i w.1 in
    let used : i < d.settings.count = omega (arith, m.1, m.2, length-take d.settings.count d.settings.identifiers) in
    record {
      seen = w.0;
      sound = s;
      whole = eqb-true words mark_words (and_right (sound_device d) (eqb words mark_words) w.0);
      place = w.1;
      below = omega (arith, (sound_device-facts d s).count);
      used = used;
    }
