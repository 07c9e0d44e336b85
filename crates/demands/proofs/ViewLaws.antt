-- A record and its marks seen as a device of the rules: they hold the same and a call sees the same of both; and a controller that is replaced is a
-- slot that is replaced. Assumes nothing.
use mathlib.Core.Path.{◌≡◌, refl, sym, ap, ap₂, ◌∙◌}
use mathlib.Core.Logic.{◌≢◌}
use mathlib.Core.Bool.{Bool, true, false, ◌&&◌, ◌||◌, not, cond, and-true, and-false, true≢false}
use mathlib.Core.List.{List, [], ◌∷◌, map}
use Rattle.std.specs.declared.option.Option.{Option}
use Rattle.std.specs.declared.option.Option.TheVariants.{None, Some}
use Prim.Native.Nat.{ℕ, zero, suc, ◌+◌, ◌-◌, ◌^◌, ◌≤◌, ◌<◌}
use native.Mathlib.Omega.{arith}
use lib.Dec.{eqb}
use lib.ListN.{length, get_or, set, take, length-take, length-set}
use lib.Seq.{ext_get_or, get_or-set_same, get_or-set_other, length-take-le}
use borrow.Author.Tests.{eq-eqb, ne_eqb, eqb-true, eqb-false, not-false}
use Rattle.rules.specs.Lists.{all, any, sum, is_some}
use Rattle.rules.specs.Settings.{mark_words, place_of}
use Rattle.rules.specs.ControllerState.{state_most}
use Rattle.rules.specs.Device.{held_count, counts_by, held_units, held_in, held_of, front_ok, fresh_controller, controllers_of, suspended_at, sequence_ok, shares_of, shares_ok, queues_ok, sound, sound_device}
use Rattle.rules.specs.Machine.{Slot, fresh_slot, tracker_on, held_on, held_by, is_open, open_ok, places_in, stopped_in, slot_at, with_slot, sound_state, managed_in, counts_in, units_in, seen_at, arriving_at}
use Rattle.rules.specs.declared.Range.{Range}
use Rattle.rules.specs.declared.Tracking.{Tracking}
use Rattle.rules.specs.declared.Tracking.TheVariants.{Off, On}
use Rattle.rules.specs.declared.Sequence.{Sequence}
use Rattle.rules.specs.declared.Ring.{Ring}
use Rattle.rules.specs.declared.Controller.{Controller}
use Rattle.rules.specs.declared.Device.{Device}
use Rattle.rules.specs.declared.Settings.{Settings}
use Rattle.rules.proofs.ListLaws.{All, All-take, get_d_any, any-from, any-nowhere}
use Rattle.rules.proofs.StateLaws.{place_of-is, place_of-apart}
use Rattle.record.specs.Record.{sound_with, no_controller, tracked_by, places_of, has_stopped, managed_of, counts_of, units_of, seen_in, others_in, front_of, front_in, arriving_in}
use Rattle.record.proofs.RecordLaws.{front_of-length, sound_device-sequence}
use Rattle.calls.specs.Calls.{in_words, dropped}
use Rattle.demands.specs.View.{marks_of, queue_of, manager_in, slot_of, is_at, front_at, slots_from, stray_in, amiss_in, view}

-- ---- what holds of each record and its marks in a session

-- a controller lists no more ranges than it has
abbrev pub Listed : Controller → Type 0
Listed c = (g n : ℕ) → c.tracking ≡ On g n → n ≤ length c.ranges

-- and its queue's totals have 32 bits
abbrev pub Totalled : Controller → Type 0
Totalled c = (r : Ring) → c.queue ≡ Some r → (r.posted < 2 ^ 32) × (r.taken < 2 ^ 32)

pub record Fits (d : Device) (ws area : List ℕ) : Type 0 where
  pub controllers : length d.controllers ≡ 8
  pub identifiers : length d.settings.identifiers ≡ 8
  pub listed : All Listed d.controllers
  pub totals : All Totalled d.controllers
  pub words : length ws ≡ mark_words
  pub bytes : length area ≡ state_most

-- ---- the slot at a place

module _ (ws : List ℕ) (f : ℕ → Option (List ℕ)) (qs : ℕ → List ℕ) where
  pub slots_length : (cs : List Controller) (k : ℕ) → length (slots_from in_words ws f qs k cs) ≡ length cs
  slots_length [] k = refl
  slots_length (c ∷ cs) k = ap suc (slots_length cs (suc k))

  slots_at : (cs : List Controller) (k n i : ℕ) → i < n → i < length cs
      → get_or (slots_from in_words ws f qs k (take n cs)) i fresh_slot ≡ slot_of in_words ws (get_or cs i no_controller) (f (k + i)) (qs (k + i))
  slots_at cs k zero i h l = absurd (omega arith)
  slots_at [] k (suc n) i h l = absurd (omega arith)
  slots_at (c ∷ cs) k (suc n) zero h l = ap (λ z. slot_of in_words ws c (f z) (qs z)) (omega arith)
  slots_at (c ∷ cs) k (suc n) (suc i) h l =
      slots_at cs (suc k) n i (omega arith) (omega arith) ∙ ap (λ z. slot_of in_words ws (get_or cs i no_controller) (f z) (qs z)) (omega arith)

  pub slots-front : (cs : List Controller) (n i : ℕ) → i < n → i < length cs
      → get_or (slots_from in_words ws f qs 0 (take n cs)) i fresh_slot ≡ slot_of in_words ws (get_or cs i no_controller) (f i) (qs i)
  slots-front cs n i h l = slots_at cs 0 n i h l ∙ ap (λ z. slot_of in_words ws (get_or cs i no_controller) (f z) (qs z)) (omega arith)

  -- a slot holds what its controller holds
  held_is : (c : Controller) (k : ℕ) → Listed c → held_by (slot_of in_words ws c (f k) (qs k)) ≡ held_of c
  held_is c k h = go c.tracking refl
    where
      go : (t : Tracking) → c.tracking ≡ t → held_on (manager_in t c.manager) (marks_of in_words ws c.base t c.ranges) ≡ held_in t c.manager c.ranges
      go Off e = refl
      go (On g n) e = ap (λ m. Some (record { manager = c.manager; granularity = g; count = m; ranges = take n c.ranges })) (length-take-le n c.ranges (h g n e))

  pub slots-held : (cs : List Controller) (k : ℕ) → All Listed cs → map held_by (slots_from in_words ws f qs k cs) ≡ map held_of cs
  slots-held [] k h = refl
  slots-held (c ∷ cs) k h = ap₂ (λ x xs. x ∷ xs) (held_is c k h.0) (slots-held cs (suc k) h.1)

  -- and is tracked by the same manager
  tracked-same : (m base : ℕ) (t : Tracking) (rs : List Range) → tracker_on (manager_in t m) (marks_of in_words ws base t rs) ≡ tracked_by t m
  tracked-same m base Off rs = refl
  tracked-same m base (On g n) rs = refl

  -- where no state is under way from a place on
  all-shut : (cs : List Controller) (k : ℕ) → ((i : ℕ) → k ≤ i → f i ≡ None) → all open_ok (slots_from in_words ws f qs k cs) ≡ true
  all-shut [] k z = refl
  all-shut (c ∷ cs) k z = rw (z k (omega arith)) (all-shut cs (suc k) (λ i h. z i (omega arith)))

  -- and where one is, at one place alone
  all-open : (cs : List Controller) (k j : ℕ) (x : List ℕ) → k ≤ j → j < k + length cs → ((i : ℕ) → f i ≡ cond (eqb j i) (Some x) None)
      → all open_ok (slots_from in_words ws f qs k cs) ≡ ((get_or cs (j - k) no_controller).suspended && front_ok (length x))
  all-open [] k j x h l z = absurd (omega arith)
  all-open (c ∷ cs) k j x h l z = go (eqb j k) refl (λ h' l'. all-open cs (suc k) j x h' l' z)
    where
      go : (b : Bool) → eqb j k ≡ b
          → (suc k ≤ j → j < suc k + length cs → all open_ok (slots_from in_words ws f qs (suc k) cs) ≡ ((get_or cs (j - suc k) no_controller).suspended && front_ok (length x)))
          → all open_ok (slots_from in_words ws f qs k (c ∷ cs)) ≡ ((get_or (c ∷ cs) (j - k) no_controller).suspended && front_ok (length x))
      go true e ih =
          let q : j ≡ k = eqb-true j k e in
          let n : j - k ≡ 0 = omega arith in
          let rest = all-shut cs (suc k) (λ i o. z i ∙ rw (ne_eqb j i (λ r. absurd (omega arith)))) in
          rw (z k, e, n, rest) (and-true (c.suspended && front_ok (length x)))
      go false e ih =
          let q : j ≢ k = eqb-false j k e in
          let n : j - k ≡ suc (j - suc k) = omega arith in
          rw (z k, e, n) (ih (omega arith) (omega arith))

-- a slot has the places of its controller's queue, and has stopped as that has
places_same : (x : List ℕ) (q : Option Ring) → places_in (queue_of x q) ≡ places_of q
places_same x None = refl
places_same x (Some r) = refl

stopped-same : (x : List ℕ) (q : Option Ring) → stopped_in (queue_of x q) ≡ has_stopped q
stopped-same x None = refl
stopped-same x (Some r) = refl

-- ---- what a call sees

pub place_of-used : (d : Device) (id i : ℕ) → place_of d.settings id ≡ Some i → i < d.settings.count
place_of-used d id i e = omega (arith, (place_of-is d.settings id i e).0, length-take d.settings.count d.settings.identifiers)

pub place_of-there : (d : Device) (id i : ℕ) → length d.settings.identifiers ≡ 8 → place_of d.settings id ≡ Some i → i < 8
place_of-there d id i h e = omega (arith, h, (place_of-is d.settings id i e).0, length-take d.settings.count d.settings.identifiers)

module _ (d : Device) (ws area : List ℕ) (qs : ℕ → List ℕ) (fits : Fits d ws area) where
  held_same : map held_by (view in_words d ws area qs).slots ≡ map held_of (controllers_of d)
  held_same = slots-held ws (front_at d.settings d.sequence area) qs (controllers_of d) 0 (All-take Listed d.settings.count d.controllers fits.listed)

  -- the owner's place says whether its sequence is as it may be
  sequence-same : (q : Option Sequence)
      → (not (stray_in d.settings q) && all open_ok (slots_from in_words ws (front_at d.settings q area) qs 0 (controllers_of d))) ≡ sequence_ok d.settings (controllers_of d) q
  sequence-same None = all-shut ws (λ i. None) qs (controllers_of d) 0 (λ i h. refl)
  sequence-same (Some seq) = go (place_of d.settings seq.owner) (λ i e. place_of-there d seq.owner i fits.identifiers e) (λ i e. place_of-used d seq.owner i e)
    where
      go : (p : Option ℕ) → ((i : ℕ) → p ≡ Some i → i < 8) → ((i : ℕ) → p ≡ Some i → i < d.settings.count)
          → (not (not (is_some p)) && all open_ok (slots_from in_words ws (λ i. cond (is_at p i) (Some (front_of seq.end area)) None) qs 0 (controllers_of d)))
          ≡ (suspended_at (controllers_of d) p && front_ok seq.end)
      go None h u = refl
      go (Some j) h u =
          let l : j < length (controllers_of d) = omega (arith, h j refl, u j refl, fits.controllers, length-take d.settings.count d.controllers) in
          all-open ws (λ i. cond (eqb j i) (Some (front_of seq.end area)) None) qs (controllers_of d) 0 j (front_of seq.end area) (omega arith) (omega (arith, l)) (λ i. refl)
          ∙ ap₂ (λ c n. c.suspended && front_ok n) (get_d_any (controllers_of d) (j - 0) no_controller fresh_controller (omega (arith, l)) ∙ ap (λ m. get_or (controllers_of d) m fresh_controller) (omega arith))
          (front_of-length seq.end area)

  pub sound-same : sound_state (view in_words d ws area qs) ≡ sound_device d
  sound-same = ap₂ (sound d.settings) held_same (regroup (stray_in d.settings d.sequence) (shares_ok (shares_of d) && queues_ok d) _ ∙ ap (λ b. b && (shares_ok (shares_of d) && queues_ok d)) (sequence-same d.sequence))
    where
      regroup : (a b c : Bool) → (not (a || not b) && c) ≡ ((not a && c) && b)
      regroup true b c = refl
      regroup false true c = sym (and-true c)
      regroup false false c = sym (and-false c)

  sound-with : sound_with d (length ws) ≡ sound_state (view in_words d ws area qs)
  unfolding sound_with
  sound-with = rw (eq-eqb (length ws) mark_words fits.words) (and-true (sound_device d) ∙ sym sound-same)

  managed-same : managed_of d ≡ managed_in (view in_words d ws area qs)
  managed-same = ap (λ hs. λ m. counts_by m hs) (sym held_same)

  counts_same : counts_of d ≡ counts_in (view in_words d ws area qs)
  counts_same = ap (λ hs. sum (map held_count hs)) (sym held_same)

  units-same : units_of d ≡ units_in (view in_words d ws area qs)
  units-same = ap (λ hs. sum (map held_units hs)) (sym held_same)

  pub slot-at : (i : ℕ) → i < d.settings.count → i < 8
      → slot_at (view in_words d ws area qs) (Some i) ≡ slot_of in_words ws (get_or d.controllers i no_controller) (front_at d.settings d.sequence area i) (qs i)
  slot-at i h k = slots-front ws (front_at d.settings d.sequence area) qs d.controllers d.settings.count i h (omega (arith, k, fits.controllers))

  pub seen_same : (id : ℕ) → seen_in d (length ws) (place_of d.settings id) ≡ seen_at (view in_words d ws area qs) (place_of d.settings id)
  seen_same id = go (place_of d.settings id) (λ i e. place_of-used d id i e) (λ i e. place_of-there d id i fits.identifiers e)
    where
      go : (p : Option ℕ) → ((i : ℕ) → p ≡ Some i → i < d.settings.count) → ((i : ℕ) → p ≡ Some i → i < 8) → seen_in d (length ws) p ≡ seen_at (view in_words d ws area qs) p
      go None h k = rw (sound-with, managed-same, counts_same, units-same)
      go (Some i) h k =
          let c = get_or d.controllers i no_controller in
          rw (sound-with, managed-same, counts_same, units-same, slot-at i (h i refl) (k i refl), tracked-same ws (front_at d.settings d.sequence area) qs c.manager c.base c.tracking c.ranges, places_same (qs i) c.queue, stopped-same (qs i) c.queue)

-- ---- another record of which one slot differs

module _ (d d' : Device) (ws ws' area area' : List ℕ) (qs qs' : ℕ → List ℕ) where
  -- the slot at a place, before and afterwards
  abbrev before : ℕ → Slot
  before j = slot_of in_words ws (get_or d.controllers j no_controller) (front_at d.settings d.sequence area j) (qs j)

  abbrev afterwards : ℕ → Slot
  afterwards j = slot_of in_words ws' (get_or d'.controllers j no_controller) (front_at d.settings d'.sequence area' j) (qs' j)

  pub view-with : (i : ℕ) → length d.controllers ≡ 8 → length d'.controllers ≡ 8 → d'.settings ≡ d.settings → d.settings.count ≤ 8 → i < d.settings.count
      → amiss_in d' ≡ amiss_in d → ((j : ℕ) → j ≢ i → j < d.settings.count → afterwards j ≡ before j)
      → view in_words d' ws' area' qs' ≡ with_slot (view in_words d ws area qs) (Some i) (afterwards i)
  view-with i eight eight' settings most used amiss same =
      ap (λ b. record { settings = d'.settings; slots = (view in_words d' ws' area' qs').slots; amiss = b }) amiss
      ∙ ap (λ (t : Settings). record { settings = t; slots = slots_from in_words ws' (front_at t d'.sequence area') qs' 0 (take t.count d'.controllers); amiss = amiss_in d }) settings
      ∙ ap (λ l. record { settings = d.settings; slots = l; amiss = amiss_in d }) (ext_get_or fresh_slot new old (sizes ∙ sym old-length) at)
    where
      n : ℕ
      n = d.settings.count

      f : ℕ → Option (List ℕ)
      f = front_at d.settings d.sequence area

      f' : ℕ → Option (List ℕ)
      f' = front_at d.settings d'.sequence area'

      new : List Slot
      new = slots_from in_words ws' f' qs' 0 (take n d'.controllers)

      old : List Slot
      old = set (slots_from in_words ws f qs 0 (take n d.controllers)) i (afterwards i)

      sizes : length new ≡ n
      sizes = slots_length ws' f' qs' (take n d'.controllers) 0 ∙ length-take-le n d'.controllers (omega (arith, eight', most))

      was : length (slots_from in_words ws f qs 0 (take n d.controllers)) ≡ n
      was = slots_length ws f qs (take n d.controllers) 0 ∙ length-take-le n d.controllers (omega (arith, eight, most))

      old-length : length old ≡ n
      old-length = length-set (slots_from in_words ws f qs 0 (take n d.controllers)) i (afterwards i) ∙ was

      at : (j : ℕ) → j < length new → get_or new j fresh_slot ≡ get_or old j fresh_slot
      at j h =
          let k : j < n = omega (arith, sizes, h) in
          slots-front ws' f' qs' d'.controllers n j k (omega (arith, k, most, eight')) ∙ go (eqb j i) refl k
        where
          go : (b : Bool) → eqb j i ≡ b → j < n → afterwards j ≡ get_or old j fresh_slot
          go true e k =
              let z = eqb-true j i e in
              rw z (sym (get_or-set_same (slots_from in_words ws f qs 0 (take n d.controllers)) i (afterwards i) fresh_slot (omega (arith, was, used))))
          go false e k =
              let z = eqb-false j i e in
              same j z k
              ∙ sym (slots-front ws f qs d.controllers n j k (omega (arith, k, most, eight)))
              ∙ sym (get_or-set_other (slots_from in_words ws f qs 0 (take n d.controllers)) i j (afterwards i) fresh_slot z)

-- ---- a state under way (W6): a controller is its owner exactly if it stands at the owner's place

at-owner : (s : Settings) (id i owner : ℕ) → place_of s id ≡ Some i → is_at (place_of s owner) i ≡ eqb owner id
at-owner s id i owner e = go (eqb owner id) refl (place_of s owner) refl
  where
    go : (b : Bool) → eqb owner id ≡ b → (p : Option ℕ) → place_of s owner ≡ p → is_at p i ≡ b
    go true q p f =
        let z : p ≡ Some i = sym f ∙ ap (place_of s) (eqb-true owner id q) ∙ e in
        ap (λ x. is_at x i) z ∙ eq-eqb i i refl
    go false q None f = refl
    go false q (Some j) f = ne_eqb j i (place_of-apart s owner id j i f e (eqb-false owner id q))

module _ (s : Settings) (id i : ℕ) (e : place_of s id ≡ Some i) where
  pub front-own : (q : Option Sequence) (area : List ℕ) → front_at s q area i ≡ front_in id q area
  front-own None area = refl
  front-own (Some seq) area = ap (λ b. cond b (Some (front_of seq.end area)) None) (at-owner s id i seq.owner e)

  -- where a state of its own or none is under way, none is at another place, and its owner is in the settings
  pub front-others : (q : Option Sequence) (area : List ℕ) → others_in id q ≡ false → (j : ℕ) → j ≢ i → front_at s q area j ≡ None
  front-others None area n j h = refl
  front-others (Some seq) area n j h =
      let z : seq.owner ≡ id = eqb-true seq.owner id (not-false (eqb seq.owner id) n) in
      rw (z, e, ne_eqb i j (λ x. h (sym x)))

  pub stray-own : (q : Option Sequence) → others_in id q ≡ false → stray_in s q ≡ false
  stray-own None n = refl
  stray-own (Some seq) n = let z : seq.owner ≡ id = eqb-true seq.owner id (not-false (eqb seq.owner id) n) in rw (z, e)

  -- dropping a state of its own leaves those of others
  pub front-dropped : (q : Option Sequence) (area : List ℕ) → front_at s (dropped id q) area i ≡ None
  front-dropped None area = refl
  front-dropped (Some seq) area = go (eqb seq.owner id) refl
    where
      go : (b : Bool) → eqb seq.owner id ≡ b → front_at s (cond b None (Some (record { owner = seq.owner; end = seq.end }))) area i ≡ None
      go true z = refl
      go false z = ap (λ b. cond b (Some (front_of seq.end area)) None) (at-owner s id i seq.owner e ∙ z)

  pub front-undropped : (q : Option Sequence) (area : List ℕ) (j : ℕ) → j ≢ i → front_at s (dropped id q) area j ≡ front_at s q area j
  front-undropped None area j h = refl
  front-undropped (Some seq) area j h = go (eqb seq.owner id) refl
    where
      go : (b : Bool) → eqb seq.owner id ≡ b → front_at s (cond b None (Some (record { owner = seq.owner; end = seq.end }))) area j ≡ front_at s (Some (record { owner = seq.owner; end = seq.end })) area j
      go true z = let y : seq.owner ≡ id = eqb-true seq.owner id z in rw (y, e, ne_eqb i j (λ x. h (sym x)))
      go false z = refl

  pub stray-dropped : (q : Option Sequence) → stray_in s (dropped id q) ≡ stray_in s q
  stray-dropped None = refl
  stray-dropped (Some seq) = go (eqb seq.owner id) refl
    where
      go : (b : Bool) → eqb seq.owner id ≡ b → stray_in s (cond b None (Some (record { owner = seq.owner; end = seq.end }))) ≡ stray_in s (Some (record { owner = seq.owner; end = seq.end }))
      go true z = let y : seq.owner ≡ id = eqb-true seq.owner id z in rw (y, e)
      go false z = refl

-- ---- what a part sees

module _ (d : Device) (ws area : List ℕ) (qs : ℕ → List ℕ) (fits : Fits d ws area) (id i : ℕ) (e : place_of d.settings id ≡ Some i) where
  used : i < d.settings.count
  used = place_of-used d id i e

  there : i < 8
  there = place_of-there d id i fits.identifiers e

  abbrev slots : List Slot
  slots = (view in_words d ws area qs).slots

  size : length slots ≡ length (controllers_of d)
  size = slots_length ws (front_at d.settings d.sequence area) qs (controllers_of d) 0

  -- each other slot has the bytes so far that stand at its place
  other-slot : (j : ℕ) → j ≢ i → j < length slots → is_open (get_or (set slots i fresh_slot) j fresh_slot) ≡ is_some (front_at d.settings d.sequence area j)
  other-slot j h k =
      let u : j < d.settings.count = omega (arith, k, size, length-take d.settings.count d.controllers) in
      let n : j < 8 = omega (arith, k, size, fits.controllers, length-take d.settings.count d.controllers) in
      ap is_open (get_or-set_other slots i j fresh_slot fresh_slot h) ∙ ap is_open (slot-at d ws area qs fits j u n)

  others_same : sound_device d ≡ true → others_in id d.sequence ≡ any is_open (set slots i fresh_slot)
  others_same sure = go d.sequence refl
    where
      shut : ((j : ℕ) → j ≢ i → front_at d.settings d.sequence area j ≡ None) → any is_open (set slots i fresh_slot) ≡ false
      shut f = any-nowhere is_open (set slots i fresh_slot) fresh_slot (λ j h. at j (omega (arith, h, length-set slots i fresh_slot)) (eqb j i) refl)
        where
          at : (j : ℕ) → j < length slots → (b : Bool) → eqb j i ≡ b → is_open (get_or (set slots i fresh_slot) j fresh_slot) ≡ false
          at j h true q = let z : j ≡ i = eqb-true j i q in rw (z, get_or-set_same slots i fresh_slot fresh_slot (omega (arith, h, z)))
          at j h false q = other-slot j (eqb-false j i q) h ∙ ap is_some (f j (eqb-false j i q))

      go : (q : Option Sequence) → d.sequence ≡ q → others_in id q ≡ any is_open (set slots i fresh_slot)
      go None f = sym (shut (λ j h. ap (λ x. front_at d.settings x area j) f))
      go (Some seq) f = own (eqb seq.owner id) refl
        where
          own : (b : Bool) → eqb seq.owner id ≡ b → not b ≡ any is_open (set slots i fresh_slot)
          own true z =
              sym (shut (λ j h. front-others d.settings id i e d.sequence area (ap (others_in id) f ∙ ap not z) j h))
          own false z = sym (placed (place_of d.settings seq.owner) refl)
            where
              placed : (p : Option ℕ) → place_of d.settings seq.owner ≡ p → any is_open (set slots i fresh_slot) ≡ true
              placed None r = absurd (true≢false (sym kept ∙ ap (λ x. suspended_at (controllers_of d) x && front_ok seq.end) r))
                where
                  kept : (suspended_at (controllers_of d) (place_of d.settings seq.owner) && front_ok seq.end) ≡ true
                  kept = sym (ap (sequence_ok d.settings (controllers_of d)) f) ∙ sound_device-sequence d sure
              placed (Some j) r =
                  let h : j ≢ i = place_of-apart d.settings seq.owner id j i r e (eqb-false seq.owner id z) in
                  let k : j < length slots = omega (arith, size, place_of-used d seq.owner j r, place_of-there d seq.owner j fits.identifiers r, fits.controllers, length-take d.settings.count d.controllers) in
                  any-from is_open (set slots i fresh_slot) j fresh_slot (omega (arith, k, length-set slots i fresh_slot))
                  (other-slot j h k ∙ rw (f, r, eq-eqb j j refl))

  -- the same of both: that of the record, and that of the device of the rules
  pub arriving-same : sound_device d ≡ true → arriving_in d.sequence area id ≡ arriving_at (view in_words d ws area qs) (Some i)
  arriving-same sure =
      rw (eq-eqb (length area) state_most fits.bytes, others_same sure, slot-at d ws area qs fits i used there, front-own d.settings id i e d.sequence area)
