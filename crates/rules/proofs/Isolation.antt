-- Demand 3: a session, seen by one controller, is its slot alone, unless a start of it is refused for what controllers share. Assumes nothing.
use mathlib.Core.Path.{◌≡◌, refl, sym, ap, ap₂, subst, ◌∙◌}
use mathlib.Core.Bool.{Bool, true, false, ◌&&◌, not, cond, true≢false}
use mathlib.Core.List.{List, [], ◌∷◌, ◌++◌, map}
use Rattle.std.specs.declared.option.Option.{Option}
use Rattle.std.specs.declared.option.Option.TheVariants.{None, Some}
use Prim.Native.Nat.{ℕ, zero, suc, ◌+◌, ◌<◌}
use native.Mathlib.Omega.{arith}
use lib.Dec.{leb, eqb}
use lib.ListN.{length, get_or, set}
use lib.Seq.{set-get_or}
use borrow.Author.Tests.{eqb-true, eqb-false, leb-true, le-leb}
use Rattle.rules.specs.Lists.{any, member, sum, is_some}
use Rattle.rules.specs.Refusals.{Test, ◌else◌, verdict}
use Rattle.rules.specs.Settings.{most_units, is_manager, limit_of, identifiers_of, place_of}
use Rattle.rules.specs.Units.{units}
use Rattle.rules.specs.StartData.{header_tests, granularity_of, count_of, ranges_of}
use Rattle.rules.specs.Order.{Op, start, stop, write, receive, suspend, resume, part, queue, make, post, take, Seen, Arriving, start_listed, start_own, start_shared, part_tests, order}
use Rattle.rules.specs.Device.{Held, held_count, held_count_by, held_units, cleaned, closed_settings}
use Rattle.rules.specs.Machine.{Answer, refused, Marks, off, on, Slot, fresh_slot, is_suspended, tracker_on, tracker_in, held_on, held_by, is_open, places_in, stopped_in, accepted, slot_step, State, fresh, sound_state, managed_in, counts_in, units_in, slot_at, with_slot, slot_of, seen_at, others_open, arriving_at, step_at, Call, Event, step, after, events, number_of}
use Rattle.rules.specs.History.{Did, only, history_of}
use Rattle.rules.specs.Demands.{unhindered, shared_refusals}
use Rattle.rules.specs.declared.Settings.{Settings}
use Rattle.rules.proofs.ListLaws.{and_left, and_right}
use Rattle.rules.proofs.RefusalLaws.{verdict-append, verdict-same}
use Rattle.rules.proofs.SlotHistory.{did}
use Rattle.rules.proofs.StateLaws.{Fits, Sized, place_of-fits, own_step, step-settings, step-sized, step-own-answer, step-own, step_other, fresh-has, fresh-sized, fresh-slot}
use Rattle.rules.proofs.SoundLaws.{step-sound, fresh-sum}

-- ---- what a controller's call sees, with j counts of its manager's, n counts and u units tracked

abbrev seen_for : Bool → Settings → ℕ → Slot → ℕ → ℕ → ℕ → Seen
seen_for b s a c j n u =
    record {
      sound = b;
      known = is_some (place_of s a);
      suspended = is_suspended c;
      tracker = tracker_in c;
      places = places_in c.queue;
      stopped = stopped_in c.queue;
      managed = λ (m : ℕ). j;
      counts = n;
      units = u;
    }

-- and what a part sees beside that, with a state of another under way or not (W6)
abbrev arriving_for : Bool → Slot → Arriving
arriving_for x c = record { area = true; others = x; front = c.front }

-- a slot's step with nobody else tracked, and no other's state under way
abbrev alone_step : Bool → Settings → ℕ → Slot → Op → Answer × Slot
alone_step b s a c o = slot_step s (seen_for b s a c 0 0 0) (arriving_for false c) c o

-- ---- the counts and units matter to a start that is refused with 11, 12 or 34, another's state to a part that is refused with 23, and all of them to nothing else

-- the tests of what controllers share
shared_same : {A : Type 0} (number : A → ℕ) (refuse : ℕ → ℕ → A) → ((k i : ℕ) → number (refuse k i) ≡ k) → (s : Settings) (m : ℕ) (x : List ℕ) (j n u : ℕ) (y : A)
    → not (member (number (verdict (start_shared s m u j n x) y refuse)) (11 ∷ 12 ∷ 34 ∷ [])) ≡ true
    → verdict (start_shared s m 0 0 0 x) y refuse ≡ verdict (start_shared s m u j n x) y refuse
shared_same number refuse f s m x j n u y = go (leb (us + u) most_units) refl (leb (count_of x + j) (limit_of s m)) refl (leb (count_of x + n) s.shelf) refl
  where
    us : ℕ
    us = length (units (granularity_of x) (ranges_of x))

    go : (a : Bool) → leb (us + u) most_units ≡ a → (b : Bool) → leb (count_of x + j) (limit_of s m) ≡ b → (c : Bool) → leb (count_of x + n) s.shelf ≡ c
        → not (member (number (cond a (cond b (cond c y (refuse 34 0)) (refuse 12 0)) (refuse 11 0))) (11 ∷ 12 ∷ 34 ∷ [])) ≡ true
        → cond (leb (us + 0) most_units) (cond (leb (count_of x + 0) (limit_of s m)) (cond (leb (count_of x + 0) s.shelf) y (refuse 34 0)) (refuse 12 0)) (refuse 11 0)
        ≡ cond a (cond b (cond c y (refuse 34 0)) (refuse 12 0)) (refuse 11 0)
    go true e true g true l z =
        let h = leb-true (us + u) most_units e in
        let k = leb-true (count_of x + j) (limit_of s m) g in
        let o = leb-true (count_of x + n) s.shelf l in
        rw (le-leb (us + 0) most_units (omega arith), le-leb (count_of x + 0) (limit_of s m) (omega arith), le-leb (count_of x + 0) s.shelf (omega arith))
    go true e true g false l z = absurd (true≢false (sym (rw (f 34 0) at z)))
    go true e false g c l z = absurd (true≢false (sym (rw (f 12 0) at z)))
    go false e b g c l z = absurd (true≢false (sym (rw (f 11 0) at z)))

slot_step-same : (b : Bool) (s : Settings) (a : ℕ) (c : Slot) (j n u : ℕ) (q : Bool) (o : Op)
    → not (member (number_of (slot_step s (seen_for b s a c j n u) (arriving_for q c) c o).0) (shared_refusals o)) ≡ true
    → alone_step b s a c o ≡ slot_step s (seen_for b s a c j n u) (arriving_for q c) c o
unfolding order
slot_step-same b s a c j n u q (start m x) f =
    verdict-append before (last 0 0 0) y refuse
    ∙ verdict-same Free before (verdict (last j n u) y refuse) (verdict (last 0 0 0) y refuse) refuse (shared_same number refuse (λ k i. refl) s m x j n u y)
    (subst Free (verdict-append before (last j n u) y refuse) f)
    ∙ sym (verdict-append before (last j n u) y refuse)
  where
    before : List Test
    before = start_own s m (seen_for b s a c 0 0 0) x

    last : ℕ → ℕ → ℕ → List Test
    last j n u = start_shared s m u j n x

    y : Answer × Slot
    y = accepted c (start m x)

    refuse : ℕ → ℕ → Answer × Slot
    refuse k i = (refused k i, c)

    number : Answer × Slot → ℕ
    number r = number_of r.0

    -- not refused for what is shared
    Free : Answer × Slot → Type 0
    Free r = not (member (number r) (11 ∷ 12 ∷ 34 ∷ [])) ≡ true
slot_step-same b s a c j n u q (stop m) f = refl
slot_step-same b s a c j n u q (write w) f = refl
slot_step-same b s a c j n u q (receive m x) f = refl
slot_step-same b s a c j n u q (suspend m kind) f = refl
slot_step-same b s a c j n u q (resume m) f = refl
slot_step-same b s a c j n u q (part m x) f = go b (is_manager s m) (is_some (place_of s a)) c.suspended q f
  where
    refuse : ℕ → ℕ → Answer × Slot
    refuse k i = (refused k i, c)

    at : Bool → Bool → Bool → Bool → Bool → Answer × Slot
    at b manager known f q =
        verdict ((b && true else 1) ∷ (manager else 2) ∷ (known else 2) ∷ (f else 13) ∷ part_tests (arriving_for q c) x) (accepted c (part m x)) refuse

    go : (b manager known f q : Bool) → not (member (number_of (at b manager known f q).0) (23 ∷ [])) ≡ true → at b manager known f false ≡ at b manager known f q
    go false manager known f q z = refl
    go true false known f q z = refl
    go true true false f q z = refl
    go true true true false q z = refl
    go true true true true false z = refl
    go true true true true true z = absurd (true≢false (sym z))
slot_step-same b s a c j n u q (queue bytes make) f = refl
slot_step-same b s a c j n u q (queue bytes (post x)) f = refl
slot_step-same b s a c j n u q (queue bytes (take asked x)) f = refl

-- a start asks for its own manager's counts alone
abbrev managed_for : State → Op → ℕ
managed_for st (start m x) = managed_in st m
managed_for st (stop m) = 0
managed_for st (write w) = 0
managed_for st (receive m x) = 0
managed_for st (suspend m kind) = 0
managed_for st (resume m) = 0
managed_for st (part m p) = 0
managed_for st (queue bytes k) = 0

-- so a controller's call sees what `seen_for` says
own-seen : (st : State) (a : ℕ) (o : Op)
    → own_step st a o
    ≡ slot_step st.settings (seen_for (sound_state st) st.settings a (slot_of st a) (managed_for st o) (counts_in st) (units_in st)) (arriving_for (others_open st (place_of st.settings a)) (slot_of st a)) (slot_of st a) o
unfolding order
own-seen st a (start m x) = refl
own-seen st a (stop m) = refl
own-seen st a (write w) = refl
own-seen st a (receive m x) = refl
own-seen st a (suspend m kind) = refl
own-seen st a (resume m) = refl
own-seen st a (part m p) = refl
own-seen st a (queue bytes make) = refl
own-seen st a (queue bytes (post x)) = refl
own-seen st a (queue bytes (take asked x)) = refl

-- ---- an unsound device stays as it is, so a device is as sound after a call as it was before

slot_step-unsound : (s : Settings) (v : Seen) (a : Arriving) (c : Slot) (o : Op) → v.sound ≡ false → slot_step s v a c o ≡ (refused 1 0, c)
unfolding order
slot_step-unsound s v a c (start m x) e = rw e
slot_step-unsound s v a c (stop m) e = rw e
slot_step-unsound s v a c (write w) e = rw e
slot_step-unsound s v a c (receive m x) e = rw e
slot_step-unsound s v a c (suspend m kind) e = rw e
slot_step-unsound s v a c (resume m) e = rw e
slot_step-unsound s v a c (part m x) e = rw e
slot_step-unsound s v a c (queue bytes k) e = rw e

pub with_slot-slot_at : (st : State) (p : Option ℕ) → with_slot st p (slot_at st p) ≡ st
with_slot-slot_at st None = refl
with_slot-slot_at st (Some i) = ap (λ l. record { settings = st.settings; slots = l; amiss = st.amiss }) (set-get_or st.slots i fresh_slot)

pub step-unsound : (st : State) (k : Call) → sound_state st ≡ false → step st k ≡ (refused 1 0, st)
unfolding step
step-unsound st k e = go (place_of st.settings k.id)
  where
    go : (p : Option ℕ) → step_at st p k.op ≡ (refused 1 0, st)
    go p = rw (slot_step-unsound st.settings (seen_at st p) (arriving_at st p) (slot_at st p) k.op e) (ap (λ (t : State). (refused 1 0, t)) (with_slot-slot_at st p))

step-sound-same : (st : State) (k : Call) → sound_state (step st k).1 ≡ sound_state st
step-sound-same st k = go (sound_state st) refl
  where
    go : (b : Bool) → sound_state st ≡ b → sound_state (step st k).1 ≡ b
    go true e = step-sound st k e
    go false e = ap (λ (r : Answer × State). sound_state r.1) (step-unsound st k e) ∙ e

-- ---- a controller's calls on its slot alone

abbrev ops : ℕ → List Call → List Op
ops a [] = []
ops a (k ∷ ks) = cond (eqb k.id a) (k.op ∷ ops a ks) (ops a ks)

abbrev alone_after : Bool → Settings → ℕ → Slot → List Op → Slot
alone_after b s a c [] = c
alone_after b s a c (o ∷ os) = alone_after b s a (alone_step b s a c o).1 os

abbrev alone_did : Bool → Settings → ℕ → Slot → List Op → List Did
alone_did b s a c [] = []
alone_did b s a c (o ∷ os) = did o (alone_step b s a c o).0 ∷ alone_did b s a (alone_step b s a c o).1 os

-- what a session is for controller a, from a device on
pub record Seems (a : ℕ) (st : State) (ks : List Call) (os : List Op) : Type 0 where
  pub history : history_of a (events st ks) ≡ alone_did (sound_state st) st.settings a (slot_of st a) os
  pub end : slot_of (after st ks) a ≡ alone_after (sound_state st) st.settings a (slot_of st a) os

-- a call to another leaves all of it
seems-other : (a : ℕ) (st : State) (k : Call) (ks : List Call) (os : List Op) → (k.id ≡ a → ⊥) → Seems a (step st k).1 ks os
    → (history_of a (events (step st k).1 ks) ≡ alone_did (sound_state st) st.settings a (slot_of st a) os)
    × (slot_of (after (step st k).1 ks) a ≡ alone_after (sound_state st) st.settings a (slot_of st a) os)
seems-other a st k ks os f h = (
  h.history ∙ rw (step_other st k a f, step-sound-same st k, step-settings st k),
  h.end ∙ rw (step_other st k a f, step-sound-same st k, step-settings st k),
)

-- a call of its own is a step of the slot alone, if it sees no more
seems-own : (a : ℕ) (st : State) (k : Call) (ks : List Call) (os : List Op) → Sized st → k.id ≡ a
    → own_step st a k.op ≡ alone_step (sound_state st) st.settings a (slot_of st a) k.op → Seems a (step st k).1 ks os
    → (did k.op (step st k).0 ∷ history_of a (events (step st k).1 ks) ≡ alone_did (sound_state st) st.settings a (slot_of st a) (k.op ∷ os))
    × (slot_of (after (step st k).1 ks) a ≡ alone_after (sound_state st) st.settings a (slot_of st a) (k.op ∷ os))
seems-own a st k ks os z own same h =
    let to : slot_of (step st k).1 a ≡ (alone_step (sound_state st) st.settings a (slot_of st a) k.op).1 = step-own st k a z own ∙ ap (λ (r : Answer × Slot). r.1) same in
    let said : (step st k).0 ≡ (alone_step (sound_state st) st.settings a (slot_of st a) k.op).0 = step-own-answer st k a own ∙ ap (λ (r : Answer × Slot). r.0) same in (
      ap₂ (λ x l. did k.op x ∷ l) said (h.history ∙ rw (to, step-sound-same st k, step-settings st k)),
      h.end ∙ rw (to, step-sound-same st k, step-settings st k),
    )

-- ---- a session in which it is not hindered

pub seems-unhindered : (a : ℕ) (ks : List Call) (st : State) → Sized st → unhindered (history_of a (events st ks)) ≡ true → Seems a st ks (ops a ks)
seems-unhindered a [] st z f = record { history = refl; end = refl }
seems-unhindered a (k ∷ ks) st z f =
    let r = go (eqb k.id a) refl (seems-unhindered a ks (step st k).1 (step-sized st k z)) f in
    record { history = r.0; end = r.1 }
  where
    st' : State
    st' = (step st k).1

    es : List Event
    es = events st' ks

    d : Did
    d = did k.op (step st k).0

    go : (b : Bool) → eqb k.id a ≡ b → (unhindered (history_of a es) ≡ true → Seems a st' ks (ops a ks))
        → unhindered (cond b (d ∷ history_of a es) (history_of a es)) ≡ true
        → (cond b (d ∷ history_of a es) (history_of a es) ≡ alone_did (sound_state st) st.settings a (slot_of st a) (cond b (k.op ∷ ops a ks) (ops a ks)))
        × (slot_of (after st' ks) a ≡ alone_after (sound_state st) st.settings a (slot_of st a) (cond b (k.op ∷ ops a ks) (ops a ks)))
    go true q ih f =
        let own : k.id ≡ a = eqb-true k.id a q in
        let free : not (member (number_of (own_step st a k.op).0) (shared_refusals k.op)) ≡ true =
        subst (λ (x : Answer). not (member (number_of x) (shared_refusals k.op)) ≡ true) (step-own-answer st k a own)
        (and_left (not (member (number_of (step st k).0) (shared_refusals k.op))) (unhindered (history_of a es)) f) in
        let seen = own-seen st a k.op in
        seems-own a st k ks (ops a ks) z own
        (seen ∙ sym (slot_step-same (sound_state st) st.settings a (slot_of st a) (managed_for st k.op) (counts_in st) (units_in st) (others_open st (place_of st.settings a)) k.op
        (subst (λ (y : Answer × Slot). not (member (number_of y.0) (shared_refusals k.op)) ≡ true) seen free)))
        (ih (and_right (not (member (number_of (step st k).0) (shared_refusals k.op))) (unhindered (history_of a es)) f))
    go false q ih f = seems-other a st k ks (ops a ks) (eqb-false k.id a q) (ih f)

-- ---- a session of its calls alone: the counts and units are its own, which do not matter to it

own-count : (b : Bool) (s : Settings) (a : ℕ) (c : Slot) (o : Op) (j n u : ℕ) → (is_some (tracker_in c) ≡ false → (j ≡ 0) × (n ≡ 0) × (u ≡ 0))
    → slot_step s (seen_for b s a c j n u) (arriving_for false c) c o ≡ alone_step b s a c o
unfolding order
own-count b s a c (start m x) j n u h = go b (is_manager s m) (is_some (place_of s a)) c.suspended (is_some (tracker_in c)) refl
  where
    at : Bool → Bool → Bool → Bool → Bool → ℕ → ℕ → ℕ → Answer × Slot
    at b manager known f tracked j n u =
        verdict
        (((b else 1) ∷ (manager else 2) ∷ (known else 2) ∷ (not f else 4) ∷ (not tracked else 3) ∷ header_tests x ++ start_listed s x) ++ start_shared s m u j n x)
        (accepted c (start m x)) (λ k i. (refused k i, c))

    go : (b manager known f tracked : Bool) → is_some (tracker_in c) ≡ tracked → at b manager known f tracked j n u ≡ at b manager known f tracked 0 0 0
    go false manager known f tracked e = refl
    go true false known f tracked e = refl
    go true true false f tracked e = refl
    go true true true true tracked e = refl
    go true true true false true e = refl
    go true true true false false e = let z = h e in rw (z.0, z.1, z.2)
own-count b s a c (stop m) j n u h = refl
own-count b s a c (write w) j n u h = refl
own-count b s a c (receive m x) j n u h = refl
own-count b s a c (suspend m kind) j n u h = refl
own-count b s a c (resume m) j n u h = refl
own-count b s a c (part m x) j n u h = refl
own-count b s a c (queue bytes make) j n u h = refl
own-count b s a c (queue bytes (post x)) j n u h = refl
own-count b s a c (queue bytes (take asked x)) j n u h = refl

-- nobody but a is tracked, and no other's state is under way
pub record Lonely (a : ℕ) (st : State) : Type 0 where
  pub managed : (m : ℕ) → managed_in st m ≡ held_count_by m (held_by (slot_of st a))
  pub counts : counts_in st ≡ held_count (held_by (slot_of st a))
  pub units : units_in st ≡ held_units (held_by (slot_of st a))
  pub shut : others_open st (place_of st.settings a) ≡ false

-- what its slot holds, by any measure, is all that is held
module _ (f : Option Held → ℕ) (zero-none : f None ≡ 0) where
  sum-set : (cs : List Slot) (i : ℕ) (c : Slot) → i < length cs
      → sum (map f (map held_by (set cs i c))) + f (held_by (get_or cs i fresh_slot)) ≡ sum (map f (map held_by cs)) + f (held_by c)
  sum-set [] i c h = absurd (omega arith)
  sum-set (x ∷ cs) zero c h = omega arith
  sum-set (x ∷ cs) (suc i) c h = omega (arith, sum-set cs i c (omega arith))

  abbrev held_in : State → ℕ
  held_in st = sum (map f (map held_by st.slots))

  held-step : (a : ℕ) (st : State) (k : Call) → Sized st → k.id ≡ a → held_in st ≡ f (held_by (slot_of st a)) → held_in (step st k).1 ≡ f (held_by (slot_of (step st k).1 a))
  unfolding step
  held-step a st k z own l =
      rw (step-own st k a z own) (rw own (go (place_of st.settings a) refl (place_of-fits st z a)))
    where
      go : (p : Option ℕ) → place_of st.settings a ≡ p → Fits p st.slots → held_in (step_at st p k.op).1 ≡ f (held_by (own_step st a k.op).1)
      go None e h =
          let r : slot_of (step st k).1 a ≡ fresh_slot = ap (λ (s : Settings). slot_at (step st k).1 (place_of s a)) (step-settings st k) ∙ rw e in
          let q : (own_step st a k.op).1 ≡ fresh_slot = sym (step-own st k a z own) ∙ r in
          let was : slot_of st a ≡ fresh_slot = rw e in
          l ∙ ap (λ (c : Slot). f (held_by c)) (was ∙ sym q)
      go (Some i) e h =
          let was : held_in st ≡ f (held_by (get_or st.slots i fresh_slot)) = rw e at l in
          rw e (omega (arith, sum-set st.slots i (slot_step st.settings (seen_at st (Some i)) (arriving_at st (Some i)) (get_or st.slots i fresh_slot) k.op).1 h, was))

set_twice : (cs : List Slot) (i : ℕ) (x y : Slot) → set (set cs i x) i y ≡ set cs i y
set_twice [] i x y = refl
set_twice (c ∷ cs) zero x y = refl
set_twice (c ∷ cs) (suc i) x y = ap (λ l. c ∷ l) (set_twice cs i x y)

shut-step : (a : ℕ) (st : State) (k : Call) → k.id ≡ a → others_open (step st k).1 (place_of st.settings a) ≡ others_open st (place_of st.settings a)
unfolding step
shut-step a st k own = rw own (go (place_of st.settings a))
  where
    go : (p : Option ℕ) → others_open (step_at st p k.op).1 p ≡ others_open st p
    go None = refl
    go (Some i) = ap (any is_open) (set_twice st.slots i _ fresh_slot)

lonely-step : (a : ℕ) (st : State) (k : Call) → Sized st → k.id ≡ a → Lonely a st → Lonely a (step st k).1
lonely-step a st k z own l =
    record {
      managed = λ m. held-step (held_count_by m) refl a st k z own (l.managed m);
      counts = held-step held_count refl a st k z own l.counts;
      units = held-step held_units refl a st k z own l.units;
      shut = ap (λ (s : Settings). others_open (step st k).1 (place_of s a)) (step-settings st k) ∙ shut-step a st k own ∙ l.shut;
    }

-- while it is not tracked, nothing is
lonely-off : (a : ℕ) (st : State) → Lonely a st → is_some (tracker_in (slot_of st a)) ≡ false → (o : Op) → (managed_for st o ≡ 0) × (counts_in st ≡ 0) × (units_in st ≡ 0)
lonely-off a st l e o = go (slot_of st a).marks refl
  where
    go : (t : Marks) → (slot_of st a).marks ≡ t → (managed_for st o ≡ 0) × (counts_in st ≡ 0) × (units_in st ≡ 0)
    go (on g rs p) q = absurd (true≢false (sym (ap (λ t. is_some (tracker_on (slot_of st a).manager t)) q) ∙ e))
    go off q =
        let holds : held_by (slot_of st a) ≡ None = ap (held_on (slot_of st a).manager) q in (
          none-managed o holds,
          l.counts ∙ ap held_count holds,
          l.units ∙ ap held_units holds,
        )
      where
        none-managed : (o : Op) → held_by (slot_of st a) ≡ None → managed_for st o ≡ 0
        none-managed (start m x) holds = l.managed m ∙ ap (held_count_by m) holds
        none-managed (stop m) holds = refl
        none-managed (write w) holds = refl
        none-managed (receive m x) holds = refl
        none-managed (suspend m kind) holds = refl
        none-managed (resume m) holds = refl
        none-managed (part m p) holds = refl
        none-managed (queue bytes k) holds = refl

pub seems-alone : (a : ℕ) (ks : List Call) (st : State) → Sized st → Lonely a st → Seems a st (only a ks) (ops a ks)
seems-alone a [] st z l = record { history = refl; end = refl }
seems-alone a (k ∷ ks) st z l = go (eqb k.id a) refl (λ t. seems-alone a ks t)
  where
    go : (b : Bool) → eqb k.id a ≡ b → ((t : State) → Sized t → Lonely a t → Seems a t (only a ks) (ops a ks))
        → Seems a st (cond b (k ∷ only a ks) (only a ks)) (cond b (k.op ∷ ops a ks) (ops a ks))
    go true q ih =
        let own : k.id ≡ a = eqb-true k.id a q in
        let same : own_step st a k.op ≡ alone_step (sound_state st) st.settings a (slot_of st a) k.op =
        own-seen st a k.op
        ∙ ap (λ x. slot_step st.settings (seen_for (sound_state st) st.settings a (slot_of st a) (managed_for st k.op) (counts_in st) (units_in st)) (arriving_for x (slot_of st a)) (slot_of st a) k.op) l.shut
        ∙ own-count (sound_state st) st.settings a (slot_of st a) k.op (managed_for st k.op) (counts_in st) (units_in st) (λ e. lonely-off a st l e k.op) in
        let r = seems-own a st k (only a ks) (ops a ks) z own same (ih (step st k).1 (step-sized st k z) (lonely-step a st k z own l)) in
        record { history = rw q r.0; end = r.1 }
    go false q ih = ih st z l

-- ---- from a fresh device

fresh-all-shut : (xs : List ℕ) → any is_open (map (λ (i : ℕ). fresh_slot) xs) ≡ false
fresh-all-shut [] = refl
fresh-all-shut (x ∷ xs) = fresh-all-shut xs

fresh-shut : (s : Settings) (xs : List ℕ) (p : Option ℕ) → others_open (record { settings = s; slots = map (λ (i : ℕ). fresh_slot) xs; amiss = false }) p ≡ false
fresh-shut s xs None = fresh-all-shut xs
fresh-shut s xs (Some i) = go xs i
  where
    go : (xs : List ℕ) (i : ℕ) → any is_open (set (map (λ (i : ℕ). fresh_slot) xs) i fresh_slot) ≡ false
    go [] i = refl
    go (x ∷ xs) zero = fresh-all-shut xs
    go (x ∷ xs) (suc i) = go xs i

fresh-lonely : (s : Settings) (words a : ℕ) → Lonely a (fresh s words)
fresh-lonely s words a =
    record {
      managed = λ m. rw (fresh-slot s words a) (fresh-has (λ st. managed_in st m ≡ 0) s words (fresh-sum (held_count_by m) refl (identifiers_of s)) refl);
      counts = rw (fresh-slot s words a) (fresh-has (λ st. counts_in st ≡ 0) s words (fresh-sum held_count refl (identifiers_of s)) refl);
      units = rw (fresh-slot s words a) (fresh-has (λ st. units_in st ≡ 0) s words (fresh-sum held_units refl (identifiers_of s)) refl);
      shut = fresh-has (λ st. others_open st (place_of st.settings a) ≡ false) s words (fresh-shut (cleaned s) (identifiers_of s) (place_of (cleaned s) a)) (fresh-shut closed_settings [] (place_of closed_settings a));
    }

-- a session in which a is not hindered is, for it, the session of its calls alone
pub history-alone : (s : Settings) (words a : ℕ) (ks : List Call) → unhindered (history_of a (events (fresh s words) ks)) ≡ true
    → history_of a (events (fresh s words) ks) ≡ history_of a (events (fresh s words) (only a ks))
history-alone s words a ks f =
    (seems-unhindered a ks (fresh s words) (fresh-sized s words) f).history
    ∙ sym (seems-alone a ks (fresh s words) (fresh-sized s words) (fresh-lonely s words a)).history

pub slot-alone : (s : Settings) (words a : ℕ) (ks : List Call) → unhindered (history_of a (events (fresh s words) ks)) ≡ true
    → slot_of (after (fresh s words) ks) a ≡ slot_of (after (fresh s words) (only a ks)) a
slot-alone s words a ks f =
    (seems-unhindered a ks (fresh s words) (fresh-sized s words) f).end
    ∙ sym (seems-alone a ks (fresh s words) (fresh-sized s words) (fresh-lonely s words a)).end
