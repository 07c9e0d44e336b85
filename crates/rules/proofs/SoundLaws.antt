-- From a fresh device no sequence of calls leads to an unsound one: a call leaves its own slot sound and the counts within the limits.
-- Assumes nothing.
use mathlib.Core.Path.{◌≡◌, refl, sym, ap, subst, ◌∙◌}
use mathlib.Core.Logic.{◌≢◌}
use mathlib.Core.Bool.{Bool, true, false, ◌&&◌, ◌||◌, not, cond, true≢false}
use mathlib.Core.List.{List, [], ◌∷◌, map}
use Rattle.std.specs.declared.option.Option.{Option}
use Rattle.std.specs.declared.option.Option.TheVariants.{None, Some}
use Prim.Native.Nat.{ℕ, zero, suc, ◌+◌, ◌%◌, ◌≤◌}
use native.Mathlib.Omega.{arith}
use lib.Dec.{leb, eqb}
use lib.ListN.{length, get_or, set}
use borrow.Author.Tests.{leb-true, le-leb, eqb-true}
use Rattle.rules.specs.Lists.{all, sum}
use Rattle.rules.specs.Refusals.{refusal}
use Rattle.rules.specs.Settings.{mark_words, most_units, second_rules, settings_ok, managers_of, is_manager, limit_of, identifiers_of, place_of}
use Rattle.rules.specs.Units.{Write}
use Rattle.rules.specs.Ranges.{list_tests}
use Rattle.rules.specs.StartData.{granularity_of, count_of, ranges_of}
use Rattle.rules.specs.ControllerState.{state_most}
use Rattle.rules.specs.Order.{Op, start, stop, write, receive, suspend, resume, part, queue, is_last, joined_with, Seen, Arriving, fresh_order, order}
use Rattle.rules.specs.Device.{Held, held_ok, held_count, held_count_by, counts_by, is_within, held_units, front_ok, sound, sound_rules, cleaned}
use Rattle.rules.specs.Machine.{Answer, refused, done, assembled, Marks, off, on, Slot, fresh_slot, held_on, held_by, front_kept, open_ok, wrote_in, reported_in, accepted, slot_step, State, closed, opened, fresh, sound_state, seen_at, arriving_at, step_at, Call, step, after}
use Rattle.rules.specs.declared.Second.{Second}
use Rattle.rules.specs.declared.Settings.{Settings}
use Rattle.rules.proofs.ListLaws.{all-member, all-members, all_set, all_get_d, every-at, and_left, and_right, and_intro, map-set}
use Rattle.rules.proofs.RefusalLaws.{Passed, verdict-has, verdict-refused, passes-all}
use Rattle.rules.proofs.StartLaws.{ranges_of-length}
use Rattle.rules.proofs.OrderLaws.{StartPassed, start_order-passed, PartPassed, part_order-passed, joined-front}
use Rattle.rules.proofs.StateLaws.{cleaned-identifiers}

-- ---- what soundness says

module _ (s : Settings) (hs : List (Option Held)) (q : Bool) where
  pub sound-settings : sound s hs q ≡ true → settings_ok s ≡ true
  unfolding sound
  sound-settings e = every-at (sound_rules s hs q) 0 e

  pub sound-held : sound s hs q ≡ true → all (held_ok s) hs ≡ true
  unfolding sound
  sound-held e = every-at (sound_rules s hs q) 1 e

  pub sound-managed : sound s hs q ≡ true → (m : ℕ) → is_manager s m ≡ true → counts_by m hs ≤ limit_of s m
  unfolding sound is_manager
  sound-managed e m k = leb-true (counts_by m hs) (limit_of s m) (all-member (is_within s hs) (managers_of s) m (every-at (sound_rules s hs q) 2 e) k)

  pub sound-shelf : sound s hs q ≡ true → sum (map held_count hs) ≤ s.shelf
  unfolding sound
  sound-shelf e = leb-true (sum (map held_count hs)) s.shelf (every-at (sound_rules s hs q) 3 e)

  pub sound-units : sound s hs q ≡ true → sum (map held_units hs) ≤ most_units
  unfolding sound
  sound-units e = leb-true (sum (map held_units hs)) most_units (every-at (sound_rules s hs q) 4 e)

  pub sound-rest : sound s hs q ≡ true → q ≡ true
  unfolding sound
  sound-rest e = every-at (sound_rules s hs q) 5 e

  pub sound-intro : settings_ok s ≡ true → all (held_ok s) hs ≡ true → ((m : ℕ) → is_manager s m ≡ true → counts_by m hs ≤ limit_of s m) → sum (map held_count hs) ≤ s.shelf
      → sum (map held_units hs) ≤ most_units → q ≡ true → sound s hs q ≡ true
  unfolding sound is_manager
  sound-intro e f l c u z =
      rw (e, f, all-members (is_within s hs) (managers_of s) (λ m k. le-leb (counts_by m hs) (limit_of s m) (l m k)), le-leb (sum (map held_count hs)) s.shelf c, le-leb (sum (map held_units hs)) most_units u, z)

-- ---- one slot

-- it holds what it may, and counts and units that had its old ones in them are within the limits and the pool with its new ones: from what it held and what it holds
pub record Stays (s : Settings) (v : Seen) (x y : Option Held) : Type 0 where
  pub ok : held_ok s y ≡ true
  pub managed : (m : ℕ) → is_manager s m ≡ true → v.managed m + held_count_by m y ≤ limit_of s m + held_count_by m x
  pub counts : v.counts + held_count y ≤ s.shelf + held_count x
  pub units : v.units + held_units y ≤ most_units + held_units x

-- what a call sees is within all of them
record Within (s : Settings) (v : Seen) : Type 0 where
  managed : (m : ℕ) → is_manager s m ≡ true → v.managed m ≤ limit_of s m
  counts : v.counts ≤ s.shelf
  units : v.units ≤ most_units

started-ok : (s : Settings) (m : ℕ) (v : Seen) (x : List ℕ) → StartPassed s m v x
    → held_ok s (Some (record { manager = m; granularity = granularity_of x; count = length (ranges_of x); ranges = ranges_of x })) ≡ true
unfolding held_ok
started-ok s m v x p = rw (p.manager, ranges_of-length x, p.granularity) (passes-all (list_tests s (granularity_of x) (count_of x) (ranges_of x)) p.list)

-- a slot that holds the same
stays_same : (s : Settings) (v : Seen) (x y : Option Held) → y ≡ x → held_ok s x ≡ true → Within s v → Stays s v x y
stays_same s v x y q e h =
    record {
      ok = ap (held_ok s) q ∙ e;
      managed = λ m k. omega (arith, ap (held_count_by m) q, h.managed m k);
      counts = omega (arith, ap held_count q, h.counts);
      units = omega (arith, ap held_units q, h.units);
    }

-- a write and a report leave what is held
wrote_in-held : (w : Write) (m : ℕ) (t : Marks) → held_on m (wrote_in w t).1 ≡ held_on m t
wrote_in-held w m off = refl
wrote_in-held w m (on g rs p) = refl

reported_in-held : (b : Bool) (bytes m : ℕ) (t : Marks) → held_on m (reported_in b bytes t).1 ≡ held_on m t
reported_in-held b bytes m off = refl
reported_in-held b bytes m (on g rs p) = refl

-- with the new one's counts its own manager is within its limit, and every other as before
started-managed : (s : Settings) (m : ℕ) (v : Seen) (x : List ℕ) → StartPassed s m v x → Within s v → (j : ℕ) → is_manager s j ≡ true
    → v.managed j + cond (eqb m j) (length (ranges_of x)) 0 ≤ limit_of s j
started-managed s m v x q h j k = go (eqb m j) refl
  where
    go : (b : Bool) → eqb m j ≡ b → v.managed j + cond b (length (ranges_of x)) 0 ≤ limit_of s j
    go true e = subst (λ i. v.managed i + length (ranges_of x) ≤ limit_of s i) (eqb-true m j e) (omega (arith, q.limit, ranges_of-length x))
    go false e = omega (arith, h.managed j k)

held_ok-none : (s : Settings) → held_ok s None ≡ true
unfolding held_ok
held_ok-none s = refl

accepted-stays : (s : Settings) (v : Seen) (a : Arriving) (c : Slot) (o : Op) → Passed (order s v a o) → held_ok s (held_by c) ≡ true → Within s v → Stays s v (held_by c) (held_by (accepted c o).1)
unfolding order
accepted-stays s v a c (start m x) p e h =
    let q = start_order-passed s m v x p in
    record {
      ok = started-ok s m v x q;
      managed = λ j k. omega (arith, started-managed s m v x q h j k);
      counts = omega (arith, q.shelf, ranges_of-length x);
      units = omega (arith, q.room);
    }
accepted-stays s v a c (stop m) p e h =
    record { ok = held_ok-none s; managed = λ j k. omega (arith, h.managed j k); counts = omega (arith, h.counts); units = omega (arith, h.units) }
accepted-stays s v a c (write w) p e h = stays_same s v (held_by c) _ (wrote_in-held w c.manager c.marks) e h
accepted-stays s v a c (receive m x) p e h = stays_same s v (held_by c) _ (reported_in-held c.suspended (length x) c.manager c.marks) e h
accepted-stays s v a c (suspend m kind) p e h = stays_same s v (held_by c) (held_by c) refl e h
accepted-stays s v a c (resume m) p e h = stays_same s v (held_by c) (held_by c) refl e h
accepted-stays s v a c (part m x) p e h = stays_same s v (held_by c) (held_by c) refl e h
accepted-stays s v a c (queue bytes k) p e h = stays_same s v (held_by c) (held_by c) refl e h

slot_step-stays : (s : Settings) (v : Seen) (a : Arriving) (c : Slot) (o : Op) → held_ok s (held_by c) ≡ true → Within s v
    → Stays s v (held_by c) (held_by (slot_step s v a c o).1)
slot_step-stays s v a c o e h =
    verdict-has (λ (r : Answer × Slot). Stays s v (held_by c) (held_by r.1)) (λ n i. (refused n i, c))
    (λ n i. stays_same s v (held_by c) (held_by c) refl e h) (order s v a o) (accepted c o)
    (λ p. accepted-stays s v a c o p e h)

-- W6: a state that is under way stays as it may be
kept_more : (b k : Bool) (f : Option (List ℕ)) → front_kept b f ≡ true → front_kept (b || k) f ≡ true
kept_more true k f e = e
kept_more false k None e = refl
kept_more false k (Some f) e = absurd (true≢false (sym e))

kept-dwords : (b : Bool) (g : Option (List ℕ)) → front_kept b g ≡ true → (f : List ℕ) → g ≡ Some f → length f % 4 ≡ 0
kept-dwords b g e f z =
    let k : (b && front_ok (length f)) ≡ true = sym (ap (front_kept b) z) ∙ e in
    let r = and_right b (front_ok (length f)) k in
    eqb-true (length f % 4) 0 (and_right (leb (length f) state_most) _ (and_right (leb 4 (length f)) _ r))

accepted-open : (s : Settings) (v : Seen) (a : Arriving) (c : Slot) (o : Op) → Passed (order s v a o) → v.suspended ≡ c.suspended → a.front ≡ c.front → open_ok c ≡ true
    → open_ok (accepted c o).1 ≡ true
unfolding order
accepted-open s v a c (start m x) p f g e = e
accepted-open s v a c (stop m) p f g e = e
accepted-open s v a c (write w) p f g e = e
accepted-open s v a c (receive m x) p f g e = e
accepted-open s v a c (suspend m kind) p f g e = kept_more c.suspended (eqb kind 1) c.front e
accepted-open s v a c (resume m) p f g e = refl
accepted-open s v a c (queue bytes k) p f g e = e
accepted-open s v a c (part m x) p f g e = go (is_last x) refl
  where
    q : PartPassed v a x
    q = part_order-passed s m v a x p

    go : (b : Bool) → is_last x ≡ b → front_kept c.suspended (cond {A = Answer × Option (List ℕ)} b (assembled (joined_with c.front x), None) (done, Some (joined_with c.front x))).1 ≡ true
    go true l = refl
    go false l =
        and_intro c.suspended _ (sym f ∙ q.suspended)
        (subst (λ (w : Option (List ℕ)). front_ok (length (joined_with w x)) ≡ true) g (joined-front v a x q l (λ y z. kept-dwords c.suspended c.front e y (sym g ∙ z))))

slot_step-open : (s : Settings) (v : Seen) (a : Arriving) (c : Slot) (o : Op) → v.suspended ≡ c.suspended → a.front ≡ c.front → open_ok c ≡ true → open_ok (slot_step s v a c o).1 ≡ true
slot_step-open s v a c o f g e =
    verdict-has (λ (r : Answer × Slot). open_ok r.1 ≡ true) (λ n i. (refused n i, c)) (λ n i. e) (order s v a o) (accepted c o) (λ p. accepted-open s v a c o p f g e)

-- ---- the device

sum-set : (f : Option Held → ℕ) → f None ≡ 0 → (cs : List Slot) (i : ℕ) (c : Slot)
    → sum (map f (map held_by (set cs i c))) + f (held_by (get_or cs i fresh_slot)) ≤ sum (map f (map held_by cs)) + f (held_by c)
sum-set f z [] i c = omega (arith, z)
sum-set f z (x ∷ cs) zero c = omega arith
sum-set f z (x ∷ cs) (suc i) c = omega (arith, sum-set f z cs i c)

all-held_by : (s : Settings) (cs : List Slot) (i : ℕ) → all (held_ok s) (map held_by cs) ≡ true → held_ok s (held_by (get_or cs i fresh_slot)) ≡ true
all-held_by s [] i e = held_ok-none s
all-held_by s (x ∷ cs) zero e = and_left (held_ok s (held_by x)) (all (held_ok s) (map held_by cs)) e
all-held_by s (x ∷ cs) (suc i) e = all-held_by s cs i (and_right (held_ok s (held_by x)) (all (held_ok s) (map held_by cs)) e)

pub step-sound : (st : State) (k : Call) → sound_state st ≡ true → sound_state (step st k).1 ≡ true
unfolding step
step-sound st k e = go (place_of s k.id)
  where
    s : Settings
    s = st.settings

    cs : List Slot
    cs = st.slots

    go : (p : Option ℕ) → sound_state (step_at st p k.op).1 ≡ true
    go None = e
    go (Some i) =
        let v = seen_at st (Some i) in
        let w = arriving_at st (Some i) in
        let x = get_or cs i fresh_slot in
        let c : Slot = (slot_step s v w x k.op).1 in
        let stays = slot_step-stays s v w x k.op (all-held_by s cs i (sound-held s (map held_by cs) _ e)) (record { managed = sound-managed s (map held_by cs) _ e; counts = sound-shelf s (map held_by cs) _ e; units = sound-units s (map held_by cs) _ e }) in
        let apart = sound-rest s (map held_by cs) _ e in
        let opens = and_right (not st.amiss) (all open_ok cs) apart in
        sound-intro s (map held_by (set cs i c)) _ (sound-settings s (map held_by cs) _ e)
        (rw (map-set held_by cs i c) (all_set (held_ok s) (map held_by cs) i (held_by c) (sound-held s (map held_by cs) _ e) stays.ok))
        (λ m k. omega (arith, sum-set (held_count_by m) refl cs i c, stays.managed m k))
        (omega (arith, sum-set held_count refl cs i c, stays.counts))
        (omega (arith, sum-set held_units refl cs i c, stays.units))
        (and_intro (not st.amiss) (all open_ok (set cs i c)) (and_left (not st.amiss) (all open_ok cs) apart)
        (all_set open_ok cs i c opens (slot_step-open s v w x k.op refl refl (all_get_d open_ok cs i fresh_slot refl opens))))

pub after-sound : (ks : List Call) (st : State) → sound_state st ≡ true → sound_state (after st ks) ≡ true
after-sound [] st e = e
after-sound (k ∷ ks) st e = after-sound ks (step st k).1 (step-sound st k e)

-- ---- a fresh device

fresh-held : (s : Settings) (xs : List ℕ) → all (held_ok s) (map held_by (map (λ (i : ℕ). fresh_slot) xs)) ≡ true
fresh-held s [] = refl
fresh-held s (x ∷ xs) = and_intro (held_ok s None) _ (held_ok-none s) (fresh-held s xs)

pub fresh-sum : (f : Option Held → ℕ) → f None ≡ 0 → (xs : List ℕ) → sum (map f (map held_by (map (λ (i : ℕ). fresh_slot) xs))) ≡ 0
fresh-sum f z [] = refl
fresh-sum f z (x ∷ xs) = omega (arith, z, fresh-sum f z xs)

fresh-closed-off : (xs : List ℕ) → all open_ok (map (λ (i : ℕ). fresh_slot) xs) ≡ true
fresh-closed-off [] = refl
fresh-closed-off (x ∷ xs) = fresh-closed-off xs

cleaned-second : (s : Settings) (x : Option Second) → second_rules (cleaned s) x ≡ second_rules s x
cleaned-second s None = refl
cleaned-second s (Some two) = rw (cleaned-identifiers s)

pub cleaned-ok : (s : Settings) → settings_ok (cleaned s) ≡ settings_ok s
unfolding settings_ok
cleaned-ok s = rw (cleaned-identifiers s, cleaned-second s s.second)

opened-sound : (s : Settings) → settings_ok s ≡ true → sound_state (opened s) ≡ true
opened-sound s e =
    sound-intro (cleaned s) _ _ (cleaned-ok s ∙ e) (fresh-held (cleaned s) (identifiers_of s))
    (λ m k. omega (arith, fresh-sum (held_count_by m) refl (identifiers_of s))) (omega (arith, fresh-sum held_count refl (identifiers_of s)))
    (omega (arith, fresh-sum held_units refl (identifiers_of s))) (fresh-closed-off (identifiers_of s))

-- the closed device is unsound
pub closed-unsound : sound_state closed ≡ false
unfolding sound settings_ok
closed-unsound = refl

-- fresh opens the device or is refused
pub fresh-opens : (s : Settings) (words : ℕ) → refusal (fresh_order s words) ≡ 0 → (fresh s words ≡ opened s) × (sound_state (opened s) ≡ true)
unfolding fresh
fresh-opens s words = go (settings_ok s) (eqb words mark_words) refl
  where
    go : (a b : Bool) → settings_ok s ≡ a → ◌≡◌ {A = ℕ} (cond a (cond b 0 1) 16) 0 → (cond a (cond b (opened s) closed) closed ≡ opened s) × (sound_state (opened s) ≡ true)
    go true true e z = (refl, opened-sound s e)
    go true false e z = absurd (omega (arith, z))
    go false b e z = absurd (omega (arith, z))

pub fresh-closed : (s : Settings) (words : ℕ) → refusal (fresh_order s words) ≢ 0 → fresh s words ≡ closed
unfolding fresh
fresh-closed s words h = verdict-refused (fresh_order s words) (opened s) (λ n i. closed) h
