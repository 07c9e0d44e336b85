-- Refusal 1, proved: a record is sound exactly if it is so in plain words, and no calls from a fresh device lead to an unsound one. Assumes nothing.
use mathlib.Core.Path.{◌≡◌, refl, sym, ap, ap₂, subst, ◌∙◌}
use mathlib.Core.Logic.{◌≢◌, ◌⊎◌, inl, inr}
use mathlib.Core.Bool.{Bool, true, false, not, cond, ◌&&◌, ◌||◌, and-false, true≢false}
use mathlib.Core.List.{List, [], ◌∷◌, map}
use Rattle.std.specs.declared.option.Option.{Option}
use Rattle.std.specs.declared.option.Option.TheVariants.{None, Some}
use Prim.Native.Nat.{ℕ, zero, suc, ◌+◌, ◌%◌, ◌≤◌, ◌<◌}
use native.Mathlib.Omega.{arith}
use lib.Dec.{leb, ltb, eqb}
use lib.ListN.{length, take, get_or, length-take}
use lib.Seq.{get_or-take, length-take-le}
use borrow.Author.Tests.{le-leb, leb-true, leb-false, ltb-false, eq-eqb, ne_eqb, eqb-true}
use Rattle.rules.specs.Settings.{identifiers_of, second_rules, settings_ok, is_manager, place_of}
use Rattle.rules.specs.Units.{units}
use Rattle.rules.specs.Queue.{fill_of, queue_ok}
use Rattle.rules.specs.Order as order
use Rattle.rules.specs.Order.{Op, start, stop, write, receive, suspend, resume, part}
use Rattle.rules.specs.Machine.{refused, sound_state, Call}
use Rattle.rules.specs.Lists.{all, every, member, different, sum}
use Rattle.rules.specs.Device.{held_count, held_count_by, counts_by, held_in, held_of, held_ok, no_share, share_in, share_of, shares_of, shares_ok, front_ok, fresh_controller, controllers_of, suspended_at, sequence_ok, queues_ok, sound_device}
use Rattle.rules.specs.Demands.{Lawful}
use Rattle.rules.specs.declared.Share.{Share}
use Rattle.rules.specs.declared.Tracking.{Tracking}
use Rattle.rules.specs.declared.Tracking.TheVariants.{Off, On}
use Rattle.rules.specs.declared.Sequence.{Sequence}
use Rattle.rules.specs.declared.Ring.{Ring}
use Rattle.rules.specs.declared.Second.{Second}
use Rattle.rules.specs.declared.Settings.{Settings}
use Rattle.rules.specs.declared.Controller.{Controller}
use Rattle.rules.specs.declared.Device.{Device}
use Rattle.rules.proofs.ListLaws.{and_left, and_right, and_intro, not-intro, member-not, all-at, all_from, all_map, get_d_any}
use Rattle.rules.proofs.LoopLaws.{all-front}
use Rattle.rules.proofs.HeldLaws.{held, lie}
use Rattle.rules.proofs.SoundLaws.{sound-managed, sound-intro}
use Rattle.rules.proofs.Theorems as rules
use Rattle.settings.proofs.SettingsLaws.{settings_ok-at, settings_ok-some, settings_ok-count, settings_ok-greatest, settings_ok-limit, settings_ok-shelf, settings_ok-other}
use Rattle.record.specs.Record.{sound_with, no_controller, managed_of, controller_at}
use Rattle.record.proofs.RecordLaws.{shares_of-at, shares_of-sizes, sound_device-facts, sound_device-sequence, sound_device-all, sound_device-inside, sound_device-apart, sound_device-queue}
use Rattle.record.proofs.QueueLaws.{RingFacts, ring-facts, ring-intro}
use Rattle.calls.specs.Calls.{in_words, receive_by, start_by, stop_by, write_by, start_change, stop_change, suspend_change, resume_change, write_note, receive_receipt, part_change, fill_in, make_change, post_change, take_change}
use Rattle.calls.proofs.PoolLaws.{shares_of-none, shares_of-length}
use Rattle.demands.specs.View.{run, run_as}
use Rattle.demands.specs.Sessions.{Left, outcome, begun, end_of}
use Rattle.demands.specs.Soundness.{Settled, Whole, LawfulSequence, LawfulRing, TracksAt, Sound, ranges_in, ranges_for, Shares, Soundness}
use Rattle.demands.proofs.ManagerLaws.{manager-named, named-manager, within-named, named-within}
use Rattle.demands.proofs.ViewLaws.{sound-same, place_of-used}
use Rattle.demands.proofs.SessionLaws.{begins, fits_after}
use Rattle.demands.proofs.ClosedLaws.{fresh-done, closed-session, closed-answer, session}
use Rattle.demands.proofs.AnswerLaws.{fresh-answers}

-- ---- a sound record, in plain words

-- what it says of a queue (W8)
lawful-ring : (r : Ring) → RingFacts r → LawfulRing r
unfolding fill_of
lawful-ring r f = record { fill = f.fill; place = f.place; full = f.full }

queue-ok : (q : Option Ring) → ((r : Ring) → q ≡ Some r → LawfulRing r) → queue_ok q ≡ true
unfolding queue_ok fill_of
queue-ok None f = refl
queue-ok (Some r) f =
    let l = f r refl in
    ring-intro r l.fill l.place (go (ltb (fill_in r) r.size) refl)
  where
    go : (b : Bool) → ltb (fill_in r) r.size ≡ b → (b || r.stopped) ≡ true
    go true e = refl
    go false e = let l = f r refl in l.full (omega (arith, l.fill, ltb-false (fill_in r) r.size e))

-- what a sound record says of an open sequence
lawful : (d : Device) (owner end : ℕ) → length d.controllers ≡ 8 → d.sequence ≡ Some (record { owner = owner; end = end }) → sound_device d ≡ true → LawfulSequence d owner end
lawful d owner end eight q e = go (place_of d.settings owner) refl
  where
    k : (suspended_at (controllers_of d) (place_of d.settings owner) && front_ok end) ≡ true
    k = sym (ap (sequence_ok d.settings (controllers_of d)) q) ∙ sound_device-sequence d e

    flag : suspended_at (controllers_of d) (place_of d.settings owner) ≡ true
    flag = and_left (suspended_at (controllers_of d) (place_of d.settings owner)) (front_ok end) k

    ends : (leb end 4096 && eqb (end % 4) 0) ≡ true
    ends = and_right (leb 4 end) _ (and_right (suspended_at (controllers_of d) (place_of d.settings owner)) (front_ok end) k)

    go : (p : Option ℕ) → place_of d.settings owner ≡ p → LawfulSequence d owner end
    go None z = absurd (true≢false (sym flag ∙ ap (suspended_at (controllers_of d)) z))
    go (Some i) z =
        let u = place_of-used d owner i z in
        let same : get_or (controllers_of d) i fresh_controller ≡ get_or d.controllers i no_controller =
        get_or-take d.settings.count d.controllers i fresh_controller u ∙ get_d_any d.controllers i fresh_controller no_controller (omega (arith, u, (sound_device-facts d e).count, eight)) in
        record {
          place = i;
          known = z;
          suspended = sym (ap (λ (c : Controller). c.suspended) same) ∙ sym (ap (suspended_at (controllers_of d)) z) ∙ flag;
          dwords = eqb-true (end % 4) 0 (and_right (leb end 4096) _ ends);
          least = leb-true 4 end (and_left (leb 4 end) _ (and_right (suspended_at (controllers_of d) (place_of d.settings owner)) (front_ok end) k));
          most = leb-true end 4096 (and_left (leb end 4096) _ ends);
        }

module _ (d : Device) (whole : Whole d) where
  -- a controller holds what it may: by the rules, and in plain words
  to-lawful : (c : Controller) (g n : ℕ) → c.tracking ≡ On g n → held_ok d.settings (held_of c) ≡ true → (is_manager d.settings c.manager ≡ true) × Lawful d.settings g n (take n c.ranges)
  to-lawful c g n t e = (held d.settings c.manager g n (take n c.ranges)).0 (sym (ap (λ (x : Tracking). held_ok d.settings (held_in x c.manager c.ranges)) t) ∙ e)

  from-lawful : (c : Controller) → ((g n : ℕ) → c.tracking ≡ On g n → (is_manager d.settings c.manager ≡ true) × Lawful d.settings g n (take n c.ranges)) → held_ok d.settings (held_of c) ≡ true
  unfolding held_ok
  from-lawful c f = go c.tracking f
    where
      go : (t : Tracking) → ((g n : ℕ) → t ≡ On g n → (is_manager d.settings c.manager ≡ true) × Lawful d.settings g n (take n c.ranges)) → held_ok d.settings (held_in t c.manager c.ranges) ≡ true
      go Off f = refl
      go (On g n) f = (held d.settings c.manager g n (take n c.ranges)).1 (f g n refl)

  forward : sound_device d ≡ true → Sound d
  forward e =
      let facts = sound_device-facts d e in
      let there : (i : ℕ) → i < d.settings.count → i < length d.controllers = λ i h. omega (arith, h, facts.count, whole.controllers) in
      let listed : (i : ℕ) → i < d.settings.count → 1 ≤ length (controller_at d (Some i)).ranges = λ i h. omega (arith, whole.ranges i (omega (arith, h, facts.count))) in
      let lawful-at : (i g n : ℕ) → TracksAt d i g n
      → (is_manager d.settings (controller_at d (Some i)).manager ≡ true) × Lawful d.settings g n (take n (controller_at d (Some i)).ranges) =
      λ i g n t.
      to-lawful (controller_at d (Some i)) g n t.1
      (all-front (λ c. held_ok d.settings (held_of c)) d.controllers d.settings.count i no_controller t.0 (there i t.0) (sound_device-all d e)) in
      record {
        settings = facts.settings;
        held = λ i g n t. (lawful-at i g n t).1;
        manager = λ i g n t. manager-named d.settings (controller_at d (Some i)).manager (lawful-at i g n t).0;
        limit = within-named d.settings facts.settings (managed_of d) (sound-managed d.settings (map held_of (controllers_of d)) _ e);
        shelf = facts.counts;
        inside = λ i g n t. sound_device-inside d i g n e t.0 (there i t.0) t.1 (listed i t.0);
        apart = λ i g n j f m z t u.
            sound_device-apart d i g n j f m e z t.0 u.0 (there i t.0) (there j u.0) t.1 u.1 (listed i t.0) (listed j u.0);
        units = facts.units;
        sequence = λ owner end q. lawful d owner end whole.controllers q e;
        queues = λ i r u q. lawful-ring r (ring-facts r (sym (ap queue_ok q) ∙ sound_device-queue d i e u (there i u)));
      }

  module _ (s : Sound d) where
    few : d.settings.count ≤ 8
    few = settings_ok-count d.settings s.settings

    -- the controllers in use are those at places below the count
    in_use : (i : ℕ) → i < length (controllers_of d) → i < d.settings.count
    in_use i h = omega (arith, h, length-take d.settings.count d.controllers)

    used-at : (i : ℕ) (c : Controller) → i < d.settings.count → get_or (controllers_of d) i c ≡ controller_at d (Some i)
    used-at i c h = get_or-take d.settings.count d.controllers i c h ∙ get_d_any d.controllers i c no_controller (omega (arith, h, few, whole.controllers))

    all_held : all (held_ok d.settings) (map held_of (controllers_of d)) ≡ true
    all_held =
        all_map (held_ok d.settings) held_of (controllers_of d)
        ∙ all_from (λ c. held_ok d.settings (held_of c)) (controllers_of d) no_controller
        (λ i h.
        ap (λ c. held_ok d.settings (held_of c)) (used-at i no_controller (in_use i h))
        ∙ from-lawful (controller_at d (Some i)) (λ g n t. (named-manager d.settings (controller_at d (Some i)).manager (s.manager i g n (in_use i h, t)), s.held i g n (in_use i h, t))))

    -- a share that has bits is that of a tracked controller at a place in use
    shared-by : (i : ℕ) → i < length (shares_of d) → 1 ≤ (get_or (shares_of d) i no_share).size
        → (g : ℕ) × (n : ℕ) × TracksAt d i g n × (get_or (shares_of d) i no_share ≡ record { base = (controller_at d (Some i)).base; size = length (units g (take n (controller_at d (Some i)).ranges)) })
    shared-by i h k = go (leb d.settings.count i) refl
      where
        by : (c : Controller) (t : Tracking) → c.tracking ≡ t → 1 ≤ (share_in c.base (held_in t c.manager c.ranges)).size
            → (g : ℕ) × (n : ℕ) × (c.tracking ≡ On g n) × (share_in c.base (held_in t c.manager c.ranges) ≡ record { base = c.base; size = length (units g (take n c.ranges)) })
        by c Off e l = absurd (omega (arith, l))
        by c (On g n) e l = (g, n, e, refl)

        go : (b : Bool) → leb d.settings.count i ≡ b
            → (g : ℕ) × (n : ℕ) × TracksAt d i g n × (get_or (shares_of d) i no_share ≡ record { base = (controller_at d (Some i)).base; size = length (units g (take n (controller_at d (Some i)).ranges)) })
        go true e =
            absurd (omega (arith, k, ap (λ (a : Share). a.size) (shares_of-none d whole.controllers few i (leb-true d.settings.count i e))))
        go false e =
            let u : i < d.settings.count = leb-false d.settings.count i e in
            let at = shares_of-at d i u (omega (arith, u, few, whole.controllers)) in
            let c = controller_at d (Some i) in
            let r = by c c.tracking refl (subst (λ (a : Share). 1 ≤ a.size) at k) in
            (r.0, r.1, (u, r.2), at ∙ r.3)

    all_apart : shares_ok (shares_of d) ≡ true
    all_apart =
        (lie (shares_of d)).1
        (record {
          inside = λ i h k. let a = shared-by i h k in rw a.3 (s.inside i a.0 a.1 a.2);
          apart = λ i j h k z x y.
              let a = shared-by i h x in
              let b = shared-by j k y in
              rw (a.3, b.3) (s.apart i a.0 a.1 j b.0 b.1 z a.2 b.2);
        })

    sequence-ok : sequence_ok d.settings (controllers_of d) d.sequence ≡ true
    sequence-ok = go d.sequence refl
      where
        go : (q : Option Sequence) → d.sequence ≡ q → sequence_ok d.settings (controllers_of d) q ≡ true
        go None e = refl
        go (Some seq) e =
            let l = s.sequence seq.owner seq.end e in
            let u = place_of-used d seq.owner l.place l.known in
            let flag : suspended_at (controllers_of d) (place_of d.settings seq.owner) ≡ true =
            ap (suspended_at (controllers_of d)) l.known ∙ ap (λ (c : Controller). c.suspended) (used-at l.place fresh_controller u) ∙ l.suspended in
            rw (flag, le-leb 4 seq.end l.least, le-leb seq.end 4096 l.most, eq-eqb (seq.end % 4) 0 l.dwords)

    queues-ok : queues_ok d ≡ true
    queues-ok =
        all_from (λ (c : Controller). queue_ok c.queue) (controllers_of d) no_controller
        (λ i h. ap (λ (c : Controller). queue_ok c.queue) (used-at i no_controller (in_use i h)) ∙ queue-ok (controller_at d (Some i)).queue (λ r q. s.queues i r (in_use i h) q))

    back : sound_device d ≡ true
    back =
        sound-intro d.settings (map held_of (controllers_of d)) _ s.settings all_held (named-within d.settings s.settings (managed_of d) s.limit) s.shelf s.units
        (and_intro (sequence_ok d.settings (controllers_of d) d.sequence) _ sequence-ok (and_intro (shares_ok (shares_of d)) (queues_ok d) all_apart queues-ok))

-- ---- an unsound one

-- an unsound record, or marks of another number of words
unsound-run : (d : Device) (ws area : List ℕ) (qs : ℕ → List ℕ) (id : ℕ) (o : Op) → sound_with d (length ws) ≡ false → (run_as in_words d ws area qs id o).answer ≡ refused 1 0
unfolding start_by stop_by write_by receive_by suspend_change resume_change part_change make_change post_change take_change
unsound-run d ws area qs id (start m x) e = rw e
unsound-run d ws area qs id (stop m) e = rw e
unsound-run d ws area qs id (write w) e = rw e
unsound-run d ws area qs id (receive m x) e = rw e
unsound-run d ws area qs id (suspend m kind) e = rw e
unsound-run d ws area qs id (resume m) e = rw e
unsound-run d ws area qs id (part m p) e = rw e
unsound-run d ws area qs id (order.queue bytes order.make) e = rw e
unsound-run d ws area qs id (order.queue bytes (order.post x)) e = rw e
unsound-run d ws area qs id (order.queue bytes (order.take asked x)) e = rw e

unsound : (l : Left) (k : Call) → (sound_device l.device ≡ false) ⊎ (length l.marks ≢ 256) → (outcome in_words l k).answer ≡ refused 1 0
unfolding run sound_with
unsound l k (inl e) = unsound-run l.device l.marks l.area l.queues k.id k.op (rw e)
unsound l k (inr h) = unsound-run l.device l.marks l.area l.queues k.id k.op (rw (ne_eqb (length l.marks) 256 h) (and-false (sound_device l.device)))

-- ---- all of it

-- ---- its settings

-- no two of some numbers are equal
abbrev Apart : List ℕ → Type 0
Apart xs = (i j : ℕ) → i < length xs → j < length xs → get_or xs i 0 ≡ get_or xs j 0 → i ≡ j

differ : (x y : ℕ) → not (eqb x y) ≡ true → x ≢ y
differ x y e z = true≢false (sym e ∙ ap not (eq-eqb x y z))

apart_from : (xs : List ℕ) → different xs ≡ true → Apart xs
apart_from [] e = λ i j h. absurd (omega (arith, h))
apart_from (x ∷ xs) e = go (apart_from xs (and_right (all (λ y. not (eqb x y)) xs) (different xs) e))
  where
    first : all (λ y. not (eqb x y)) xs ≡ true
    first = and_left (all (λ y. not (eqb x y)) xs) (different xs) e

    go : Apart xs → (i j : ℕ) → i < suc (length xs) → j < suc (length xs) → get_or (x ∷ xs) i 0 ≡ get_or (x ∷ xs) j 0 → i ≡ j
    go f zero zero h k z = refl
    go f zero (suc j) h k z = absurd (differ x (get_or xs j 0) (all-at (λ y. not (eqb x y)) xs j 0 first (omega arith)) z)
    go f (suc i) zero h k z = absurd (differ x (get_or xs i 0) (all-at (λ y. not (eqb x y)) xs i 0 first (omega arith)) (sym z))
    go f (suc i) (suc j) h k z = ap suc (f i j (omega arith) (omega arith) z)

from-apart : (xs : List ℕ) → Apart xs → different xs ≡ true
from-apart [] f = refl
from-apart (x ∷ xs) f =
    and_intro (all (λ y. not (eqb x y)) xs) (different xs)
    (all_from (λ y. not (eqb x y)) xs 0 (λ m h. not-intro (eqb x (get_or xs m 0)) (ne_eqb x (get_or xs m 0) (λ z. let q = f 0 (suc m) (omega arith) (omega arith) z in absurd (omega (arith, q))))))
    (from-apart xs (λ i j h k z. let q = f (suc i) (suc j) (omega arith) (omega arith) z in omega (arith, q)))

settled : (s : Settings) → length s.identifiers ≡ 8 → settings_ok s ≡ true → Settled s
settled s eight e =
    let l : length (identifiers_of s) ≡ s.count = length-take-le s.count s.identifiers (omega (arith, eight, settings_ok-count s e)) in
    let at : (i : ℕ) → i < s.count → get_or (identifiers_of s) i 0 ≡ get_or s.identifiers i 0 = λ i h. get_or-take s.count s.identifiers i 0 h in
    let nobody : (m : ℕ) → not (member m (identifiers_of s)) ≡ true → (i : ℕ) → i < s.count → get_or s.identifiers i 0 ≢ m =
    λ m f i h z.
    differ m (get_or (identifiers_of s) i 0) (all-at (λ y. not (eqb m y)) (identifiers_of s) i 0 (member-not m (identifiers_of s) ∙ f) (omega (arith, h, l))) (sym (at i h ∙ z)) in
    record {
      count = (settings_ok-some s e, settings_ok-count s e);
      different = λ i j h k z.
          apart_from (identifiers_of s) (settings_ok-at s 2 e) i j (omega (arith, h, l)) (omega (arith, k, l)) (at i h ∙ z ∙ sym (at j k));
      manager = nobody s.manager (settings_ok-at s 3 e);
      granularities = (leb-true s.least s.greatest (settings_ok-at s 4 e), settings_ok-greatest s e);
      limit = settings_ok-limit s e;
      second = λ id limit q.
          let o = settings_ok-other s (record { id = id; limit = limit }) e q in
          (o.0, (λ i h z. nobody id (not-intro (member id (identifiers_of s)) o.1) i h z), o.2);
      shelf = settings_ok-shelf s e;
    }

settled-ok : (s : Settings) → length s.identifiers ≡ 8 → Settled s → settings_ok s ≡ true
unfolding settings_ok
settled-ok s eight r =
    let l : length (identifiers_of s) ≡ s.count = length-take-le s.count s.identifiers (omega (arith, eight, r.count.1)) in
    let at : (i : ℕ) → i < s.count → get_or (identifiers_of s) i 0 ≡ get_or s.identifiers i 0 = λ i h. get_or-take s.count s.identifiers i 0 h in
    let apart : different (identifiers_of s) ≡ true =
    from-apart (identifiers_of s) (λ i j h k z. r.different i j (omega (arith, h, l)) (omega (arith, k, l)) (sym (at i (omega (arith, h, l))) ∙ z ∙ at j (omega (arith, k, l)))) in
    let other : (b : ℕ) → ((i : ℕ) → i < s.count → get_or s.identifiers i 0 ≢ b) → not (member b (identifiers_of s)) ≡ true =
    λ b f.
    sym (member-not b (identifiers_of s))
    ∙ all_from (λ y. not (eqb b y)) (identifiers_of s) 0
    (λ m h. not-intro (eqb b (get_or (identifiers_of s) m 0)) (ne_eqb b (get_or (identifiers_of s) m 0) (λ z. f m (omega (arith, h, l)) (sym (at m (omega (arith, h, l))) ∙ sym z)))) in
    rw (le-leb 1 s.count r.count.0, le-leb s.count 8 r.count.1, apart, other s.manager r.manager, le-leb s.least s.greatest r.granularities.0, le-leb s.greatest 20 r.granularities.1, le-leb s.limit 128 r.limit, le-leb s.shelf 128 r.shelf)
    (go other s.second refl)
  where
    go : ((b : ℕ) → ((i : ℕ) → i < s.count → get_or s.identifiers i 0 ≢ b) → not (member b (identifiers_of s)) ≡ true) → (x : Option Second) → s.second ≡ x → every (second_rules s x) ≡ true
    go other None q = refl
    go other (Some two) q =
        let o = r.second two.id two.limit q in
        rw (ne_eqb two.id s.manager o.0, other two.id o.1, le-leb two.limit 128 o.2)

-- ---- its shares

-- the ranges that controllers hold
ranges-sum : (cs : List Controller) → sum (map held_count (map held_of cs)) ≡ sum (map (λ (c : Controller). ranges_in c.tracking) cs)
ranges-sum [] = refl
ranges-sum (c ∷ cs) = ap₂ (λ x y. x + y) (go c.tracking) (ranges-sum cs)
  where
    go : (t : Tracking) → held_count (held_in t c.manager c.ranges) ≡ ranges_in t
    go Off = refl
    go (On g n) = refl

-- and those that they hold for a manager
managed-sum : (m : ℕ) (cs : List Controller) → counts_by m (map held_of cs) ≡ sum (map (ranges_for m) cs)
managed-sum m [] = refl
managed-sum m (c ∷ cs) = ap₂ (λ x y. x + y) (go c.tracking) (managed-sum m cs)
  where
    go : (t : Tracking) → held_count_by m (held_in t c.manager c.ranges) ≡ cond (eqb c.manager m) (ranges_in t) 0
    go Off = sym (nothing (eqb c.manager m))
      where
        nothing : (b : Bool) → ◌≡◌ {A = ℕ} (cond b 0 0) 0
        nothing true = refl
        nothing false = refl
    go (On g n) = refl

shares-are : (d : Device) → length d.controllers ≡ 8 → d.settings.count ≤ 8 → Shares d
shares-are d eight most =
    record {
      places = shares_of-length d eight most;
      on = λ i g n t. at i t.0 ∙ rw t.1;
      off = λ i h t. ap (λ (a : Share). a.size) (at i h) ∙ rw t;
      unused = λ i h. ap (λ (a : Share). a.size) (shares_of-none d eight most i h);
      units = sym (shares_of-sizes d);
      counts = ranges-sum (controllers_of d);
      managed = λ m. managed-sum m (controllers_of d);
    }
  where
    at : (i : ℕ) → i < d.settings.count → get_or (shares_of d) i no_share ≡ share_of (get_or d.controllers i no_controller)
    at i h = shares_of-at d i h (omega (arith, h, most, eight))

pub soundness : Soundness
soundness =
    record {
      settings = λ s eight. (settled s eight, settled-ok s eight);
      shares = shares-are;
      exactly = λ d whole. (forward d whole, back d whole);
      unsound = unsound;
      kept = λ s m ks sized e.
          let f = fresh-done s m.marks e in
          let fits = fits_after ks (begun in_words s m) (begins s m sized f.0 f.1).fits in (
            sym (sound-same (end_of in_words s m ks).device (end_of in_words s m ks).marks (end_of in_words s m ks).area (end_of in_words s m ks).queues fits) ∙ ap sound_state (session s m ks sized).state
                ∙ (rules.soundness).kept s (length m.marks) ks (sym (fresh-answers in_words s m.marks).first ∙ e),
            fits.words,
          );
      closed = λ s m ks k e.
          let z = closed-session s m ks e in
          (z, rw z (closed-answer in_words m k).0, rw z (closed-answer in_words m k).1);
    }
