-- Each call of `tracker` is a step of the rules: of a record and marks seen as a device. Assumes nothing.
use mathlib.Core.Path.{◌≡◌, refl, sym, ap, ap₂, subst, ◌∙◌}
use mathlib.Core.Logic.{◌≢◌}
use mathlib.Core.Bool.{Bool, true, false, ◌&&◌, ◌||◌, not, cond, true≢false}
use mathlib.Core.List.{List, [], ◌∷◌, ◌++◌}
use Rattle.std.specs.declared.option.Option.{Option}
use Rattle.std.specs.declared.option.Option.TheVariants.{None, Some}
use Prim.Native.Nat.{ℕ, zero, suc, ◌+◌, ◌*◌, ◌%◌, ◌^◌, ◌≤◌, ◌<◌}
use native.Mathlib.Omega.{arith}
use lib.Dec.{leb, eqb}
use lib.ListN.{length, get_or, set, take, drop, replicate, length-replicate, length-set}
use lib.Seq.{set-get_or, get_or-set_same, get_or-set_other}
use borrow.Author.Tests.{leb-true, eqb-true, eq-eqb, ne_eqb, not-true}
use Rattle.little.specs.Little.{put}
use Rattle.bits.proofs.Share.{get_share-length}
use Rattle.bits.specs.Flat.{flat}
use Rattle.bits.specs.Share.{get_share}
use Rattle.bits.proofs.Flat.{flat-length}
use Rattle.little.proofs.Put.{put-take-front, put-length}
use Rattle.rules.specs.Lists.{all, join, is_some}
use Rattle.rules.specs.Refusals.{Test, verdict}
use Rattle.rules.specs.Settings.{mark_words, most_units, is_manager, place_of}
use Rattle.rules.specs.Units.{Unit, Write, units, clear, mark}
use Rattle.rules.specs.StartData.{granularity_of, count_of, ranges_of, no_range, placed}
use Rattle.rules.specs.Report.{room, marks_left, reported_runs}
use Rattle.rules.specs.Queue.{entry_bytes, places_ok, closing_entry, joined, total_after, queue_ok, Queued, closes_at, taken_of}
use Rattle.rules.specs.Order as order
use Rattle.rules.specs.Order.{Op, start, stop, write, receive, suspend, resume, part, queue, make, post, is_tracker, size_made, queue_order, Seen, Arriving, Part, start_shared, offset_of, is_last, joined_with, part_order, order}
use Rattle.rules.specs.Device.{held_units, held_of, no_share, share_of, shares_of, shares_ok, controllers_of, queues_ok, sound_device}
use Rattle.rules.specs.Ranges.{list_tests}
use Rattle.rules.specs.ControllerState.{state_most, state_ok}
use Rattle.rules.specs.Machine.{Answer, refused, done, assembled, posted, taken, Marks, on, Slot, tracked_with, with_marks_of, with_front, with_queued, wrote_in, reported_in, posted_in, taken_in, accepted, slot_step, State, slot_at, with_slot, seen_at, arriving_at, step_at, Call, step, lent, stored, no_report}
use Rattle.rules.specs.declared.Settings.{Settings}
use Rattle.rules.specs.declared.Tracking.{Tracking}
use Rattle.rules.specs.declared.Tracking.TheVariants.{Off, On}
use Rattle.rules.specs.declared.Sequence.{Sequence}
use Rattle.rules.specs.declared.Ring.{Ring}
use Rattle.rules.specs.declared.Controller.{Controller}
use Rattle.rules.specs.declared.Device.{Device}
use Rattle.rules.proofs.ListLaws.{All, All-append, All-map, all_set, and_left, and_right}
use Rattle.rules.proofs.RefusalLaws.{Passed, verdict-both}
use Rattle.rules.proofs.UnitLaws.{mark-length}
use Rattle.rules.proofs.RunLaws.{clear_first-length}
use Rattle.rules.proofs.OrderLaws.{StartPassed, start_order-passed, PartPassed, part_order-passed}
use Rattle.rules.proofs.StartLaws.{ranges_of-length}
use Rattle.rules.proofs.Isolation.{with_slot-slot_at}
use Rattle.record.specs.Record.{sound_with, no_controller, controller_at, with_controller, with_sequence, units_of, tracked_by, tracker_of, places_of, has_stopped, seen_in, others_in, front_of, front_in, arriving_in}
use Rattle.ranges.proofs.RangeLaws.{HeldFacts, list_tests-numbers, list_tests-facts}
use Rattle.record.proofs.RecordLaws.{sound_device-facts, sound_device-held, sequence-within, front_of-length, front_of-take, shares_of-at, sound_device-shares, sound_device-inside, sound_device-apart, sound_device-queues, sound_device-queue}
use Rattle.record.proofs.QueueLaws.{RingFacts, ring-facts}
use Rattle.ring.specs.Ring.{place_after}
use Rattle.rules.proofs.QueueHistory.{places_ok-true}
use Rattle.calls.proofs.PoolLaws.{take-set, shares_of-with, sizes_of-at, base-at, packed_at, packed-at, packed-eight, packed_alike, packed-ok, shares_less, sizes-fit, start-packs}
use Rattle.pool.specs.Pool.{new_base, Packs}
use Rattle.state_bytes.proofs.StateLaws.{state_ok-true}
use Rattle.controller_state.proofs.ArrivalLaws.{joined-stored}
use Rattle.calls.specs.Calls.{in_words, receive_by, start_by, stop_by, write_by, marks_at, with_marks, with_clear, bases_of, sizes_of, with_base, packed_from, packed_device, packed_words, Change, changed, started, started_with, start_done, start_change, stopped, stop_done, stop_change, flagged, flag_done, suspend_change, dropped, resume_done, resume_change, Note, noted, note_in, write_done, write_note, Receipt, received, receive_in, receive_done, receive_receipt, Arrival, arrival, part_done, part_at, part_change, queuing, with_queue, made_ring, make_done, make_change, fill_in, queued_in, ring_posted, ring_taken, Posting, posting, post_in, post_done, post_at, post_change, Taking, taking, take_in, take_done, take_at, take_change}
use Rattle.calls.specs.declared.Changed.{Changed}
use Rattle.calls.specs.declared.Started.{Started}
use Rattle.demands.specs.View.{marks_of, queue_of, manager_in, slot_of, front_at, stray_in, amiss_in, view, Outcome, answered, starts, stops, flags, notes, receipts, arrives, lent_at, handed_on, posts, takes, run_as, run}
use Rattle.demands.proofs.MarkLaws.{Away, clear-length, clear-other, put-length as marks-length, put-own, put_other, packs-length, packs-kept, packs-clear}
use Rattle.demands.proofs.QueueLaws.{Counted, made_ok, made-queue, posted-ok, posted-counted, posted-queue, posted-answer, taken-ok, taken-counted, taken-queue, taken-entries, taken-closing}
use Rattle.demands.proofs.ViewLaws.{Listed, Totalled, Fits, slot-at, seen_same, place_of-used, view-with, front-own, front-others, stray-own, front-dropped, front-undropped, stray-dropped, arriving-same}

-- ---- the tables

-- no test of a call has the number 0
pub order-numbers : (s : Settings) (v : Seen) (a : Arriving) (o : Op) → All (λ (t : Test). 1 ≤ t.number) (order s v a o)
unfolding order
order-numbers s v a (start m x) = (
  omega arith,
  (
    omega arith,
    (
      omega arith,
      (
        omega arith,
        (
          omega arith,
          (
            omega arith,
            (
              omega arith,
              (
                omega arith,
                (
                  omega arith,
                  All-append (λ (t : Test). 1 ≤ t.number) (list_tests s (granularity_of x) (count_of x) (ranges_of x)) (start_shared s m v.units (v.managed m) v.counts x)
                      (list_tests-numbers s (granularity_of x) (count_of x) (ranges_of x)) (omega arith, (omega arith, (omega arith, tt))),
                ),
              ),
            ),
          ),
        ),
      ),
    ),
  ),
)
order-numbers s v a (stop m) = (omega arith, (omega arith, (omega arith, (omega arith, (omega arith, tt)))))
order-numbers s v a (write w) = (omega arith, (omega arith, (omega arith, (omega arith, tt))))
order-numbers s v a (receive m x) = (omega arith, (omega arith, (omega arith, (omega arith, (omega arith, tt)))))
order-numbers s v a (suspend m kind) = (omega arith, (omega arith, (omega arith, (omega arith, tt))))
order-numbers s v a (resume m) = (omega arith, (omega arith, (omega arith, (omega arith, tt))))
order-numbers s v a (part m p) = (omega arith, (omega arith, (omega arith, (omega arith, (omega arith, (omega arith, (omega arith, (omega arith, (omega arith, tt)))))))))
order-numbers s v a (queue bytes make) = (omega arith, (omega arith, (omega arith, tt)))
order-numbers s v a (queue bytes (post e)) = (omega arith, (omega arith, (omega arith, (omega arith, (omega arith, (omega arith, tt))))))
order-numbers s v a (queue bytes (order.take asked x)) = (omega arith, (omega arith, (omega arith, (omega arith, tt))))

-- among the first tests of every call: a sound record with its marks, and a known controller
order-known : (s : Settings) (v : Seen) (a : Arriving) (o : Op) → Passed (order s v a o) → (v.sound ≡ true) × (v.known ≡ true)
unfolding order
order-known s v a (start m x) q = (q.0, q.1.1.0)
order-known s v a (stop m) q = (q.0, q.1.1.0)
order-known s v a (write w) q = (q.0, q.1.0)
order-known s v a (receive m x) q = (q.0, q.1.1.0)
order-known s v a (suspend m kind) q = (q.0, q.1.1.0)
order-known s v a (resume m) q = (q.0, q.1.1.0)
order-known s v a (part m p) q = (and_left v.sound a.area q.0, q.1.1.0)
order-known s v a (queue bytes k) q = (q.0, q.1.0)

answered-refused : (n i : ℕ) (a : Answer) → 1 ≤ n → answered n i a ≡ refused n i
answered-refused n i a h = rw (ne_eqb n 0 (λ (z : _). omega (arith, z)))

-- ---- lists

All-set : {A : Type 0} (P : A → Type 0) (xs : List A) (i : ℕ) (x : A) → All P xs → P x → All P (set xs i x)
All-set P [] i x h k = tt
All-set P (y ∷ xs) zero x h k = (k, h.1)
All-set P (y ∷ xs) (suc i) x h k = (h.0, All-set P xs i x h.1 k)

All-get_d : {A : Type 0} (P : A → Type 0) (xs : List A) (i : ℕ) (d : A) → P d → All P xs → P (get_or xs i d)
All-get_d P [] i d k h = k
All-get_d P (x ∷ xs) zero d k h = h.0
All-get_d P (x ∷ xs) (suc i) d k h = All-get_d P xs i d k h.1

clear-is : (us : List Unit) → replicate (length us) false ≡ clear us
clear-is [] = refl
clear-is (u ∷ us) = ap (λ l. false ∷ l) (clear-is us)

-- ---- tracked or not

pub not_on : (t : Tracking) (m : ℕ) → not (is_some (tracked_by t m)) ≡ true → t ≡ Off
not_on Off m e = refl
not_on (On g n) m e = absurd (true≢false (sym e))

pub is-on : (t : Tracking) (m b : ℕ) → is_tracker b (tracked_by t m) ≡ true → (g : ℕ) × (n : ℕ) × (t ≡ On g n)
is-on Off m b e = absurd (true≢false (sym e))
is-on (On g n) m b e = (g, n, refl)

-- a tracked controller of a sound record has its ranges
pub listed-some : (d : Device) (ws area : List ℕ) → Fits d ws area → sound_device d ≡ true → (j : ℕ) → j < d.settings.count → (g n : ℕ) → (get_or d.controllers j no_controller).tracking ≡ On g n
    → 1 ≤ length (get_or d.controllers j no_controller).ranges
listed-some d ws area fits sure j h g n e =
    let l = All-get_d Listed d.controllers j no_controller (λ g n e. let z : ◌≡◌ {A = ℕ} 0 1 = cc in absurd (omega arith)) fits.listed g n e in
    omega (arith, l, (sound_device-held d j g n sure h (omega (arith, h, (sound_device-facts d sure).count, fits.controllers)) e).some)

-- ---- what a call answers and leaves is what a step of the rules does

pub record Like (id : ℕ) (x : List ℕ) (o : Outcome) (a : Answer) (st : State) : Type 0 where
  pub answer : o.answer ≡ a
  pub state : view in_words o.device o.marks o.area o.queues ≡ st
  pub bytes : o.bytes ≡ stored id x o.answer
  pub fits : Fits o.device o.marks o.area

module _ (d : Device) (ws area : List ℕ) (qs : ℕ → List ℕ) (fits : Fits d ws area) (id : ℕ) where
  abbrev st : State
  st = view in_words d ws area qs

  -- an outcome that leaves all as it was
  abbrev unchanged : Answer → List ℕ → Outcome
  unchanged a x = record { answer = a; device = d; marks = ws; area = area; queues = qs; bytes = x }

  -- the table of a call to a place
  abbrev table : Option ℕ → Op → List Test
  table p o = order d.settings (seen_in d (length ws) p) (arriving_at st p) o

  -- an outcome is what an accepted call to a place comes to
  abbrev Does : List ℕ → Outcome → Option ℕ → Op → Type 0
  Does x r p o = Like id x r (accepted (slot_at st p) o).0 (with_slot st p (accepted (slot_at st p) o).1)

  -- each refusal of a table leaves all as it was
  abbrev Refuses : (A : Type 0) → List ℕ → (A → Outcome) → (ℕ → ℕ → A) → List Test → Type 0
  Refuses A x f refuse ts = All (λ (t : Test). f (refuse t.number t.place) ≡ unchanged (refused t.number t.place) x) ts

  -- a call whose table the rules have: refused it changes nothing, and done it does as they say
  like : (A : Type 0) (p : Option ℕ) → seen_in d (length ws) p ≡ seen_at st p → (o : Op) (x : List ℕ) (f : A → Outcome) (end : A) (refuse : ℕ → ℕ → A)
      → Refuses A x f refuse (table p o)
      → (Passed (table p o) → Does x (f end) p o)
      → Like id x (f (verdict (table p o) end refuse)) (step_at st p o).0 (step_at st p o).1
  like A p seen o x f end refuse r e =
      subst (λ (v : Seen). R (verdict (table p o) end refuse) (slot_step d.settings v (arriving_at st p) (slot_at st p) o)) seen
      (verdict-both R (table p o) end (accepted (slot_at st p) o) refuse (λ n i. (refused n i, slot_at st p))
      (All-map
      (λ t q.
      record {
        answer = ap (λ (y : Outcome). y.answer) q;
        state = ap (λ (y : Outcome). view in_words y.device y.marks y.area y.queues) q ∙ sym (with_slot-slot_at st p);
        bytes = ap (λ (y : Outcome). y.bytes) q ∙ sym (ap (λ (y : Outcome). stored id x y.answer) q);
        fits = subst (λ (y : Outcome). Fits y.device y.marks y.area) (sym q) fits;
      })
      (table p o) r)
      e)
    where
      R : A → Answer × Slot → Type 0
      R c r = Like id x (f c) r.0 (with_slot st p r.1)

  -- ---- a controller at a place

  module _ (i : ℕ) (place : place_of d.settings id ≡ Some i) (sound : sound_with d (length ws) ≡ true) where
    abbrev c : Controller
    c = get_or d.controllers i no_controller

    -- the bytes so far of a state at a place
    abbrev front : ℕ → Option (List ℕ)
    front j = front_at d.settings d.sequence area j

    used : i < d.settings.count
    used = place_of-used d id i place

    sure : sound_device d ≡ true
    unfolding sound_with
    sure = and_left (sound_device d) (eqb (length ws) mark_words) sound

    most : d.settings.count ≤ 8
    most = (sound_device-facts d sure).count

    below : i < 8
    below = omega (arith, most, used)

    totalled : Totalled c
    totalled = All-get_d Totalled d.controllers i no_controller (λ r e. let z : ◌≡◌ {A = ℕ} 0 1 = cc in absurd (omega arith)) fits.totals

    listed : Listed c
    listed = All-get_d Listed d.controllers i no_controller (λ g n e. let z : ◌≡◌ {A = ℕ} 0 1 = cc in absurd (omega arith)) fits.listed

    eight : (j : ℕ) → j < d.settings.count → j < length d.controllers
    eight j h = omega (arith, h, most, fits.controllers)

    -- the controller at a place in use
    abbrev at : ℕ → Controller
    at j = get_or d.controllers j no_controller

    -- how many units a tracked one has, and that its share lies in the pool
    abbrev size_of : ℕ → ℕ → ℕ → ℕ
    size_of j g n = length (units g (take n (at j).ranges))

    some-ranges : (j g n : ℕ) → j < d.settings.count → (at j).tracking ≡ On g n → 1 ≤ length (at j).ranges
    some-ranges j g n h e = listed-some d ws area fits sure j h g n e

    within : (j g n : ℕ) → j < d.settings.count → (at j).tracking ≡ On g n → (at j).base + size_of j g n ≤ 64 * mark_words
    within j g n h e = sound_device-inside d j g n sure h (eight j h) e (some-ranges j g n h e)

    -- the shares of two do not overlap
    away : (g n : ℕ) → c.tracking ≡ On g n → (j g' n' : ℕ) → j ≢ i → j < d.settings.count → (at j).tracking ≡ On g' n' → Away c.base (size_of i g n) (at j).base (size_of j g' n')
    away g n e j g' n' other h e' = sound_device-apart d i g n j g' n' sure (λ z. other (sym z)) used h (eight i used) (eight j h) e e' (some-ranges i g n used e) (some-ranges j g' n' h e')

    -- marks of other places that are as they were
    abbrev Kept : List ℕ → Type 0
    Kept ws' = (j g n : ℕ) → j ≢ i → j < d.settings.count → (at j).tracking ≡ On g n → marks_at ws' (at j).base (size_of j g n) ≡ marks_at ws (at j).base (size_of j g n)

    kept_slot : (ws' : List ℕ) → Kept ws' → (j : ℕ) → j ≢ i → j < d.settings.count → marks_of in_words ws' (at j).base (at j).tracking (at j).ranges ≡ marks_of in_words ws (at j).base (at j).tracking (at j).ranges
    kept_slot ws' same j other h = go (at j).tracking refl
      where
        go : (t : Tracking) → (at j).tracking ≡ t → marks_of in_words ws' (at j).base t (at j).ranges ≡ marks_of in_words ws (at j).base t (at j).ranges
        go Off q = refl
        go (On g n) q = ap (on g (take n (at j).ranges)) (same j g n other h q)

    -- the shares and the queues of a sound record are as they may be; so are those of what it leaves
    amiss-same : (d' : Device) → stray_in d.settings d'.sequence ≡ stray_in d.settings d.sequence → d'.settings ≡ d.settings → shares_ok (shares_of d') ≡ true → queues_ok d' ≡ true
        → amiss_in d' ≡ amiss_in d
    amiss-same d' stray e ok queues =
        ap₂ (λ a b. a || not b) (ap (λ (t : Settings). stray_in t d'.sequence) e ∙ stray)
        (ap₂ (λ a b. a && b) (ok ∙ sym (sound_device-shares d sure)) (queues ∙ sym (sound_device-queues d sure)))

    -- the queues of all places, with another at this one
    queues-with : (e : Controller) → queue_ok e.queue ≡ true → queues_ok (with_controller d i e) ≡ true
    queues-with e ok =
        rw (take-set d.controllers d.settings.count i e) (all_set (λ (c : Controller). queue_ok c.queue) (controllers_of d) i e (sound_device-queues d sure) ok)

    -- that of this one
    queue-kept : queue_ok c.queue ≡ true
    queue-kept = sound_device-queue d i sure used (eight i used)

    -- a controller is replaced by one with a share and a queue that may be there, and with it the sequence, the words, the area and that of its queue
    moved : (e : Controller) (q : Option Sequence) (ws' area' : List ℕ) (qs' : ℕ → List ℕ) → shares_ok (set (shares_of d) i (share_of e)) ≡ true → queue_ok e.queue ≡ true
        → stray_in d.settings q ≡ stray_in d.settings d.sequence → Kept ws' → ((j : ℕ) → j ≢ i → front_at d.settings q area' j ≡ front j) → ((j : ℕ) → j ≢ i → qs' j ≡ qs j)
        → view in_words (with_sequence (with_controller d i e) q) ws' area' qs' ≡ with_slot st (Some i) (slot_of in_words ws' e (front_at d.settings q area' i) (qs' i))
    moved e q ws' area' qs' ok whole stray kept fronts areas =
        view-with d (with_sequence (with_controller d i e) q) ws ws' area area' qs qs' i fits.controllers (length-set d.controllers i e ∙ fits.controllers) refl most used
        (amiss-same (with_sequence (with_controller d i e) q) stray refl (rw (shares_of-with d fits.controllers most i e used) ok) (queues-with e whole)) other
        ∙ ap (λ x. with_slot st (Some i) (slot_of in_words ws' x (front_at d.settings q area' i) (qs' i))) (get_or-set_same d.controllers i e no_controller (eight i used))
      where
        other : (j : ℕ) → j ≢ i → j < d.settings.count
            → slot_of in_words ws' (get_or (set d.controllers i e) j no_controller) (front_at d.settings q area' j) (qs' j) ≡ slot_of in_words ws (at j) (front j) (qs j)
        other j n h =
            ap (λ x. slot_of in_words ws' x (front_at d.settings q area' j) (qs' j)) (get_or-set_other d.controllers i j e no_controller n)
            ∙ ap₂ (λ m f. record { suspended = (at j).suspended; manager = manager_in (at j).tracking (at j).manager; marks = m; front = f; queue = queue_of (qs' j) (at j).queue }) (kept_slot ws' kept j n h) (fronts j n)
            ∙ ap (λ x. slot_of in_words ws (at j) (front j) x) (areas j n)

    -- the same without another sequence, and with its queue as it was
    replaced : (e : Controller) (ws' : List ℕ) → shares_ok (set (shares_of d) i (share_of e)) ≡ true → e.queue ≡ c.queue → Kept ws'
        → view in_words (with_controller d i e) ws' area qs ≡ with_slot st (Some i) (slot_of in_words ws' e (front i) (qs i))
    replaced e ws' ok same kept = moved e d.sequence ws' area qs ok (ap queue_ok same ∙ queue-kept) refl kept (λ j n. refl) (λ j n. refl)

    -- a share that stays
    same-share : (e : Controller) → share_of e ≡ share_of c → shares_ok (set (shares_of d) i (share_of e)) ≡ true
    same-share e q =
        rw (q, sym (shares_of-at d i used (eight i used)), set-get_or (shares_of d) i no_share) (sound_device-shares d sure)

    still : (e : Controller) (ws' : List ℕ) → Listed e → Totalled e → length ws' ≡ mark_words → Fits (with_controller d i e) ws' area
    still e ws' h t k =
        record {
          controllers = length-set d.controllers i e ∙ fits.controllers;
          identifiers = fits.identifiers;
          listed = All-set Listed d.controllers i e fits.listed h;
          totals = All-set Totalled d.controllers i e fits.totals t;
          words = k;
          bytes = fits.bytes;
        }

    -- the record as it was
    same-record : with_controller d i c ≡ d
    same-record = ap (λ l. record { settings = d.settings; controllers = l; sequence = d.sequence }) (set-get_or d.controllers i no_controller)

    own : slot_at st (Some i) ≡ slot_of in_words ws c (front i) (qs i)
    own = slot-at d ws area qs fits i used below

    -- ---- start

    start-done : (b : ℕ) (x : List ℕ) → StartPassed d.settings b (seen_in d (length ws) (Some i)) x → c.tracking ≡ Off
        → Does x (starts area qs x (start_done in_words d ws b x (Some i))) (Some i) (start b x)
    unfolding get_share
    start-done b x q idle =
        rw own (record { answer = refl; state = state; bytes = refl; fits = packed-fits })
      where
        f : HeldFacts d.settings (granularity_of x) (count_of x) (ranges_of x)
        f = list_tests-facts d.settings (granularity_of x) (count_of x) (ranges_of x) (sound_device-facts d sure).greatest q.granularity q.list

        first : take (count_of x) (placed (ranges_of x)) ≡ ranges_of x
        first = put-take-front (replicate 16 no_range) (count_of x) (ranges_of x) (ranges_of-length x) f.few

        e : Device
        e = with_controller d i (started c b x)

        eight-e : length e.controllers ≡ 8
        eight-e = length-set d.controllers i (started c b x) ∙ fits.controllers

        sizes : List ℕ
        sizes = sizes_of e

        us : List Unit
        us = units (granularity_of x) (ranges_of x)

        ws' : List ℕ
        ws' = packed_words ws (bases_of d) sizes i

        room : held_units (held_of (started c b x)) + units_of d ≤ most_units
        room = rw first q.room

        packs : Packs (flat ws) (bases_of d) sizes i
        packs = start-packs d fits.controllers sure i used idle (started c b x) room ws fits.words

        fit : new_base sizes 8 ≤ 16384
        fit = sizes-fit d fits.controllers sure i used idle (started c b x) room

        -- how many bits the share at a place has
        size-at : (j : ℕ) → j < d.settings.count → get_or sizes j 0 ≡ held_units (held_of (get_or e.controllers j no_controller))
        size-at j h = sizes_of-at e eight-e most j h

        -- a controller that is on, at its new place: its share reads as some marks do
        based : (j : ℕ) (k : Controller) (g n : ℕ) → k.tracking ≡ On g n → get_or sizes j 0 ≡ length (units g (take n k.ranges)) → (p : List Bool) → length p ≡ get_or sizes j 0
            → marks_at ws' (new_base sizes j) (get_or sizes j 0) ≡ p → marks_of in_words ws' (packed_at sizes j k).base k.tracking k.ranges ≡ on g (take n k.ranges) p
        based j k g n t size p long reads =
            ap (λ (y : Tracking). marks_of in_words ws' (packed_at sizes j k).base y k.ranges) t
            ∙ ap (λ m. on g (take n k.ranges) (marks_at ws' (packed_at sizes j k).base m)) (sym size)
            ∙ ap (on g (take n k.ranges)) (go (eqb (get_or sizes j 0) 0) refl)
          where
            nothing : (l : List Bool) → length l ≡ 0 → [] ≡ l
            nothing [] z = refl
            nothing (x ∷ l) z = absurd (omega (arith, z))

            go : (b : Bool) → eqb (get_or sizes j 0) 0 ≡ b → marks_at ws' (cond b k (with_base k (new_base sizes j))).base (get_or sizes j 0) ≡ p
            go true z = let n0 = eqb-true (get_or sizes j 0) 0 z in rw n0 (nothing p (long ∙ n0))
            go false z = reads

        slot_is : (j : ℕ) (k : Controller) (m : Marks) (y : Option (List ℕ)) → marks_of in_words ws' (packed_at sizes j k).base k.tracking k.ranges ≡ m
            → slot_of in_words ws' (packed_at sizes j k) y (qs j) ≡ record { suspended = k.suspended; manager = manager_in k.tracking k.manager; marks = m; front = y; queue = queue_of (qs j) k.queue }
        slot_is j k m y is =
            let a = packed_alike e eight-e most j k in
            rw (a.0, a.1, a.2, a.3, a.4) (ap (λ z. record { suspended = k.suspended; manager = manager_in k.tracking k.manager; marks = z; front = y; queue = queue_of (qs j) k.queue }) is)

        words' : length ws' ≡ mark_words
        words' = packs-length ws fits.words (bases_of d) sizes i packs

        others : (j : ℕ) → j ≢ i → j < d.settings.count → slot_of in_words ws' (get_or (packed_device e).controllers j no_controller) (front j) (qs j) ≡ slot_of in_words ws (at j) (front j) (qs j)
        others j n h =
            ap (λ k. slot_of in_words ws' k (front j) (qs j)) (packed-at e j (omega (arith, h, most, eight-e)) ∙ ap (packed_at sizes j) (get_or-set_other d.controllers i j (started c b x) no_controller n))
            ∙ slot_is j (at j) (marks_of in_words ws (at j).base (at j).tracking (at j).ranges) (front j) (go (at j).tracking refl)
          where
            size : get_or sizes j 0 ≡ held_units (held_of (at j))
            size = size-at j h ∙ ap (λ k. held_units (held_of k)) (get_or-set_other d.controllers i j (started c b x) no_controller n)

            go : (t : Tracking) → (at j).tracking ≡ t → marks_of in_words ws' (packed_at sizes j (at j)).base (at j).tracking (at j).ranges ≡ marks_of in_words ws (at j).base (at j).tracking (at j).ranges
            go Off t = rw t
            go (On g m) t =
                let z : get_or sizes j 0 ≡ size_of j g m = size ∙ rw t in
                let b : get_or (bases_of d) j 0 ≡ (at j).base = base-at d fits.controllers most j h g m t in
                based j (at j) g m t z (marks_at ws (at j).base (size_of j g m)) (get_share-length (flat ws) (at j).base (size_of j g m) (omega (arith, within j g m h t, flat-length ws, fits.words)) ∙ sym z)
                (packs-kept ws fits.words (bases_of d) sizes i packs j (omega (arith, h, most)) n ∙ rw (b, z))
                ∙ rw t

        packed-take : (n k : ℕ) (cs : List Controller) → take n (packed_from sizes k cs) ≡ packed_from sizes k (take n cs)
        packed-take zero k cs = refl
        packed-take (suc n) k [] = refl
        packed-take (suc n) k (y ∷ cs) = ap (λ l. cond (eqb (get_or sizes k 0) 0) y (with_base y (new_base sizes k)) ∷ l) (packed-take n (suc k) cs)

        -- every queue is as it was
        queues-packed : (cs : List Controller) (k : ℕ) → all (λ (c : Controller). queue_ok c.queue) (packed_from sizes k cs) ≡ all (λ (c : Controller). queue_ok c.queue) cs
        queues-packed [] k = refl
        queues-packed (y ∷ cs) k = let a = packed_alike e eight-e most k y in rw a.3 (ap (λ b. queue_ok y.queue && b) (queues-packed cs (suc k)))

        queues : queues_ok (packed_device e) ≡ true
        queues = rw (packed-take d.settings.count 0 e.controllers) (queues-packed (controllers_of e) 0 ∙ queues-with (started c b x) queue-kept)

        state : view in_words (packed_device e) ws' area qs ≡ with_slot st (Some i) (tracked_with (slot_of in_words ws c (front i) (qs i)) b (on (granularity_of x) (ranges_of x) (clear us)))
        state =
            let size : get_or sizes i 0 ≡ length us = size-at i used ∙ ap (λ k. held_units (held_of k)) (get_or-set_same d.controllers i (started c b x) no_controller (eight i used)) ∙ rw first in
            view-with d (packed_device e) ws ws' area area qs qs i fits.controllers (packed-eight e eight-e most) refl most used
            (amiss-same (packed_device e) refl refl (packed-ok e eight-e most fit) queues) others
            ∙ ap (with_slot st (Some i))
            (ap (λ k. slot_of in_words ws' k (front i) (qs i)) (packed-at e i (omega (arith, used, most, eight-e)) ∙ ap (packed_at sizes i) (get_or-set_same d.controllers i (started c b x) no_controller (eight i used)))
            ∙ slot_is i (started c b x) (on (granularity_of x) (ranges_of x) (clear us)) (front i)
            (based i (started c b x) (granularity_of x) (count_of x) refl (size ∙ rw first) (replicate (get_or sizes i 0) false) (length-replicate (get_or sizes i 0) false)
            (packs-clear ws fits.words (bases_of d) sizes i packs (omega (arith, used, most)))
            ∙ rw (first, size) (ap (on (granularity_of x) (ranges_of x)) (clear-is us))))

        listed-packed : (cs : List Controller) (k : ℕ) → All Listed cs → All Listed (packed_from sizes k cs)
        listed-packed [] k h = tt
        listed-packed (y ∷ cs) k h = (let a = packed_alike e eight-e most k y in rw (a.1, a.2) h.0, listed-packed cs (suc k) h.1)

        totals-packed : (cs : List Controller) (k : ℕ) → All Totalled cs → All Totalled (packed_from sizes k cs)
        totals-packed [] k h = tt
        totals-packed (y ∷ cs) k h = (let a = packed_alike e eight-e most k y in rw a.3 h.0, totals-packed cs (suc k) h.1)

        packed-fits : Fits (packed_device e) ws' area
        packed-fits =
            record {
              controllers = packed-eight e eight-e most;
              identifiers = fits.identifiers;
              listed =
                  listed-packed e.controllers 0
                  (All-set Listed d.controllers i (started c b x) fits.listed
                  (λ g n t. let z : count_of x ≡ n = cc in omega (arith, f.few, put-length (replicate 16 no_range) 0 (ranges_of x), length-replicate 16 no_range)));
              totals = totals-packed e.controllers 0 (All-set Totalled d.controllers i (started c b x) fits.totals totalled);
              words = words';
              bytes = fits.bytes;
            }

    -- ---- stop

    stop-done : (b g n : ℕ) → c.tracking ≡ On g n → Does [] (stops area qs (stop_done in_words d ws (Some i))) (Some i) (stop b)
    stop-done b g n t =
        let size : held_units (held_of c) ≡ size_of i g n = rw t in
        let inside : c.base + held_units (held_of c) ≤ 64 * mark_words = omega (arith, size, within i g n used t) in
        rw own (record {
          answer = refl;
          state =
              replaced (stopped c) (with_clear ws c.base (held_units (held_of c))) (shares_less (shares_of d) i (sound_device-shares d sure)) refl
              (λ j g' n' other h e. clear-other ws fits.words c.base (held_units (held_of c)) inside (at j).base (size_of j g' n') (within j g' n' h e) (rw size (away g n t j g' n' other h e)));
          bytes = refl;
          fits = still (stopped c) (with_clear ws c.base (held_units (held_of c))) (λ g n e. let z : ◌≡◌ {A = ℕ} 0 1 = cc in absurd (omega arith)) totalled (clear-length ws fits.words c.base (held_units (held_of c)) inside);
        })

    -- ---- suspend and resume

    suspend-done : (b kind : ℕ) → Does [] (flags ws area qs (flag_done d (Some i) (c.suspended || eqb kind 1))) (Some i) (suspend b kind)
    suspend-done b kind =
        let e = flagged c (c.suspended || eqb kind 1) in
        rw own (record { answer = refl; state = replaced e ws (same-share e refl) refl (λ j g n other h t. refl); bytes = refl; fits = still e ws listed totalled fits.words })

    resume-done : (b : ℕ) → Does [] (flags ws area qs (resume_done d id (Some i))) (Some i) (resume b)
    resume-done b =
        let e = flagged c false in
        let f = still e ws listed totalled fits.words in
        rw own (record {
          answer = refl;
          state =
              moved e (dropped id d.sequence) ws area qs (same-share e refl) queue-kept (stray-dropped d.settings id i place d.sequence) (λ j g n other h t. refl)
              (front-undropped d.settings id i place d.sequence area) (λ j n. refl)
              ∙ ap (λ y. with_slot st (Some i) (slot_of in_words ws e y (qs i))) (front-dropped d.settings id i place d.sequence area);
          bytes = refl;
          fits = record { controllers = f.controllers; identifiers = f.identifiers; listed = f.listed; totals = f.totals; words = f.words; bytes = f.bytes };
        })

    -- ---- write

    -- marks of its units that are put: the record is as it was
    marks-put : (g n : ℕ) (p : List Bool) → c.tracking ≡ On g n → length p ≡ length (units g (take n c.ranges))
        → view in_words d (with_marks ws c.base p) area qs ≡ with_slot st (Some i) (with_marks_of (slot_of in_words ws c (front i) (qs i)) (on g (take n c.ranges) p))
    marks-put g n p e h =
        let us = units g (take n c.ranges) in
        let inside : c.base + length p ≤ 64 * mark_words = omega (arith, h, within i g n used e) in
        let ws' = with_marks ws c.base p in
        sym (ap (λ (r : Device). view in_words r ws' area qs) same-record)
        ∙ replaced c ws' (same-share c refl) refl
        (λ j g' n' other k t. put_other ws fits.words c.base p inside (at j).base (size_of j g' n') (within j g' n' k t) (rw h (away g n e j g' n' other k t)))
        ∙ ap (with_slot st (Some i)) (rw (e, put-own ws fits.words c.base p inside (length us) (sym h)))

    marks-fit : (g n : ℕ) (p : List Bool) → c.tracking ≡ On g n → length p ≡ length (units g (take n c.ranges)) → Fits d (with_marks ws c.base p) area
    marks-fit g n p e h =
        record {
          controllers = fits.controllers;
          identifiers = fits.identifiers;
          listed = fits.listed;
          totals = fits.totals;
          words = marks-length ws fits.words c.base p (omega (arith, h, within i g n used e));
          bytes = fits.bytes;
        }

    -- its marks, one for each unit
    marks-sized : (g n : ℕ) → c.tracking ≡ On g n
        → length (marks_at ws c.base (length (units g (take n c.ranges)))) ≡ length (units g (take n c.ranges))
    marks-sized g n e = get_share-length _ c.base (length (units g (take n c.ranges))) (omega (arith, within i g n used e, flat-length ws, fits.words))

    write_is : (w : Write) → Does [] (notes d area qs (write_done in_words d ws w (Some i))) (Some i) (write w)
    write_is w = rw own (go c.tracking refl)
      where
        go : (t : Tracking) → c.tracking ≡ t
            → let r = wrote_in w (marks_of in_words ws c.base t c.ranges) in
            Like id [] (notes d area qs (note_in in_words ws c.base t c.ranges w)) r.0 (with_slot st (Some i) (with_marks_of (slot_of in_words ws c (front i) (qs i)) r.1))
        go Off e =
            record {
              answer = refl;
              state = sym (with_slot-slot_at st (Some i)) ∙ ap (with_slot st (Some i)) (own ∙ rw e);
              bytes = refl;
              fits = fits;
            }
        go (On g n) e =
            let us = units g (take n c.ranges) in
            let p = marks_at ws c.base (length us) in
            let h = mark-length w us p (marks-sized g n e) in
            record {
              answer = refl;
              state = marks-put g n (mark w us p) e h;
              bytes = refl;
              fits = marks-fit g n (mark w us p) e h;
            }

    -- ---- receive

    receive-done : (b : ℕ) (x : List ℕ) → is_tracker b (tracker_of c) ≡ true → Does x (receipts d area qs (receive_done in_words d ws id x (Some i))) (Some i) (receive b x)
    receive-done b x q = rw own (go c.tracking refl q)
      where
        go : (t : Tracking) → c.tracking ≡ t → is_tracker b (tracked_by t c.manager) ≡ true
            → let r = reported_in c.suspended (length x) (marks_of in_words ws c.base t c.ranges) in
            Like id x (receipts d area qs (receive_in in_words ws c.base id c.suspended t c.ranges x)) r.0
            (with_slot st (Some i) (with_marks_of (slot_of in_words ws c (front i) (qs i)) r.1))
        go Off e f = absurd (true≢false (sym f))
        go (On g n) e f =
            let us = units g (take n c.ranges) in
            let p = marks_at ws c.base (length us) in
            let h = clear_first-length (length (join (reported_runs (room (length x)) us p))) p ∙ marks-sized g n e in
            record {
              answer = refl;
              state = marks-put g n (marks_left (room (length x)) us p) e h;
              bytes = refl;
              fits = marks-fit g n (marks_left (room (length x)) us p) e h;
            }

    -- ---- a part of a state

    part-done : (b : ℕ) (p : Part) → PartPassed (seen_in d (length ws) (Some i)) (arriving_at st (Some i)) p → Does p.bytes (arrives ws qs p.bytes (part_done d area id p)) (Some i) (part b p)
    part-done b p passed = rw (own, front-is) (go (is_last p) refl)
      where
        -- what it sees of the sequence
        so_far : Option (List ℕ)
        so_far = front_in id d.sequence area

        front-is : front i ≡ so_far
        front-is = front-own d.settings id i place d.sequence area

        seen : arriving_at st (Some i) ≡ arriving_in d.sequence area id
        seen = sym (arriving-same d ws area qs fits id i place sure)

        is : PartPassed (seen_in d (length ws) (Some i)) (arriving_in d.sequence area id) p
        is = subst (λ (a : Arriving). PartPassed (seen_in d (length ws) (Some i)) a p) seen passed

        alone : others_in id d.sequence ≡ false
        alone = not-true (others_in id d.sequence) is.alone

        -- the whole, and the area once it is stored
        whole : List ℕ
        whole = joined_with so_far p

        area' : List ℕ
        area' = put area (offset_of p) p.bytes

        short : length whole ≤ 4096
        short = leb-true (length whole) state_most (and_left (leb (length whole) state_most) _ is.within)

        has : take (length whole) area' ≡ whole
        has =
            joined-stored area id p fits.bytes d.sequence (sequence-within d sure) is.follow
            (leb-true (offset_of p) state_most (and_right (eqb (offset_of p % 4) 0) _ is.offset)) short

        sized : length area' ≡ state_most
        sized = put-length area (offset_of p) p.bytes ∙ fits.bytes

        fit : (q : Option Sequence) → Fits (with_sequence d q) ws area'
        fit q = record { controllers = fits.controllers; identifiers = fits.identifiers; listed = fits.listed; totals = fits.totals; words = fits.words; bytes = sized }

        -- its own bytes so far are replaced, and there are no others
        left : (q : Option Sequence) (y : Option (List ℕ)) → others_in id q ≡ false → front_in id q area' ≡ y
            → view in_words (with_sequence d q) ws area' qs ≡ with_slot st (Some i) (with_front (slot_of in_words ws c so_far (qs i)) y)
        left q y others e =
            sym (ap (λ (r : Device). view in_words (with_sequence r q) ws area' qs) same-record)
            ∙ moved c q ws area' qs (same-share c refl) queue-kept (stray-own d.settings id i place q others ∙ sym (stray-own d.settings id i place d.sequence alone)) (λ j g n other h t. refl)
            (λ j other. front-others d.settings id i place q area' others j other ∙ sym (front-others d.settings id i place d.sequence area alone j other)) (λ j n. refl)
            ∙ ap (λ x. with_slot st (Some i) (slot_of in_words ws c x (qs i))) (front-own d.settings id i place q area' ∙ e)

        -- a finished state has its header, so it is not empty
        long : is_last p ≡ true → eqb (length whole) 0 ≡ false
        long l =
            let ok : state_ok whole ≡ true = sym (ap (λ b. not b || state_ok whole) l) ∙ and_right (leb (length whole) state_most) _ is.within in
            ne_eqb (length whole) 0 (λ z. absurd (omega (arith, z, (state_ok-true whole ok).long)))

        go : (l : Bool) → is_last p ≡ l
            → let r : Answer × Option (List ℕ) = cond l (assembled whole, None) (done, Some whole) in
            Like id p.bytes
            (arrives ws qs p.bytes
            (cond l (arrival 0 (length whole) (with_sequence d None) area') (arrival 0 0 (with_sequence d (Some (record { owner = id; end = length whole }))) area')))
            r.0
            (with_slot st (Some i) (with_front (slot_of in_words ws c so_far (qs i)) r.1))
        go true l =
            record {
              answer = rw (long l) (ap assembled has);
              state = left None None refl refl;
              bytes = rw (long l);
              fits = fit None;
            }
        go false l =
            record {
              answer = refl;
              state =
                  left (Some (record { owner = id; end = length whole })) (Some whole) (ap not (eq-eqb id id refl))
                  (rw (eq-eqb id id refl) (ap Some (front_of-take (length whole) area' (omega (arith, short, sized)) ∙ has)));
              bytes = refl;
              fits = fit (Some (record { owner = id; end = length whole }));
            }

    -- ---- the queue

    -- it is another, and so is its area; of the rest nothing changes
    queued-anew : (q : Option Ring) (qs' : ℕ → List ℕ) → queue_ok q ≡ true → ((j : ℕ) → j ≢ i → qs' j ≡ qs j)
        → view in_words (with_queue d i q) ws area qs' ≡ with_slot st (Some i) (with_queued (slot_of in_words ws c (front i) (qs i)) (queue_of (qs' i) q))
    queued-anew q qs' ok areas = moved (queuing c q) d.sequence ws area qs' (same-share (queuing c q) refl) ok refl (λ j g n other h t. refl) (λ j n. refl) areas

    counted-fits : (r : Ring) → Counted r → Fits (with_queue d i (Some r)) ws area
    counted-fits r k = still (queuing c (Some r)) ws listed (λ r' e. let z : r ≡ r' = cc in let t : (r.posted < 2 ^ 32) × (r.taken < 2 ^ 32) = (k.posted, k.taken) in subst (λ (x : Ring). (x.posted < 2 ^ 32) × (x.taken < 2 ^ 32)) z t) fits.words

    make-done : (bytes : ℕ) → places_ok bytes ≡ true → Does [] (flags ws area qs (make_done d bytes (Some i))) (Some i) (queue bytes make)
    make-done bytes ok =
        rw own (record {
          answer = refl;
          state =
              queued-anew (Some (made_ring bytes)) qs (made_ok bytes (places_ok-true bytes ok).0) (λ j n. refl)
              ∙ ap (λ q. with_slot st (Some i) (with_queued (slot_of in_words ws c (front i) (qs i)) q)) (made-queue (qs i) bytes);
          bytes = refl;
          fits = counted-fits (made_ring bytes) (record { posted = omega arith; taken = omega arith });
        })

    -- a post or a take whose area has the size made
    module _ (bytes : ℕ) (r : Ring) (is : c.queue ≡ Some r) (ok : (places_ok bytes && size_made (places_of c.queue) bytes) ≡ true) where
      abbrev lends : List ℕ
      lends = front_of bytes (qs i)

      sized : bytes ≡ entry_bytes * r.size
      sized = eqb-true bytes (entry_bytes * r.size) (sym (ap (λ q. size_made (places_of q) bytes) is) ∙ and_right (places_ok bytes) _ ok)

      small : r.size ≤ 1024
      small = omega (arith, sized, (places_ok-true bytes (and_left (places_ok bytes) _ ok)).1)

      facts : RingFacts r
      facts = ring-facts r (sym (ap queue_ok is) ∙ queue-kept)

      counted : Counted r
      counted = let t = totalled r is in record { posted = t.0; taken = t.1 }

      whole : length lends ≡ entry_bytes * r.size
      whole = front_of-length bytes (qs i) ∙ sized

      -- what the rules see
      abbrev was : Queued
      was = record { size = r.size; entries = queued_in lends r; stopped = r.stopped }

      slot-queue : queue_of (qs i) c.queue ≡ Some was
      slot-queue = ap (queue_of (qs i)) is ∙ ap (λ n. Some (record { size = r.size; entries = queued_in (front_of n (qs i)) r; stopped = r.stopped })) (sym sized)

      post-done : (e : List ℕ) → length e ≡ 32 → r.stopped ≡ false → Does e (posts ws area qs (Some i) e (post_done d lends e (Some i))) (Some i) (queue bytes (post e))
      post-done e long running =
          rw own (subst (λ (q : Option Ring). G q (queue_of (qs i) c.queue)) (sym is) (subst (λ (z : Option Queued). G (Some r) z) (sym slot-queue) (record {
            answer = ap posted (posted-answer r lends facts counted small whole e long running);
            state =
                queued-anew (Some ring) qs' (posted-ok r lends facts counted small whole e long running) others
                ∙ ap (λ q. with_slot st (Some i) (with_queued (slot_of in_words ws c (front i) (qs i)) q)) (ap (λ x. queue_of x (Some ring)) here ∙ posted-queue r lends facts counted small whole e long running (drop (length area') (qs i)));
            bytes = refl;
            fits = counted-fits ring (posted-counted r lends facts counted small whole e long running);
          })))
        where
          G : Option Ring → Option Queued → Type 0
          G q z =
              Like id e (posts ws area qs (Some i) e (post_in d i lends e q)) (posted_in e z).0
              (with_slot st (Some i) (with_queued (slot_of in_words ws c (front i) (qs i)) (posted_in e z).1))

          ring : Ring
          ring = ring_posted r (closes_at r.size (fill_in r))

          area' : List ℕ
          area' = put lends (entry_bytes * place_after r.size r.place (fill_in r)) (cond (closes_at r.size (fill_in r)) closing_entry e)

          qs' : ℕ → List ℕ
          qs' = handed_on qs (Some i) area'

          others : (j : ℕ) → j ≢ i → qs' j ≡ qs j
          others j n = ap (λ b. cond b (area' ++ drop (length area') (qs i)) (qs j)) (ne_eqb j i n)

          here : qs' i ≡ area' ++ drop (length area') (qs i)
          here = ap (λ b. cond b (area' ++ drop (length area') (qs i)) (qs i)) (eq-eqb i i refl)

      take_is : (asked : ℕ) (x : List ℕ) → Does x (takes ws area qs (take_done d lends asked x (Some i))) (Some i) (queue bytes (order.take asked x))
      take_is asked x =
          rw own (subst (λ (q : Option Ring). G q (queue_of (qs i) c.queue)) (sym is) (subst (λ (z : Option Queued). G (Some r) z) (sym slot-queue) (record {
            answer = ap₂ taken (taken-entries r lends facts counted small whole asked x) (taken-closing r lends facts counted small whole asked x);
            state =
                queued-anew (Some ring) qs (taken-ok r lends facts counted small whole asked x) (λ j n. refl)
                ∙ ap (λ q. with_slot st (Some i) (with_queued (slot_of in_words ws c (front i) (qs i)) q)) (taken-queue r lends facts counted small whole asked x (qs i) (ap (λ n. front_of n (qs i)) sized));
            bytes = ap (λ es. put x 0 (joined es)) (sym (taken-entries r lends facts counted small whole asked x));
            fits = counted-fits ring (taken-counted r lends facts counted small whole asked x);
          })))
        where
          G : Option Ring → Option Queued → Type 0
          G q z =
              Like id x (takes ws area qs (take_in d i lends asked x q)) (taken_in asked (length x) z).0
              (with_slot st (Some i) (with_queued (slot_of in_words ws c (front i) (qs i)) (taken_in asked (length x) z).1))

          m : ℕ
          m = length (taken_of asked (length x) (queued_in lends r))

          ring : Ring
          ring = ring_taken r m

  -- ---- every call

  -- a call that is not refused found its controller in a sound record
  at_place : (o : Op) (A : Type 0) (x : List ℕ) (f : A → Outcome) (end : Option ℕ → A) (refuse : ℕ → ℕ → A)
      → ((v : Seen) (a : Arriving) → Refuses A x f refuse (order d.settings v a o))
      → ((i : ℕ) → place_of d.settings id ≡ Some i → sound_with d (length ws) ≡ true → Passed (table (Some i) o) → Does x (f (end (Some i))) (Some i) o)
      → Like id x (f (verdict (table (place_of d.settings id) o) (end (place_of d.settings id)) refuse))
      (step_at st (place_of d.settings id) o).0 (step_at st (place_of d.settings id) o).1
  at_place o A x f end refuse r e =
      like A (place_of d.settings id) (seen_same d ws area qs fits id) o x f (end (place_of d.settings id)) refuse
      (r (seen_in d (length ws) (place_of d.settings id)) (arriving_at st (place_of d.settings id)))
      (go (place_of d.settings id) refl)
    where
      go : (p : Option ℕ) → place_of d.settings id ≡ p → Passed (table p o) → Does x (f (end p)) p o
      go None k q = absurd (true≢false (sym (order-known d.settings (seen_in d (length ws) None) (arriving_at st None) o q).1))
      go (Some i) k q = e i k (order-known d.settings (seen_in d (length ws) (Some i)) (arriving_at st (Some i)) o q).0 q

  -- a start's refusals, with their rows
  start-refuses : (b : ℕ) (x : List ℕ) (v : Seen) (a : Arriving) → Refuses (Change Started) x (starts area qs x) (λ n i. started_with n i d ws) (order d.settings v a (start b x))
  start-refuses b x v a =
      All-map (λ (t : Test) h. ap (λ y. unchanged y x) (answered-refused t.number t.place done h)) (order d.settings v a (start b x))
      (order-numbers d.settings v a (start b x))

  -- a part is refused as if it saw what the rules see: before 23 it looks at no sequence
  part-seen : (m : ℕ) (p : Part) → part_change d (length ws) area m id p ≡ verdict (table (place_of d.settings id) (part m p)) (part_done d area id p) (λ n j. arrival n 0 d area)
  unfolding order part_change
  part-seen m p = go (place_of d.settings id) refl (sound_with d (length ws)) refl
    where
      refuse : ℕ → ℕ → Arrival
      refuse n j = arrival n 0 d area

      go : (q : Option ℕ) → place_of d.settings id ≡ q → (b : Bool) → sound_with d (length ws) ≡ b
          → part_at d (length ws) area m id p q ≡ verdict (part_order d.settings m (seen_in d (length ws) q) (arriving_at st q) p) (part_done d area id p) refuse
      go q e false s = rw s
      go None e true s = rw (s, eq-eqb (length area) state_most fits.bytes)
      go (Some i) e true s =
          ap (λ (a : Arriving). verdict (part_order d.settings m (seen_in d (length ws) (Some i)) a p) (part_done d area id p) refuse)
          (arriving-same d ws area qs fits id i e (sure i e s))

  -- a queue that a post or a take found was made
  is_made : (q : Option Ring) → is_some (places_of q) ≡ true → (r : Ring) × (q ≡ Some r)
  is_made None e = absurd (true≢false (sym e))
  is_made (Some r) e = (r, refl)

  -- the area that is lent has as many bytes as the call says
  lent_length : (bytes : ℕ) → length (lent_at qs (place_of d.settings id) bytes) ≡ bytes
  lent_length bytes = go (place_of d.settings id)
    where
      go : (p : Option ℕ) → length (lent_at qs p bytes) ≡ bytes
      go None = front_of-length bytes []
      go (Some i) = front_of-length bytes (qs i)

  post-call : (bytes : ℕ) (x : List ℕ)
      → let o = queue bytes (post x) in
      Like id x (run_as in_words d ws area qs id o) (step_at st (place_of d.settings id) o).0 (step_at st (place_of d.settings id) o).1
  unfolding order post_change
  post-call bytes x =
      let p = place_of d.settings id in
      let x' = lent_at qs p bytes in
      let f : Posting → Outcome = posts ws area qs p x in
      subst (λ (n : ℕ). Like id x (f (verdict (queue_order (seen_in d (length ws) p) n (post x)) (post_done d x' x p) (λ n i. posting n false d x'))) (step_at st p (queue bytes (post x))).0 (step_at st p (queue bytes (post x))).1)
      (sym (lent_length bytes))
      (at_place (queue bytes (post x)) Posting x (posts ws area qs p x) (post_done d x' x) (λ n i. posting n false d x') (λ v a. (refl, (refl, (refl, (refl, (refl, (refl, tt)))))))
      (λ i e s q.
      let made = is_made (controller_at d (Some i)).queue q.1.1.1.0 in
      let stopped : has_stopped (controller_at d (Some i)).queue ≡ false = not-true _ q.1.1.1.1.1.0 in
      rw e (post-done i e s bytes made.0 made.1 q.1.1.0 x (eqb-true (length x) 32 q.1.1.1.1.0) (sym (ap has_stopped made.1) ∙ stopped))))

  take-call : (bytes asked : ℕ) (x : List ℕ)
      → let o = queue bytes (order.take asked x) in
      Like id x (run_as in_words d ws area qs id o) (step_at st (place_of d.settings id) o).0 (step_at st (place_of d.settings id) o).1
  unfolding order take_change
  take-call bytes asked x =
      let p = place_of d.settings id in
      let x' = lent_at qs p bytes in
      subst (λ (n : ℕ). Like id x (takes ws area qs (verdict (queue_order (seen_in d (length ws) p) n (order.take asked x)) (take_done d x' asked x p) (λ n i. taking n 0 false d x))) (step_at st p (queue bytes (order.take asked x))).0 (step_at st p (queue bytes (order.take asked x))).1)
      (sym (lent_length bytes))
      (at_place (queue bytes (order.take asked x)) Taking x (takes ws area qs) (take_done d x' asked x) (λ n i. taking n 0 false d x) (λ v a. (refl, (refl, (refl, (refl, tt)))))
      (λ i e s q.
      let made = is_made (controller_at d (Some i)).queue q.1.1.1.0 in
      rw e (take_is i e s bytes made.0 made.1 q.1.1.0 asked x)))

  every_call : (o : Op) → Like id (lent o) (run_as in_words d ws area qs id o) (step_at st (place_of d.settings id) o).0 (step_at st (place_of d.settings id) o).1
  unfolding order start_by stop_by write_by receive_by suspend_change resume_change make_change
  every_call (start b x) =
      at_place (start b x) (Change Started) x (starts area qs x) (start_done in_words d ws b x) (λ n i. started_with n i d ws) (start-refuses b x)
      (λ i e s q. let p = start_order-passed d.settings b (seen_in d (length ws) (Some i)) x q in start-done i e s b x p (not_on (controller_at d (Some i)).tracking (controller_at d (Some i)).manager p.untracked))
  every_call (stop b) =
      at_place (stop b) (Change Changed) [] (stops area qs) (stop_done in_words d ws) (λ n i. changed n d ws) (λ v a. (refl, (refl, (refl, (refl, (refl, tt))))))
      (λ i e s q. let o = is-on (controller_at d (Some i)).tracking (controller_at d (Some i)).manager b q.1.1.1.1.0 in stop-done i e s b o.0 o.1 o.2)
  every_call (write w) =
      at_place (write w) Note [] (notes d area qs) (write_done in_words d ws w) (λ n i. noted n 0 ws) (λ v a. (refl, (refl, (refl, (refl, tt))))) (λ i e s q. write_is i e s w)
  every_call (receive b x) =
      at_place (receive b x) Receipt x (receipts d area qs) (receive_done in_words d ws id x) (λ n i. received n no_report ws x) (λ v a. (refl, (refl, (refl, (refl, (refl, tt))))))
      (λ i e s q. receive-done i e s b x q.1.1.1.0)
  every_call (suspend b kind) =
      at_place (suspend b kind) Changed [] (flags ws area qs) (λ p. flag_done d p ((controller_at d p).suspended || eqb kind 1)) (λ n i. record { number = n; device = d })
      (λ v a. (refl, (refl, (refl, (refl, tt))))) (λ i e s q. suspend-done i e s b kind)
  every_call (resume b) =
      at_place (resume b) Changed [] (flags ws area qs) (resume_done d id) (λ n i. record { number = n; device = d }) (λ v a. (refl, (refl, (refl, (refl, tt)))))
      (λ i e s q. resume-done i e s b)
  every_call (part b p) =
      rw (part-seen b p)
      (at_place (part b p) Arrival p.bytes (arrives ws qs p.bytes) (λ i. part_done d area id p) (λ n j. arrival n 0 d area)
      (λ v a. (refl, (refl, (refl, (refl, (refl, (refl, (refl, (refl, (refl, tt))))))))))
      (λ i e s q. part-done i e s b p (part_order-passed d.settings b (seen_in d (length ws) (Some i)) (arriving_at st (Some i)) p q)))
  every_call (queue bytes make) =
      at_place (queue bytes make) Changed [] (flags ws area qs) (make_done d bytes) (λ n i. record { number = n; device = d }) (λ v a. (refl, (refl, (refl, tt))))
      (λ i e s q. make-done i e s bytes q.1.1.0)
  every_call (queue bytes (post x)) = post-call bytes x
  every_call (queue bytes (order.take asked x)) = take-call bytes asked x

-- each call is a step of the rules
pub call_step : (d : Device) (ws area : List ℕ) (qs : ℕ → List ℕ) → Fits d ws area → (k : Call)
    → Like k.id (lent k.op) (run in_words d ws area qs k) (step (view in_words d ws area qs) k).0 (step (view in_words d ws area qs) k).1
unfolding run step
call_step d ws area qs fits k = every_call d ws area qs fits k.id k.op
