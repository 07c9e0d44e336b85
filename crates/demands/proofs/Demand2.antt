-- Demand 2, proved of the calls: what a session leaves is what the rules' session leaves, and of that the rules' demand 2 is proved. Assumes nothing.
use mathlib.Core.Path.{◌≡◌, refl, sym, ap, ap₂, subst, ◌∙◌}
use mathlib.Core.Logic.{◌≢◌, ◌↔◌}
use mathlib.Core.Bool.{Bool, true, false, ◌||◌, cond, true≢false}
use mathlib.Core.List.{List, [], ◌∷◌, ◌++◌, map}
use Rattle.std.specs.declared.option.Option.{Option}
use Rattle.std.specs.declared.option.Option.TheVariants.{None, Some}
use Prim.Native.Nat.{ℕ, zero, suc, ◌+◌, ◌*◌, ◌/◌, ◌%◌, ◌^◌, ◌≤◌, ◌<◌}
use native.Mathlib.Omega.{arith}
use lib.Dec.{leb, eqb}
use lib.Seq.{get_or-take}
use lib.ListN.{length, take, get_or, replicate, length-map, length-take}
use Rattle.std.specs.List.{slice_get}
use borrow.Author.Tests.{eq-eqb, ne_eqb, le-leb, leb-true, leb-false, not-true}
use Rattle.bits.specs.Flat.{flat}
use Rattle.bits.proofs.Flat.{flat-at, flat-length}
use Rattle.bits.proofs.Share.{get_share-at, get_share-length}
use Rattle.little.specs.Little.{put}
use Rattle.little.proofs.Put.{put-take-front}
use Rattle.rules.specs.Lists.{join, place_from}
use Rattle.rules.specs.Refusals.{Test, passes}
use Rattle.rules.specs.Settings.{mark_words, most_units, identifiers_of, is_manager, limit_of, place_of, granularity_ok}
use Rattle.rules.specs.Units.{Unit, Write, units, touches, mark, newly}
use Rattle.rules.specs.Ranges.{powers_ok}
use Rattle.rules.specs.StartData.{granularity_of, count_of, ranges_of, header_tests}
use Rattle.rules.specs.Report.{descriptor, room, report_on, marks_left, reported_runs, report_bytes}
use Rattle.rules.specs.Order.{Op, start, stop, write, receive, Part, Seen, order, start_who, start_listed, start_own, start_shared, start_order, stop_order, write_order, receive_order, suspend_order, resume_order, part_order, is_last, joined_with, offset_of}
use Rattle.rules.specs.Device.{cleaned, fresh_device, fresh_of, sound_device}
use Rattle.rules.specs.Machine.{off, on, Slot, is_suspended, refused, no_report, State, pending_in, managed_in, counts_in, units_in, seen_at, slot_of, slot_at, Call, step, fresh, lent}
use Rattle.rules.specs.History.{Did, pending_by, PendingBy, tracks_by, manager_by, suspended_by, marks_by, slot_by}
use Rattle.rules.specs.Demands.{session_end, UnitsListed}
use Rattle.rules.specs.declared.Range.{Range}
use Rattle.rules.specs.declared.Settings.{Settings}
use Rattle.rules.specs.declared.Tracking.{Tracking}
use Rattle.rules.specs.declared.Tracking.TheVariants.{Off, On}
use Rattle.rules.specs.declared.Sequence.{Sequence}
use Rattle.rules.specs.declared.Controller.{Controller}
use Rattle.rules.specs.declared.Device.{Device}
use Rattle.rules.proofs.GroupLaws.{groups-most}
use Rattle.rules.proofs.ListLaws.{All, All-append, not-intro, and_left, slice_get-at}
use Rattle.rules.proofs.RefusalLaws.{Passed, passes-Passed, verdict-has, verdict-passed, verdict-done}
use Rattle.rules.proofs.UnitLaws.{mark-length, mark-at}
use Rattle.rules.proofs.RunLaws.{clear_first-length}
use Rattle.rules.proofs.SlotHistory.{pending_by-iff}
use Rattle.rules.proofs.StateLaws.{place_of-is, cleaned-place, after-settings, step_other}
use Rattle.rules.proofs.OrderLaws.{start_order-passed}
use Rattle.rules.proofs.SoundLaws.{fresh-opens}
use Rattle.rules.proofs.Theorems as rules
use Rattle.record.specs.Record.{sound_with, no_controller, controller_at, seen_in, arriving_in, front_in, with_sequence}
use Rattle.ranges.proofs.RangeLaws.{HeldFacts}
use Rattle.record.proofs.RecordLaws.{sound_device-facts, sound_device-held, sound_device-inside}
use Rattle.calls.proofs.PoolLaws.{sizes_of-at, sizes_of-share}
use Rattle.report_data.proofs.Blocks.{report_bytes-length, report-rest}
use Rattle.report_reader.proofs.ReadBack.{reads-back}
use Rattle.calls.specs.declared.Changed.{Changed}
use Rattle.calls.specs.declared.Started.{Started as StartAnswer}
use Rattle.calls.specs.declared.StateSet.{StateSet}
use Rattle.calls.specs.Calls.{fresh_by, in_words, receive_by, start_by, stop_by, write_by, marks_at, with_marks, fresh_change, Change, changed, started_with, start_done, start_change, stop_done, stop_change, flag_done, suspend_change, dropped, resume_done, resume_change, Note, noted, note_in, write_done, write_note, Receipt, received, receive_in, receive_done, receive_receipt, Arrival, part_change, part_done, arrival}
use Rattle.demands.specs.View.{marks_of, manager_in, slot_of as slot_seen, front_at, view, run}
use Rattle.demands.specs.Sessions.{Left, Given, Sized, begun, outcome, next, end_of, history_in}
use Rattle.demands.specs.Parts.{whole_by, IsFinal, arriving, Arrives}
use Rattle.demands.specs.Soundness.{base_at}
use Rattle.demands.specs.Demand2.{pending_of, Shaped, Steps, bit_of, size_at, told_of, Elsewhere, Kept, flagged_at, Resumed, Started, Stopped, Wrote, Received, Tracked, refused_on, Moves, starts, stops, writes, Stands, Keeps, Demand2}
use Rattle.demands.specs.Managers.{Manages, IsManager, CallOf}
use Rattle.demands.specs.Managers as by
use Rattle.demands.proofs.ManagerLaws.{tracker-known, named-manager, not_named, limit-named}
use Rattle.demands.proofs.MarkLaws.{put-bit, put-elsewhere}
use Rattle.demands.proofs.ViewLaws.{Listed, Totalled, Fits, slot-at, seen_same, place_of-used, front-own}
use Rattle.demands.proofs.StepLaws.{not_on, is-on, listed-some, order-numbers, call_step}
use Rattle.demands.proofs.Pool.{packs-start, clears-stop}
use Rattle.demands.proofs.SessionLaws.{begins, fits_after, left-append, after-append}
use Rattle.demands.proofs.ClosedLaws.{fresh-done, session, history-same, slot_same, equals}
use Rattle.demands.proofs.AnswerLaws.{fresh-answers, write-zero}
use Rattle.demands.proofs.Soundness.{soundness}
use Rattle.demands.proofs.Queues.{queue_calls, logs}
use Rattle.rules.proofs.Sessions.{known-session}
use Rattle.rules.proofs.QueueHistory.{Logged}
use Rattle.demands.specs.Queues.{Logs}
use Rattle.demands.proofs.Parts.{arrives, part-unknown}

-- ---- fresh

fresh-is : (s : Settings) (ws : List ℕ) → (fresh_change s ws).answer.number ≡ 0 → ((fresh_change s ws).answer.device ≡ fresh_device s) × ((fresh_change s ws).marks ≡ replicate mark_words 0)
unfolding fresh_by fresh_of
fresh-is s ws e = let f = fresh-done s ws e in rw (f.0, eq-eqb (length ws) mark_words f.1, f.1) (refl, refl)

-- ---- places

bit_at : (ws : List ℕ) (base m : ℕ) → bit_of ws base m ≡ eqb (get_or ws ((base + m) / 64) 0 / 2 ^ ((base + m) % 64) % 2) 1
bit_at ws base m = flat-at ws (base + m)

is-place : (s : Settings) (a i : ℕ) → length s.identifiers ≡ 8 → place_of s a ≡ Some i → (i < s.count) × (get_or s.identifiers i 0 ≡ a)
is-place s a i eight e =
    let p = place_of-is s a i e in
    let n : i < s.count = omega (arith, p.0, length-take s.count s.identifiers) in
    (n, sym (get_or-take s.count s.identifiers i 0 n) ∙ p.1)

is_found : (s : Settings) (a i : ℕ) → length s.identifiers ≡ 8 → i < s.count → i < 8 → get_or s.identifiers i 0 ≡ a → place_of s a ≢ None
unfolding place_of
is_found s a i eight h k e = go (identifiers_of s) 0 i (omega (arith, h, k, eight, length-take s.count s.identifiers)) (get_or-take s.count s.identifiers i 0 h ∙ e)
  where
    go : (xs : List ℕ) (j m : ℕ) → m < length xs → get_or xs m 0 ≡ a → place_from j xs a ≢ None
    go [] j m h e = absurd (omega (arith, h))
    go (x ∷ xs) j zero h e = rw (eq-eqb x a e) (λ z. let q : ◌≡◌ {A = ℕ} 0 1 = cc in absurd (omega arith))
    go (x ∷ xs) j (suc m) h e = by (eqb x a) (go xs (suc j) m (omega (arith, h)) e)
      where
        by : (b : Bool) → place_from (suc j) xs a ≢ None → cond b (Some j) (place_from (suc j) xs a) ≢ None
        by true f z = let q : ◌≡◌ {A = ℕ} 0 1 = cc in absurd (omega arith)
        by false f z = f z

-- ---- laws of lists

get_d_map : (f : Unit → Bool) (us : List Unit) (m : ℕ) (u : Unit) → (m < length us) × (get_or us m u ≡ u) → get_or (map f us) m false ≡ f u
get_d_map f [] m u q = absurd (omega (arith, q.0))
get_d_map f (v ∷ us) zero u q = ap f q.1
get_d_map f (v ∷ us) (suc m) u q = get_d_map f us m u (omega (arith, q.0), q.1)

-- no more runs are listed than there is room for
listed-few : (k : ℕ) (us : List Unit) (p : List Bool) → length (map descriptor (reported_runs k us p)) ≤ k
listed-few k us p = rw (length-map, length-take) (omega arith)

-- dropping a sequence of its own leaves another's
dropped-other : (a : ℕ) (q : Option Sequence) → ((end : ℕ) → q ≢ Some (record { owner = a; end = end })) → dropped a q ≡ q
dropped-other a None f = refl
dropped-other a (Some seq) f = rw (ne_eqb seq.owner a (λ e. f seq.end (ap (λ x. Some (record { owner = x; end = seq.end })) e)))

-- ---- W7: what the calls of any record leave of the pool

module _ (l : Left) (fits : Fits l.device l.marks l.area) (a i : ℕ) (at : place_of l.device.settings a ≡ Some i) where
  abbrev dev : Device
  dev = l.device

  abbrev ws : List ℕ
  ws = l.marks

  abbrev own : Controller
  own = controller_at dev (Some i)

  in_use : i < dev.settings.count
  in_use = place_of-used dev a i at

  sound-from : sound_with dev (length ws) ≡ true → sound_device dev ≡ true
  unfolding sound_with
  sound-from e = and_left (sound_device dev) _ e

  starts-so : (b : ℕ) (x : List ℕ)
      → let r = start_change dev ws b a x in
      r.answer.number ≡ 0 → Started dev ws b i (granularity_of x) (count_of x) (ranges_of x) r.answer.device r.marks
  unfolding start_by order
  starts-so b x e =
      let r = verdict-done (λ (k : Change StartAnswer). k.answer.number) (start_order dev.settings b (seen_in dev (length ws) (Some i)) x) (start_done in_words dev ws b x (Some i)) (λ n j. started_with n j dev ws)
      (λ n j. refl) (order-numbers dev.settings (seen_in dev (length ws) (Some i)) (arriving_in dev.sequence l.area a) (start b x)) (rw at at e) in
      let running : own.suspended ≡ false = not-true own.suspended r.1.1.1.1.0 in
      let p = start_order-passed dev.settings b (seen_in dev (length ws) (Some i)) x r.1 in
      rw at (subst (λ (k : Change StartAnswer). Started dev ws b i (granularity_of x) (count_of x) (ranges_of x) k.answer.device k.marks) (sym r.0)
      (packs-start dev ws l.area fits (sound-from r.1.0) i in_use b x running (not_on own.tracking own.manager p.untracked) p))

  stops_so : (b : ℕ) → let r = stop_change dev ws b a in r.answer.number ≡ 0 → Stopped dev ws i r.answer.device r.marks
  unfolding stop_by order
  stops_so b e =
      let r = verdict-done (λ (k : Change Changed). k.answer.number) (stop_order dev.settings b (seen_in dev (length ws) (Some i))) (stop_done in_words dev ws (Some i)) (λ n j. changed n dev ws)
      (λ n j. refl) (order-numbers dev.settings (seen_in dev (length ws) (Some i)) (arriving_in dev.sequence l.area a) (stop b)) (rw at at e) in
      let running : own.suspended ≡ false = not-true own.suspended r.1.1.1.1.0 in
      let o = is-on own.tracking own.manager b r.1.1.1.1.1.0 in
      let sure = sound-from r.1.0 in
      rw at (subst (λ (k : Change Changed). Stopped dev ws i k.answer.device k.marks) (sym r.0)
      (clears-stop dev ws l.area fits sure i in_use o.0 o.1 o.2 (listed-some dev ws l.area fits sure i in_use o.0 o.1 o.2) running))

  -- words as they were
  as-were : Elsewhere (base_at dev i) (size_at dev i) ws ws
  as-were = record { words = refl; below = λ b h. refl; above = λ b h. refl }

  -- other marks in its share, as many as it has units
  module _ (sure : sound_device dev ≡ true) (g n : ℕ) (t : own.tracking ≡ On g n) where
    abbrev mine : List Unit
    mine = units g (take n own.ranges)

    there : i < length dev.controllers
    there = omega (arith, in_use, (sound_device-facts dev sure).count, fits.controllers)

    in-words : own.base + length mine ≤ 64 * mark_words
    in-words = sound_device-inside dev i g n sure in_use there t (listed-some dev ws l.area fits sure i in_use g n t)

    as_many : length (marks_at ws own.base (length mine)) ≡ length mine
    as_many = get_share-length (flat ws) own.base (length mine) (omega (arith, in-words, flat-length ws, fits.words))

    size_of : size_at dev i ≡ length mine
    size_of =
        sym (sizes_of-share dev fits.controllers (sound_device-facts dev sure).count i)
        ∙ sizes_of-at dev fits.controllers (sound_device-facts dev sure).count i in_use
        ∙ rw t

    put-so : (q : List Bool) → length q ≡ length mine → Elsewhere (base_at dev i) (size_at dev i) ws (with_marks ws own.base q)
    put-so q k = subst (λ m. Elsewhere own.base m ws (with_marks ws own.base q)) (k ∙ sym size_of) (put-elsewhere ws fits.words own.base q (omega (arith, k, in-words)))

  writes-so : (w : Write) → Elsewhere (base_at dev i) (size_at dev i) ws (write_note dev ws a w).marks
  unfolding write_by
  writes-so w =
      rw at (verdict-has (λ (k : Note). Elsewhere (base_at dev i) (size_at dev i) ws k.marks) (λ n j. noted n 0 ws) (λ n j. as-were)
      (write_order (seen_in dev (length ws) (Some i)) w) (write_done in_words dev ws w (Some i)) (λ p. go (sound-from p.0) own.tracking refl))
    where
      go : sound_device dev ≡ true → (t : Tracking) → own.tracking ≡ t → Elsewhere (base_at dev i) (size_at dev i) ws (note_in in_words ws own.base t own.ranges w).marks
      go sure Off e = as-were
      go sure (On g n) e = put-so sure g n e (mark w (mine sure g n e) (marks_at ws own.base (length (mine sure g n e)))) (mark-length w (mine sure g n e) _ (as_many sure g n e))

  receives-so : (b : ℕ) (x : List ℕ) → Elsewhere (base_at dev i) (size_at dev i) ws (receive_receipt dev ws b a x).marks
  unfolding receive_by
  receives-so b x =
      rw at (verdict-has (λ (k : Receipt). Elsewhere (base_at dev i) (size_at dev i) ws k.marks) (λ n j. received n no_report ws x) (λ n j. as-were)
      (receive_order dev.settings b (seen_in dev (length ws) (Some i)) x) (receive_done in_words dev ws a x (Some i)) (λ p. go (sound-from p.0) own.tracking refl))
    where
      go : sound_device dev ≡ true → (t : Tracking) → own.tracking ≡ t → Elsewhere (base_at dev i) (size_at dev i) ws (receive_in in_words ws own.base a own.suspended t own.ranges x).marks
      go sure Off e = as-were
      go sure (On g n) e =
          let us = units g (take n own.ranges) in
          let p = marks_at ws own.base (length us) in
          put-so sure g n e (marks_left (room (length x)) us p) (clear_first-length (length (join (reported_runs (room (length x)) us p))) p ∙ as_many sure g n e)

-- ---- what a session leaves

-- what the record holds of a controller that is tracked with granularity g and ranges rs
record Held (c : Controller) (l : List ℕ) (g : ℕ) (rs : List Range) (p : List Bool) : Type 0 where
  n : ℕ
  tracking : c.tracking ≡ On g n
  ranges : take n c.ranges ≡ rs
  marks : marks_at l c.base (length (units g rs)) ≡ p

module _ (s : Settings) (m : Given) (ks : List Call) (sizes : Sized s m) (made : (fresh_change s m.marks).answer.number ≡ 0) where
  abbrev d : Device
  d = (end_of in_words s m ks).device

  abbrev l : List ℕ
  l = (end_of in_words s m ks).marks

  abbrev area : List ℕ
  area = (end_of in_words s m ks).area

  abbrev qs : ℕ → List ℕ
  qs = (end_of in_words s m ks).queues

  fits : Fits d l area
  fits = let f = fresh-done s m.marks made in fits_after ks (begun in_words s m) (begins s m sizes f.0 f.1).fits

  sound : sound_device d ≡ true
  sound = (soundness.kept s m ks sizes made).0

  pub sure : sound_with d (length l) ≡ true
  unfolding sound_with
  sure = let k = soundness.kept s m ks sizes made in rw (k.0, eq-eqb (length l) mark_words k.1)

  settings-are : d.settings ≡ cleaned s
  settings-are =
      ap (λ (st : State). st.settings) (session s m ks sizes).state
      ∙ after-settings ks _
      ∙ ap (λ (st : State). st.settings) (fresh-opens s (length m.marks) (sym (fresh-answers in_words s m.marks).first ∙ made)).0

  settings-kept : Kept s d.settings
  settings-kept =
      subst (Kept s) (sym settings-are)
      (record { manager = refl; least = refl; greatest = refl; powers = refl; limit = refl; second = refl; shelf = refl; count = refl; identifiers = rw sizes.places })

  -- W12: its managers are those that it was made with
  known_same : (b : ℕ) → is_manager d.settings b ≡ is_manager s b
  unfolding is_manager
  known_same b = ap (λ (t : Settings). is_manager t b) settings-are

  known_from : (b : ℕ) → IsManager s b → is_manager d.settings b ≡ true
  known_from b n = known_same b ∙ named-manager s b n

  limit-same : (b : ℕ) → limit_of d.settings b ≡ limit_of s b
  unfolding limit_of
  limit-same b = ap (λ (t : Settings). limit_of t b) settings-are

  module _ (a : ℕ) where
    abbrev h : List Did
    h = history_in in_words s m ks a

    is-told : slot_of (view in_words d l area qs) a ≡ slot_by h
    is-told = slot_same s m ks sizes a ∙ ((rules.demand-2).pending s (length m.marks) ks a).told ∙ ap slot_by (sym (history-same s m ks sizes a))

    pub place-of : place_of d.settings a ≡ place_of s a
    place-of = ap (λ (t : Settings). place_of t a) settings-are ∙ cleaned-place s a

    -- ---- a controller at a place

    module _ (i : ℕ) (at : place_of s a ≡ Some i) where
      abbrev c : Controller
      c = controller_at d (Some i)

      place : place_of d.settings a ≡ Some i
      place = place-of ∙ at

      used : i < d.settings.count
      used = place_of-used d a i place

      inside : i < 8
      inside = omega (arith, used, (sound_device-facts d sound).count)

      is-slot : slot_seen in_words l c (front_at d.settings d.sequence area i) (qs i) ≡ slot_by h
      is-slot = sym (slot-at d l area qs fits i used inside) ∙ sym (ap (slot_at (view in_words d l area qs)) place) ∙ is-told

      flag_is : c.suspended ≡ suspended_by false h
      flag_is = ap is_suspended is-slot

      manager-is : manager_in c.tracking c.manager ≡ manager_by h
      manager-is = ap (λ (z : Slot). z.manager) is-slot

      marks_are : marks_of in_words l c.base c.tracking c.ranges ≡ marks_by h (tracks_by None h)
      marks_are = ap (λ (z : Slot). z.marks) is-slot

      most : d.settings.count ≤ 8
      most = (sound_device-facts d sound).count

      -- a tracked one has its ranges
      some-ranges : (g n : ℕ) → c.tracking ≡ On g n → 1 ≤ length c.ranges
      some-ranges g n t = listed-some d l area fits sound i used g n t

      -- ---- not tracked, as its calls and answers tell

      is-off : tracks_by None h ≡ None → c.tracking ≡ Off
      is-off e = go c.tracking (marks_are ∙ ap (marks_by h) e)
        where
          go : (t : Tracking) → marks_of in_words l c.base t c.ranges ≡ off → t ≡ Off
          go Off q = refl
          go (On g n) q = let z : ◌≡◌ {A = ℕ} 0 1 = cc in absurd (omega arith)

      -- ---- suspend and resume

      is-suspend : (b kind : ℕ) → IsManager s b
          → let r = suspend_change d (length l) b a kind in
          ((r.number ≡ 0) ↔ (kind ≤ 1)) × (r.number ≡ 0 → r.device ≡ flagged_at d i (suspended_by false h || eqb kind 1))
      unfolding suspend_change
      is-suspend b kind known = rw (place, sure, known_from b known) (go (leb kind 1) refl)
        where
          go : (b : Bool) → leb kind 1 ≡ b
              → let r = cond b (flag_done d (Some i) (c.suspended || eqb kind 1)) (record { number = 15; device = d }) in
              ((r.number ≡ 0) ↔ (kind ≤ 1)) × (r.number ≡ 0 → r.device ≡ flagged_at d i (suspended_by false h || eqb kind 1))
          go true e = (((λ z. leb-true kind 1 e), (λ z. refl)), (λ z. rw flag_is))
          go false e = (((λ z. absurd (omega (arith, z))), (λ k. absurd (omega (arith, leb-false kind 1 e)))), (λ z. absurd (omega (arith, z))))

      is-resume : (b : ℕ) → IsManager s b → let r = resume_change d (length l) b a in ((r.number ≡ 0) ↔ (suspended_by false h ≡ true)) × (r.number ≡ 0 → Resumed d a i r.device)
      unfolding resume_change
      is-resume b known = rw (place, sure, known_from b known) (go c.suspended flag_is)
        where
          resumed : Resumed d a i (resume_done d a (Some i)).device
          resumed = record { flag = refl; drops = λ end e. rw (e, eq-eqb a a refl); keeps = dropped-other a d.sequence }

          go : (b : Bool) → b ≡ suspended_by false h
              → let r = cond b (resume_done d a (Some i)) (record { number = 13; device = d }) in
              ((r.number ≡ 0) ↔ (suspended_by false h ≡ true)) × (r.number ≡ 0 → Resumed d a i r.device)
          go true e = (((λ z. sym e), (λ z. refl)), (λ z. resumed))
          go false e = (((λ z. absurd (omega (arith, z))), (λ k. absurd (true≢false (sym k ∙ sym e)))), (λ z. absurd (omega (arith, z))))

      -- ---- a state that arrives in parts

      is-arriving : Arrives (end_of in_words s m ks) h a
      is-arriving =
          arrives d l area qs fits a i h place sound flag_is
          (sym (front-own d.settings a i place d.sequence area) ∙ ap (λ (z : Slot). z.front) is-slot)

      -- ---- its queue

      is-logging : Logs (end_of in_words s m ks) h a i
      is-logging =
          logs (end_of in_words s m ks) h a i fits.controllers place sure
          (subst (Logged h) (ap (λ (z : Slot). z.queue) (sym (slot_same s m ks sizes a) ∙ ap (slot_at (view in_words d l area qs)) place ∙ slot-at d l area qs fits i used inside))
          (subst (λ (h : List Did). Logged h (slot_of (session_end s (length m.marks) ks) a).queue) (sym (history-same s m ks sizes a)) (known-session s (length m.marks) a ks).queue))

      -- ---- what is not refused

      may_write : (w : Write) → suspended_by false h ≡ false → w.address + w.bytes ≤ 2 ^ 64 → (write_note d l a w).answer.number ≡ 0
      unfolding write_by
      may_write w e k = rw (place, sure, flag_is, e, le-leb (w.address + w.bytes) (2 ^ 64) k) (write-zero in_words d l w (Some i))

      -- the settings say the same of a structure once unused places are zeros
      listed_same : (x : List ℕ) → start_listed d.settings x ≡ start_listed s x
      unfolding granularity_ok powers_ok
      listed_same x = ap (λ (t : Settings). start_listed t x) settings-are

      may_start : (b limit : ℕ) (x : List ℕ) → Manages s b limit → suspended_by false h ≡ false → tracks_by None h ≡ None → passes (header_tests x ++ start_listed s x) ≡ true
          → length (units (granularity_of x) (ranges_of x)) + units_in (session_end s (length m.marks) ks) ≤ 16384
          → count_of x + managed_in (session_end s (length m.marks) ks) b ≤ limit → count_of x + counts_in (session_end s (length m.marks) ks) ≤ s.shelf → (start_change d l b a x).answer.number ≡ 0
      unfolding start_by
      may_start b limit x named e idle ok fit few all =
          let v = seen_in d (length l) (Some i) in
          let seen = subst (λ q. seen_in d (length l) q ≡ seen_at (view in_words d l area qs) q) place (seen_same d l area qs fits a) in
          let managed : v.managed b ≡ managed_in (session_end s (length m.marks) ks) b = ap (λ (z : Seen). z.managed b) seen ∙ ap (λ (st : State). managed_in st b) (session s m ks sizes).state in
          let counts : v.counts ≡ counts_in (session_end s (length m.marks) ks) = ap (λ (z : Seen). z.counts) seen ∙ ap counts_in (session s m ks sizes).state in
          let units-held : v.units ≡ units_in (session_end s (length m.marks) ks) = ap (λ (z : Seen). z.units) seen ∙ ap units_in (session s m ks sizes).state in
          let structure : Passed (header_tests x ++ start_listed d.settings x) = subst (λ (ts : List Test). Passed (header_tests x ++ ts)) (sym (listed_same x)) (passes-Passed (header_tests x ++ start_listed s x) ok) in
          let who : Passed (start_who d.settings b v) = (sure, (known_from b (limit, named), (refl, (not-intro c.suspended (flag_is ∙ e), (rw (is-off idle) refl, tt))))) in
          let its : limit_of d.settings b ≡ limit = limit-same b ∙ limit-named s (fresh-done s m.marks made).0 b limit named in
          let shelf : d.settings.shelf ≡ s.shelf = ap (λ (t : Settings). t.shelf) settings-are in
          let shared : Passed (start_shared d.settings b v.units (v.managed b) v.counts x) = (
            le-leb (length (units (granularity_of x) (ranges_of x)) + v.units) most_units (omega (arith, fit, units-held)),
            (
              le-leb (count_of x + v.managed b) (limit_of d.settings b) (omega (arith, few, managed, its)),
              (le-leb (count_of x + v.counts) d.settings.shelf (omega (arith, all, counts, shelf)), tt),
            ),
          ) in
          rw place
          (ap (λ (k : Change StartAnswer). k.answer.number)
          (verdict-passed (start_order d.settings b v x) (start_done in_words d l b x (Some i)) (λ n j. started_with n j d l)
          (All-append (λ (t : Test). t.ok ≡ true) (start_own d.settings b v x) (start_shared d.settings b v.units (v.managed b) v.counts x)
          (All-append (λ (t : Test). t.ok ≡ true) (start_who d.settings b v) (header_tests x ++ start_listed d.settings x) who structure) shared)))

      -- ---- suspended, as its calls and answers tell

      is-refused : suspended_by false h ≡ true → (o : Op) → Moves s o → outcome in_words (end_of in_words s m ks) (record { id = a; op = o }) ≡ refused_on (end_of in_words s m ks) o 4
      unfolding run start_by stop_by write_by
      is-refused e o (starts b x known) = rw (place, sure, known_from b known, flag_is, e)
      is-refused e o (stops b known) = rw (place, sure, known_from b known, flag_is, e)
      is-refused e o (writes w) = rw (place, sure, flag_is, e)

      -- ---- tracked, as its calls and answers tell

      module _ (g : ℕ) (rs : List Range) (by : tracks_by None h ≡ Some (g, rs)) where
        abbrev us : List Unit
        us = units g rs

        abbrev p : List Bool
        p = told_of h us

        held : Held c l g rs p
        held = go c.tracking refl (marks_are ∙ ap (marks_by h) by)
          where
            go : (t : Tracking) → c.tracking ≡ t → marks_of in_words l c.base t c.ranges ≡ on g rs p → Held c l g rs p
            go Off e q = let z : ◌≡◌ {A = ℕ} 0 1 = cc in absurd (omega arith)
            go (On k n) e q =
                let same : k ≡ g = cc in
                let listed : take n c.ranges ≡ rs = cc in
                let kept : marks_at l c.base (length (units k (take n c.ranges))) ≡ p = cc in
                record {
                  n = n;
                  tracking = e ∙ ap (λ x. On x n) same;
                  ranges = listed;
                  marks = ap₂ (λ (x : ℕ) (y : List Range). marks_at l c.base (length (units x y))) (sym same) (sym listed) ∙ kept;
                }

        facts : HeldFacts d.settings g held.n rs
        facts =
            subst (HeldFacts d.settings g held.n) held.ranges
            (sound_device-held d i g held.n sound used (omega (arith, inside, fits.controllers)) held.tracking)

        -- its share has a bit for each unit, and lies within the words
        size_is : size_at d i ≡ length us
        size_is =
            sym (sizes_of-share d fits.controllers most i)
            ∙ sizes_of-at d fits.controllers most i used
            ∙ rw (held.tracking, held.ranges)

        within : c.base + length us ≤ 64 * mark_words
        within =
            subst (λ (y : List Range). c.base + length (units g y) ≤ 64 * mark_words) held.ranges
            (sound_device-inside d i g held.n sound used (omega (arith, inside, fits.controllers)) held.tracking (some-ranges g held.n held.tracking))

        sized : length p ≡ length us
        sized = length-map us (pending_by h)

        bit_is : (m : ℕ) → m < length us → bit_of l c.base m ≡ get_or p m false
        bit_is m k = sym (get_share-at (flat l) c.base (length us) m false k) ∙ ap (λ q. get_or q m false) held.marks

        is-listed : UnitsListed g rs
        is-listed = (rules.demand-2).listed g rs facts.rows

        is-pending : (m : ℕ) (u : Unit) → slice_get us m ≡ Some u → (bit_of l c.base m ≡ true) ↔ PendingBy h u
        is-pending m u k =
            let q = slice_get-at us m u u k in
            let e : bit_of l c.base m ≡ pending_by h u = bit_is m q.0 ∙ get_d_map (pending_by h) us m u q in (
              (λ t. (pending_by-iff h u).0 (sym e ∙ t)),
              (λ w. e ∙ (pending_by-iff h u).1 w),
            )

        -- ---- an accepted write

        written : (w : Write) → Wrote h c.base us w l (newly w us p) (with_marks l c.base (mark w us p))
        written w =
            let n : length (mark w us p) ≡ length us = mark-length w us p sized in
            let fit : c.base + length (mark w us p) ≤ 64 * mark_words = omega (arith, n, within) in
            record {
              marked = λ m u k.
                  let q = slice_get-at us m u u k in
                  put-bit l fits.words c.base (mark w us p) fit m (omega (arith, q.0, n))
                  ∙ mark-at w us p m u sized q.0
                  ∙ ap₂ (λ (x : Bool) (v : Unit). x || touches w v) (sym (bit_is m q.0)) q.1;
              elsewhere = subst (λ k. Elsewhere c.base k l (with_marks l c.base (mark w us p))) n (put-elsewhere l fits.words c.base (mark w us p) fit);
              counted = refl;
              writes = (rules.demand-2).writes w us p;
            }

        is-written : (w : Write) → (write_note d l a w).answer.number ≡ 0 → Wrote h c.base us w l (write_note d l a w).answer.count (write_note d l a w).marks
        unfolding write_by order
        is-written w e =
            let r = verdict-done (λ (k : Note). k.answer.number) (write_order (seen_in d (length l) (Some i)) w) (write_done in_words d l w (Some i)) (λ n j. noted n 0 l)
            (λ n j. refl) (order-numbers d.settings (seen_in d (length l) (Some i)) (arriving_in d.sequence area a) (write w)) (rw place at e) in
            let is : write_done in_words d l w (Some i) ≡ noted 0 (newly w us p) (with_marks l c.base (mark w us p)) = rw (held.tracking, held.ranges, held.marks) in
            rw place (subst (λ (k : Note). Wrote h c.base us w l k.answer.count k.marks) (sym (r.0 ∙ is)) (written w))

        -- ---- an accepted receive

        abbrev made_of : List ℕ → Receipt
        made_of x =
            let r = report_on (suspended_by false h) g (room (length x)) us p in
            received 0 r (with_marks l c.base (marks_left (room (length x)) us p)) (put x 0 (report_bytes a r))

        stored : (x : List ℕ) → 32 ≤ length x → Received h a c.base g us x l (made_of x)
        stored x long =
            let k = room (length x) in
            let q = marks_left k us p in
            let n : length q ≡ length us = clear_first-length (length (join (reported_runs k us p))) p ∙ sized in
            let share : c.base + length q ≤ 64 * mark_words = omega (arith, n, within) in
            let r = (made_of x).report in
            let fit : 16 + 16 * length r.descriptors ≤ length x = omega (arith, long, listed-few k us p) in
            record {
              report = refl;
              says = (refl, refl);
              reports =
                  let z = sym (slot_same s m ks sizes a) ∙ is-told in
                  (rules.demand-2).reports s (length m.marks) ks a (suspended_by false h) g rs p (ap is_suspended z) (ap (λ (y : Slot). y.marks) z ∙ ap (marks_by h) by) k;
              fits = (rules.demand-2).room (length x) (omega (arith, long));
              answer = refl;
              most = groups-most k us p sized (omega (arith, within));
              front = put-take-front x (16 + 16 * length r.descriptors) (report_bytes a r) (report_bytes-length a r) fit;
              rest = report-rest a r x;
              read_back = λ small. reads-back a g (suspended_by false h) rs p x small facts.small facts.rows (omega (arith, within)) long;
              left = λ m u e. put-bit l fits.words c.base q share m (omega (arith, n, (slice_get-at us m u u e).0));
              elsewhere = subst (λ j. Elsewhere c.base j l (with_marks l c.base q)) n (put-elsewhere l fits.words c.base q share);
            }

        is-received : (b : ℕ) (x : List ℕ) → (receive_receipt d l b a x).answer.number ≡ 0 → Received h a c.base g us x l (receive_receipt d l b a x)
        unfolding receive_by order
        is-received b x e =
            let r = verdict-done (λ (k : Receipt). k.answer.number) (receive_order d.settings b (seen_in d (length l) (Some i)) x) (receive_done in_words d l a x (Some i)) (λ n j. received n no_report l x)
            (λ n j. refl) (order-numbers d.settings (seen_in d (length l) (Some i)) (arriving_in d.sequence area a) (receive b x)) (rw place at e) in
            rw place (subst (Received h a c.base g us x l) (sym (r.0 ∙ rw (held.tracking, held.ranges, held.marks, flag_is))) (stored x (leb-true 32 (length x) r.1.1.1.1.1.0)))

        -- ---- what is not refused

        -- W12: the manager that tracks it is the one that started it
        who : c.manager ≡ manager_by h
        who = sym (ap (λ (t : Tracking). manager_in t c.manager) held.tracking) ∙ manager-is

        known : is_manager d.settings (manager_by h) ≡ true
        known = sym (ap (is_manager d.settings) who) ∙ tracker-known d i g held.n sound used (omega (arith, inside, fits.controllers)) held.tracking

        may_stop : suspended_by false h ≡ false → (stop_change d l (manager_by h) a).answer.number ≡ 0
        unfolding stop_by
        may_stop e = rw (place, sure, known, flag_is, e, held.tracking, eq-eqb c.manager (manager_by h) who)

        may_receive : (x : List ℕ) → 32 ≤ length x → (receive_receipt d l (manager_by h) a x).answer.number ≡ 0
        unfolding receive_by
        may_receive x k = rw (place, sure, known, held.tracking, eq-eqb c.manager (manager_by h) who, le-leb 32 (length x) k)

        -- ---- what is refused

        again : (b : ℕ) (x : List ℕ) → IsManager d.settings b → suspended_by false h ≡ false → outcome in_words (end_of in_words s m ks) (record { id = a; op = start b x }) ≡ refused_on (end_of in_words s m ks) (start b x) 3
        unfolding run start_by
        again b x n e = rw (place, sure, named-manager d.settings b n, flag_is, e, held.tracking)

        other_stops : (b : ℕ) → IsManager d.settings b → b ≢ manager_by h → suspended_by false h ≡ false
            → outcome in_words (end_of in_words s m ks) (record { id = a; op = stop b }) ≡ refused_on (end_of in_words s m ks) (stop b) 5
        unfolding run stop_by
        other_stops b n other e = rw (place, sure, named-manager d.settings b n, flag_is, e, held.tracking, ne_eqb c.manager b (λ z. other (sym z ∙ who)))

        other_receives : (b : ℕ) (x : List ℕ) → IsManager d.settings b → b ≢ manager_by h → outcome in_words (end_of in_words s m ks) (record { id = a; op = receive b x }) ≡ refused_on (end_of in_words s m ks) (receive b x) 5
        unfolding run receive_by
        other_receives b x n other = rw (place, sure, named-manager d.settings b n, held.tracking, ne_eqb c.manager b (λ z. other (sym z ∙ who)))

        is-tracked : Tracked (end_of in_words s m ks) h a i g rs
        is-tracked =
            record {
              listed = is-listed;
              pending = is-pending;
              written = is-written;
              received = is-received;
              size = size_is;
              may_stop = may_stop;
              may_receive = may_receive;
              again = again;
              other_stops = other_stops;
              other_receives = other_receives;
            }

    -- ---- any controller

    is-idle : (w : Write) → tracks_by None h ≡ None → ((write_note d l a w).answer.count ≡ 0) × ((write_note d l a w).marks ≡ l)
    unfolding write_by
    is-idle w e = go (place_of s a) refl
      where
        Idle : Note → Type 0
        Idle n = (n.answer.count ≡ 0) × (n.marks ≡ l)

        go : (q : Option ℕ) → place_of s a ≡ q → Idle (write_note d l a w)
        go None k = rw (place-of ∙ k) (verdict-has Idle (λ n i. noted n 0 l) (λ n i. (refl, refl)) (write_order (seen_in d (length l) None) w) (write_done in_words d l w None) (λ t. (refl, refl)))
        go (Some i) k =
            rw (place i k) (verdict-has Idle (λ n i. noted n 0 l) (λ n i. (refl, refl)) (write_order (seen_in d (length l) (Some i)) w) (write_done in_words d l w (Some i)) (λ t. rw (is-off i k e) (refl, refl)))

    is-suspended : suspended_by false h ≡ true → (o : Op) → Moves s o → outcome in_words (end_of in_words s m ks) (record { id = a; op = o }) ≡ refused_on (end_of in_words s m ks) o 4
    is-suspended e = go (place_of s a) refl
      where
        go : (q : Option ℕ) → place_of s a ≡ q → (o : Op) → Moves s o → outcome in_words (end_of in_words s m ks) (record { id = a; op = o }) ≡ refused_on (end_of in_words s m ks) o 4
        go None k = absurd (true≢false (sym e ∙ ap is_suspended (sym is-told ∙ ap (slot_at (view in_words d l area qs)) (place-of ∙ k))))
        go (Some i) k = is-refused i k e

    -- W12: a manager that the settings do not name
    is-unknown : (b : ℕ) (o : Op) → CallOf b o → (IsManager s b → ⊥) → outcome in_words (end_of in_words s m ks) (record { id = a; op = o }) ≡ refused_on (end_of in_words s m ks) o 2
    unfolding run start_by stop_by receive_by suspend_change resume_change part_change
    is-unknown b o (by.starts x) h = rw (sure, known_same b ∙ not_named s b h)
    is-unknown b o by.stops h = rw (sure, known_same b ∙ not_named s b h)
    is-unknown b o (by.receives x) h = rw (sure, known_same b ∙ not_named s b h)
    is-unknown b o (by.suspends kind) h = rw (sure, known_same b ∙ not_named s b h)
    is-unknown b o by.resumes h = rw (sure, known_same b ∙ not_named s b h)
    is-unknown b o (by.sends p) h = rw (sure, eq-eqb (length area) 4096 fits.bytes, known_same b ∙ not_named s b h)

    pub is-standing : let st = session_end s (length m.marks) ks in Stands s (end_of in_words s m ks) h (units_in st) (managed_in st) (counts_in st) a
    is-standing =
        record {
          told = is-told;
          tracked = λ i g rs at by. is-tracked i at g rs by;
          untracked = is-idle;
          suspended = is-suspended;
          may_write = λ i w at. may_write i at w;
          unknown = is-unknown;
          may_start = λ b limit i x n at. may_start i at b limit x n;
          started = λ b i x at. starts-so (end_of in_words s m ks) fits a i (place i at) b x;
          stopped = λ b i at. stops_so (end_of in_words s m ks) fits a i (place i at) b;
          suspends = λ b i kind n at. is-suspend i at b kind n;
          resumes = λ b i n at. is-resume i at b n;
          parts = λ i at. is-arriving i at;
          queues = λ i at. is-logging i at;
        }

-- ---- a record that no session made

All-from : (P : Controller → Type 0) (cs : List Controller) → ((i : ℕ) → P (get_or cs i no_controller)) → All P cs
All-from P [] f = tt
All-from P (c ∷ cs) f = (f 0, All-from P cs (λ i. f (suc i)))

pub shaped-fits : (l : Left) → Shaped in_words l → Fits l.device l.marks l.area
shaped-fits l s =
    record { controllers = s.controllers; identifiers = s.identifiers; listed = All-from Listed l.device.controllers s.listed; totals = All-from Totalled l.device.controllers s.totals; words = s.words; bytes = s.bytes }

is-step : (l : Left) → Shaped in_words l → (k : Call) → Steps in_words l k
is-step l s k =
    let w = call_step l.device l.marks l.area l.queues (shaped-fits l s) k in
    record { answer = w.answer; device = w.state; bytes = w.bytes }

-- ---- W7: a call to another

-- a record and marks that agree with the rules' device before and after a call: the units of a controller to which it was not made
apart : (l l' : Left) (st : State) (k : Call) (b : ℕ) → view in_words l.device l.marks l.area l.queues ≡ st → view in_words l'.device l'.marks l'.area l'.queues ≡ (step st k).1 → k.id ≢ b
    → pending_of in_words l' b ≡ pending_of in_words l b
apart l l' st k b before afterwards other =
    ap (λ (x : State). pending_in (slot_of x b)) afterwards ∙ ap pending_in (step_other st k b other) ∙ sym (ap (λ (x : State). pending_in (slot_of x b)) before)

undisturbed : (s : Settings) (m : Given) (ks : List Call) → Sized s m → (k : Call) (b : ℕ) → k.id ≢ b → pending_of in_words (next in_words (end_of in_words s m ks) k) b ≡ pending_of in_words (end_of in_words s m ks) b
undisturbed s m ks sized k b other =
    apart (end_of in_words s m ks) (next in_words (end_of in_words s m ks) k) (session_end s (length m.marks) ks) k b (session s m ks sized).state
    (ap (λ (l : Left). view in_words l.device l.marks l.area l.queues) (sym (left-append in_words ks (k ∷ []) (begun in_words s m)))
    ∙ (session s m (ks ++ k ∷ []) sized).state
    ∙ after-append ks (k ∷ []) (fresh s (length m.marks)))
    other

unmoved : (l : Left) → Shaped in_words l → (k : Call) (b : ℕ) → k.id ≢ b → pending_of in_words (next in_words l k) b ≡ pending_of in_words l b
unmoved l shaped k b other = apart l (next in_words l k) (view in_words l.device l.marks l.area l.queues) k b refl (is-step l shaped k).device other

suspends-so : (d : Device) (words a i : ℕ) → place_of d.settings a ≡ Some i → (b kind : ℕ)
    → let c = suspend_change d words b a kind in
    c.number ≡ 0 → c.device ≡ flagged_at d i ((controller_at d (Some i)).suspended || eqb kind 1)
unfolding suspend_change
suspends-so d words a i place b kind z =
    let r = verdict-done (λ (c : Changed). c.number) (suspend_order d.settings b (seen_in d words (Some i)) kind) (flag_done d (Some i) ((controller_at d (Some i)).suspended || eqb kind 1)) (λ n j. record { number = n; device = d })
    (λ n j. refl) (omega arith, (omega arith, (omega arith, (omega arith, tt)))) (rw place at z) in
    rw place (ap (λ (c : Changed). c.device) r.0)

resumes-so : (d : Device) (words a i : ℕ) → place_of d.settings a ≡ Some i → (b : ℕ) → let c = resume_change d words b a in c.number ≡ 0 → Resumed d a i c.device
unfolding resume_change
resumes-so d words a i place b z =
    let r = verdict-done (λ (c : Changed). c.number) (resume_order d.settings b (seen_in d words (Some i))) (resume_done d a (Some i)) (λ n j. record { number = n; device = d })
    (λ n j. refl) (omega arith, (omega arith, (omega arith, (omega arith, tt)))) (rw place at z) in
    rw (place, r.0) (record { flag = refl; drops = λ end e. rw (e, eq-eqb a a refl); keeps = dropped-other a d.sequence })

arrives-so : (d : Device) (words : ℕ) (area : List ℕ) (a i : ℕ) → place_of d.settings a ≡ Some i → (m : ℕ) (p : Part)
    → let r = part_change d words area m a p in
    r.answer.number ≡ 0 → r.answer.device ≡ arriving d r.answer.device.sequence
unfolding part_change
arrives-so d words area a i place m p z =
    verdict-has (λ (r : Arrival). r.answer.device ≡ arriving d r.answer.device.sequence) (λ n j. arrival n 0 d area) (λ n j. refl)
    (part_order d.settings m (seen_in d words (place_of d.settings a)) (arriving_in d.sequence area a) p) (part_done d area a p) (λ q. by (is_last p))
  where
    by : (b : Bool)
        → let joined = joined_with (front_in a d.sequence area) p in
        let stored = put area (offset_of p) p.bytes in
        let r = cond b (arrival 0 (length joined) (with_sequence d None) stored) (arrival 0 0 (with_sequence d (Some (record { owner = a; end = length joined }))) stored) in
        r.answer.device ≡ arriving d r.answer.device.sequence
    by true = refl
    by false = refl

keeps : (l : Left) → Shaped in_words l → (a i : ℕ) → place_of l.device.settings a ≡ Some i → Keeps l a i
keeps l s a i e =
    let fits = shaped-fits l s in
    record {
      started = starts-so l fits a i e;
      stopped = stops_so l fits a i e;
      written = writes-so l fits a i e;
      received = receives-so l fits a i e;
      suspended = suspends-so l.device (length l.marks) a i e;
      resumed = resumes-so l.device (length l.marks) a i e;
      arrived = arrives-so l.device (length l.marks) l.area a i e;
    }

-- ---- two divisions

-- what a finishing part yields
yielded : (s : Settings) (m : Given) (ks : List Call) → Sized s m → (fresh_change s m.marks).answer.number ≡ 0 → (b a : ℕ) (p : Part)
    → let l = end_of in_words s m ks in
    let r = part_change l.device (length l.marks) l.area b a p in
    let x = whole_by (history_in in_words s m ks a) p in
    r.answer.number ≡ 0 → IsFinal p → (r.answer.whole ≡ length x) × (take r.answer.whole r.area ≡ x)
yielded s m ks ok e b a p z f = go (place_of s a) refl
  where
    l : Left
    l = end_of in_words s m ks

    x : List ℕ
    x = whole_by (history_in in_words s m ks a) p

    r : Arrival
    r = part_change l.device (length l.marks) l.area b a p

    go : (q : Option ℕ) → place_of s a ≡ q → (r.answer.whole ≡ length x) × (take r.answer.whole r.area ≡ x)
    go None k = absurd (part-unknown l.device (length l.marks) l.area b a p (place-of s m ks ok e a ∙ k) z)
    go (Some i) k =
        let y = (is-arriving s m ks ok e a i k).yields b p z f in
        let n : r.answer.whole ≡ length x = ap (λ (q : StateSet). q.whole) y.0 in
        (n, ap (λ t. take t r.area) n ∙ y.1)

divided : (s : Settings) (m : Given) (ks : List Call) → Sized s m → (fresh_change s m.marks).answer.number ≡ 0 → (b a : ℕ) (p : Part)
    → (s' : Settings) (m' : Given) (ks' : List Call) → Sized s' m' → (fresh_change s' m'.marks).answer.number ≡ 0 → (b' a' : ℕ) (p' : Part)
    → let l = end_of in_words s m ks in
    let l' = end_of in_words s' m' ks' in
    let r = part_change l.device (length l.marks) l.area b a p in
    let r' = part_change l'.device (length l'.marks) l'.area b' a' p' in
    r.answer.number ≡ 0 → r'.answer.number ≡ 0 → IsFinal p → IsFinal p' → whole_by (history_in in_words s m ks a) p ≡ whole_by (history_in in_words s' m' ks' a') p'
    → (r.answer.whole ≡ r'.answer.whole) × (take r.answer.whole r.area ≡ take r'.answer.whole r'.area)
divided s m ks ok e b a p s' m' ks' ok' e' b' a' p' z z' f f' same =
    let y = yielded s m ks ok e b a p z f in
    let y' = yielded s' m' ks' ok' e' b' a' p' z' f' in
    (y.0 ∙ ap length same ∙ sym y'.0, y.1 ∙ same ∙ sym y'.1)

-- ---- all of it

pub demand-2 : Demand2
unfolding put
demand-2 =
    record {
      rules = λ s a m ks sized. equals s m ks sized a ks (record { answers = refl; bytes = refl; units = refl; queued = refl });
      steps = is-step;
      fresh = fresh-is;
      zeros = λ s. (refl, refl, refl);
      cleaned = λ s e. record { manager = refl; least = refl; greatest = refl; powers = refl; limit = refl; second = refl; shelf = refl; count = refl; identifiers = rw e };
      closed-settings = refl;
      controller = λ d i c e. (slice_get-at d.controllers i c no_controller e).1;
      bits = bit_at;
      place = is-place;
      settings = settings-kept;
      stands = is-standing;
      undisturbed = undisturbed;
      unmoved = unmoved;
      found = is_found;
      keeps = keeps;
      queue_calls = λ l shaped a i at. queue_calls l.device (length l.marks) a i shaped.controllers at;
      divided = λ s s' m m' ks ks' ok ok' e e' b b' a a' p p'. divided s m ks ok e b a p s' m' ks' ok' e' b' a' p';
      runs = (rules.demand-2).runs;
      touches = (rules.demand-2).touches;
    }
