-- The demands, proved of the rules: one declaration for each statement of specs/Demands.antt. Assumes nothing.
use mathlib.Core.Path.{◌≡◌, refl, sym, ap, subst, ◌∙◌}
use mathlib.Core.Logic.{◌↔◌, ◌≢◌}
use mathlib.Core.Bool.{Bool, true, false, cond, and-false, true≢false}
use mathlib.Core.List.{List, [], ◌∷◌, ◌++◌}
use Rattle.std.specs.declared.option.Option.{Option}
use Rattle.std.specs.declared.option.Option.TheVariants.{Some}
use Prim.Native.Nat.{ℕ, ◌+◌, ◌-◌, ◌%◌, ◌^◌, ◌≤◌, ◌<◌}
use native.Mathlib.Omega.{arith}
use native.Mathlib.Nat.{lt_of_lt_of_le, mul-mod_right}
use lib.ListN.{length}
use Rattle.std.specs.List.{slice_get}
use Rattle.rules.specs.declared.Range.{Range}
use lib.Pow.{pow-add, pow_mono, shl_lt}
use Rattle.little.specs.Little.{number_at, number_bytes, records, records_at}
use Rattle.rules.specs.Settings.{settings_ok, is_manager, limit_of, place_of, granularity_ok, unit_size}
use Rattle.rules.specs.Units.{Unit, Write, units, touches}
use Rattle.rules.specs.Ranges.{range_tests, powers_ok}
use Rattle.rules.specs.StartData.{ranges_of, start_bytes}
use Rattle.rules.specs.Report.{flag, room, report_on, report_bytes}
use Rattle.rules.specs.Order.{Op, start, stop, write, receive, suspend, resume, part, queue, receive_order, order}
use Rattle.rules.specs.Device.{sound, held_ok}
use Rattle.rules.specs.Machine.{Answer, refused, done, reported, number_of, on, Slot, pending_in, entries_in, accepted, State, opened, fresh, closed, slot_at, with_slot, slot_of, seen_at, arriving_at, step_at, Call, step, after}
use Rattle.rules.specs.History.{Did, only, is_accepted, pending_by}
use Rattle.rules.specs.Totals.{units_marked, units_reported, units_dropped, stops, dropped_by, unknown, shown_by}
use Rattle.rules.specs.Demands.{session_end, session_history, Refusals, Soundness, Pending, Demand2, Agree, unhindered, lent_bytes, Demand3, Totals, Granularities}
use Rattle.rules.specs.ControllerState.{state_ok}
use Rattle.rules.specs.Queue.{closing_entry}
use Rattle.rules.specs.Worked.{cases, Worked, WorkedStates, WorkedGroups, totals_cases, WorkedTotals, WorkedShown}
use Rattle.rules.specs.Layouts.{Layouts}
use Rattle.rules.specs.declared.Settings.{Settings}
use Rattle.rules.proofs.ListLaws.{map_at, some_inj}
use Rattle.rules.proofs.RefusalLaws.{verdict-has, verdict-done}
use Rattle.rules.proofs.ListedLaws.{units-listed}
use Rattle.rules.proofs.UnitLaws.{units_from-sized, touches-iff}
use Rattle.rules.proofs.SlotHistory.{did, Told, pending_by-iff, known-pending, accepted-done}
use Rattle.rules.proofs.SoundLaws.{after-sound, fresh-opens, fresh-closed, closed-unsound}
use Rattle.rules.proofs.TotalLaws.{units_marked-grows, units_reported-grows, units_dropped-grows, units_marked-snoc, units_reported-snoc, units_dropped-snoc, shown_of-known, shown_of-passed, shown_of-unknown, shown_by-stays}
use Rattle.rules.proofs.Sessions.{known-session, history-append, slot-told}
use Rattle.rules.proofs.Isolation.{with_slot-slot_at, step-unsound, history-alone, slot-alone}
use Rattle.rules.proofs.ReportLaws.{reports-map, runs-are, writes-always}

-- ---- refusals

accepted-not-refused : (c : Slot) (o : Op) (n i : ℕ) → (accepted c o).0 ≡ refused n i → ⊥
accepted-not-refused c o n i e = true≢false (sym (accepted-done c o) ∙ ap is_accepted e)

refused-unchanged : (st : State) (k : Call) (n i : ℕ) → (step st k).0 ≡ refused n i → (step st k).1 ≡ st
unfolding step
refused-unchanged st k n i = go (place_of st.settings k.id)
  where
    go : (p : Option ℕ) → (step_at st p k.op).0 ≡ refused n i → (step_at st p k.op).1 ≡ st
    go p =
        verdict-has (λ (r : Answer × Slot). r.0 ≡ refused n i → with_slot st p r.1 ≡ st) (λ m j. (refused m j, slot_at st p))
        (λ m i e. with_slot-slot_at st p) (order st.settings (seen_at st p) (arriving_at st p) k.op) (accepted (slot_at st p) k.op)
        (λ h e. absurd (accepted-not-refused (slot_at st p) k.op n i e))

pub refusals : Refusals
refusals =
    record {
      unchanged = refused-unchanged;
      bytes = λ id x n i. refl;
      number = λ n i. refl;
      zeros = λ n i. (refl, refl, refl);
      queues = λ n i. (refl, refl, refl);
    }

-- ---- soundness

after-closed : (ks : List Call) → after closed ks ≡ closed
after-closed [] = refl
after-closed (k ∷ ks) = ap (λ (r : Answer × State). after r.1 ks) (step-unsound closed k closed-unsound) ∙ after-closed ks

pub soundness : Soundness
soundness =
    record {
      kept = λ s words ks e. let f = fresh-opens s words e in rw f.0 (after-sound ks (opened s) f.1);
      closed = λ s words ks k e.
          rw (fresh-closed s words e, after-closed ks) (ap (λ (r : Answer × State). r.0) (step-unsound closed k closed-unsound));
    }

-- ---- demand 2

pending-exactly : (s : Settings) (words : ℕ) (ks : List Call) (a : ℕ) → Pending s words ks a
pending-exactly s words ks a =
    record {
      told = slot-told s words a ks;
      exactly = λ g rs p e n u at.
          let h : List Did = session_history s words ks a in
          let k : Told h (on g rs p) = rw e at (known-session s words a ks).marks in
          let m : slice_get p n ≡ Some (pending_by h u) = ap (λ l. slice_get l n) k.0 ∙ map_at (pending_by h) (units g rs) n u at in (
            (λ t. (pending_by-iff h u).0 (some_inj (sym m ∙ t))),
            (λ w. m ∙ ap Some ((pending_by-iff h u).1 w)),
          );
    }

shares-a-byte : (w : Write) (u : Unit) → 0 < u.size
    → (touches w u ≡ true) ↔ ((x : ℕ) × (w.address ≤ x) × (x < w.address + w.bytes) × (u.address ≤ x) × (x < u.address + u.size))
shares-a-byte w u z = (
  (λ e. let r = (touches-iff w u z).0 e in (r.0, r.1, r.2, r.3.0, r.3.1)),
  (λ r. (touches-iff w u z).1 (r.0, r.1, r.2, (r.3, r.4))),
)

reported-always : (st : State) (a m : ℕ) (x : List ℕ) (g : ℕ) (rs : List Range) (p : List Bool) → (slot_of st a).marks ≡ on g rs p
    → number_of (step st (record { id = a; op = receive m x })).0 ≡ 0
    → (step st (record { id = a; op = receive m x })).0 ≡ reported (report_on (slot_of st a).suspended g (room (length x)) (units g rs) p)
unfolding step order
reported-always st a m x g rs p e z =
    let c = slot_of st a in
    let r = verdict-done (λ (y : Answer × Slot). number_of y.0) (receive_order st.settings m (seen_at st (place_of st.settings a)) x) (accepted c (receive m x)) (λ n j. (refused n j, c)) (λ n j. refl)
    (omega arith, (omega arith, (omega arith, (omega arith, (omega arith, tt))))) z in
    ap (λ (y : Answer × Slot). y.0) r.0 ∙ rw e

pub demand-2 : Demand2
demand-2 =
    record {
      listed = units-listed;
      pending = pending-exactly;
      reports = λ s words ks a b g rs p f e k.
          let h : List Did = session_history s words ks a in
          let w : Told h (on g rs p) = rw e at (known-session s words a ks).marks in
          rw w.0 (reports-map b (pending_by h) g k (units g rs) (units_from-sized (unit_size g) 0 [] rs) w.1);
      answers = reported-always;
      touches = λ w u. record { exactly = λ z. shares-a-byte w u z; none = λ e. rw e };
      runs = runs-are;
      room = λ bytes h. record { fits = omega arith; no_more = omega arith };
      writes = writes-always;
    }

-- ---- demand 3

agree-alone : (s : Settings) (words a : ℕ) (ks : List Call) → unhindered (session_history s words ks a) ≡ true → Agree s words a ks (only a ks)
agree-alone s words a ks f =
    record {
      answers = history-alone s words a ks f;
      bytes = ap (lent_bytes a) (history-alone s words a ks f);
      units = ap pending_in (slot-alone s words a ks f);
      queued = ap (λ (c : Slot). entries_in c.queue) (slot-alone s words a ks f);
    }

pub demand-3 : Demand3
demand-3 =
    record {
      alone = agree-alone;
      together = λ s words a ks ks' e f f'.
          let l = agree-alone s words a ks f in
          let r = agree-alone s words a ks' f' in
          record {
            answers = l.answers ∙ ap (λ k. session_history s words k a) e ∙ sym r.answers;
            bytes = l.bytes ∙ ap (λ k. lent_bytes a (session_history s words k a)) e ∙ sym r.bytes;
            units = l.units ∙ ap (λ k. pending_in (slot_of (session_end s words k) a)) e ∙ sym r.units;
            queued = l.queued ∙ ap (λ k. entries_in (slot_of (session_end s words k) a).queue) e ∙ sym r.queued;
          };
    }

-- ---- W13: the numbers for the log

keeps-dropped : (h : List Did) (o : Op) (a : Answer) → ((m : ℕ) → o ≢ stop m) → units_dropped (h ++ did o a ∷ []) ≡ units_dropped h
keeps-dropped h o a n = omega (arith, units_dropped-snoc h (did o a), none (stops o) refl)
  where
    no_stop : (o : Op) → ((m : ℕ) → o ≢ stop m) → stops o ≡ false
    no_stop (stop m) n = absurd (n m refl)
    no_stop (start m x) n = refl
    no_stop (write w) n = refl
    no_stop (receive m x) n = refl
    no_stop (suspend m kind) n = refl
    no_stop (resume m) n = refl
    no_stop (part m p) n = refl
    no_stop (queue bytes k) n = refl

    none : (b : Bool) → stops o ≡ b → dropped_by h (did o a) ≡ 0
    none b e = rw (no_stop o n, and-false (is_accepted a))

pub totals : Totals
totals =
    record {
      none = (refl, refl, refl);
      marks = units_marked-snoc;
      lists = units_reported-snoc;
      keeps = λ h d n. keeps-dropped h d.op d.answer n;
      account = λ s words ks a. (known-session s words a ks).accounts;
      drops = λ s words ks a m.
          let h : List Did = session_history s words ks a in
          units_dropped-snoc h (did (stop m) done) ∙ ap (λ n. units_dropped h + n) (known-pending h (slot_of (session_end s words ks) a) (known-session s words a ks));
      refusal = λ h o n i.
          let d : Did = did o (refused n i) in
          let m = units_marked-snoc h d in
          let r = units_reported-snoc h d in
          let q = units_dropped-snoc h d in (omega (arith, m), omega (arith, r), omega (arith, q));
      read = λ h m r d. shown_of-known (units_marked h) (units_reported h) (units_dropped h) m r d;
      passed = λ h. (
        (λ e. shown_of-passed (units_marked h) (units_reported h) (units_dropped h) e),
        (λ p. shown_of-unknown (units_marked h) (units_reported h) (units_dropped h) p),
      );
      marked_grows = units_marked-grows;
      reported_grows = units_reported-grows;
      dropped_grows = units_dropped-grows;
      stays = shown_by-stays;
      from_then_on = λ s words ks ks' a e.
          subst (λ h. shown_by h ≡ unknown) (sym (history-append a ks ks' (fresh s words))) (shown_by-stays (session_history s words ks a) _ e);
    }

-- ---- granularities, all of 0 to 20 at once

pub granularity : Granularities
granularity g h =
    record {
      least = pow_mono {i = 12} {j = 12 + g} (omega arith);
      whole = whole;
      fits = λ u l. lt_of_lt_of_le (shl_lt 32 (12 + g) l) (pow_mono {i = 32 + (12 + g)} {j = 64} (omega arith));
    }
  where
    whole : 2 ^ 64 % unit_size g ≡ 0
    whole =
        let e : 64 ≡ 12 + g + (52 - g) = omega arith in
        ap (λ k. 2 ^ k % unit_size g) e ∙ ap (λ n. n % unit_size g) (pow-add 2 (12 + g) (52 - g)) ∙ mul-mod_right (unit_size g) (2 ^ (52 - g))

-- ---- the worked numbers

pub worked : Worked
unfolding cases closing_entry settings_ok is_manager limit_of place_of granularity_ok range_tests powers_ok ranges_of start_bytes state_ok fresh step order sound held_ok number_at number_bytes records records_at
worked = refl

pub worked-states : WorkedStates
unfolding state_ok number_at
worked-states = refl

pub worked-groups : WorkedGroups
worked-groups = refl

pub worked-totals : WorkedTotals
unfolding totals_cases settings_ok is_manager limit_of place_of granularity_ok range_tests powers_ok ranges_of start_bytes fresh step order sound held_ok number_at number_bytes records records_at
worked-totals = refl

pub worked-shown : WorkedShown
worked-shown = refl

-- ---- the bytes of a start structure and of a report

pub layouts : Layouts
unfolding start_bytes report_bytes number_bytes records
layouts =
    record {
      structure = refl;
      report = refl;
      more = refl;
      attributes = λ id r. bits r.suspended r.more;
      reserved = λ id r. refl;
      behind = λ id r. refl;
      spare = λ d. refl;
      no_groups = λ id n r. refl;
    }
  where
    bits : (b m : Bool) → (flag b 2 + flag m 1) % 256 ≡ cond b 2 0 + cond m 1 0
    bits true true = refl
    bits true false = refl
    bits false true = refl
    bits false false = refl
