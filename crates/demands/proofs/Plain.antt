-- W9, proved: both engines meet every sequence of calls and batches with the same answers, and the demands hold of the plain one. Assumes nothing.
use mathlib.Core.Path.{◌≡◌, refl, sym, ap, ap₂, subst, ◌∙◌}
use mathlib.Core.Logic.{◌≢◌, ◌↔◌, ◌⊎◌, inl, inr}
use mathlib.Core.Bool.{Bool, true, false, cond}
use mathlib.Core.List.{List, [], ◌∷◌, ◌++◌, map}
use Rattle.std.specs.declared.option.Option.{Option}
use Rattle.std.specs.declared.option.Option.TheVariants.{None, Some}
use Prim.Native.Nat.{ℕ, zero, suc, ◌+◌, ◌*◌, ◌≤◌, ◌<◌}
use native.Mathlib.Omega.{arith}
use lib.Dec.{eqb}
use lib.ListN.{length, get_or, take, drop, replicate, length-map, length-replicate}
use Rattle.std.specs.List.{slice_get}
use borrow.Author.Tests.{eq-eqb, not-true}
use Rattle.bits.specs.Flat.{flat}
use Rattle.bits.specs.Pack.{pack}
use Rattle.bits.proofs.Flat.{flat-length}
use Rattle.bits.proofs.Pack.{pack-length, flat-pack}
use Rattle.rules.specs.Settings.{mark_words, most_units, place_of}
use Rattle.rules.specs.Units.{Unit, Write, units}
use Rattle.rules.specs.Device.{sound_device}
use Rattle.rules.specs.Order.{start, start_order, order}
use Rattle.rules.specs.Machine.{Answer, Call, State, slot_of, pending_in, entries_in, managed_in, counts_in, units_in, step, lent, stored}
use Rattle.rules.specs.History.{Did, history_of, only, PendingBy, tracks_by, slot_by}
use Rattle.rules.specs.Demands.{session_end, session_history, lent_bytes, unhindered}
use Rattle.rules.specs.declared.Range.{Range}
use Rattle.rules.specs.declared.Settings.{Settings}
use Rattle.rules.specs.declared.Device.{Device}
use Rattle.rules.proofs.ListLaws.{and_left}
use Rattle.rules.proofs.RefusalLaws.{verdict-done}
use Rattle.rules.proofs.OrderLaws.{StartPassed, start_order-passed}
use Rattle.record.specs.Record.{sound_with, controller_at, seen_in, arriving_in}
use Rattle.calls.specs.declared.Changed.{Changed}
use Rattle.calls.specs.declared.Started.{Started}
use Rattle.calls.specs.Calls.{in_words, Change, fresh_by, started_with, start_done, start_by}
use Rattle.plain_marks.specs.Plain.{mark_of}
use Rattle.plain.specs.Bytes.{words_for, in_bytes}
use Rattle.plain.proofs.AreaLaws.{words_right, area-whole}
use Rattle.demands.specs.View.{view, Outcome}
use Rattle.demands.specs.Sessions.{Left, Given, Sized, Step, begun, outcome, next, stepped, left_by, end_of, history_in, bytes_in}
use Rattle.demands.specs.Demand2.{pending_of, queued_of, Equals, Shaped}
use Rattle.demands.specs.Demand2 as demand
use Rattle.demands.specs.Demand3.{Agree, Demand3}
use Rattle.demands.specs.Soundness.{base_at}
use Rattle.demands.specs.Plain.{lending, holding, Beside, SameAnswers}
use Rattle.demands.specs.Plain as plain
use Rattle.demands.proofs.ViewLaws.{place_of-used}
use Rattle.demands.proofs.StepLaws.{not_on, order-numbers}
use Rattle.demands.proofs.ByteLaws.{fresh-zeros, fresh_bytes, stop-each, write-each, write_bytes, receive-each, receive-bytes}
use Rattle.demands.proofs.Pool.{moved-byte}
use Rattle.demands.proofs.Demand1.{mark_calls}
use Rattle.demands.proofs.Batches.{batches-of}
use Rattle.demands.proofs.AlikeLaws.{Alike}
use Rattle.demands.proofs.Twins.{Twins, twins}
use Rattle.demands.proofs.Soundness.{soundness}
use Rattle.demands.proofs.Demand2.{place-of as place-in-words, shaped-fits, demand-2}
use Rattle.demands.proofs.Demand3.{demand-3}
use Rattle.demands.proofs.PlainSessions.{Together, left_is, alike-said, alike_from, view-same, step_same, fresh-same, together, done-calls, done-steps, calls-end, steps-end}

-- ---- the same answers

sized-words : (ws bs : List ℕ) → length ws ≡ 256 → length bs ≡ 16384 → length ws ≡ in_bytes.words bs
sized-words ws bs e f = e ∙ words_right (length bs) f

-- what is left, of which all but the marks is the same
beside : (l l' : Left) (bs : List ℕ) → l' ≡ holding l bs → Alike l.marks bs → Beside l l'
beside l l' bs e a =
    subst (λ (q : Left). Beside l q) (sym e) (record { device = refl; marks = alike-said l.marks bs a; area = refl; queues = λ i. refl })

pub same-answers : SameAnswers
same-answers =
    record {
      fresh = λ s ws bs e f. fresh-same s ws bs (sized-words ws bs e f);
      answers = λ s m bs xs sized e f. (together s m bs sized (sized-words m.marks bs e f) [] xs).said;
      bytes = λ s m bs xs sized e f. (together s m bs sized (sized-words m.marks bs e f) [] xs).lent;
      left = λ s m bs xs sized e f done.
          let w = sized-words m.marks bs e f in
          let z : (fresh_by in_words s m.marks).answer.number ≡ 0 = ap (λ (c : Changed). c.number) (fresh-same s m.marks bs w) ∙ done in
          beside (left_by in_words (begun in_words s m) xs) (left_by in_bytes (begun in_bytes s (lending m bs)) xs) (done-steps s m bs sized w z xs).end (steps-end s m bs sized w z xs) (done-steps s m bs sized w z xs).marks;
      steps = λ l bs shaped f a x.
          let t = step_same x l bs (shaped-fits l shaped) (alike_from l.marks bs shaped.words f a) in
          (t.said, t.lent, beside (stepped in_words l x) (stepped in_bytes (holding l bs) x) t.end t.left t.marks);
    }

-- ---- a session of the plain engine, by one of the other with as many words

abbrev twin : Given → Given
twin m = lending m (replicate (in_bytes.words m.marks) 0)

as_many : (m : Given) → length (twin m).marks ≡ in_bytes.words m.marks
as_many m = length-replicate {A = ℕ} (in_bytes.words m.marks) 0

twin-sized : (s : Settings) (m : Given) → Sized s m → Sized s (twin m)
twin-sized s m sized = record { places = sized.places; area = sized.area }

module _ (s : Settings) (m : Given) (ks : List Call) (sized : Sized s m) where
  both : Together s (twin m) m.marks ks []
  both = together s (twin m) m.marks (twin-sized s m sized) (as_many m) ks []

  history-same : (a : ℕ) → history_in in_bytes s m ks a ≡ history_in in_words s (twin m) ks a
  history-same a = ap (history_of a) (sym both.told)

  bytes_same : (a : ℕ) → bytes_in in_bytes s m ks a ≡ bytes_in in_words s (twin m) ks a
  bytes_same a = sym (both.bytes a)

  units-same : (a : ℕ) → pending_of in_bytes (end_of in_bytes s m ks) a ≡ pending_of in_words (end_of in_words s (twin m) ks) a
  units-same a = ap (λ (st : State). pending_in (slot_of st a)) (sym both.seen)

  queued-same : (a : ℕ) → queued_of in_bytes (end_of in_bytes s m ks) a ≡ queued_of in_words (end_of in_words s (twin m) ks) a
  queued-same a = ap (λ (st : State). entries_in (slot_of st a).queue) (sym both.seen)

  equals : (a : ℕ) (ks' : List Call) → Equals in_words s a (twin m) ks ks' → Equals in_bytes s a m ks ks'
  equals a ks' e =
      record {
        answers = history-same a ∙ e.answers ∙ ap (λ n. session_history s n ks' a) (as_many m);
        bytes = bytes_same a ∙ e.bytes ∙ ap (λ n. lent_bytes a (session_history s n ks' a)) (as_many m);
        units = units-same a ∙ e.units ∙ ap (λ n. pending_in (slot_of (session_end s n ks') a)) (as_many m);
        queued = queued-same a ∙ e.queued ∙ ap (λ n. entries_in (slot_of (session_end s n ks') a).queue) (as_many m);
      }

  module _ (done : (fresh_by in_bytes s m.marks).answer.number ≡ 0) where
    twin-done : (fresh_by in_words s (twin m).marks).answer.number ≡ 0
    twin-done = ap (λ (c : Changed). c.number) (fresh-same s (twin m).marks m.marks (as_many m)) ∙ done

    abbrev l : Left
    l = end_of in_words s (twin m) ks

    end : List ℕ
    end = (done-calls s (twin m) m.marks (twin-sized s m sized) (as_many m) twin-done ks).end

    end-alike : Alike l.marks end
    unfolding end
    end-alike = (done-calls s (twin m) m.marks (twin-sized s m sized) (as_many m) twin-done ks).marks

    end_is : end_of in_bytes s m ks ≡ holding l end
    unfolding end
    end_is = calls-end s (twin m) m.marks (twin-sized s m sized) (as_many m) twin-done ks

    stands : (a : ℕ) → let st = session_end s (length (twin m).marks) ks in demand.Stands s l (history_in in_words s (twin m) ks a) (units_in st) (managed_in st) (counts_in st) a
    stands a = demand-2.stands s (twin m) ks (twin-sized s m sized) twin-done a

    is-told : (a : ℕ)
        → slot_of (view in_bytes (end_of in_bytes s m ks).device (end_of in_bytes s m ks).marks (end_of in_bytes s m ks).area (end_of in_bytes s m ks).queues) a ≡ slot_by (history_in in_bytes s m ks a)
    is-told a = ap (λ (st : State). slot_of st a) (sym both.seen) ∙ (stands a).told ∙ ap slot_by (sym (history-same a))

    is-pending : (a i g : ℕ) (rs : List Range) (n : ℕ) (u : Unit) → place_of s a ≡ Some i → tracks_by None (history_in in_bytes s m ks a) ≡ Some (g, rs) → slice_get (units g rs) n ≡ Some u
        → (get_or (end_of in_bytes s m ks).marks (base_at (end_of in_bytes s m ks).device i + n) 0 ≢ 0) ↔ PendingBy (history_in in_bytes s m ks a) u
    is-pending a i g rs n u place tracks at =
        let h = history-same a in
        let p = ((stands a).tracked i g rs place (ap (tracks_by None) (sym h) ∙ tracks)).pending n u at in
        let q = alike-said l.marks end end-alike (base_at l.device i + n) in
        subst (λ (x : Left). (get_or x.marks (base_at x.device i + n) 0 ≢ 0) ↔ PendingBy (history_in in_bytes s m ks a) u) (sym end_is)
        (subst (λ (y : List Did). (get_or end (base_at l.device i + n) 0 ≢ 0) ↔ PendingBy y u) (sym h) ((λ z. p.0 (q.0 z)), λ z. q.1 (p.1 z)))

    is-kept : (sound_device (end_of in_bytes s m ks).device ≡ true) × (length (end_of in_bytes s m ks).marks ≡ 16384)
    is-kept =
        let k = soundness.kept s (twin m) ks (twin-sized s m sized) twin-done in
        let long : length end ≡ 16384 = sym (length-map end mark_of) ∙ sym (ap length end-alike) ∙ flat-length l.marks ∙ omega (arith, k.1) in
        subst (λ (x : Left). (sound_device x.device ≡ true) × (length x.marks ≡ 16384)) (sym end_is) (k.0, long)

    -- W13: what its log asks of its end
    pub place-of : (a : ℕ) → place_of (end_of in_bytes s m ks).device.settings a ≡ place_of s a
    place-of a = ap (λ (x : Left). place_of x.device.settings a) end_is ∙ place-in-words s (twin m) ks (twin-sized s m sized) twin-done a

    pub sure : sound_with (end_of in_bytes s m ks).device (in_bytes.words (end_of in_bytes s m ks).marks) ≡ true
    unfolding sound_with
    sure = let k = is-kept in rw (k.0, eq-eqb (length (end_of in_bytes s m ks).marks) most_units k.1)

-- ---- a call on a record that no session made

module _ (l : Left) (shaped : Shaped in_bytes l) where
  abbrev ws : List ℕ
  ws = pack 256 (map mark_of l.marks)

  abbrev l° : Left
  l° = holding l ws

  alike : Alike ws l.marks
  alike = flat-pack 256 (map mark_of l.marks) (length-map l.marks mark_of ∙ area-whole (length l.marks) shaped.words)

  shaped° : Shaped in_words l°
  shaped° = record { controllers = shaped.controllers; identifiers = shaped.identifiers; listed = shaped.listed; totals = shaped.totals; words = pack-length 256 (map mark_of l.marks); bytes = shaped.bytes }

  module _ (k : Call) where
    same : Twins (outcome in_words l° k) (outcome in_bytes l k)
    same = twins l.device ws l.marks l.area (shaped-fits l° shaped°) alike l.queues k

    is-step : demand.Steps in_bytes l k
    is-step =
        let w = demand-2.steps l° shaped° k in
        let o = outcome in_words l° k in
        let o' = outcome in_bytes l k in
        let v = view-same ws l.marks alike l.device l.area l.queues in
        record {
          answer = sym same.answer ∙ w.answer ∙ ap (λ (st : State). (step st k).0) v;
          device =
              ap (λ (x : Left). view in_bytes x.device x.marks x.area x.queues) (left_is (record { device = o'.device; marks = o'.marks; area = o'.area; queues = o'.queues }) o.device o.area o.queues same.device same.area same.queues)
              ∙ sym (view-same o.marks o'.marks same.marks o.device o.area o.queues) ∙ w.device ∙ ap (λ (st : State). (step st k).1) v;
          bytes = sym same.bytes ∙ w.bytes ∙ ap (λ (x : Answer). stored k.id (lent k.op) x) same.answer;
        }

sound-from : (d : Device) (words : ℕ) → sound_with d words ≡ true → sound_device d ≡ true
unfolding sound_with
sound-from d words e = and_left (sound_device d) (eqb words mark_words) e

-- ---- demand 3

is-apart : Demand3 in_bytes
is-apart =
    record {
      premise = demand-3.premise;
      together = λ s a m m' ks ks' sized sized' words e f g.
          let q = demand-3.together s a (twin m) (twin m') ks ks' (twin-sized s m sized) (twin-sized s m' sized') (as_many m ∙ words ∙ sym (as_many m')) e
          (ap unhindered (sym (history-same s m ks sized a)) ∙ f) (ap unhindered (sym (history-same s m' ks' sized' a)) ∙ g) in
          record {
            answers = history-same s m ks sized a ∙ q.answers ∙ sym (history-same s m' ks' sized' a);
            bytes = bytes_same s m ks sized a ∙ q.bytes ∙ sym (bytes_same s m' ks' sized' a);
            units = units-same s m ks sized a ∙ q.units ∙ sym (units-same s m' ks' sized' a);
            queued = queued-same s m ks sized a ∙ q.queued ∙ sym (queued-same s m' ks' sized' a);
          };
      alone = λ s a m ks sized f.
          equals s m ks sized a (only a ks) (demand-3.alone s a (twin m) ks (twin-sized s m sized) (ap unhindered (sym (history-same s m ks sized a)) ∙ f));
    }

-- ---- all of it

is-rules : (s : Settings) (a : ℕ) (m : Given) (ks : List Call) → Sized s m → Equals in_bytes s a m ks ks
is-rules s a m ks sized = equals s m ks sized a ks (demand-2.rules s a (twin m) ks (twin-sized s m sized))

-- a start moves the others' bytes as they are
is-moved : (l : Left) → Shaped in_bytes l → (b a i : ℕ) (x : List ℕ) → place_of l.device.settings a ≡ Some i
    → let c = start_by in_bytes l.device l.marks b a x in
    c.answer.number ≡ 0 → (j m : ℕ) → j < 8 → j ≢ i → m < demand.size_at l.device j
    → get_or c.marks (base_at c.answer.device j + m) 0 ≡ get_or l.marks (base_at l.device j + m) 0
unfolding start_by order
is-moved l shaped b a i x at e j m h n k =
    let d = l.device in
    let bs = l.marks in
    let fits = shaped-fits (holding l (pack 256 (map mark_of bs))) (shaped° l shaped) in
    let long : length bs ≡ most_units = area-whole (length bs) shaped.words in
    let v = seen_in d (in_bytes.words bs) (Some i) in
    let r = verdict-done (λ (c : Change Started). c.answer.number) (start_order d.settings b v x) (start_done in_bytes d bs b x (Some i)) (λ n j. started_with n j d bs)
    (λ n j. refl) (order-numbers d.settings v (arriving_in d.sequence l.area a) (start b x)) (rw at at e) in
    let running : (controller_at d (Some i)).suspended ≡ false = not-true (controller_at d (Some i)).suspended r.1.1.1.1.0 in
    let p = start_order-passed d.settings b v x r.1 in
    let as-words = subst (λ n. StartPassed d.settings b (seen_in d n (Some i)) x) (shaped.words ∙ sym (pack-length 256 (map mark_of bs))) p in
    rw at (subst (λ (c : Change Started). get_or c.marks (base_at c.answer.device j + m) 0 ≡ get_or bs (base_at d j + m) 0) (sym r.0)
    (moved-byte d (pack 256 (map mark_of bs)) l.area fits (sound-from d (in_bytes.words bs) r.1.0) i (place_of-used d a i at) b x running (not_on (controller_at d (Some i)).tracking (controller_at d (Some i)).manager p.untracked) as-words bs long j m h n k))

pub plain-demands : plain.Plain
plain-demands =
    record {
      area = λ bs. (λ e. area-whole (length bs) e, λ e. sym (words_right (length bs) e));
      mark_calls = mark_calls in_bytes;
      rules = is-rules;
      steps = is-step;
      told = λ s m ks sized done a. is-told s m ks sized done a;
      pending = λ s m ks sized done. is-pending s m ks sized done;
      kept = λ s m ks sized done. is-kept s m ks sized done;
      apart = is-apart;
      batches = batches-of in_bytes (λ d bs id w. ap words_for (write_bytes d bs id w)) is-rules is-apart;
      bytes =
          record {
            fresh = fresh-zeros;
            written = λ d bs id w i. write-each d bs id w i;
            received = λ d bs b id x i. receive-each d bs id b x i;
            stopped = λ d bs b id i. stop-each d bs id b i;
            moved = is-moved;
            fresh_bytes = fresh_bytes;
            written_bytes = write_bytes;
            received_bytes = λ d bs b id x. receive-bytes d bs id b x;
          };
    }
