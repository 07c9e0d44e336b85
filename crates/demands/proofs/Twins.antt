-- W9: a call of both engines, on one record and marks that are alike: they answer the same, and leave one record and marks that are alike. Assumes nothing.
use mathlib.Core.Path.{◌≡◌, refl, sym, ap, subst, ◌∙◌}
use mathlib.Core.Bool.{Bool, true, false, not, cond}
use mathlib.Core.List.{List, [], ◌∷◌, map}
use Rattle.std.specs.declared.option.Option.{Option}
use Rattle.std.specs.declared.option.Option.TheVariants.{None, Some}
use Prim.Native.Nat.{ℕ, ◌+◌, ◌*◌, ◌≤◌, ◌<◌}
use native.Mathlib.Omega.{arith}
use lib.Dec.{eqb}
use lib.ListN.{length, get_or, take, replicate, length-map}
use Rattle.bits.specs.Flat.{flat}
use Rattle.bits.proofs.Flat.{flat-length}
use Rattle.little.specs.Little.{put}
use Rattle.little.proofs.Put.{put-take-front}
use Rattle.pool.specs.Pool.{Packs}
use Rattle.rules.specs.Refusals.{Test, verdict}
use Rattle.rules.specs.Settings.{mark_words, most_units, place_of}
use Rattle.rules.specs.Units.{Unit, Write, units, newly}
use Rattle.rules.specs.StartData.{granularity_of, count_of, ranges_of, no_range, placed}
use Rattle.rules.specs.Report.{Report, room, report_on, report_bytes}
use Rattle.rules.specs.Order as order
use Rattle.rules.specs.Order.{Op, start, stop, write, receive, suspend, resume, part, queue, make, post, start_order, stop_order, write_order, receive_order, batch_order}
use Rattle.rules.specs.Machine.{no_report, Call}
use Rattle.rules.specs.Device.{held_units, held_of, sound_device}
use Rattle.rules.specs.declared.Range.{Range}
use Rattle.rules.specs.declared.Tracking.{Tracking}
use Rattle.rules.specs.declared.Tracking.TheVariants.{Off, On}
use Rattle.rules.specs.declared.Controller.{Controller}
use Rattle.rules.specs.declared.Device.{Device}
use Rattle.rules.proofs.ListLaws.{and_left}
use Rattle.rules.proofs.RefusalLaws.{Passed, Both, verdict-both}
use Rattle.rules.proofs.OrderLaws.{StartPassed, start_order-passed}
use Rattle.rules.proofs.StartLaws.{ranges_of-length}
use Rattle.ranges.proofs.RangeLaws.{HeldFacts, list_tests-facts}
use Rattle.record.specs.Record.{sound_with, no_controller, controller_at, with_controller, units_of, seen_in}
use Rattle.record.proofs.RecordLaws.{sound_device-facts, sound_device-inside}
use Rattle.calls.specs.declared.Changed.{Changed}
use Rattle.calls.specs.declared.Started.{Started}
use Rattle.calls.specs.declared.Written.{Written}
use Rattle.calls.specs.declared.WriteRecord.{WriteRecord}
use Rattle.calls.specs.declared.Batched.{Batched}
use Rattle.calls.specs.Calls.{in_words, marks_at, bases_of, sizes_of, Change, changed, started, started_with, start_done, start_at, start_by, stop_done, stop_at, stop_by, suspend_change, resume_change, Note, noted, note_in, write_done, write_at, write_by, write_in, batched, notes_from, batch_by, Receipt, received, receive_in, receive_done, receive_at, receive_by, part_change, make_change, post_change, take_change}
use Rattle.calls.proofs.PoolLaws.{start-packs}
use Rattle.plain_marks.specs.Plain.{mark_of}
use Rattle.plain_marks.specs.Plain as plain
use Rattle.plain.specs.Bytes.{in_bytes}
use Rattle.plain.proofs.AreaLaws.{words_right}
use Rattle.demands.specs.View.{Outcome, starts, stops, flags, notes, receipts, arrives, lent_at, posts, takes, run_as, run}
use Rattle.demands.proofs.AlikeLaws.{Alike, same-marks, same-marked, same-reported, same-cleared, same-packed}
use Rattle.demands.proofs.ViewLaws.{Fits, place_of-used}
use Rattle.demands.proofs.StepLaws.{not_on, is-on, listed-some, call_step}

-- what two calls come to
pub record Twins (o o' : Outcome) : Type 0 where
  pub answer : o.answer ≡ o'.answer
  pub device : o.device ≡ o'.device
  pub marks : Alike o.marks o'.marks
  pub area : o.area ≡ o'.area
  pub queues : o.queues ≡ o'.queues
  pub bytes : o.bytes ≡ o'.bytes

pub record Paired {A : Type 0} (c c' : Change A) : Type 0 where
  pub answer : c.answer ≡ c'.answer
  pub marks : Alike c.marks c'.marks

record Receipts (r r' : Receipt) : Type 0 where
  answer : r.answer ≡ r'.answer
  report : r.report ≡ r'.report
  marks : Alike r.marks r'.marks
  buffer : r.buffer ≡ r'.buffer

-- refusals that agree whatever their number
agree : {A B : Type 0} (R : A → B → Type 0) (f : ℕ → ℕ → A) (g : ℕ → ℕ → B) → ((n i : ℕ) → R (f n i) (g n i)) → (ts : List Test) → Both R f g ts
agree R f g h [] = tt
agree R f g h (t ∷ ts) = (h t.number t.place, agree R f g h ts)

module _ (d : Device) (ws bs area : List ℕ) (fits : Fits d ws area) (alike : Alike ws bs) where
  -- the area has a byte for each unit, so it stands for as many words as there are
  long : length bs ≡ most_units
  long = sym (length-map bs mark_of) ∙ sym (ap length alike) ∙ flat-length ws ∙ omega (arith, fits.words)

  words : length ws ≡ in_bytes.words bs
  words = fits.words ∙ words_right (length bs) long

  -- ---- the controller at a place

  module _ (id i : ℕ) (place : place_of d.settings id ≡ Some i) (sound : sound_with d (length ws) ≡ true) where
    abbrev c : Controller
    c = controller_at d (Some i)

    used : i < d.settings.count
    used = place_of-used d id i place

    sure : sound_device d ≡ true
    unfolding sound_with
    sure = and_left (sound_device d) (eqb (length ws) mark_words) sound

    there : i < length d.controllers
    there = omega (arith, used, (sound_device-facts d sure).count, fits.controllers)

    inside : (g n : ℕ) → c.tracking ≡ On g n → c.base + length (units g (take n c.ranges)) ≤ 64 * mark_words
    inside g n t = sound_device-inside d i g n sure used there t (listed-some d ws area fits sure i used g n t)

    started-paired : (b : ℕ) (x : List ℕ) → StartPassed d.settings b (seen_in d (length ws) (Some i)) x → Paired (start_done in_words d ws b x (Some i)) (start_done in_bytes d bs b x (Some i))
    started-paired b x q = record { answer = refl; marks = same-packed ws bs alike fits.words (bases_of d) (sizes_of (with_controller d i (started c b x))) i packs }
      where
        f : HeldFacts d.settings (granularity_of x) (count_of x) (ranges_of x)
        f = list_tests-facts d.settings (granularity_of x) (count_of x) (ranges_of x) (sound_device-facts d sure).greatest q.granularity q.list

        first : take (count_of x) (placed (ranges_of x)) ≡ ranges_of x
        first = put-take-front (replicate 16 no_range) (count_of x) (ranges_of x) (ranges_of-length x) f.few

        room : held_units (held_of (started c b x)) + units_of d ≤ most_units
        room = rw first q.room

        packs : Packs (flat ws) (bases_of d) (sizes_of (with_controller d i (started c b x))) i
        packs = start-packs d fits.controllers sure i used (not_on c.tracking c.manager q.untracked) (started c b x) room ws fits.words

    stopped-paired : (g n : ℕ) → c.tracking ≡ On g n → Paired (stop_done in_words d ws (Some i)) (stop_done in_bytes d bs (Some i))
    stopped-paired g n t =
        let size : held_units (held_of c) ≡ length (units g (take n c.ranges)) = rw t in
        record { answer = refl; marks = same-cleared ws bs alike fits.words c.base (held_units (held_of c)) (omega (arith, size, inside g n t)) }

    written-paired : (w : Write) → Paired (write_done in_words d ws w (Some i)) (write_done in_bytes d bs w (Some i))
    written-paired w = go c.tracking refl
      where
        go : (t : Tracking) → c.tracking ≡ t → Paired (note_in in_words ws c.base t c.ranges w) (note_in in_bytes bs c.base t c.ranges w)
        go Off t = record { answer = refl; marks = alike }
        go (On g n) t =
            let us : List Unit = units g (take n c.ranges) in
            record {
              answer = ap (λ p. record { number = 0; count = newly w us p }) (same-marks ws bs alike c.base (length us));
              marks = same-marked ws bs alike fits.words c.base us (inside g n t) w;
            }

    received-paired : (x : List ℕ) → Receipts (receive_done in_words d ws id x (Some i)) (receive_done in_bytes d bs id x (Some i))
    received-paired x = go c.tracking refl
      where
        go : (t : Tracking) → c.tracking ≡ t
            → Receipts (receive_in in_words ws c.base id c.suspended t c.ranges x) (receive_in in_bytes bs c.base id c.suspended t c.ranges x)
        go Off t = record { answer = refl; report = refl; marks = alike; buffer = refl }
        go (On g n) t =
            let us : List Unit = units g (take n c.ranges) in
            let e = same-marks ws bs alike c.base (length us) in
            let k = room (length x) in
            record {
              answer = ap (λ p. (received 0 (report_on c.suspended g k us p) [] []).answer) e;
              report = ap (report_on c.suspended g k us) e;
              marks = same-reported ws bs alike fits.words c.base us (inside g n t) k;
              buffer = ap (λ p. (received 0 (report_on c.suspended g k us p) [] (put x 0 (report_bytes id (report_on c.suspended g k us p)))).buffer) e;
            }

  -- ---- the calls that touch marks

  pub start-paired : (b id : ℕ) (x : List ℕ) → Paired (start_by in_words d ws b id x) (start_by in_bytes d bs b id x)
  unfolding start_by
  start-paired b id x = go (place_of d.settings id) refl
    where
      go : (p : Option ℕ) → place_of d.settings id ≡ p → Paired (start_at in_words d ws b x p) (start_at in_bytes d bs b x p)
      go p e =
          subst (λ n. Paired (start_at in_words d ws b x p) (verdict (start_order d.settings b (seen_in d n p) x) (start_done in_bytes d bs b x p) (λ n i. started_with n i d bs))) words
          (verdict-both Paired (start_order d.settings b (seen_in d (length ws) p) x) (start_done in_words d ws b x p) (start_done in_bytes d bs b x p) (λ n i. started_with n i d ws) (λ n i. started_with n i d bs)
          (agree Paired (λ n i. started_with n i d ws) (λ n i. started_with n i d bs) (λ n i. record { answer = refl; marks = alike }) (start_order d.settings b (seen_in d (length ws) p) x)) (done p e))
        where
          done : (p : Option ℕ) → place_of d.settings id ≡ p → Passed (start_order d.settings b (seen_in d (length ws) p) x) → Paired (start_done in_words d ws b x p) (start_done in_bytes d bs b x p)
          done None e q = record { answer = refl; marks = alike }
          done (Some i) e q = started-paired id i e q.0 b x (start_order-passed d.settings b (seen_in d (length ws) (Some i)) x q)

  pub stop-paired : (b id : ℕ) → Paired (stop_by in_words d ws b id) (stop_by in_bytes d bs b id)
  unfolding stop_by
  stop-paired b id = go (place_of d.settings id) refl
    where
      go : (p : Option ℕ) → place_of d.settings id ≡ p → Paired (stop_at in_words d ws b p) (stop_at in_bytes d bs b p)
      go p e =
          subst (λ n. Paired (stop_at in_words d ws b p) (verdict (stop_order d.settings b (seen_in d n p)) (stop_done in_bytes d bs p) (λ n i. changed n d bs))) words
          (verdict-both Paired (stop_order d.settings b (seen_in d (length ws) p)) (stop_done in_words d ws p) (stop_done in_bytes d bs p) (λ n i. changed n d ws) (λ n i. changed n d bs)
          (agree Paired (λ n i. changed n d ws) (λ n i. changed n d bs) (λ n i. record { answer = refl; marks = alike }) (stop_order d.settings b (seen_in d (length ws) p))) (done p e))
        where
          done : (p : Option ℕ) → place_of d.settings id ≡ p → Passed (stop_order d.settings b (seen_in d (length ws) p)) → Paired (stop_done in_words d ws p) (stop_done in_bytes d bs p)
          done None e q = record { answer = refl; marks = alike }
          done (Some i) e q = let o = is-on (controller_at d (Some i)).tracking (controller_at d (Some i)).manager b q.1.1.1.1.0 in stopped-paired id i e q.0 o.0 o.1 o.2

  pub write-paired : (id : ℕ) (w : Write) → Paired (write_by in_words d ws id w) (write_by in_bytes d bs id w)
  unfolding write_by
  write-paired id w = go (place_of d.settings id) refl
    where
      go : (p : Option ℕ) → place_of d.settings id ≡ p → Paired (write_at in_words d ws w p) (write_at in_bytes d bs w p)
      go p e =
          subst (λ n. Paired (write_at in_words d ws w p) (verdict (write_order (seen_in d n p) w) (write_done in_bytes d bs w p) (λ n i. noted n 0 bs))) words
          (verdict-both Paired (write_order (seen_in d (length ws) p) w) (write_done in_words d ws w p) (write_done in_bytes d bs w p) (λ n i. noted n 0 ws) (λ n i. noted n 0 bs)
          (agree Paired (λ n i. noted n 0 ws) (λ n i. noted n 0 bs) (λ n i. record { answer = refl; marks = alike }) (write_order (seen_in d (length ws) p) w)) (done p e))
        where
          done : (p : Option ℕ) → place_of d.settings id ≡ p → Passed (write_order (seen_in d (length ws) p) w) → Paired (write_done in_words d ws w p) (write_done in_bytes d bs w p)
          done None e q = record { answer = refl; marks = alike }
          done (Some i) e q = written-paired id i e q.0 w

  receive-paired : (b id : ℕ) (x : List ℕ) → Receipts (receive_by in_words d ws b id x) (receive_by in_bytes d bs b id x)
  unfolding receive_by
  receive-paired b id x = go (place_of d.settings id) refl
    where
      go : (p : Option ℕ) → place_of d.settings id ≡ p → Receipts (receive_at in_words d ws b id x p) (receive_at in_bytes d bs b id x p)
      go p e =
          subst (λ n. Receipts (receive_at in_words d ws b id x p) (verdict (receive_order d.settings b (seen_in d n p) x) (receive_done in_bytes d bs id x p) (λ n i. received n no_report bs x))) words
          (verdict-both Receipts (receive_order d.settings b (seen_in d (length ws) p) x) (receive_done in_words d ws id x p) (receive_done in_bytes d bs id x p) (λ n i. received n no_report ws x) (λ n i. received n no_report bs x)
          (agree Receipts (λ n i. received n no_report ws x) (λ n i. received n no_report bs x) (λ n i. record { answer = refl; report = refl; marks = alike; buffer = refl }) (receive_order d.settings b (seen_in d (length ws) p) x)) (done p e))
        where
          done : (p : Option ℕ) → place_of d.settings id ≡ p → Passed (receive_order d.settings b (seen_in d (length ws) p) x) → Receipts (receive_done in_words d ws id x p) (receive_done in_bytes d bs id x p)
          done None e q = record { answer = refl; report = refl; marks = alike; buffer = refl }
          done (Some i) e q = received-paired id i e q.0 x

  -- ---- every call

  module _ (qs : ℕ → List ℕ) where
    -- one that touches no mark, of as many words
    untouched : (f : ℕ → List ℕ → Outcome) → ((n : ℕ) → Twins (f n ws) (f n bs)) → Twins (f (length ws) ws) (f (in_bytes.words bs) bs)
    untouched f t = subst (λ n. Twins (f (length ws) ws) (f n bs)) words (t (length ws))

    twin-op : (id : ℕ) (o : Op) → Twins (run_as in_words d ws area qs id o) (run_as in_bytes d bs area qs id o)
    twin-op id (start b x) =
        let p = start-paired b id x in
        record {
          answer = ap (λ (a : Started). (starts area qs x (record { answer = a; marks = [] })).answer) p.answer;
          device = ap (λ (a : Started). a.device) p.answer;
          marks = p.marks;
          area = refl;
          queues = refl;
          bytes = refl;
        }
    twin-op id (stop b) =
        let p = stop-paired b id in
        record {
          answer = ap (λ (a : Changed). (stops area qs (record { answer = a; marks = [] })).answer) p.answer;
          device = ap (λ (a : Changed). a.device) p.answer;
          marks = p.marks;
          area = refl;
          queues = refl;
          bytes = refl;
        }
    twin-op id (write w) =
        let p = write-paired id w in
        record {
          answer = ap (λ (a : Written). (notes d area qs (record { answer = a; marks = [] })).answer) p.answer;
          device = refl;
          marks = p.marks;
          area = refl;
          queues = refl;
          bytes = refl;
        }
    twin-op id (receive b x) =
        let p = receive-paired b id x in
        record {
          answer =
              ap (λ (r : Report). (receipts d area qs (record { answer = (receive_by in_words d ws b id x).answer; report = r; marks = []; buffer = [] })).answer) p.report
              ∙ ap (λ a. (receipts d area qs (record { answer = a; report = (receive_by in_bytes d bs b id x).report; marks = []; buffer = [] })).answer) p.answer;
          device = refl;
          marks = p.marks;
          area = refl;
          queues = refl;
          bytes = p.buffer;
        }
    twin-op id (suspend b kind) =
        untouched (λ n z. flags z area qs (suspend_change d n b id kind)) (λ n. record { answer = refl; device = refl; marks = alike; area = refl; queues = refl; bytes = refl })
    twin-op id (resume b) = untouched (λ n z. flags z area qs (resume_change d n b id)) (λ n. record { answer = refl; device = refl; marks = alike; area = refl; queues = refl; bytes = refl })
    twin-op id (part b p) =
        untouched (λ n z. arrives z qs p.bytes (part_change d n area b id p)) (λ n. record { answer = refl; device = refl; marks = alike; area = refl; queues = refl; bytes = refl })
    twin-op id (queue bytes make) =
        untouched (λ n z. flags z area qs (make_change d n id bytes)) (λ n. record { answer = refl; device = refl; marks = alike; area = refl; queues = refl; bytes = refl })
    twin-op id (queue bytes (post e)) =
        untouched (λ n z. posts z area qs (place_of d.settings id) e (post_change d n (lent_at qs (place_of d.settings id) bytes) id e))
        (λ n. record { answer = refl; device = refl; marks = alike; area = refl; queues = refl; bytes = refl })
    twin-op id (queue bytes (order.take asked x)) =
        untouched (λ n z. takes z area qs (take_change d n (lent_at qs (place_of d.settings id) bytes) id asked x))
        (λ n. record { answer = refl; device = refl; marks = alike; area = refl; queues = refl; bytes = refl })

    pub twins : (k : Call) → Twins (run in_words d ws area qs k) (run in_bytes d bs area qs k)
    unfolding run
    twins k = twin-op k.id k.op

-- ---- a batch

-- what a note leaves fits the next
note-fits : (d : Device) (ws area : List ℕ) → Fits d ws area → (id : ℕ) (w : Write) → Fits d (write_by in_words d ws id w).marks area
unfolding run
note-fits d ws area fits id w = (call_step d ws area (λ i. []) fits (record { id = id; op = write w })).fits

module _ (d : Device) (area : List ℕ) where
  notes-paired : (rs : List WriteRecord) (ws bs : List ℕ) → Fits d ws area → Alike ws bs → (done count : ℕ) → Paired (notes_from in_words d ws done count rs) (notes_from in_bytes d bs done count rs)
  notes-paired [] ws bs fits alike done count = record { answer = refl; marks = alike }
  notes-paired (r ∷ rs) ws bs fits alike done count =
      let p = write-paired d ws bs area fits alike r.id (write_in r) in
      subst (λ (a : Written). Paired (notes_from in_words d ws done count (r ∷ rs)) (cond (eqb a.number 0) (notes_from in_bytes d new.marks (done + 1) (count + a.count) rs) (batched 0 done count a.number new.marks)))
      p.answer
      (go (eqb old.answer.number 0) p.marks (notes-paired rs old.marks new.marks (note-fits d ws area fits r.id (write_in r)) p.marks (done + 1) (count + old.answer.count)))
    where
      old : Note
      old = write_by in_words d ws r.id (write_in r)

      new : Note
      new = write_by in_bytes d bs r.id (write_in r)

      go : (b : Bool) → Alike old.marks new.marks
          → Paired (notes_from in_words d old.marks (done + 1) (count + old.answer.count) rs) (notes_from in_bytes d new.marks (done + 1) (count + old.answer.count) rs)
          → Paired (cond b (notes_from in_words d old.marks (done + 1) (count + old.answer.count) rs) (batched 0 done count old.answer.number old.marks))
          (cond b (notes_from in_bytes d new.marks (done + 1) (count + old.answer.count) rs) (batched 0 done count old.answer.number new.marks))
      go true m ih = ih
      go false m ih = record { answer = refl; marks = m }

  pub batch-paired : (rs : List WriteRecord) (ws bs : List ℕ) → Fits d ws area → Alike ws bs → Paired (batch_by in_words d ws rs) (batch_by in_bytes d bs rs)
  unfolding batch_by
  batch-paired rs ws bs fits alike =
      subst (λ n. Paired (batch_by in_words d ws rs) (verdict (batch_order (sound_with d n) (length rs)) (notes_from in_bytes d bs 0 0 rs) (λ n i. batched n 0 0 0 bs))) (words d ws bs area fits alike)
      (verdict-both Paired (batch_order (sound_with d (length ws)) (length rs)) (notes_from in_words d ws 0 0 rs) (notes_from in_bytes d bs 0 0 rs) (λ n i. batched n 0 0 0 ws) (λ n i. batched n 0 0 0 bs)
      (agree Paired (λ n i. batched n 0 0 0 ws) (λ n i. batched n 0 0 0 bs) (λ n i. record { answer = refl; marks = alike }) (batch_order (sound_with d (length ws)) (length rs))) (λ q. notes-paired rs ws bs fits alike 0 0))
