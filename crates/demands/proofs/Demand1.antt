-- Demand 1, proved of the calls, the structure's reader and writer and the report's reader. Assumes nothing.
use mathlib.Core.Path.{◌≡◌, refl, sym, ap, ◌∙◌}
use mathlib.Core.Logic.{◌≢◌, ◌⊎◌, inl, inr}
use mathlib.Core.Bool.{false, not, ◌&&◌, ◌||◌, and-false}
use mathlib.Core.List.{List, [], ◌∷◌}
use Rattle.std.specs.declared.option.Option.{Option}
use Rattle.std.specs.declared.option.Option.TheVariants.{None, Some}
use Prim.Native.Nat.{ℕ, ◌+◌, ◌*◌, ◌%◌, ◌≤◌, ◌<◌}
use Rattle.little.specs.Little.{number_at}
use lib.Dec.{leb, eqb}
use lib.ListN.{length, take, get_or}
use borrow.Author.Tests.{le-leb, lt-leb, eq-eqb, ne_eqb}
use Rattle.rules.specs.Refusals.{◌else◌, refusal}
use Rattle.rules.specs.Settings.{is_manager, place_of, granularity_ok}
use Rattle.rules.specs.Lists.{is_some}
use Rattle.rules.specs.StartData.{granularity_of, count_of, header_tests, read_tests, start_data}
use Rattle.rules.specs.Order.{start, stop, write, receive, suspend, resume, part, Part, Seen, start_order, stop_order, write_order, receive_order, suspend_order, resume_order, part_order, queue_order}
use Rattle.rules.specs.Order as order
use Rattle.rules.specs.Machine.{refused, no_report}
use Rattle.rules.specs.Device.{sound_device}
use Rattle.rules.proofs.RefusalLaws.{verdict-has, verdict-refused}
use Rattle.rules.proofs.NameLaws.{early, names}
use Rattle.rules.specs.ReportReader.{report_tests, report_refusal}
use Rattle.rules.specs.declared.Settings.{Settings}
use Rattle.rules.specs.declared.Header.TheVariants.{Is, Refused}
use Rattle.rules.specs.declared.Device.{Device}
use Rattle.record.specs.Record.{tracked_by, sound_with, controller_at, places_of, has_stopped, seen_in, arriving_in}
use Rattle.start_data.specs.Answer.{Said}
use Rattle.start_data.proofs.Answers.{header_of-says, start_data-says, start_data-none, start_written-refused}
use Rattle.report_reader.proofs.AnswerLaws.{refused-answer, index-zero}
use Rattle.calls.specs.Calls.{Engine, in_words, receive_by, start_by, stop_by, write_by, Change, changed, started_with, start_done, start_change, stop_done, stop_change, flag_done, suspend_change, resume_done, resume_change, Note, noted, write_done, write_note, Receipt, received, receive_done, receive_receipt, Arrival, arrival, part_done, part_change, make_done, make_change, Posting, posting, post_done, post_change, Taking, taking, take_done, take_change}
use Rattle.calls.specs.declared.Changed.{Changed}
use Rattle.calls.specs.declared.Started.{Started}
use Rattle.demands.specs.Demand1.{MarkCalls, Answers, Demand1}
use Rattle.demands.proofs.ManagerLaws.{manager-named, named-manager, limit-named}
use Rattle.demands.proofs.AnswerLaws.{answers, fresh-answers, start-zero, row_is, stop-zero, flag-zero, resume-zero, write-zero, receive-zero, receive-says, part-zero, make-zero, post-zero, take-zero}

-- a start answers by its table
start-number : (en : Engine) (d : Device) (ws : List ℕ) (m id : ℕ) (x : List ℕ)
    → Answers (start_by en d ws m id x).answer.number (start_order d.settings m (seen_in d (en.words ws) (place_of d.settings id)) x)
    (((start_by en d ws m id x).answer.device ≡ d) × ((start_by en d ws m id x).marks ≡ ws))
unfolding start_by
start-number en d ws m id x =
    answers (Change Started) (λ c. c.answer.number) (λ c. (c.answer.device ≡ d) × (c.marks ≡ ws))
    (start_order d.settings m (seen_in d (en.words ws) (place_of d.settings id)) x) (start_done en d ws m x (place_of d.settings id)) (λ n i. started_with n i d ws)
    (start-zero en d ws m x (place_of d.settings id)) (λ n i. refl) (λ n i. (refl, refl))

-- a count over 16, and a smaller one, to the structure's reader
many-said : (x : List ℕ) → 8 ≤ length x → get_or x 0 0 ≡ 0 → 16 < count_of x → (start_data x).header ≡ Refused 18 4
unfolding start_data
many-said x l z h = rw (le-leb 8 (length x) l, eq-eqb (get_or x 0 0) 0 z, lt-leb (count_of x) 16 h)

whole-said : (x : List ℕ) → 8 ≤ length x → get_or x 0 0 ≡ 0 → number_at x 4 4 ≤ 16 → 8 + 12 * number_at x 4 4 ≤ length x → (start_data x).header ≡ Is (get_or x 3 0) (number_at x 4 4)
unfolding start_data
whole-said x l z h k = rw (le-leb 8 (length x) l, eq-eqb (get_or x 0 0) 0 z, le-leb (number_at x 4 4) 16 h, le-leb (8 + 12 * number_at x 4 4) (length x) k)

-- More set with no descriptors, to the report's reader (W1)
none_said : (x : List ℕ) → 16 ≤ length x → get_or x 0 0 ≡ 0 → number_at x 8 2 ≤ 20 → get_or x 1 0 % 2 ≡ 1 → number_at x 4 4 ≡ 0 → report_refusal x ≡ 9
unfolding report_tests
none_said x l v g m n = rw (le-leb 16 (length x) l, eq-eqb (get_or x 0 0) 0 v, le-leb (number_at x 8 2) 20 g, eq-eqb (get_or x 1 0 % 2) 1 m, eq-eqb (number_at x 4 4) 0 n)

-- a start's first nine tests
nine : (s : Settings) (m : ℕ) (v : Seen) (x : List ℕ)
    → take 9 (start_order s m v x)
    ≡ (v.sound else 1)
    ∷ (is_manager s m else 2)
    ∷ (v.known else 2)
    ∷ (not v.suspended else 4)
    ∷ (not (is_some v.tracker) else 3)
    ∷ (leb 8 (length x) else 8)
    ∷ (eqb (get_or x 0 0) 0 else 6)
    ∷ (leb s.least (get_or x 3 0) && leb (get_or x 3 0) s.greatest else 7)
    ∷ (leb (8 + 12 * number_at x 4 4) (length x) else 8)
    ∷ []
unfolding granularity_ok
nine s m v x = refl

-- W6: a part on marks or an area of another size
lent : (d : Device) (words : ℕ) (area : List ℕ) (m id : ℕ) (p : Part) → (words ≢ 256) ⊎ (length area ≢ 4096) → (part_change d words area m id p).answer.number ≡ 1
unfolding part_change sound_with
lent d words area m id p (inl h) = rw (ne_eqb words 256 h, and-false (sound_device d))
lent d words area m id p (inr h) = rw (ne_eqb (length area) 4096 h, and-false (sound_device d && eqb words 256))

-- a suspend leaves an open sequence
leaves : (d : Device) (words m id kind : ℕ) → (suspend_change d words m id kind).device.sequence ≡ d.sequence
unfolding suspend_change
leaves d words m id kind =
    let p = place_of d.settings id in
    verdict-has (λ (c : Changed). c.device.sequence ≡ d.sequence) (λ n i. record { number = n; device = d }) (λ n i. refl)
    (suspend_order d.settings m (seen_in d words p) kind) (flag_done d p ((controller_at d p).suspended || eqb kind 1)) (λ q. at p)
  where
    at : (p : Option ℕ) → (flag_done d p ((controller_at d p).suspended || eqb kind 1)).device.sequence ≡ d.sequence
    at None = refl
    at (Some i) = refl

sees-sound : (d : Device) (words : ℕ) → sound_with d words ≡ (sound_device d && eqb words 256)
unfolding sound_with
sees-sound d words = refl

-- the calls that touch marks, of any engine
pub mark_calls : (en : Engine) → MarkCalls en
unfolding stop_by write_by receive_by
mark_calls en =
    record {
      fresh = fresh-answers en;
      start = start-number en;
      row = row_is en;
      names = λ d ws m id x.
          let v = seen_in d (en.words ws) (place_of d.settings id) in
          rw ((start-number en d ws m id x).first, row_is en d ws m id x) (names d.settings m v x, early d.settings m v x);
      stop = λ d ws m id.
          answers (Change Changed) (λ c. c.answer.number) (λ c. (c.answer.device ≡ d) × (c.marks ≡ ws))
          (stop_order d.settings m (seen_in d (en.words ws) (place_of d.settings id))) (stop_done en d ws (place_of d.settings id)) (λ n i. changed n d ws)
          (stop-zero en d ws (place_of d.settings id)) (λ n i. refl) (λ n i. (refl, refl));
      write = λ d ws id w.
          answers Note (λ c. c.answer.number) (λ c. (c.answer.count ≡ 0) × (c.marks ≡ ws))
          (write_order (seen_in d (en.words ws) (place_of d.settings id)) w) (write_done en d ws w (place_of d.settings id)) (λ n i. noted n 0 ws)
          (write-zero en d ws w (place_of d.settings id)) (λ n i. refl) (λ n i. (refl, refl));
      receive = λ d ws m id x.
          answers Receipt (λ r. r.answer.number)
          (λ r. (r.answer ≡ record { number = r.answer.number; suspended = false; more = false; granularity = 0; runs = 0; groups = 0 }) × (r.marks ≡ ws) × (r.buffer ≡ x))
          (receive_order d.settings m (seen_in d (en.words ws) (place_of d.settings id)) x) (receive_done en d ws id x (place_of d.settings id)) (λ n i. received n no_report ws x)
          (receive-zero en d ws id x (place_of d.settings id)) (λ n i. refl) (λ n i. (refl, refl, refl));
      says = receive-says en;
    }

pub demand-1 : Demand1
unfolding suspend_change resume_change part_change make_change post_change take_change
demand-1 =
    record {
      mark_calls = mark_calls in_words;
      fresh-order = λ s words. refl;
      sees = λ d words i. (sees-sound d words, refl, refl);
      sees_nobody = λ d words. (sees-sound d words, refl);
      sees_off = λ d words i e. ap (λ t. tracked_by t (controller_at d (Some i)).manager) e;
      sees_on = λ d words i g n e. ap (λ t. tracked_by t (controller_at d (Some i)).manager) e;
      tracks = λ m t. (refl, refl);
      managers = λ s m. (manager-named s m, named-manager s m);
      limits = λ s m limit ok n. limit-named s ok m limit n;
      stop-order = λ s m v. refl;
      write-order = λ v w. refl;
      receive-order = λ s m v x. refl;
      suspend-order = λ s m v kind. refl;
      resume-order = λ s m v. refl;
      before = nine;
      suspend = λ d words m id kind.
          answers Changed (λ c. c.number) (λ c. c.device ≡ d)
          (suspend_order d.settings m (seen_in d words (place_of d.settings id)) kind)
          (flag_done d (place_of d.settings id) ((controller_at d (place_of d.settings id)).suspended || eqb kind 1)) (λ n i. record { number = n; device = d })
          (flag-zero d (place_of d.settings id) ((controller_at d (place_of d.settings id)).suspended || eqb kind 1)) (λ n i. refl) (λ n i. refl);
      resume = λ d words m id.
          answers Changed (λ c. c.number) (λ c. c.device ≡ d)
          (resume_order d.settings m (seen_in d words (place_of d.settings id))) (resume_done d id (place_of d.settings id)) (λ n i. record { number = n; device = d })
          (resume-zero d id (place_of d.settings id)) (λ n i. refl) (λ n i. refl);
      part = λ d words area m id p.
          answers Arrival (λ a. a.answer.number) (λ a. (a.answer.whole ≡ 0) × (a.answer.device ≡ d) × (a.area ≡ area))
          (part_order d.settings m (seen_in d words (place_of d.settings id)) (arriving_in d.sequence area id) p) (part_done d area id p) (λ n j. arrival n 0 d area)
          (part-zero d area id p) (λ n j. refl) (λ n j. (refl, refl, refl));
      make = λ d words id bytes.
          answers Changed (λ c. c.number) (λ c. c.device ≡ d) (queue_order (seen_in d words (place_of d.settings id)) bytes order.make) (make_done d bytes (place_of d.settings id))
          (λ n i. record { number = n; device = d }) (make-zero d bytes (place_of d.settings id)) (λ n i. refl) (λ n i. refl);
      post = λ d words area id e.
          answers Posting (λ r. r.answer.number) (λ r. (r.answer.stopped ≡ false) × (r.answer.device ≡ d) × (r.area ≡ area))
          (queue_order (seen_in d words (place_of d.settings id)) (length area) (order.post e)) (post_done d area e (place_of d.settings id)) (λ n i. posting n false d area)
          (post-zero d area e (place_of d.settings id)) (λ n i. refl) (λ n i. (refl, refl, refl));
      take = λ d words area id asked x.
          answers Taking (λ r. r.answer.number) (λ r. (r.answer ≡ record { number = r.answer.number; count = 0; closing = false; device = d }) × (r.buffer ≡ x))
          (queue_order (seen_in d words (place_of d.settings id)) (length area) (order.take asked x)) (take_done d area asked x (place_of d.settings id)) (λ n i. taking n 0 false d x)
          (take-zero d area asked x (place_of d.settings id)) (λ n i. refl) (λ n i. (refl, refl));
      make_order = λ v bytes. refl;
      post_order = λ v bytes e. refl;
      take_order = λ v bytes asked x. refl;
      size-made = λ n bytes. (refl, refl);
      sees_none = λ d words i e. (ap places_of e, ap has_stopped e);
      sees_queue = λ d words i r e. (ap places_of e, ap has_stopped e);
      part_lent = lent;
      part-order = λ s m v a p. refl;
      part_next = λ f p. (refl, refl);
      part_others = λ area id owner end. (refl, refl);
      suspend_leaves = leaves;
      read-header = λ x.
          let e = header_of-says x in
          record {
            first = ap (λ (h : Said). h.number) e;
            refused = λ h.
                let bad : refusal (header_tests x) ≢ 0 = λ z. h (ap (λ (q : Said). q.number) e ∙ z) in (
                  ap (λ (q : Said). q.place) e,
                  ap (λ (q : Said). q.granularity) e ∙ verdict-refused (header_tests x) (granularity_of x) (λ k i. 0) bad,
                  ap (λ (q : Said). q.count) e ∙ verdict-refused (header_tests x) (count_of x) (λ k i. 0) bad,
                );
          };
      read-start = λ x.
          let e = start_data-says x in
          record {
            first = ap (λ (h : Said). h.number) e;
            refused = λ h.
                let bad : refusal (read_tests x) ≢ 0 = λ z. h (ap (λ (q : Said). q.number) e ∙ z) in (
                  ap (λ (q : Said). q.place) e,
                  ap (λ (q : Said). q.granularity) e ∙ verdict-refused (read_tests x) (granularity_of x) (λ k i. 0) bad,
                  ap (λ (q : Said). q.count) e ∙ verdict-refused (read_tests x) (count_of x) (λ k i. 0) bad,
                  start_data-none x bad,
                );
          };
      read_many = many-said;
      read_whole = whole-said;
      write-start = λ buffer g n rs. record { first = refl; refused = start_written-refused buffer g n rs };
      write_many = λ size n h. rw (lt-leb n 16 h);
      write_whole = λ size n h k. rw (le-leb n 16 h, le-leb (8 + 12 * n) size k);
      read_report = λ x.
          record {
            first = refl;
            refused = λ h. (refl, sym (refused-answer x _ h), sym (refused-answer x _ h), sym (refused-answer x _ h), sym (refused-answer x _ h), sym (refused-answer x _ h));
          };
      read_none = none_said;
      read_index = λ x i. record { first = refl; refused = λ h. (sym (index-zero x i _ h), sym (index-zero x i _ h)) };
    }
