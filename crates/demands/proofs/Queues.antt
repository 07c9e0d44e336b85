-- W8, proved of the calls: what an accepted call to a queue leaves, and what is queued after a session. Assumes nothing.
use mathlib.Core.Path.{◌≡◌, refl, sym, ap, ap₂, subst, ◌∙◌}
use mathlib.Core.Logic.{◌↔◌, ◌⊎◌, inl, inr}
use mathlib.Core.Bool.{Bool, true, false, ◌&&◌, ◌||◌, not, cond, true≢false}
use mathlib.Core.List.{List, [], ◌∷◌, ◌++◌}
use Rattle.std.specs.declared.option.Option.{Option}
use Rattle.std.specs.declared.option.Option.TheVariants.{None, Some}
use Prim.Native.Nat.{ℕ, zero, suc, ◌+◌, ◌-◌, ◌*◌, ◌/◌, ◌%◌, ◌^◌, ◌≤◌, ◌<◌}
use native.Mathlib.Omega.{arith}
use lib.Dec.{leb, ltb, eqb}
use lib.ListN.{length, take, drop, get_or, length-append}
use Rattle.std.specs.List.{slice_get}
use lib.Seq.{take_at}
use borrow.Author.Tests.{leb-true, le-leb, ltb-true, ltb-false, lt-ltb, eqb-true, eq-eqb, not-true}
use Rattle.little.specs.Little.{put}
use Rattle.little.proofs.Put.{put_is, put-length, put-drop-after}
use Rattle.rules.specs.Lists.{is_some}
use Rattle.rules.specs.Settings.{place_of}
use Rattle.rules.specs.Queue.{entry_bytes, places_ok, closing_entry, joined, total_after, fill_of, queue_ok, Queued, closes_at, taken_of, closes_with}
use Rattle.rules.specs.Order as order
use Rattle.rules.specs.Order.{Seen, size_made, queue_order, order}
use Rattle.rules.specs.Device.{sound_device}
use Rattle.rules.specs.Machine.{places_in, entries_in}
use Rattle.rules.specs.History.{Did, size_by, stored_by, taken_by, stopped_by}
use Rattle.rules.specs.declared.Ring.{Ring}
use Rattle.rules.specs.declared.Device.{Device}
use Rattle.rules.proofs.ListLaws.{and_left, and_right, and_intro, not-intro, some_inj, take-take}
use Rattle.rules.proofs.RefusalLaws.{Passed, verdict-done, verdict-passed}
use Rattle.rules.proofs.QueueHistory as history
use Rattle.rules.proofs.QueueHistory.{places_ok-true, stored_last}
use Rattle.ring.specs.Ring.{part, entry_at, place_after, queued}
use Rattle.ring.proofs.Entries.{queued-length, queued-at, queued-take, entry_at-front, joined_at, queued-joined-length, closing_entry-length}
use Rattle.ring.proofs.Places.{place_after-lt}
use Rattle.record.specs.Record.{sound_with, controller_at, places_of, has_stopped, seen_in, front_of, arriving_in}
use Rattle.record.proofs.RecordLaws.{front_of-length, sound_device-facts, sound_device-queue}
use Rattle.record.proofs.QueueLaws.{RingFacts, ring-facts, ring-room}
use Rattle.calls.specs.Calls.{with_queue, made_ring, make_done, make_change, fill_in, queued_in, Posting, posting, post_in, post_done, post_change, Taking, taking, take_in, take_done, take_change}
use Rattle.calls.specs.declared.Changed.{Changed}
use Rattle.demands.specs.View.{queue_of}
use Rattle.demands.specs.Sessions.{Left}
use Rattle.demands.specs.Queues.{fill_by, place_behind, entry_in, queuing_at, PostedTo, TakenFrom, QueueCalls, Logged, Logs}
use Rattle.demands.proofs.AnswerLaws.{make-zero, post-zero, take-zero}
use Rattle.demands.proofs.QueueLaws.{taken-least}
use Rattle.demands.proofs.StepLaws.{order-numbers}
use Rattle.demands.proofs.ViewLaws.{place_of-used}

-- ---- lists

get_elem-at : {A : Type 0} (xs : List A) (k : ℕ) (x : A) → k < length xs → slice_get xs k ≡ Some (get_or xs k x)
get_elem-at [] k x h = absurd (omega arith)
get_elem-at (y ∷ xs) zero x h = refl
get_elem-at (y ∷ xs) (suc k) x h = get_elem-at xs k x (omega arith)

get_elem-behind : {A : Type 0} (xs ys : List A) (k : ℕ) → slice_get (xs ++ ys) (length xs + k) ≡ slice_get ys k
get_elem-behind [] ys k = let e : 0 + k ≡ k = omega arith in ap (slice_get ys) e
get_elem-behind (x ∷ xs) ys k = let e : suc (length xs) + k ≡ suc (length xs + k) = omega arith in ap (slice_get (x ∷ (xs ++ ys))) e ∙ get_elem-behind xs ys k

-- the least of three: one of them
taken-exact : {A : Type 0} (n m : ℕ) (l : List A)
    → (length (take n (take m l)) ≡ n) ⊎ ((length (take n (take m l)) ≡ length l) ⊎ (length (take n (take m l)) ≡ m))
taken-exact zero m l = inl refl
taken-exact (suc n) zero l = inr (inr refl)
taken-exact (suc n) (suc m) [] = inr (inl refl)
taken-exact (suc n) (suc m) (x ∷ l) = go (taken-exact n m l)
  where
    go : (length (take n (take m l)) ≡ n) ⊎ ((length (take n (take m l)) ≡ length l) ⊎ (length (take n (take m l)) ≡ m))
        → (suc (length (take n (take m l))) ≡ suc n) ⊎ ((suc (length (take n (take m l))) ≡ suc (length l)) ⊎ (suc (length (take n (take m l))) ≡ suc m))
    go (inl e) = inl (ap suc e)
    go (inr (inl e)) = inr (inl (ap suc e))
    go (inr (inr e)) = inr (inr (ap suc e))

-- ---- an accepted post to a ring, and an accepted take

module _ (d : Device) (i : ℕ) (r : Ring) (area : List ℕ) (facts : RingFacts r) (whole : length area ≡ 32 * r.size) where
  -- the place behind the entries lies in the area
  inside : 32 * place_after r.size r.place (fill_in r) + 32 ≤ length area
  inside = omega (arith, whole, place_after-lt r.size r.place facts.place (fill_in r))

  post_is : (e : List ℕ) → length e ≡ 32 → r.stopped ≡ false → PostedTo d i r area e (post_in d i area e (Some r))
  unfolding fill_of total_after place_after closing_entry
  post_is e long running =
      record {
        stops = ((λ z. let h = leb-true r.size (fill_in r + 1) z in omega (arith, h, room)), (λ z. le-leb r.size (fill_in r + 1) (omega (arith, z))));
        device = refl;
        stored = λ z.
            ap (λ b. put area (32 * place_after r.size r.place (fill_in r)) (cond b closing_entry e)) z
            ∙ put_is area (32 * place_after r.size r.place (fill_in r)) e (omega (arith, inside, long))
            ∙ ap (λ n. (take (32 * place_after r.size r.place (fill_in r)) area ++ e) ++ drop (32 * place_after r.size r.place (fill_in r) + n) area) long;
        closed = λ z.
            ap (λ b. put area (32 * place_after r.size r.place (fill_in r)) (cond b closing_entry e)) z
            ∙ put_is area (32 * place_after r.size r.place (fill_in r)) closing_entry (omega (arith, inside, closing_entry-length))
            ∙ ap (λ n. (take (32 * place_after r.size r.place (fill_in r)) area ++ closing_entry) ++ drop (32 * place_after r.size r.place (fill_in r) + n) area) closing_entry-length;
      }
    where
      room : fill_in r < r.size
      room = ring-room r facts running

  module _ (asked : ℕ) (x : List ℕ) where
    abbrev es : List (List ℕ)
    es = taken_of asked (length x) (queued_in area r)

    abbrev m : ℕ
    m = length es

    least-of : (m ≤ asked) × (m ≤ length x / entry_bytes) × (m ≤ length (queued_in area r))
    least-of = taken-least asked (length x / entry_bytes) (queued_in area r)

    long : length (queued_in area r) ≡ fill_in r
    long = queued-length area r.size r.place (fill_in r)

    few : m ≤ fill_in r
    few = omega (arith, least-of.2, long)

    are : es ≡ queued area r.size r.place m
    are = take-take asked (length x / entry_bytes) (queued_in area r) ∙ queued-take area r.size r.place (fill_in r) m few

    joined_length : length (joined es) ≡ 32 * m
    joined_length = ap (λ l. length (joined l)) are ∙ queued-joined-length area r.size r.place m whole facts.place

    entry-is : (k : ℕ) → k < m → entry_at (put x 0 (joined es)) k ≡ entry_at area (place_after r.size r.place k)
    entry-is k h =
        entry_at-front x (joined es) k (omega (arith, joined_length)) (omega (arith, joined_length, least-of.1))
        ∙ ap (λ l. entry_at (joined l) k) are
        ∙ joined_at area r.size r.place whole facts.place m k h

    closes : (closes_with r.stopped m (fill_in r) ≡ true) ↔ ((1 ≤ m) × (r.stopped ≡ true) × (m ≡ fill_in r))
    closes = (
      (λ z.
          let k = and_right r.stopped _ z in
          (ltb-true 0 m (and_left (ltb 0 m) _ k), and_left r.stopped _ z, eqb-true m (fill_in r) (and_right (ltb 0 m) _ k))),
      (λ z. and_intro r.stopped _ z.1 (and_intro (ltb 0 m) _ (lt-ltb 0 m z.0) (eq-eqb m (fill_in r) z.2))),
    )

    exact : (m ≡ asked) ⊎ ((m ≡ fill_in r) ⊎ (length x < 32 * (m + 1)))
    exact = go (taken-exact asked (length x / entry_bytes) (queued_in area r))
      where
        go : (m ≡ asked) ⊎ ((m ≡ length (queued_in area r)) ⊎ (m ≡ length x / entry_bytes)) → (m ≡ asked) ⊎ ((m ≡ fill_in r) ⊎ (length x < 32 * (m + 1)))
        go (inl e) = inl e
        go (inr (inl e)) = inr (inl (e ∙ long))
        go (inr (inr e)) = inr (inr (omega (arith, e)))

    take-is : TakenFrom d i r area asked x (take_in d i area asked x (Some r))
    unfolding fill_of total_after place_after entry_at part
    take-is =
        record {
          most_asked = least-of.0;
          most_queued = few;
          most_fit = omega (arith, least-of.1);
          least = exact;
          entries = entry-is;
          rest = put-drop-after x 0 (joined es) (32 * m) (omega (arith, joined_length));
          size = put-length x 0 (joined es);
          closing = closes;
          device = refl;
        }

-- ---- the calls, on any record

module _ (d : Device) (words a i : ℕ) (eight : length d.controllers ≡ 8) (place : place_of d.settings a ≡ Some i) where
  abbrev seen : Seen
  seen = seen_in d words (Some i)

  facts-of : sound_with d words ≡ true → (r : Ring) → (controller_at d (Some i)).queue ≡ Some r → RingFacts r
  unfolding sound_with
  facts-of e r is =
      let sure = and_left (sound_device d) _ e in
      let used = place_of-used d a i place in
      ring-facts r (sym (ap queue_ok is) ∙ sound_device-queue d i sure used (omega (arith, used, eight, (sound_device-facts d sure).count)))

  size_of : (bytes : ℕ) (r : Ring) → (controller_at d (Some i)).queue ≡ Some r → (places_ok bytes && size_made (places_of (controller_at d (Some i)).queue) bytes) ≡ true → bytes ≡ 32 * r.size
  size_of bytes r is ok = eqb-true bytes (32 * r.size) (sym (ap (λ q. size_made (places_of q) bytes) is) ∙ and_right (places_ok bytes) _ ok)

  makes_so : (bytes : ℕ) → (make_change d words a bytes).number ≡ 0
      → (make_change d words a bytes).device ≡ queuing_at d i (Some (record { size = bytes / 32; posted = 0; taken = 0; place = 0; stopped = false }))
  unfolding make_change order
  makes_so bytes z =
      let r = verdict-done (λ (c : Changed). c.number) (queue_order seen bytes order.make) (make_done d bytes (Some i)) (λ n j. record { number = n; device = d }) (λ n j. refl)
      (order-numbers d.settings seen (arriving_in d.sequence [] a) (order.queue bytes order.make)) (rw place at z) in
      rw place (ap (λ (c : Changed). c.device) r.0)

  posts-so : (r : Ring) (area e : List ℕ) → (controller_at d (Some i)).queue ≡ Some r → (post_change d words area a e).answer.number ≡ 0 → PostedTo d i r area e (post_change d words area a e)
  unfolding post_change order
  posts-so r area e is z =
      let t = verdict-done (λ (p : Posting). p.answer.number) (queue_order seen (length area) (order.post e)) (post_done d area e (Some i)) (λ n j. posting n false d area) (λ n j. refl)
      (order-numbers d.settings seen (arriving_in d.sequence [] a) (order.queue (length area) (order.post e))) (rw place at z) in
      let q = t.1 in
      let stopped : r.stopped ≡ false = sym (ap has_stopped is) ∙ not-true (has_stopped (controller_at d (Some i)).queue) q.1.1.1.1.1.0 in
      rw place (subst (PostedTo d i r area e) (sym (t.0 ∙ ap (post_in d i area e) is))
      (post_is d i r area (facts-of q.0 r is) (size_of (length area) r is q.1.1.0) e (eqb-true (length e) 32 q.1.1.1.1.0) stopped))

  takes-so : (r : Ring) (area : List ℕ) (asked : ℕ) (x : List ℕ) → (controller_at d (Some i)).queue ≡ Some r → (take_change d words area a asked x).answer.number ≡ 0
      → TakenFrom d i r area asked x (take_change d words area a asked x)
  unfolding take_change order
  takes-so r area asked x is z =
      let t = verdict-done (λ (p : Taking). p.answer.number) (queue_order seen (length area) (order.take asked x)) (take_done d area asked x (Some i)) (λ n j. taking n 0 false d x) (λ n j. refl)
      (order-numbers d.settings seen (arriving_in d.sequence [] a) (order.queue (length area) (order.take asked x))) (rw place at z) in
      let q = t.1 in
      rw place (subst (TakenFrom d i r area asked x) (sym (t.0 ∙ ap (take_in d i area asked x) is))
      (take-is d i r area (facts-of q.0 r is) (size_of (length area) r is q.1.1.0) asked x))

  -- a take from a queue that was not made is refused
  takes-made : (area : List ℕ) (asked : ℕ) (x : List ℕ) → (take_change d words area a asked x).answer.number ≡ 0 → is_some (places_of (controller_at d (Some i)).queue) ≡ true
  unfolding take_change order
  takes-made area asked x z =
      (verdict-done (λ (p : Taking). p.answer.number) (queue_order seen (length area) (order.take asked x)) (take_done d area asked x (Some i)) (λ n j. taking n 0 false d x) (λ n j. refl)
      (order-numbers d.settings seen (arriving_in d.sequence [] a) (order.queue (length area) (order.take asked x))) (rw place at z)).1.1.1.1.0

  pub queue_calls : QueueCalls d words a i
  queue_calls = record { makes = makes_so; posts = posts-so; takes = takes-so }

-- ---- after a session

module _ (l : Left) (h : List Did) (a i : ℕ) (eight : length l.device.controllers ≡ 8) (place : place_of l.device.settings a ≡ Some i)
    (sound : sound_with l.device (length l.marks) ≡ true) (logged : history.Logged h (queue_of (l.queues i) (controller_at l.device (Some i)).queue)) where
  abbrev d : Device
  d = l.device

  abbrev words : ℕ
  words = length l.marks

  abbrev own : Option Ring
  own = (controller_at d (Some i)).queue

  -- a queue that was made
  module _ (r : Ring) (is : own ≡ Some r) where
    known : history.Logged h (queue_of (l.queues i) (Some r))
    known = subst (λ (q : Option Ring). history.Logged h (queue_of (l.queues i) q)) is logged

    abbrev entries : List (List ℕ)
    entries = queued_in (front_of (32 * r.size) (l.queues i)) r

    entries-length : length entries ≡ fill_in r
    entries-length = queued-length (front_of (32 * r.size) (l.queues i)) r.size r.place (fill_in r)

    together : length (stored_by h) ≡ length (taken_by h) + fill_in r
    together = ap length (sym known.entries) ∙ length-append (taken_by h) entries ∙ ap (λ n. length (taken_by h) + n) entries-length

    is-logged : (n : ℕ) → r.size ≡ n → Logged l h i n r
    unfolding fill_of place_after entry_at part closing_entry
    is-logged n e =
        record {
          size = e;
          stopped = known.stopped;
          taken = ap (take (length (taken_by h))) (sym known.entries) ∙ take_at (taken_by h) entries (length (taken_by h)) refl;
          all = together;
          queued = λ k f.
              ap (λ es. slice_get es (length (taken_by h) + k)) (sym known.entries)
              ∙ get_elem-behind (taken_by h) entries k
              ∙ get_elem-at entries k [] (omega (arith, entries-length, f))
              ∙ ap Some (queued-at (front_of (32 * r.size) (l.queues i)) r.size r.place (fill_in r) k f)
              ∙ ap (λ z. Some (entry_in (front_of (32 * z) (l.queues i)) (place_behind r k))) e;
          last = stored_last h;
        }

  -- there is one where the history tells of one
  found : (n : ℕ) → size_by h ≡ Some n → (r : Ring) × (own ≡ Some r) × (r.size ≡ n)
  found n e = go own refl (logged.size ∙ e)
    where
      go : (q : Option Ring) → own ≡ q → places_in (queue_of (l.queues i) q) ≡ Some n → (r : Ring) × (own ≡ Some r) × (r.size ≡ n)
      go None is z = let y : ◌≡◌ {A = ℕ} 0 1 = cc in absurd (omega arith)
      go (Some r) is z = (r, is, some_inj z)

  sizes : (n : ℕ) → size_by h ≡ Some n → (2 ≤ n) × (n ≤ 1024)
  sizes n e = logged.places n (logged.size ∙ e)

  -- an area of so many places
  places-are : (n : ℕ) → 2 ≤ n → n ≤ 1024 → places_ok (32 * n) ≡ true
  places-are n h k =
      let q : 32 * n / 32 ≡ n = omega arith in
      and_intro (eqb (32 * n % 32) 0) _ (eq-eqb (32 * n % 32) 0 (omega arith))
      (and_intro (leb 2 (32 * n / 32)) _ (le-leb 2 (32 * n / 32) (omega (arith, q))) (le-leb (32 * n / 32) 1024 (omega (arith, q))))

  may_make : (n : ℕ) → 2 ≤ n → n ≤ 1024 → (make_change d words a (32 * n)).number ≡ 0
  unfolding make_change
  may_make n h k =
      rw place (ap (λ (c : Changed). c.number)
      (verdict-passed (queue_order (seen_in d words (Some i)) (32 * n) order.make) (make_done d (32 * n) (Some i)) (λ m j. record { number = m; device = d })
      (sound, (refl, (places-are n h k, tt)))))

  -- the tests of size: an area of the size made
  size-passes : (n : ℕ) → size_by h ≡ Some n → let bytes = length (front_of (32 * n) (l.queues i)) in ((places_ok bytes && size_made (places_of own) bytes) ≡ true) × (is_some (places_of own) ≡ true)
  size-passes n e =
      let f = found n e in
      let k = sizes n e in
      rw (front_of-length (32 * n) (l.queues i), f.1, f.2) (and_intro (places_ok (32 * n)) _ (places-are n k.0 k.1) (eq-eqb (32 * n) (32 * n) refl), refl)

  may_post : (n : ℕ) (e : List ℕ) → size_by h ≡ Some n → stopped_by h ≡ false → length e ≡ 32 → (post_change d words (front_of (32 * n) (l.queues i)) a e).answer.number ≡ 0
  unfolding post_change
  may_post n e made running long =
      let area = front_of (32 * n) (l.queues i) in
      let f = found n made in
      let p = size-passes n made in
      let going : has_stopped own ≡ false = ap has_stopped f.1 ∙ (known f.0 f.1).stopped ∙ running in
      rw place (ap (λ (r : Posting). r.answer.number)
      (verdict-passed (queue_order (seen_in d words (Some i)) (length area) (order.post e)) (post_done d area e (Some i)) (λ m j. posting m false d area)
      (sound, (refl, (p.0, (p.1, (eq-eqb (length e) 32 long, (not-intro (has_stopped own) going, tt))))))) ∙ post-zero d area e (Some i))

  may_take : (n asked : ℕ) (x : List ℕ) → size_by h ≡ Some n → (take_change d words (front_of (32 * n) (l.queues i)) a asked x).answer.number ≡ 0
  unfolding take_change
  may_take n asked x made =
      let area = front_of (32 * n) (l.queues i) in
      let p = size-passes n made in
      rw place (ap (λ (r : Taking). r.answer.number)
      (verdict-passed (queue_order (seen_in d words (Some i)) (length area) (order.take asked x)) (take_done d area asked x (Some i)) (λ m j. taking m 0 false d x)
      (sound, (refl, (p.0, (p.1, tt))))) ∙ take-zero d area asked x (Some i))

  closing-is : (bytes asked : ℕ) (x : List ℕ)
      → let t = take_change d words (front_of bytes (l.queues i)) a asked x in
      t.answer.number ≡ 0 → (t.answer.closing ≡ true) ↔ ((1 ≤ t.answer.count) × (stopped_by h ≡ true) × (length (taken_by h) + t.answer.count ≡ length (stored_by h)))
  unfolding fill_of
  closing-is bytes asked x z = go own refl
    where
      t : Taking
      t = take_change d words (front_of bytes (l.queues i)) a asked x

      go : (q : Option Ring) → own ≡ q → (t.answer.closing ≡ true) ↔ ((1 ≤ t.answer.count) × (stopped_by h ≡ true) × (length (taken_by h) + t.answer.count ≡ length (stored_by h)))
      go None is = absurd (true≢false (sym (takes-made d words a i eight place (front_of bytes (l.queues i)) asked x z) ∙ ap (λ q. is_some (places_of q)) is))
      go (Some r) is =
          let w = (takes-so d words a i eight place r (front_of bytes (l.queues i)) asked x is z).closing in
          let s = (known r is).stopped in
          let n = together r is in (
            (λ c. let k = w.0 c in (k.0, sym s ∙ k.1, omega (arith, n, k.2))),
            (λ k. w.1 (k.0, s ∙ k.1, omega (arith, n, k.2))),
          )

  pub logs : Logs l h a i
  logs =
      record {
        is = λ n e. let f = found n e in (f.0, f.1, is-logged f.0 f.1 n f.2);
        none = λ e r is. let y : None ≡ Some r.size = sym e ∙ sym (known r is).size in let z : ◌≡◌ {A = ℕ} 0 1 = cc in absurd (omega arith);
        may_make = may_make;
        may_post = may_post;
        may_take = may_take;
        closing = closing-is;
      }
