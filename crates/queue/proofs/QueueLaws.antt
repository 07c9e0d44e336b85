-- Laws of a queue's calls: the tests of an area, what a post stores and a take hands out, and what each call answers, case by case of its table. Assumes nothing.
use Prim.Native.Nat.{ℕ, ◌*◌, ◌/◌, ◌≤◌, min}
use mathlib.Core.Path.{◌≡◌, refl, sym, ap, ◌∙◌}
use mathlib.Core.Logic.{◌≢◌}
use mathlib.Core.Bool.{Bool, true, false, ◌&&◌, not, cond}
use mathlib.Core.List.{List, [], ◌∷◌}
use native.Mathlib.Omega.{arith}
use lib.Dec.{eqb}
use lib.ListN.{length, take, length-take}
use borrow.Author.Tests.{eqb-true, eq-eqb, ne_eqb}
use Rattle.little.specs.Little.{put}
use Rattle.rules.specs.Refusals.{Test, ◌else◌, verdict, number_of}
use Rattle.rules.specs.declared.Refusal.{Refusal}
use Rattle.rules.specs.declared.Refusal.TheVariants.{Area, NoQueue}
use Rattle.std.specs.Prelude.{is_some}
use Rattle.rules.specs.Settings.{place_of}
use Rattle.rules.specs.Queue.{places_ok, closing_entry, joined, queue_ok, closes_at, taken_of, closes_with}
use Rattle.rules.specs.Order.{size_made, queue_tests, make}
use Rattle.rules.specs.declared.Ring.{Ring}
use Rattle.std.specs.declared.option.Option.{Option}
use Rattle.std.specs.declared.option.Option.TheVariants.{None, Some}
use Rattle.rules.specs.declared.Device.{Device}
use Rattle.rules.proofs.ListLaws.{and_right, take-take}
use Rattle.ring.specs.Ring.{place_after, queued}
use Rattle.ring.proofs.Entries.{queued-length, queued-take}
use Rattle.record.specs.Record.{controller_at, places_of, where_is, seen_in}
use Rattle.std.specs.declared.result.Result.{Result}
use Rattle.std.specs.declared.result.Result.TheVariants.{Err, Ok}
use Rattle.record.proofs.RecordLaws.{where_is-at, where_is-refused, sound_device-queue}
use Rattle.record.proofs.QueueLaws.{ring-facts, ring-room}
use Rattle.queue.specs.Inner.{lent_at, lent_to, Usable}
use Rattle.calls.specs.declared.Changed.{Changed}
use Rattle.calls.specs.declared.Posted.{Posted}
use Rattle.calls.specs.declared.Taken.{Taken}
use Rattle.calls.specs.Calls.{with_queue, made_ring, make_done, make_change, fill_in, queued_in, ring_posted, ring_taken, Posting, posting, post_done, post_change, Taking, taking, take_done, take_change}

-- ---- a ring

-- what is stored: the entry where two places are free or more, else the closing one
abbrev Stored : Ring → List ℕ → List ℕ → List ℕ → Bool → Type 0
Stored r area entry area' closed =
    (closed ≡ closes_at r.size (fill_in r)) × (area' ≡ put area (32 * place_after r.size r.place (fill_in r)) (cond (closes_at r.size (fill_in r)) closing_entry entry))

-- ---- a queue that an area is lent to

module _ (d : Device) (words id : ℕ) where
  -- there is none: 1, 2, 28 or 29, as the tables of a post and a take have it
  pub lent-refused : {A : Type 0} (bytes : ℕ) (x : Refusal) → lent_to d bytes (where_is d words id) ≡ Err x
      → (ts : List Test) (done : A) (refuse : ℕ → ℕ → A)
      → let v = seen_in d words (place_of d.settings id) in
      verdict ((v.sound else 1) ∷ (v.known else 2) ∷ (places_ok bytes && size_made v.places bytes else 28) ∷ (is_some v.places else 29) ∷ ts) done refuse ≡ refuse (number_of x) 0
  lent-refused bytes x e ts done refuse = go (where_is d words id) refl e
    where
      at : (i : ℕ) (q : Option Ring) → lent_at i q bytes ≡ Err x
          → verdict ((places_ok bytes && size_made (places_of q) bytes else 28) ∷ (is_some (places_of q) else 29) ∷ ts) done refuse ≡ refuse (number_of x) 0
      at i None e = by (places_ok bytes && true) e
        where
          by : (b : Bool) → cond {A = Result (ℕ × Ring) Refusal} b (Err NoQueue) (Err Area) ≡ Err x → verdict ((b else 28) ∷ (false else 29) ∷ ts) done refuse ≡ refuse (number_of x) 0
          by true e = let z : NoQueue ≡ x = cc in ap (λ k. refuse (number_of k) 0) z
          by false e = let z : Area ≡ x = cc in ap (λ k. refuse (number_of k) 0) z
      at i (Some r) e = by (places_ok bytes && size_made (Some r.size) bytes) e
        where
          by : (b : Bool) → cond {A = Result (ℕ × Ring) Refusal} b (Ok (i, r)) (Err Area) ≡ Err x → verdict ((b else 28) ∷ (true else 29) ∷ ts) done refuse ≡ refuse (number_of x) 0
          by true e = let z : ◌≡◌ {A = ℕ} 0 1 = cc in absurd (omega arith)
          by false e = let z : Area ≡ x = cc in ap (λ k. refuse (number_of k) 0) z

      go : (w : Result ℕ Refusal) → where_is d words id ≡ w → lent_to d bytes w ≡ Err x
          → let v = seen_in d words (place_of d.settings id) in
          verdict ((v.sound else 1) ∷ (v.known else 2) ∷ (places_ok bytes && size_made v.places bytes else 28) ∷ (is_some v.places else 29) ∷ ts) done refuse ≡ refuse (number_of x) 0
      go (Err r) f e =
          let v = seen_in d words (place_of d.settings id) in
          let z : r ≡ x = cc in
          where_is-refused d words id r f ((places_ok bytes && size_made v.places bytes else 28) ∷ (is_some v.places else 29) ∷ ts) done refuse ∙ ap (λ k. refuse (number_of k) 0) z
      go (Ok i) f e = let m = where_is-at d words id i f in rw (m.place, m.seen) (at i (controller_at d (Some i)).queue e)

  -- there is one
  pub record Lent (bytes i : ℕ) (r : Ring) : Type 0 where
    pub at : where_is d words id ≡ Ok i
    pub area : (places_ok bytes && size_made (Some r.size) bytes) ≡ true
    pub queue : (controller_at d (Some i)).queue ≡ Some r

  pub lent_is : (bytes i : ℕ) (r : Ring) → lent_to d bytes (where_is d words id) ≡ Ok (i, r) → Lent bytes i r
  lent_is bytes i r e = go (where_is d words id) refl e
    where
      go : (w : Result ℕ Refusal) → where_is d words id ≡ w → lent_to d bytes w ≡ Ok (i, r) → Lent bytes i r
      go (Err x) f e = let z : ◌≡◌ {A = ℕ} 0 1 = cc in absurd (omega arith)
      go (Ok j) f e = at (controller_at d (Some j)).queue refl e
        where
          at : (q : Option Ring) → (controller_at d (Some j)).queue ≡ q → lent_at j q bytes ≡ Ok (i, r) → Lent bytes i r
          at None g e = by (places_ok bytes && true) e
            where
              by : (b : Bool) → cond {A = Result (ℕ × Ring) Refusal} b (Err NoQueue) (Err Area) ≡ Ok (i, r) → Lent bytes i r
              by true e = let z : ◌≡◌ {A = ℕ} 0 1 = cc in absurd (omega arith)
              by false e = let z : ◌≡◌ {A = ℕ} 0 1 = cc in absurd (omega arith)
          at (Some s) g e = by (places_ok bytes && size_made (Some s.size) bytes) refl e
            where
              by : (b : Bool) → (places_ok bytes && size_made (Some s.size) bytes) ≡ b → cond {A = Result (ℕ × Ring) Refusal} b (Ok (j, s)) (Err Area) ≡ Ok (i, r) → Lent bytes i r
              by true h e = let z : ◌≡◌ {A = ℕ × Ring} (j, s) (i, r) = cc in
                  let u : j ≡ i = ap (λ (p : ℕ × Ring). p.0) z in
                  let w : s ≡ r = ap (λ (p : ℕ × Ring). p.1) z in record { at = f ∙ ap Ok u; area = rw (← w) h; queue = rw (← u, ← w) g }
              by false h e = let z : ◌≡◌ {A = ℕ} 0 1 = cc in absurd (omega arith)

  -- of a sound record, which has its eight controllers: it may be used
  pub lent-usable : (bytes i : ℕ) (r : Ring) → length d.controllers ≡ 8 → Lent bytes i r → Usable bytes r
  lent-usable bytes i r eight l =
      let m = where_is-at d words id i l.at in
      let k : queue_ok (Some r) ≡ true = sym (ap queue_ok l.queue) ∙ sound_device-queue d i m.sound m.used (omega (arith, m.below)) in
      let t = ring-facts r k in
      record {
        whole = eqb-true bytes (32 * r.size) (and_right (places_ok bytes) _ l.area);
        inside = t.place;
        most = t.fill;
        room = λ s. ring-room r t s;
      }

-- ---- what is taken

-- the least of those asked for, those that fit whole, and those queued
module _ (area : List ℕ) (r : Ring) (asked bytes fill fits m : ℕ) (f : fill ≡ fill_in r) (g : fits ≡ min (bytes / 32) fill) (h : m ≡ min asked fits) where
  pub taken-few : m ≤ fill_in r
  taken-few = omega arith

  pub taken-count : m ≡ length (taken_of asked bytes (queued_in area r))
  taken-count =
      omega (arith, length-take asked (take (bytes / 32) (queued_in area r)), length-take (bytes / 32) (queued_in area r), queued-length area r.size r.place (fill_in r))

  -- and these are the oldest
  pub taken-entries : taken_of asked bytes (queued_in area r) ≡ queued area r.size r.place m
  taken-entries =
      take-take asked (bytes / 32) (queued_in area r) ∙ ap (λ k. take k (queued_in area r)) (sym taken-count) ∙ queued-take area r.size r.place (fill_in r) m taken-few

-- ---- the calls, case by case

-- what a call comes to, as its contract says it
pub leaves-area : (x : Posting) (a : Posted) (area : List ℕ) → x ≡ record { answer = a; area = area } → (a ≡ x.answer) × (area ≡ x.area)
leaves-area x a area e = (sym (ap (λ (y : Posting). y.answer) e), sym (ap (λ (y : Posting). y.area) e))

pub leaves-buffer : (x : Taking) (a : Taken) (buffer : List ℕ) → x ≡ record { answer = a; buffer = buffer } → (a ≡ x.answer) × (buffer ≡ x.buffer)
leaves-buffer x a buffer e = (sym (ap (λ (y : Taking). y.answer) e), sym (ap (λ (y : Taking). y.buffer) e))

module _ (d : Device) (words id : ℕ) where
  -- ---- make

  module _ (bytes : ℕ) where
    abbrev answer : ℕ → Device → Changed
    answer n e = record { number = n; device = e }

    pub make-refused : (r : Refusal) → where_is d words id ≡ Err r → make_change d words id bytes ≡ answer (number_of r) d
    unfolding make_change
    make-refused r e =
        where_is-refused d words id r e (queue_tests (seen_in d words (place_of d.settings id)) bytes make) (make_done d bytes (place_of d.settings id)) (λ n i. answer n d)

    module _ (i : ℕ) (e : where_is d words id ≡ Ok i) where
      pub make-area : places_ok bytes ≡ false → make_change d words id bytes ≡ answer 28 d
      unfolding make_change
      make-area f = let m = where_is-at d words id i e in rw (m.place, m.seen, f)

      pub make-done : places_ok bytes ≡ true → (e : Device) → e ≡ with_queue d i (Some (made_ring bytes)) → make_change d words id bytes ≡ answer 0 e
      unfolding make_change
      make-done f e' s = let m = where_is-at d words id i e in rw (m.place, m.seen, f, s)

  -- ---- post

  module _ (area entry : List ℕ) where
    pub post-refused : (x : Refusal) → lent_to d (length area) (where_is d words id) ≡ Err x → post_change d words area id entry ≡ posting (number_of x) false d area
    unfolding post_change
    post-refused x e =
        let v = seen_in d words (place_of d.settings id) in
        lent-refused d words id (length area) x e ((eqb (length entry) 32 else 8) ∷ (not v.stopped else 30) ∷ []) (post_done d area entry (place_of d.settings id)) (λ n i. posting n false d area)

    module _ (i : ℕ) (r : Ring) (l : Lent d words id (length area) i r) where
      pub post-entry : length entry ≢ 32 → post_change d words area id entry ≡ posting 8 false d area
      unfolding post_change
      post-entry h = let m = where_is-at d words id i l.at in rw (m.place, m.seen, l.queue, l.area, ne_eqb (length entry) 32 h)

      module _ (h : length entry ≡ 32) where
        pub post-stopped : r.stopped ≡ true → post_change d words area id entry ≡ posting 30 false d area
        unfolding post_change
        post-stopped s = let m = where_is-at d words id i l.at in rw (m.place, m.seen, l.queue, l.area, eq-eqb (length entry) 32 h, s)

        pub post-done : r.stopped ≡ false → (closed : Bool) (area' : List ℕ) → Stored r area entry area' closed → (r' : Ring) → r' ≡ ring_posted r closed
            → (d' : Device) → d' ≡ with_queue d i (Some r') → post_change d words area id entry ≡ posting 0 closed d' area'
        unfolding post_change
        post-done s closed area' p r' x d' y = let m = where_is-at d words id i l.at in rw (m.place, m.seen, l.queue, l.area, eq-eqb (length entry) 32 h, s, y, x, p.0, p.1)

  -- ---- take

  module _ (area : List ℕ) (asked : ℕ) (buffer : List ℕ) where
    pub take-refused : (x : Refusal) → lent_to d (length area) (where_is d words id) ≡ Err x → take_change d words area id asked buffer ≡ taking (number_of x) 0 false d buffer
    unfolding take_change
    take-refused x e = lent-refused d words id (length area) x e [] (take_done d area asked buffer (place_of d.settings id)) (λ n i. taking n 0 false d buffer)

    pub take_told : (i : ℕ) (r : Ring) → Lent d words id (length area) i r → (m : ℕ) → m ≡ length (taken_of asked (length buffer) (queued_in area r)) → (buffer' : List ℕ)
        → buffer' ≡ put buffer 0 (joined (taken_of asked (length buffer) (queued_in area r))) → (closing : Bool) → closing ≡ closes_with r.stopped m (fill_in r)
        → (r' : Ring) → r' ≡ ring_taken r m → (d' : Device) → d' ≡ with_queue d i (Some r') → take_change d words area id asked buffer ≡ taking 0 m closing d' buffer'
    unfolding take_change
    take_told i r l m u buffer' b closing c r' x d' y = let p = where_is-at d words id i l.at in rw (p.place, p.seen, l.queue, l.area, y, x, c, b, u)
