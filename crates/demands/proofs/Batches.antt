-- W4: a batch is its tried notes as single calls, and a session with batches the session of its calls. Assumes nothing.
use mathlib.Core.Path.{◌≡◌, refl, sym, ap, ap₂, subst, ◌∙◌}
use mathlib.Core.Logic.{◌≢◌, ◌↔◌}
use Rattle.std.specs.declared.option.Option.{Option}
use Rattle.std.specs.declared.option.Option.TheVariants.{None, Some}
use mathlib.Core.Bool.{Bool, true, false, cond, not}
use mathlib.Core.List.{List, [], ◌∷◌, map}
use Prim.Native.Nat.{ℕ, zero, suc, ◌+◌, ◌^◌}
use native.Mathlib.Omega.{arith}
use lib.Dec.{eqb, leb}
use lib.ListN.{length}
use borrow.Author.Tests.{le-leb, lt-leb, leb-true, eq-eqb, ne_eqb}
use Rattle.bits.proofs.Pack.{pack-length}
use Rattle.rules.specs.Units.{Write}
use Rattle.rules.specs.declared.Range.{Range}
use Rattle.rules.specs.declared.Tracking.{Tracking}
use Rattle.rules.specs.declared.Tracking.TheVariants.{Off, On}
use Rattle.rules.specs.Refusals.{Test, refusal}
use Rattle.rules.proofs.RefusalLaws.{Passed, verdict-has, verdict-done}
use Rattle.rules.specs.Settings.{most_notes, place_of}
use Rattle.rules.specs.Order.{write_order, batch_order}
use Rattle.rules.specs.Machine.{refused, wrote, Call, Event, managed_in, counts_in, units_in}
use Rattle.rules.specs.Demands.{session_end}
use Rattle.rules.specs.declared.Settings.{Settings}
use Rattle.rules.specs.declared.Device.{Device}
use Rattle.record.specs.Record.{sound_with, controller_at, seen_in}
use Rattle.calls.specs.declared.WriteRecord.{WriteRecord}
use Rattle.calls.specs.declared.Batched.{Batched}
use Rattle.calls.specs.Calls.{Engine, batch_by, in_words, write_by, Change, with_marks, Note, noted, note_in, write_done, write_note, write_in, batched, notes_from}
use Rattle.demands.specs.View.{run}
use Rattle.demands.specs.Sessions.{Left, Given, Sized, Step, one, batch, next, left_after, answers_to, stepped, left_by, note_of, tried, calls_of, expand, begun, calls_in, history_in}
use Rattle.demands.specs.Demand2.{Equals, Stands}
use Rattle.demands.specs.Batches.{done_in, newly_in, last_number, IsNotes, ByNote, Batches, BatchesStand}
use Rattle.demands.specs.Demand3.{Demand3}
use Rattle.demands.proofs.SessionLaws.{left-append}
use Rattle.demands.proofs.AnswerLaws.{answers}
use Rattle.demands.proofs.Demand1.{mark_calls}
use Rattle.demands.proofs.Demand2.{demand-2}
use Rattle.demands.proofs.Demand3.{demand-3}

-- ---- the notes of a list, after k done and c units

-- what some answers to notes come to, after that
abbrev summed : ℕ → ℕ → List Event → Batched
summed k c es = record { number = 0; done = k + done_in es; count = c + newly_in es; refusal = last_number es }

-- ---- of any engine whose notes leave an area that stands for as many words

module _ (en : Engine) (keeps : (d : Device) (ws : List ℕ) (id : ℕ) (w : Write) → en.words (write_by en d ws id w).marks ≡ en.words ws) where
  record Are (l : Left) (k c : ℕ) (rs : List WriteRecord) (r : Change Batched) : Type 0 where
    pub leaves : record { device = l.device; marks = r.marks; area = l.area; queues = l.queues } ≡ left_after en l (tried en l rs)
    pub says : r.answer ≡ summed k c (answers_to en l (tried en l rs))

  -- answers that are alike
  alike : (a a' b b' c c' : ℕ) → a ≡ a' → b ≡ b' → c ≡ c' → ◌≡◌ {A = Batched} (record { number = 0; done = a; count = b; refusal = c }) (record { number = 0; done = a'; count = b'; refusal = c' })
  alike a a' b b' c c' p q r = rw (p, q, r)

  -- one note that is done, before others
  last-after : (k : Call) (x : ℕ) (es : List Event) → last_number (record { call = k; answer = wrote x } ∷ es) ≡ last_number es
  last-after k x [] = refl
  last-after k x (e ∷ es) = refl

  summed-next : (k c x : ℕ) (note : Call) (es : List Event) → summed (k + 1) (c + x) es ≡ summed k c (record { call = note; answer = wrote x } ∷ es)
  summed-next k c x note es = alike _ _ _ _ _ _ (omega arith) (omega arith) (sym (last-after note x es))

  -- the notes of a list, after k done and c units
  notes-are : (d : Device) (area : List ℕ) (qs : ℕ → List ℕ) (rs : List WriteRecord) (m : List ℕ) (k c : ℕ) → Are (record { device = d; marks = m; area = area; queues = qs }) k c rs (notes_from en d m k c rs)
  unfolding run
  notes-are d area qs [] m k c = record { leaves = refl; says = alike _ _ _ _ _ _ (omega arith) (omega arith) refl }
  notes-are d area qs (r ∷ rs) m k c =
      go (eqb (write_by en d m r.id (write_in r)).answer.number 0) refl
      (notes-are d area qs rs (write_by en d m r.id (write_in r)).marks (k + 1) (c + (write_by en d m r.id (write_in r)).answer.count))
    where
      go : (b : Bool) → eqb (write_by en d m r.id (write_in r)).answer.number 0 ≡ b
          → let n = write_by en d m r.id (write_in r) in
          let rest = notes_from en d n.marks (k + 1) (c + n.answer.count) rs in
          Are (record { device = d; marks = n.marks; area = area; queues = qs }) (k + 1) (c + n.answer.count) rs rest
          → Are (record { device = d; marks = m; area = area; queues = qs }) k c (r ∷ rs) (cond b rest (batched 0 k c n.answer.number n.marks))
      go true e ih =
          let n = write_by en d m r.id (write_in r) in
          let l : Left = record { device = d; marks = n.marks; area = area; queues = qs } in
          record {
            leaves = rw e ih.leaves;
            says = rw e (ih.says ∙ summed-next k c n.answer.count (note_of r) (answers_to en l (tried en l rs)));
          }
      go false e ih = record { leaves = rw e; says = rw e (alike _ _ _ _ _ _ (omega arith) (omega arith) refl) }

  -- ---- a batch

  module _ (l : Left) (rs : List WriteRecord) where
    abbrev order : List Test
    order = batch_order (sound_with l.device (en.words l.marks)) (length rs)

    are : Are l 0 0 rs (notes_from en l.device l.marks 0 0 rs)
    are = notes-are l.device l.area l.queues rs l.marks 0 0

    from_zero : (es : List Event) → summed 0 0 es ≡ record { number = 0; done = done_in es; count = newly_in es; refusal = last_number es }
    from_zero es = alike _ _ _ _ _ _ (omega arith) (omega arith) refl

    is-notes : IsNotes en l rs
    unfolding batch_by
    is-notes =
        record {
          answers =
              answers (Change Batched) (λ c. c.answer.number) (λ c. (c.answer.done ≡ 0) × (c.answer.count ≡ 0) × (c.answer.refusal ≡ 0) × (c.marks ≡ l.marks))
              order (notes_from en l.device l.marks 0 0 rs) (λ n i. batched n 0 0 0 l.marks) (ap (λ (b : Batched). b.number) are.says) (λ n i. refl) (λ n i. (refl, refl, refl, refl));
          unsound = λ e. rw e;
          many = λ e h. rw (e, lt-leb (length rs) most_notes h);
          few = λ e h. rw (e, le-leb (length rs) most_notes h) (ap (λ (b : Batched). b.number) are.says);
          leaves = λ e. rw (whole e) are.leaves;
          says = λ e.
              let a = are.says ∙ from_zero (answers_to en l (tried en l rs)) in
              rw (whole e) (ap (λ (b : Batched). b.done) a, ap (λ (b : Batched). b.count) a, ap (λ (b : Batched). b.refusal) a);
        }
      where
        whole : (batch_by en l.device l.marks rs).answer.number ≡ 0 → batch_by en l.device l.marks rs ≡ notes_from en l.device l.marks 0 0 rs
        whole e =
            (verdict-done (λ (c : Change Batched). c.answer.number) order (notes_from en l.device l.marks 0 0 rs) (λ n i. batched n 0 0 0 l.marks) (λ n i. refl)
            (omega arith, (omega arith, tt)) e).0

  -- ---- by its first note

  -- notes after k done and c units, from those after none
  shifted : (d : Device) (rs : List WriteRecord) (m : List ℕ) (k c : ℕ)
      → let others = notes_from en d m 0 0 rs in
      notes_from en d m k c rs ≡ record { answer = record { number = others.answer.number; done = k + others.answer.done; count = c + others.answer.count; refusal = others.answer.refusal }; marks = others.marks }
  shifted d rs m k c =
      ap₂ {A = Batched} (λ (a : Batched) (w : List ℕ). record { answer = a; marks = w }) (some.says ∙ sym told) (ap (λ (q : Left). q.marks) (some.leaves ∙ sym zero.leaves))
    where
      l : Left
      l = record { device = d; marks = m; area = []; queues = λ i. [] }

      es : List Event
      es = answers_to en l (tried en l rs)

      some : Are l k c rs (notes_from en d m k c rs)
      some = notes-are d [] (λ i. []) rs m k c

      zero : Are l 0 0 rs (notes_from en d m 0 0 rs)
      zero = notes-are d [] (λ i. []) rs m 0 0

      told : record { number = (notes_from en d m 0 0 rs).answer.number; done = k + (notes_from en d m 0 0 rs).answer.done; count = c + (notes_from en d m 0 0 rs).answer.count; refusal = (notes_from en d m 0 0 rs).answer.refusal } ≡ summed k c es
      told =
          ap (λ (b : Batched). record { number = b.number; done = k + b.done; count = c + b.count; refusal = b.refusal }) zero.says
          ∙ alike _ _ _ _ _ _ (omega arith) (omega arith) refl

  module _ (d : Device) (ws : List ℕ) where
    -- a note is refused with 1 exactly where record and marks are unsound, and so is a batch
    note-one : (id : ℕ) (w : Write) → sound_with d (en.words ws) ≡ false → (write_by en d ws id w).answer.number ≡ 1
    note-one id w e = ((mark_calls en).write d ws id w).first ∙ rw e

    note-other : (id : ℕ) (w : Write) → sound_with d (en.words ws) ≡ true → (write_by en d ws id w).answer.number ≢ 1
    note-other id w e = λ z. go (seen_in d (en.words ws) (place_of d.settings id)).known (not (seen_in d (en.words ws) (place_of d.settings id)).suspended) (leb (w.address + w.bytes) (2 ^ 64)) (sym (((mark_calls en).write d ws id w).first ∙ rw e) ∙ z)
      where
        go : (a b c : Bool) → ◌≢◌ {A = ℕ} (cond a (cond b (cond c 0 14) 4) 2) 1
        go true true true = λ z. absurd (omega (arith, z))
        go true true false = λ z. absurd (omega (arith, z))
        go true false c = λ z. absurd (omega (arith, z))
        go false b c = λ z. absurd (omega (arith, z))

    batch-other : (rs : List WriteRecord) → sound_with d (en.words ws) ≡ true → (batch_by en d ws rs).answer.number ≢ 1
    batch-other rs e = λ z. go (leb (length rs) most_notes) (sym ((is-notes (record { device = d; marks = ws; area = []; queues = λ i. [] }) rs).answers.first ∙ rw e) ∙ z)
      where
        go : (a : Bool) → ◌≢◌ {A = ℕ} (cond a 0 22) 1
        go true = λ z. absurd (omega (arith, z))
        go false = λ z. absurd (omega (arith, z))

    as_one : (rs : List WriteRecord) (id : ℕ) (w : Write) → ((batch_by en d ws rs).answer.number ≡ 1) ↔ ((write_by en d ws id w).answer.number ≡ 1)
    as_one rs id w = go (sound_with d (en.words ws)) refl
      where
        go : (b : Bool) → sound_with d (en.words ws) ≡ b → ((batch_by en d ws rs).answer.number ≡ 1) ↔ ((write_by en d ws id w).answer.number ≡ 1)
        go true e = (λ z. absurd (batch-other rs e z), λ z. absurd (note-other id w e z))
        go false e = (λ z. note-one id w e, λ z. (is-notes (record { device = d; marks = ws; area = []; queues = λ i. [] }) rs).unsound e)

    -- a done batch is its notes, on a sound record, and there are few
    done-is : (rs : List WriteRecord) → (batch_by en d ws rs).answer.number ≡ 0 → (batch_by en d ws rs ≡ notes_from en d ws 0 0 rs) × Passed (order (record { device = d; marks = ws; area = []; queues = λ i. [] }) rs)
    unfolding batch_by
    done-is rs e =
        verdict-done (λ (c : Change Batched). c.answer.number) (order (record { device = d; marks = ws; area = []; queues = λ i. [] }) rs) (notes_from en d ws 0 0 rs) (λ n i. batched n 0 0 0 ws) (λ n i. refl)
        (omega arith, (omega arith, tt)) e

  passed_is : (d : Device) (ws : List ℕ) (rs : List WriteRecord) → sound_with d (en.words ws) ≡ true → leb (length rs) most_notes ≡ true → batch_by en d ws rs ≡ notes_from en d ws 0 0 rs
  unfolding batch_by
  passed_is d ws rs e f = rw (e, f)

  by_first : (l : Left) → ByNote en l
  by_first l =
      record {
        unsound = as_one l.device l.marks;
        none = λ e. (done-is l.device l.marks [] e).0;
        cut = λ r rs e z.
            (done-is l.device l.marks (r ∷ rs) e).0
            ∙ rw (ne_eqb (write_by en l.device l.marks r.id (write_in r)).answer.number 0 z, (((mark_calls en).write l.device l.marks r.id (write_in r)).refused z).1);
        goes_on = λ r rs e z.
            let n = write_by en l.device l.marks r.id (write_in r) in
            let p = done-is l.device l.marks (r ∷ rs) e in
            let so : batch_by en l.device n.marks rs ≡ notes_from en l.device n.marks 0 0 rs =
            passed_is l.device n.marks rs (rw (keeps l.device l.marks r.id (write_in r)) p.1.0) (le-leb (length rs) most_notes (omega (arith, leb-true (length (r ∷ rs)) most_notes p.1.1.0))) in
            p.0 ∙ rw (eq-eqb n.answer.number 0 z, so) (shifted l.device rs n.marks (0 + 1) (0 + n.answer.count) ∙ alike-change _ _ _ _ _ _ _ (omega arith) (omega arith));
      }
    where
      alike-change : (x a a' b b' y : ℕ) (w : List ℕ) → a ≡ a' → b ≡ b'
          → ◌≡◌ {A = Change Batched} (record { answer = record { number = x; done = a; count = b; refusal = y }; marks = w }) (record { answer = record { number = x; done = a'; count = b'; refusal = y }; marks = w })
      alike-change x a a' b b' y w p q = rw (p, q)

  -- ---- sessions

  -- a step leaves what its calls leave
  pub step_left : (l : Left) (x : Step) → stepped en l x ≡ left_after en l (calls_of en l x)
  step_left l (one k) = refl
  step_left l (batch rs) = go (batch_by en l.device l.marks rs).answer.number refl
    where
      go : (n : ℕ) → (batch_by en l.device l.marks rs).answer.number ≡ n → stepped en l (batch rs) ≡ left_after en l (calls_of en l (batch rs))
      go zero e =
          let calls : calls_of en l (batch rs) ≡ tried en l rs = rw e in
          (is-notes l rs).leaves e ∙ ap (left_after en l) (sym calls)
      go (suc n) e =
          let calls : calls_of en l (batch rs) ≡ [] = rw (ne_eqb (batch_by en l.device l.marks rs).answer.number 0 (λ z. absurd (omega (arith, z, e)))) in
          ap (λ m. record { device = l.device; marks = m; area = l.area; queues = l.queues }) ((is-notes l rs).answers.refused (λ z. absurd (omega (arith, z, e)))).3 ∙ ap (left_after en l) (sym calls)

  left_is : (xs : List Step) (l : Left) → left_by en l xs ≡ left_after en l (expand en l xs)
  left_is [] l = refl
  left_is (x ∷ xs) l =
      left_is xs (stepped en l x) ∙ ap (λ (q : Left). left_after en q (expand en (stepped en l x) xs)) (step_left l x) ∙ sym (left-append en (calls_of en l x) (expand en (stepped en l x) xs) l)

  only_calls : (ks : List Call) (l : Left) → expand en l (map one ks) ≡ ks
  only_calls [] l = refl
  only_calls (k ∷ ks) l = ap (λ js. k ∷ js) (only_calls ks (next en l k))

  pub batches-of : ((s : Settings) (a : ℕ) (m : Given) (ks : List Call) → Sized s m → Equals en s a m ks ks) → Demand3 en → Batches en
  batches-of rules apart =
      record {
        notes = is-notes;
        by_note = by_first;
        session = λ s m xs. left_is xs (begun en s m);
        calls = λ s m ks. only_calls ks (begun en s m);
        rules = λ s a m xs sized. rules s a m (calls_in en s m xs) sized;
        together = λ s a m m' xs xs' sized sized' same e f g. apart.together s a m m' (calls_in en s m xs) (calls_in en s m' xs') sized sized' same e f g;
        alone = λ s a m xs sized f. apart.alone s a m (calls_in en s m xs) sized f;
      }

-- ---- in words

pub words-kept : (d : Device) (ws : List ℕ) (id : ℕ) (w : Write) → length (write_note d ws id w).marks ≡ length ws
unfolding write_by with_marks
words-kept d ws id w =
    verdict-has (λ (n : Note). length n.marks ≡ length ws) (λ n i. noted n 0 ws) (λ n i. refl) (write_order (seen_in d (length ws) (place_of d.settings id)) w) (write_done in_words d ws w (place_of d.settings id))
    (λ p. done (place_of d.settings id))
  where
    in-share : (base : ℕ) (t : Tracking) (rs : List Range) → length (note_in in_words ws base t rs w).marks ≡ length ws
    in-share base Off rs = refl
    in-share base (On g n) rs = pack-length (length ws) _

    done : (p : Option ℕ) → length (write_done in_words d ws w p).marks ≡ length ws
    done None = refl
    done (Some i) = in-share (controller_at d (Some i)).base (controller_at d (Some i)).tracking (controller_at d (Some i)).ranges

pub batches : Batches in_words
batches = batches-of in_words words-kept demand-2.rules demand-3

pub batches-stand : BatchesStand
batches-stand =
    record {
      stands = λ s m xs sized e a.
          let st = session_end s (length m.marks) (calls_in in_words s m xs) in
          subst (λ (l : Left). Stands s l (history_in in_words s m (calls_in in_words s m xs) a) (units_in st) (managed_in st) (counts_in st) a)
          (sym (left_is in_words words-kept xs (begun in_words s m)))
          (demand-2.stands s m (calls_in in_words s m xs) sized e a);
    }
