-- What a turn of a batch does, over plain values, for any engine: no word of memory here. Assumes nothing.
--     left         what a batch that has come to (b, m) will answer and leave
--     Facts b m    what holds before and after each turn: `starts`, `turned`.        stopped      the contract, where no note is due
--     Going i b m  the loop's invariant before record i
use mathlib.Core.Path.{◌≡◌, refl, sym, ap, subst, ◌∙◌}
use mathlib.Core.Logic.{◌≢◌}
use mathlib.Core.Bool.{Bool, true, false, ◌&&◌, not, cond, true≢false}
use mathlib.Core.List.{List, [], ◌∷◌}
use Rattle.std.specs.declared.option.Option.{Option}
use Rattle.std.specs.declared.option.Option.TheVariants.{None, Some}
use Prim.Native.Nat.{ℕ, ◌+◌, ◌*◌, ◌<◌, ◌≤◌, ◌^◌}
use native.Mathlib.Numerals.{add-one}
use native.Mathlib.Omega.{arith}
use lib.Dec.{ltb, leb, eqb}
use lib.ListN.{length, get_or, take, drop, length-take, length-drop}
use lib.Seq.{drop-cons, drop-length}
use borrow.Author.Tests.{ltb-false, leb-true, eqb-true, eqb-false, eq-eqb, ne_eqb}
use Rattle.bits.specs.Flat.{flat}
use Rattle.bits.specs.Share.{get_share}
use Rattle.bits.proofs.Flat.{flat-length}
use Rattle.rules.specs.Settings.{mark_words, most_units, most_notes, place_of}
use Rattle.rules.specs.Units.{Unit, Write, units, touches, newly}
use Rattle.rules.specs.Order.{write_order}
use Rattle.rules.specs.Device.{sound_device}
use Rattle.rules.specs.declared.Device.{Device}
use Rattle.rules.specs.declared.Range.{Range}
use Rattle.rules.specs.declared.Tracking.{Tracking}
use Rattle.rules.specs.declared.Tracking.TheVariants.{Off, On}
use Rattle.rules.proofs.ListLaws.{and_right}
use Rattle.rules.proofs.RefusalLaws.{verdict-has}
use Rattle.record.specs.Record.{sound_with, controller_at, seen_in}
use Rattle.calls.specs.declared.Written.{Written}
use Rattle.calls.specs.declared.WriteRecord.{WriteRecord}
use Rattle.calls.specs.declared.Batched.{Batched}
use Rattle.calls.specs.Calls.{Engine, in_words, Change, Note, noted, note_in, write_done, write_by, write_in, batched, notes_from, batch_by}
use Rattle.writes.specs.Inner.{begin_of, is_due, tally_of}
use Rattle.writes.proofs.BatchLaws.{due-refused, due-left, due-cut, due-is, tally-cut, tally-done, tally-went}

-- ---- a note makes at most as many units pending as there are marks

newly-most : (w : Write) (us : List Unit) (p : List Bool) → newly w us p ≤ length p
newly-most w [] p = omega arith
newly-most w (u ∷ us) [] = omega arith
newly-most w (u ∷ us) (b ∷ p) = go (touches w u && not b) (newly-most w us p)
  where
    go : (y : Bool) → newly w us p ≤ length p → cond y 1 0 + newly w us p ≤ length (b ∷ p)
    go true h = omega arith
    go false h = omega arith

-- where an engine has at most a mark for each unit of the pool
pub note-most : (en : Engine) (d : Device) (ws : List ℕ) (most : (base n : ℕ) → length (en.marks ws base n) ≤ most_units) (id : ℕ) (w : Write)
    → (write_by en d ws id w).answer.count ≤ most_units
unfolding write_by
note-most en d ws most id w =
    verdict-has (λ (n : Note). n.answer.count ≤ most_units) (λ n i. noted n 0 ws) (λ n i. omega arith)
    (write_order (seen_in d (en.words ws) (place_of d.settings id)) w) (write_done en d ws w (place_of d.settings id)) (λ p. done (place_of d.settings id))
  where
    in-share : (base : ℕ) (t : Tracking) (rs : List Range) → (note_in en ws base t rs w).answer.count ≤ most_units
    in-share base Off rs = omega arith
    in-share base (On g n) rs =
        omega (arith, newly-most w (units g (take n rs)) (en.marks ws base (length (units g (take n rs)))), most base (length (units g (take n rs))))

    done : (p : Option ℕ) → (write_done en d ws w p).answer.count ≤ most_units
    done None = omega arith
    done (Some i) = in-share (controller_at d (Some i)).base (controller_at d (Some i)).tracking (controller_at d (Some i)).ranges

-- what stands past the end of a list
abbrev pub no_record : WriteRecord
no_record = record { id = 0; address = 0; bytes = record { 0 = 0 } }

-- so has the engine that holds marks in words, in those of a sound record
pub words-most : (d : Device) (ws : List ℕ) → sound_with d (length ws) ≡ true → (base n : ℕ) → length (in_words.marks ws base n) ≤ most_units
unfolding get_share sound_with
words-most d ws s base n =
    omega (arith, length-take n (drop base (flat ws)), length-drop base (flat ws), flat-length ws, eqb-true (length ws) mark_words (and_right (sound_device d) (eqb (length ws) mark_words) s))

module _ (en : Engine) (d : Device) (m₀ : List ℕ) (rs : List WriteRecord) where
  abbrev n : ℕ
  n = length rs

  abbrev pub left : Batched → List ℕ → Change Batched
  left b m = cond (is_due b n) (notes_from en d m b.done b.count (drop b.done rs)) (record { answer = b; marks = m })

  pub record Facts (b : Batched) (m : List ℕ) : Type 0 where
    pub ok : is_due b n ≡ true → (n ≤ most_notes) × (sound_with d (en.words m₀) ≡ true)
    pub small : b.count ≤ most_units * b.done
    pub inv : left b m ≡ batch_by en d m₀ rs

  -- k notes are done and none was refused: those that are left give the answer, also where none is
  go-at : (m : List ℕ) (k c : ℕ) → k ≤ n → cond (ltb k n) (notes_from en d m k c (drop k rs)) (batched 0 k c 0 m) ≡ notes_from en d m k c (drop k rs)
  go-at m k c le = go (ltb k n) refl
    where
      go : (b : Bool) → ltb k n ≡ b → cond b (notes_from en d m k c (drop k rs)) (batched 0 k c 0 m) ≡ notes_from en d m k c (drop k rs)
      go true e = refl
      go false e =
          let z : k ≡ n = omega (arith, ltb-false k n e) in
          sym (ap (λ (l : List WriteRecord). notes_from en d m k c l) (ap (λ (j : ℕ). drop j rs) z ∙ drop-length rs))

  -- ---- the loop begins

  starts-inv : left (begin_of d (en.words m₀) n) m₀ ≡ batch_by en d m₀ rs
  unfolding begin_of batch_by is_due
  starts-inv = go (sound_with d (en.words m₀)) (leb n most_notes) refl refl
    where
      go : (a b : Bool) → sound_with d (en.words m₀) ≡ a → leb n most_notes ≡ b → left (begin_of d (en.words m₀) n) m₀ ≡ batch_by en d m₀ rs
      go true true e f = rw (e, f) (go-at m₀ 0 0 (omega arith))
      go true false e f = rw (e, f)
      go false b e f = rw e

  starts-ok : is_due (begin_of d (en.words m₀) n) n ≡ true → (n ≤ most_notes) × (sound_with d (en.words m₀) ≡ true)
  unfolding begin_of is_due
  starts-ok = go (sound_with d (en.words m₀)) (leb n most_notes) refl refl
    where
      go : (a b : Bool) → sound_with d (en.words m₀) ≡ a → leb n most_notes ≡ b → is_due (begin_of d (en.words m₀) n) n ≡ true → (n ≤ most_notes) × (sound_with d (en.words m₀) ≡ true)
      go true true e f h = (leb-true n most_notes f, e)
      go true false e f h = absurd (true≢false (sym (rw (e, f) at h)))
      go false b e f h = absurd (true≢false (sym (rw e at h)))

  pub starts : Facts (begin_of d (en.words m₀) n) m₀
  unfolding begin_of
  starts = record { ok = starts-ok; small = omega arith; inv = starts-inv }

  -- ---- a turn

  module _ (b : Batched) (m : List ℕ) (len : en.words m ≡ en.words m₀) (on : is_due b n ≡ true) (f : Facts b m) where
    abbrev pub elem : WriteRecord
    elem = get_or rs b.done no_record

    abbrev pub note : Note
    note = write_by en d m elem.id (write_in elem)

    is : (b.number ≡ 0) × (b.refusal ≡ 0) × (b.done < n)
    is = due-is b n on

    pub sound-now : sound_with d (en.words m) ≡ true
    sound-now = rw len (f.ok on).1

    -- what is left, the record apart
    before : left b m ≡ cond (eqb note.answer.number 0) (notes_from en d note.marks (b.done + 1) (b.count + note.answer.count) (drop (b.done + 1) rs))
        (batched 0 b.done b.count note.answer.number note.marks)
    before = rw (on, cons-at)
      where
        cons-at : drop b.done rs ≡ elem ∷ drop (b.done + 1) rs
        cons-at = rw (add-one b.done) (drop-cons rs b.done no_record is.2)

    module _ (e : note.answer.number ≡ 0) where
      abbrev next : Batched
      next = record { number = b.number; done = b.done + 1; count = b.count + note.answer.count; refusal = b.refusal }

      done-due : is_due next n ≡ ltb (b.done + 1) n
      done-due = sym (due-left next n is.0 is.1)

      abbrev rest : Change Batched
      rest = notes_from en d note.marks (b.done + 1) (b.count + note.answer.count) (drop (b.done + 1) rs)

      after : left next note.marks ≡ rest
      after = rw (done-due, is.0, is.1) (go-at note.marks (b.done + 1) (b.count + note.answer.count) (omega (arith, is.2)))

      so : cond (eqb note.answer.number 0) rest (batched 0 b.done b.count note.answer.number note.marks) ≡ rest
      so = rw (eq-eqb note.answer.number 0 e)

      done-inv : left next note.marks ≡ batch_by en d m₀ rs
      done-inv = after ∙ sym (before ∙ so) ∙ f.inv

    module _ (e : note.answer.number ≢ 0) where
      abbrev cut : Batched
      cut = record { number = b.number; done = b.done; count = b.count; refusal = note.answer.number }

      cut-due : is_due cut n ≡ false
      cut-due = sym (due-cut cut n e)

      abbrev ended : Change Batched
      ended = batched 0 b.done b.count note.answer.number note.marks

      stays : left cut note.marks ≡ ended
      stays = rw (cut-due, is.0)

      so-cut : cond (eqb note.answer.number 0) (notes_from en d note.marks (b.done + 1) (b.count + note.answer.count) (drop (b.done + 1) rs)) ended ≡ ended
      so-cut = rw (ne_eqb note.answer.number 0 e)

      cut-inv : left cut note.marks ≡ batch_by en d m₀ rs
      cut-inv = stays ∙ sym (before ∙ so-cut) ∙ f.inv

    turned-at : note.answer.count ≤ most_units → Facts (tally_of b note.answer) note.marks
    turned-at few = go (eqb note.answer.number 0) refl
      where
        go : (y : Bool) → eqb note.answer.number 0 ≡ y → Facts (tally_of b note.answer) note.marks
        go true y =
            let e = eqb-true note.answer.number 0 y in
            subst (λ (t : Batched). Facts t note.marks) (tally-done b note.answer e)
            (record { ok = λ h. f.ok on; small = omega (arith, f.small, few); inv = done-inv e })
        go false y =
            let e = eqb-false note.answer.number 0 y in
            subst (λ (t : Batched). Facts t note.marks) (tally-cut b note.answer e)
            (record { ok = λ h. f.ok on; small = f.small; inv = cut-inv e })

    -- a note's answer w, the marks m' after it, and the tally b', as the callees' contracts say them
    module _ (w : Written) (m' : List ℕ) (b' : Batched) (is-w : w ≡ note.answer) (is_m : m' ≡ note.marks) (few : w.count ≤ most_units) (is_b : b' ≡ tally_of b w) where
      is-b' : b' ≡ tally_of b note.answer
      is-b' = is_b ∙ ap (λ (k : Written). tally_of b k) is-w

      pub turned : Facts b' m'
      turned = subst (λ (u : Batched). Facts u m') (sym is-b') (subst (λ (z : List ℕ). Facts (tally_of b note.answer) z) (sym is_m) (turned-at (rw is-w at few)))

    -- what `tally` requires
    pub fits_in : (w : Written) → w.count ≤ most_units → (b.done + 1 < 2 ^ 64) × (b.count + w.count < 2 ^ 64)
    fits_in w few = (omega (arith, is.2, (f.ok on).0), omega (arith, few, f.small, is.2, (f.ok on).0))

  -- ---- the loop is left

  pub stopped : (b : Batched) (m : List ℕ) → is_due b n ≡ false → Facts b m → (b ≡ (batch_by en d m₀ rs).answer) × (m ≡ (batch_by en d m₀ rs).marks)
  stopped b m off f = (ap (λ (c : Change Batched). c.answer) e, ap (λ (c : Change Batched). c.marks) e)
    where
      e : record { answer = b; marks = m } ≡ batch_by en d m₀ rs
      e = sym (ap (λ (y : Bool). cond y (notes_from en d m b.done b.count (drop b.done rs)) (record { answer = b; marks = m })) off) ∙ f.inv

  -- ---- the loop over the list: before record i, that many notes are done where one is due

  abbrev pub Answered : Batched → List ℕ → Type 0
  Answered b m = (b ≡ (batch_by en d m₀ rs).answer) × (m ≡ (batch_by en d m₀ rs).marks)

  pub record Going (i : ℕ) (b : Batched) (m : List ℕ) : Type 0 where
    pub facts : Facts b m
    pub same : en.words m ≡ en.words m₀
    pub done : is_due b n ≡ true → b.done ≡ i

  pub going-first : (b : Batched) → b ≡ begin_of d (en.words m₀) n → Going 0 b m₀
  unfolding begin_of
  going-first b e = record { facts = rw e starts; same = refl; done = λ h. rw e }

  -- one that is refused before its first note is answered as it begins
  pub going-refused : (b : Batched) → b ≡ begin_of d (en.words m₀) n → b.number ≢ 0 → Answered b m₀
  going-refused b e h = stopped b m₀ (sym (due-refused b n h)) (rw e starts)

  module _ (i : ℕ) (b : Batched) (m : List ℕ) (g : Going i b m) where
    pub going-stops : is_due b n ≡ false → Answered b m
    going-stops off = stopped b m off g.facts

    pub over-due : n ≤ i → is_due b n ≡ false
    over-due h = go (is_due b n) refl
      where
        go : (y : Bool) → is_due b n ≡ y → y ≡ false
        go true e = absurd (omega (arith, g.done e, (due-is b n e).2))
        go false e = refl

    pub going-over : n ≤ i → Answered b m
    going-over h = going-stops (over-due h)

    module _ (on : is_due b n ≡ true) where
      pub going-sound : sound_with d (en.words m) ≡ true
      going-sound = sound-now b m g.same on g.facts

      -- a note's answer w, the marks m' after it, and the tally b'
      abbrev given : WriteRecord
      given = get_or rs i no_record

      module _ (w : Written) (m' : List ℕ) (is-w : w ≡ (write_by en d m given.id (write_in given)).answer) (is_m : m' ≡ (write_by en d m given.id (write_in given)).marks)
          (few : w.count ≤ most_units) where
        w-is : w ≡ (note b m g.same on g.facts).answer
        w-is = rw (g.done on) is-w

        m-is : m' ≡ (note b m g.same on g.facts).marks
        m-is = rw (g.done on) is_m

        pub going-fits : (b.done + 1 < 2 ^ 64) × (b.count + w.count < 2 ^ 64)
        going-fits = fits_in b m g.same on g.facts w few

        -- one that this note cuts is answered as it is tallied
        pub going-cut : (b' : Batched) → b' ≡ tally_of b w → b'.refusal ≢ 0 → Answered b' m'
        going-cut b' is_b h = stopped b' m' (sym (due-cut b' n h)) (turned b m g.same on g.facts w m' b' w-is m-is few is_b)

        pub going-next : (b' : Batched) → b' ≡ tally_of b w → en.words m' ≡ en.words m₀ → Going (i + 1) b' m'
        going-next b' is_b s =
            record {
              facts = turned b m g.same on g.facts w m' b' w-is m-is few is_b;
              same = s;
              done = λ h.
                  let went : b'.done ≡ b.done + 1 = rw is_b (tally-went b w (sym (ap (λ (t : Batched). t.refusal) is_b) ∙ (due-is b' n h).1)) in
                  omega (arith, went, g.done on);
            }
