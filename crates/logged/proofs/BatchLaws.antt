-- What a turn of a batch that is logged does to the log, for any engine: beside the invariant of the batch itself (`Turns` of `writes`), what is left of the notes makes of the
-- log what the whole batch makes of it. Assumes nothing.
use mathlib.Core.Path.{◌≡◌, refl, sym, ap, subst, ◌∙◌}
use mathlib.Core.Logic.{◌≢◌}
use mathlib.Core.Bool.{Bool, true, false, ◌&&◌, cond}
use mathlib.Core.List.{List, ◌∷◌}
use Prim.Native.Nat.{ℕ, ◌+◌, ◌<◌, ◌≤◌, min}
use native.Mathlib.Numerals.{add-one}
use native.Mathlib.Omega.{arith}
use lib.Dec.{ltb, eqb}
use lib.ListN.{length, get_or, take, drop}
use lib.Seq.{drop-cons, drop-length}
use borrow.Author.Tests.{ltb-false, eqb-true, eqb-false}
use Rattle.rules.specs.declared.Device.{Device}
use Rattle.rules.specs.Refusals.{refusal}
use Rattle.rules.specs.Settings.{most_units, place_of}
use Rattle.rules.specs.Order.{batch_order}
use Rattle.log_numbers.specs.declared.Log.{Log}
use Rattle.record.specs.Record.{sound_with}
use Rattle.calls.specs.declared.Written.{Written}
use Rattle.calls.specs.declared.WriteRecord.{WriteRecord}
use Rattle.calls.specs.declared.Batched.{Batched}
use Rattle.calls.specs.Calls.{Engine, Note, write_by, write_in, batch_by}
use Rattle.booking.specs.Booking.{booked_by, write_log, notes_log, batch_log}
use Rattle.writes.specs.Inner.{begin_of, is_due, tally_of}
use Rattle.writes.proofs.BatchLaws.{due-refused, due-left, due-cut, due-is, tally-cut, tally-done, take-least}
use Rattle.writes.proofs.Turns.{no_record, Answered, Going, going-refused, going-first, going-stops, going-cut, over-due, going-next}

module _ (en : Engine) (d : Device) (m₀ : List ℕ) (l₀ : Log) (rs : List WriteRecord) where
  abbrev n : ℕ
  n = length rs

  -- the log of a batch that has come to (b, m) with the log l, at its end
  abbrev pub log_left : Batched → List ℕ → Log → Log
  log_left b m l = cond (is_due b n) (notes_log en l d m (drop b.done rs)) l

  abbrev pub Books : Batched → List ℕ → Log → Type 0
  Books b m l = log_left b m l ≡ batch_log en l₀ d m₀ rs

  -- also where no record is left
  at-end : (m : List ℕ) (l : Log) (k : ℕ) → k ≤ n → cond (ltb k n) (notes_log en l d m (drop k rs)) l ≡ notes_log en l d m (drop k rs)
  at-end m l k le = go (ltb k n) refl
    where
      go : (b : Bool) → ltb k n ≡ b → cond b (notes_log en l d m (drop k rs)) l ≡ notes_log en l d m (drop k rs)
      go true e = refl
      go false e =
          let z : k ≡ n = omega (arith, ltb-false k n e) in
          sym (ap (λ (x : List WriteRecord). notes_log en l d m x) (ap (λ (j : ℕ). drop j rs) z ∙ drop-length rs))

  pub books-start : Books (begin_of d (en.words m₀) n) m₀ l₀
  unfolding begin_of batch_log is_due
  books-start = go (eqb (refusal (batch_order (sound_with d (en.words m₀)) n)) 0)
    where
      go : (b : Bool) → cond {A = Log} (b && ltb 0 n) (notes_log en l₀ d m₀ rs) l₀ ≡ cond b (notes_log en l₀ d m₀ rs) l₀
      go true = at-end m₀ l₀ 0 (omega arith)
      go false = refl

  module _ (b : Batched) (m : List ℕ) (l : Log) (on : is_due b n ≡ true) (inv : Books b m l) where
    abbrev elem : WriteRecord
    elem = get_or rs b.done no_record

    abbrev note : Note
    note = write_by en d m elem.id (write_in elem)

    abbrev later : Log
    later = write_log en l d m elem.id (write_in elem)

    is : (b.number ≡ 0) × (b.refusal ≡ 0) × (b.done < n)
    is = due-is b n on

    before : cond (eqb note.answer.number 0) (notes_log en later d note.marks (drop (b.done + 1) rs)) later ≡ batch_log en l₀ d m₀ rs
    before = sym (rw (on, cons-at)) ∙ inv
      where
        cons-at : drop b.done rs ≡ elem ∷ drop (b.done + 1) rs
        cons-at = rw (add-one b.done) (drop-cons rs b.done no_record is.2)

    turned-at : Books (tally_of b note.answer) note.marks later
    turned-at = go (eqb note.answer.number 0) refl
      where
        go : (y : Bool) → eqb note.answer.number 0 ≡ y → Books (tally_of b note.answer) note.marks later
        go true y =
            let e = eqb-true note.answer.number 0 y in
            let next : Batched = record { number = b.number; done = b.done + 1; count = b.count + note.answer.count; refusal = b.refusal } in
            rw (← tally-done b note.answer e, ← due-left next n is.0 is.1)
            (at-end note.marks later (b.done + 1) (omega (arith, is.2)) ∙ (rw y at before))
        go false y =
            let e = eqb-false note.answer.number 0 y in
            let cut : Batched = record { number = b.number; done = b.done; count = b.count; refusal = note.answer.number } in
            rw (← tally-cut b note.answer e, ← due-cut cut n e) (rw y at before)

    -- a note's answer w, the marks m' and the log l' after it, and the tally b', as the callees' contracts say them
    pub books-turned : (w : Written) (m' : List ℕ) (b' : Batched) (l' : Log) → w ≡ note.answer → m' ≡ note.marks → b' ≡ tally_of b w
        → l' ≡ booked_by l (place_of d.settings elem.id) w.number w.count 0 0 → Books b' m' l'
    books-turned w m' b' l' e f g h = rw (g, h, e, f) turned-at

  pub books-end : (b : Batched) (m : List ℕ) (l : Log) → is_due b n ≡ false → Books b m l → l ≡ batch_log en l₀ d m₀ rs
  books-end b m l off inv = sym (ap (λ (y : Bool). cond y (notes_log en l d m (drop b.done rs)) l) off) ∙ inv

-- ---- the loop over the list

module _ (en : Engine) (d : Device) (m₀ : List ℕ) (l₀ : Log) (rs : List WriteRecord) where
  abbrev pub Logged : Batched → List ℕ → Log → Type 0
  Logged b m l = Answered en d m₀ rs b m × (l ≡ batch_log en l₀ d m₀ rs)

  -- its invariant before record i: that many notes are done and booked where one is due
  pub record Logs (i : ℕ) (b : Batched) (m : List ℕ) (l : Log) : Type 0 where
    pub going : Going en d m₀ rs i b m
    pub books : Books en d m₀ l₀ rs b m l

  pub logs-first : (b : Batched) → b ≡ begin_of d (en.words m₀) (length rs) → Logs 0 b m₀ l₀
  logs-first b e = record { going = going-first en d m₀ rs b e; books = rw e (books-start en d m₀ l₀ rs) }

  pub logs-refused : (b : Batched) → b ≡ begin_of d (en.words m₀) (length rs) → b.number ≢ 0 → Logged b m₀ l₀
  logs-refused b e h =
      (going-refused en d m₀ rs b e h, books-end en d m₀ l₀ rs b m₀ l₀ (sym (due-refused b (length rs) h)) (rw e (books-start en d m₀ l₀ rs)))

  module _ (i : ℕ) (b : Batched) (m : List ℕ) (l : Log) (g : Logs i b m l) where
    pub logs-stops : is_due b (length rs) ≡ false → Logged b m l
    logs-stops off = (going-stops en d m₀ rs i b m g.going off, books-end en d m₀ l₀ rs b m l off g.books)

    pub logs-over : length rs ≤ i → Logged b m l
    logs-over h = logs-stops (over-due en d m₀ rs i b m g.going h)

    -- a note's answer w, the marks m' and the log l' after it, and the tally b'
    module _ (on : is_due b (length rs) ≡ true) where
      abbrev given : WriteRecord
      given = get_or rs i no_record

      module _ (w : Written) (m' : List ℕ) (is-w : w ≡ (write_by en d m given.id (write_in given)).answer) (is_m : m' ≡ (write_by en d m given.id (write_in given)).marks)
          (few : w.count ≤ most_units)
          (l' : Log) (is-l : l' ≡ booked_by l (place_of d.settings given.id) w.number w.count 0 0) (b' : Batched) (is_b : b' ≡ tally_of b w) where
        after : Books en d m₀ l₀ rs b' m' l'
        after = let done = g.going.done on in books-turned en d m₀ l₀ rs b m l on g.books w m' b' l' (rw done is-w) (rw done is_m) is_b (rw done is-l)

        pub logs-cut : b'.refusal ≢ 0 → Logged b' m' l'
        logs-cut h =
            (going-cut en d m₀ rs i b m g.going on w m' is-w is_m few b' is_b h, books-end en d m₀ l₀ rs b' m' l' (sym (due-cut b' (length rs) h)) after)

        pub logs-next : en.words m' ≡ en.words m₀ → Logs (i + 1) b' m' l'
        logs-next s = record { going = going-next en d m₀ rs i b m g.going on w m' is-w is_m few b' is_b s; books = after }

-- the first n of 1,025 records are the first min n 1,025
pub logged_of : (en : Engine) (d : Device) (m₀ : List ℕ) (l₀ : Log) (list : List WriteRecord) (n k : ℕ) (b : Batched) (m : List ℕ) (l : Log)
    → length list ≡ 1025 → k ≡ min n 1025 → Logged en d m₀ l₀ (take k list) b m l
    → (b ≡ (batch_by en d m₀ (take n list)).answer) × (m ≡ (batch_by en d m₀ (take n list)).marks) × (l ≡ batch_log en l₀ d m₀ (take n list))
logged_of en d m₀ l₀ list n k b m l long e h =
    subst (λ (xs : List WriteRecord). (b ≡ (batch_by en d m₀ xs).answer) × (m ≡ (batch_by en d m₀ xs).marks) × (l ≡ batch_log en l₀ d m₀ xs)) (take-least n k list long e)
    (h.0.0, h.0.1, h.1)
