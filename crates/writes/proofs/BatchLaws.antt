-- What a batch is before its first note, whether one is due, and after one more: each by cases. Assumes nothing.
use mathlib.Core.Path.{◌≡◌, refl, sym, ap, ◌∙◌}
use mathlib.Core.Logic.{◌≢◌}
use mathlib.Core.Bool.{Bool, true, false, ◌&&◌, cond, and-false}
use mathlib.Core.List.{List}
use Prim.Native.Nat.{ℕ, ◌+◌, ◌<◌, ◌≤◌, min}
use native.Mathlib.Omega.{arith}
use lib.Dec.{ltb, leb, eqb}
use lib.ListN.{length, take}
use lib.Seq.{take_all}
use borrow.Author.Tests.{leb-true, leb-false, eqb-true, eqb-false, eq-eqb, ne_eqb, lt-ltb, le-ltb, ltb-true}
use Rattle.rules.specs.Refusals.{refusal}
use Rattle.rules.specs.Order.{batch_order}
use Rattle.rules.specs.declared.Device.{Device}
use Rattle.rules.proofs.ListLaws.{and_left, and_right}
use Rattle.record.specs.Record.{sound_with}
use Rattle.calls.specs.declared.Written.{Written}
use Rattle.calls.specs.declared.Batched.{Batched}
use Rattle.writes.specs.Inner.{begin_of, is_due, tally_of}

-- ---- before its first note

abbrev pub begins : ℕ → Batched
begins n = record { number = n; done = 0; count = 0; refusal = 0 }

pub begin-is : (d : Device) (words total n : ℕ) → n ≡ refusal (batch_order (sound_with d words) total) → begins n ≡ begin_of d words total
unfolding begin_of
begin-is d words total n e = ap begins e

-- ---- whether a note is due

module _ (b : Batched) (total : ℕ) where
  pub due-refused : b.number ≢ 0 → false ≡ is_due b total
  unfolding is_due
  due-refused h = rw (ne_eqb b.number 0 h)

  pub due-cut : b.refusal ≢ 0 → false ≡ is_due b total
  unfolding is_due
  due-cut h = rw (ne_eqb b.refusal 0 h, and-false)

  pub due-left : b.number ≡ 0 → b.refusal ≡ 0 → ltb b.done total ≡ is_due b total
  unfolding is_due
  due-left h k = rw (eq-eqb b.number 0 h, eq-eqb b.refusal 0 k)

  pub due-on : b.number ≡ 0 → b.refusal ≡ 0 → b.done < total → is_due b total ≡ true
  due-on h k l = sym (due-left h k) ∙ lt-ltb b.done total l

  pub due-over : total ≤ b.done → is_due b total ≡ false
  unfolding is_due
  due-over l = rw (le-ltb b.done total l, and-false, and-false)

  -- where one is, nothing was refused, and records are left
  pub due-is : is_due b total ≡ true → (b.number ≡ 0) × (b.refusal ≡ 0) × (b.done < total)
  unfolding is_due
  due-is e =
      let whole = eqb b.number 0 in
      let uncut = eqb b.refusal 0 in
      let more = ltb b.done total in
      let r = and_right whole (uncut && more) e in
      (eqb-true b.number 0 (and_left whole (uncut && more) e), eqb-true b.refusal 0 (and_left uncut more r), ltb-true b.done total (and_right uncut more r))

-- ---- after one more

module _ (b : Batched) (w : Written) where
  pub tally-cut : w.number ≢ 0 → record { number = b.number; done = b.done; count = b.count; refusal = w.number } ≡ tally_of b w
  unfolding tally_of
  tally-cut h = rw (ne_eqb w.number 0 h)

  pub tally-done : w.number ≡ 0 → record { number = b.number; done = b.done + 1; count = b.count + w.count; refusal = b.refusal } ≡ tally_of b w
  unfolding tally_of
  tally-done h = rw (eq-eqb w.number 0 h)

  -- it stays as it began, and a note that was not refused is done
  abbrev tallied : Bool → Batched
  tallied y = cond y (record { number = b.number; done = b.done + 1; count = b.count + w.count; refusal = b.refusal }) (record { number = b.number; done = b.done; count = b.count; refusal = w.number })

  pub tally-number : (tally_of b w).number ≡ b.number
  unfolding tally_of
  tally-number = go (eqb w.number 0)
    where
      go : (y : Bool) → (tallied y).number ≡ b.number
      go true = refl
      go false = refl

  pub tally-went : (tally_of b w).refusal ≡ 0 → (tally_of b w).done ≡ b.done + 1
  unfolding tally_of
  tally-went z = go (eqb w.number 0) refl z
    where
      go : (y : Bool) → eqb w.number 0 ≡ y → (tallied y).refusal ≡ 0 → (tallied y).done ≡ b.done + 1
      go true e z = refl
      go false e z = absurd (eqb-false w.number 0 e z)

-- ---- the first n of some

pub take-least : {A : Type 0} (n k : ℕ) (l : List A) → length l ≡ 1025 → k ≡ min n 1025 → take k l ≡ take n l
take-least n k l h e = go (leb n 1025) refl
  where
    go : (b : Bool) → leb n 1025 ≡ b → take k l ≡ take n l
    go true f = let m = leb-true n 1025 f in let same : k ≡ n = omega arith in ap (λ (j : ℕ). take j l) same
    go false f = let m = leb-false n 1025 f in take_all k l (omega arith) ∙ sym (take_all n l (omega arith))
