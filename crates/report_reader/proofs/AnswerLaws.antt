-- What the reader answers of a refused and of an accepted report, and which bytes are there in an accepted one. Assumes nothing.
use mathlib.Core.Path.{◌≡◌, refl, sym, ◌∙◌}
use mathlib.Core.Logic.{◌≢◌}
use mathlib.Core.Bool.{true, false, cond}
use mathlib.Core.List.{List, [], ◌∷◌}
use Prim.Native.Nat.{ℕ, suc, ◌+◌, ◌*◌, ◌%◌, ◌≤◌, ◌<◌}
use native.Mathlib.Omega.{arith}
use native.Mathlib.Decide.{dec_le, dec_lt}
use lib.Dec.{leb, ltb, eqb}
use lib.ListN.{length}
use borrow.Author.Tests.{leb-true, ltb-true, eq-eqb, le-leb, le-ltb, lt-ltb}
use Rattle.rules.specs.Refusals.{Test, ◌else◌, refusal, or_zero, passes}
use Rattle.rules.specs.Report.{Descriptor}
use Rattle.rules.specs.ReportReader.{report_size, count_in, granularity_in, descriptors_in, descriptor_tests, report_tests, index_tests, bit, run_there}
use Rattle.rules.proofs.ListLaws.{All, All-append}
use Rattle.rules.proofs.RefusalLaws.{Passed, verdict-passed, verdict-refused, passes-Passed, Passed-left, Passed-right, refusal-none, verdict-first, verdict-rest}

-- ---- every refusal has a number

descriptor_tests-numbers : (g i : ℕ) (ds : List Descriptor) → All (λ (t : Test). 1 ≤ t.number) (descriptor_tests g i ds)
descriptor_tests-numbers g i [] = tt
descriptor_tests-numbers g i (d ∷ ds) = (omega arith, descriptor_tests-numbers g (suc i) ds)

report_tests-numbers : (x : List ℕ) → All (λ (t : Test). 1 ≤ t.number) (report_tests x)
unfolding report_tests
report_tests-numbers x = (omega arith, (omega arith, (omega arith, (omega arith, (omega arith, descriptor_tests-numbers (granularity_in x) 0 (descriptors_in x))))))

abbrev last : List ℕ → ℕ → List Test
last x i = (ltb i (count_in x) else 33) ∷ []

index_tests-numbers : (x : List ℕ) (i : ℕ) → All (λ (t : Test). 1 ≤ t.number) (index_tests x i)
index_tests-numbers x i = All-append (λ (t : Test). 1 ≤ t.number) (report_tests x) (last x i) (report_tests-numbers x) (omega arith, tt)

-- ---- 0 says that all tests are passed

passed-of : (ts : List Test) → All (λ (t : Test). 1 ≤ t.number) ts → refusal ts ≡ 0 → Passed ts
passed-of ts n e = passes-Passed ts (sym (refusal-none ts n) ∙ eq-eqb (refusal ts) 0 e)

-- ---- a bit

pub bit_is : (n : ℕ) → n % 2 ≡ bit (eqb (n % 2) 1)
bit_is n = elim (dec_le (n % 2) 0) [ yes h ↦ let e : n % 2 ≡ 0 = omega arith in rw e | no h ↦ let e : n % 2 ≡ 1 = omega arith in rw e ]

-- ---- an accepted report

module _ (x : List ℕ) (e : refusal (report_tests x) ≡ 0) where
  accepted : Passed (report_tests x)
  accepted = passed-of (report_tests x) (report_tests-numbers x) e

  -- its descriptors are there
  pub accepted-size : report_size (count_in x) ≤ length x
  unfolding report_tests
  accepted-size = leb-true (report_size (count_in x)) (length x) accepted.1.1.1.1.0

  pub accepted-answer : (v : ℕ) → v ≡ or_zero (report_tests x) v
  accepted-answer v = sym (verdict-passed (report_tests x) v (λ k i. 0) accepted)

  -- an index past the last descriptor, and one that is not
  pub index-past : (i : ℕ) → count_in x ≤ i → 33 ≡ refusal (index_tests x i)
  index-past i h = sym (verdict-rest (report_tests x) (last x i) 0 (λ n j. n) passes-all ∙ rw (le-ltb i (count_in x) h))
    where
      passes-all : passes (report_tests x) ≡ true
      passes-all = sym (refusal-none (report_tests x) (report_tests-numbers x)) ∙ eq-eqb (refusal (report_tests x)) 0 e

  pub index-within : (i : ℕ) → i < count_in x → 0 ≡ refusal (index_tests x i)
  index-within i h = sym (verdict-rest (report_tests x) (last x i) 0 (λ n j. n) passes-all ∙ rw (lt-ltb i (count_in x) h))
    where
      passes-all : passes (report_tests x) ≡ true
      passes-all = sym (refusal-none (report_tests x) (report_tests-numbers x)) ∙ eq-eqb (refusal (report_tests x)) 0 e

-- ---- a refused report or index

pub refused-answer : (x : List ℕ) (v : ℕ) → refusal (report_tests x) ≢ 0 → 0 ≡ or_zero (report_tests x) v
refused-answer x v h = sym (verdict-refused (report_tests x) v (λ k j. 0) h)

pub index-zero : (x : List ℕ) (i v : ℕ) → refusal (index_tests x i) ≢ 0 → 0 ≡ or_zero (index_tests x i) v
index-zero x i v h = sym (verdict-refused (index_tests x i) v (λ k j. 0) h)

pub index-refused : (x : List ℕ) (i : ℕ) → refusal (report_tests x) ≢ 0 → refusal (report_tests x) ≡ refusal (index_tests x i)
index-refused x i h = sym (verdict-first (report_tests x) (last x i) 0 0 (λ n j. n) h)

-- ---- a descriptor that is there

module _ (x : List ℕ) (i : ℕ) (e : refusal (index_tests x i) ≡ 0) where
  there : Passed (index_tests x i)
  there = passed-of (index_tests x i) (index_tests-numbers x i) e

  pub index_below : i < count_in x
  index_below = ltb-true i (count_in x) (Passed-right (report_tests x) (last x i) there).0

  -- its 16 bytes are there
  pub index-size : 16 + 16 * i + 16 ≤ length x
  unfolding report_tests
  index-size = omega (arith, index_below, leb-true (report_size (count_in x)) (length x) (Passed-left (report_tests x) (last x i) there).1.1.1.1.0)

  pub index-answer : (v : ℕ) → v ≡ or_zero (index_tests x i) v
  index-answer v = sym (verdict-passed (index_tests x i) v (λ k j. 0) there)

-- ---- a run by itself

module _ (x : List ℕ) (i : ℕ) where
  run-unlisted : count_in x ≤ i → false ≡ run_there x i
  run-unlisted h = rw (le-ltb i (count_in x) h)

  run-listed : i < count_in x → (n : ℕ) → n ≡ report_size (suc i) → leb n (length x) ≡ run_there x i
  run-listed h n e = rw (e, lt-ltb i (count_in x) h)

  pub run_none : run_there x i ≡ false → (v : ℕ) → 0 ≡ cond (run_there x i) v 0
  run_none e v = rw e

  pub run-answer : run_there x i ≡ true → (v : ℕ) → v ≡ cond (run_there x i) v 0
  run-answer e v = rw e

  -- of an accepted report it is what is answered with a look at all of it
  pub run-accepted : refusal (report_tests x) ≡ 0 → (v : ℕ) → cond (run_there x i) v 0 ≡ or_zero (index_tests x i) v
  run-accepted e v = elim (dec_lt i (count_in x)) [ yes h ↦ within h | no h ↦ past (omega (arith, h)) ]
    where
      within : i < count_in x → cond (run_there x i) v 0 ≡ or_zero (index_tests x i) v
      within h =
          let there : run_there x i ≡ true = sym (run-listed h (report_size (suc i)) refl) ∙ le-leb (report_size (suc i)) (length x) (omega (arith, h, accepted-size x e)) in
          sym (run-answer there v) ∙ index-answer x i (sym (index-within x e i h)) v

      past : count_in x ≤ i → cond (run_there x i) v 0 ≡ or_zero (index_tests x i) v
      past h = sym (run_none (sym (run-unlisted h)) v) ∙ index-zero x i v (λ z. omega (arith, index-past x e i h, z))
