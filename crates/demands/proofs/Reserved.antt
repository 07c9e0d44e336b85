-- Reserved bytes and bits are not looked at: what is read is made of the other bytes. Assumes nothing.
use mathlib.Core.Path.{◌≡◌, refl, ap, ap₂, ◌∙◌}
use mathlib.Core.Logic.{◌≢◌, inl, inr}
use mathlib.Core.List.{List, ◌∷◌}
use Prim.Native.Nat.{ℕ, zero, suc, ◌+◌, ◌*◌, ◌/◌, ◌%◌, ◌≤◌, ◌<◌}
use native.Mathlib.Omega.{arith}
use native.Mathlib.Nat.{mul-suc}
use lib.ListN.{length, get_or}
use Rattle.little.specs.Little.{number_at, records_at}
use Rattle.rules.specs.Refusals.{Test, refusal, place_in, or_zero}
use Rattle.rules.specs.StartData.{count_of, range_at, ranges_of, header_of, start_data}
use Rattle.rules.specs.ReportReader.{more_in, suspended_in, identifier_in, count_in, granularity_in, descriptor_at, descriptors_in, report_tests, index_tests, bit}
use Rattle.rules.specs.Report.{Descriptor}
use Rattle.demands.specs.Reserved.{AlikeStructure, AlikeReport, Ignored}

-- ---- numbers and records are made of their own bytes

pub number_at-same : (x y : List ℕ) (w at : ℕ) → ((k : ℕ) → at ≤ k → k < at + w → get_or x k 0 ≡ get_or y k 0) → number_at x at w ≡ number_at y at w
unfolding number_at
number_at-same x y zero at f = refl
number_at-same x y (suc w) at f =
    ap₂ (λ a b. a + 256 * b) (f at (omega arith) (omega arith)) (number_at-same x y w (suc at) (λ k h l. f k (omega (arith, h)) (omega (arith, l))))

records_at-same : {A : Type 0} (read : List ℕ → ℕ → A) (w : ℕ) (x y : List ℕ) (n at : ℕ) → ((i : ℕ) → i < n → read x (at + w * i) ≡ read y (at + w * i)) → records_at read w x at n ≡ records_at read w y at n
unfolding records_at
records_at-same read w x y zero at f = refl
records_at-same {A} read w x y (suc n) at f =
    ap₂ (λ (a : A) (l : List A). a ∷ l) (first (f 0 (omega arith))) (records_at-same read w x y n (at + w) (λ i h. next i (f (suc i) (omega (arith, h)))))
  where
    first : read x (at + w * 0) ≡ read y (at + w * 0) → read x at ≡ read y at
    first e = let z : at + w * 0 ≡ at = omega arith in rw z at e

    next : (i : ℕ) → read x (at + w * suc i) ≡ read y (at + w * suc i) → read x (at + w + w * i) ≡ read y (at + w + w * i)
    next i e = let z : at + w * suc i ≡ at + w + w * i = omega (arith, mul-suc w i) in rw z at e

-- ---- the start structure

module _ (x y : List ℕ) (s : AlikeStructure x y) where
  in-header : (k : ℕ) → k < 8 → k ≢ 1 → k ≢ 2 → get_or x k 0 ≡ get_or y k 0
  in-header k h a b = s.same k (omega (arith, h)) a b

  count_same : count_of x ≡ count_of y
  count_same = number_at-same x y 4 4 (λ k h l. in-header k (omega (arith, l)) (λ e. omega (arith, h, e)) (λ e. omega (arith, h, e)))

  range_same : (i : ℕ) → i < count_of x → range_at x (8 + 12 * i) ≡ range_at y (8 + 12 * i)
  range_same i h =
      ap₂ (λ (a l : ℕ). record { start = a; length = l })
      (number_at-same x y 8 (8 + 12 * i) (λ k a b. s.same k (omega (arith, h, b)) (λ e. omega (arith, a, e)) (λ e. omega (arith, a, e))))
      (number_at-same x y 4 (8 + 12 * i + 8) (λ k a b. s.same k (omega (arith, h, b)) (λ e. omega (arith, a, e)) (λ e. omega (arith, a, e))))

  ranges-same : ranges_of x ≡ ranges_of y
  unfolding ranges_of
  ranges-same = records_at-same range_at 12 x y (count_of x) 8 range_same ∙ rw count_same

  version-same : get_or x 0 0 ≡ get_or y 0 0
  version-same = in-header 0 (omega arith) (λ e. omega (arith, e)) (λ e. omega (arith, e))

  granularity-same : get_or x 3 0 ≡ get_or y 3 0
  granularity-same = in-header 3 (omega arith) (λ e. omega (arith, e)) (λ e. omega (arith, e))

  header-same : header_of x ≡ header_of y
  unfolding header_of
  header-same = rw (s.size, version-same, granularity-same, count_same)

  structure-same : start_data x ≡ start_data y
  unfolding start_data
  structure-same = rw (ranges-same, s.size, version-same, granularity-same, count_same)

-- ---- the report

module _ (x y : List ℕ) (s : AlikeReport x y) where
  in-front : (k : ℕ) → k ≢ 1 → k < 10 → get_or x k 0 ≡ get_or y k 0
  in-front k a h = s.same k a (inl h)

  more_same : more_in x ≡ more_in y
  more_same = let e : get_or x 1 0 % 2 ≡ get_or y 1 0 % 2 = omega (arith, s.bits) in rw e

  suspended-same : suspended_in x ≡ suspended_in y
  suspended-same = let e : get_or x 1 0 / 2 % 2 ≡ get_or y 1 0 / 2 % 2 = omega (arith, s.bits) in rw e

  identifier-same : identifier_in x ≡ identifier_in y
  identifier-same = number_at-same x y 2 2 (λ k h l. in-front k (λ e. omega (arith, h, e)) (omega (arith, l)))

  counted_same : count_in x ≡ count_in y
  counted_same = number_at-same x y 4 4 (λ k h l. in-front k (λ e. omega (arith, h, e)) (omega (arith, l)))

  unit-same : granularity_in x ≡ granularity_in y
  unit-same = number_at-same x y 2 8 (λ k h l. in-front k (λ e. omega (arith, h, e)) (omega (arith, l)))

  run-same : (i : ℕ) → descriptor_at x (16 + 16 * i) ≡ descriptor_at y (16 + 16 * i)
  run-same i =
      ap₂ (λ (a l : ℕ). record { address = a; length = l })
      (number_at-same x y 8 (16 + 16 * i) (λ k a b. s.same k (λ e. omega (arith, a, e)) (inr (omega (arith, a), omega (arith, a, b)))))
      (number_at-same x y 4 (16 + 16 * i + 8) (λ k a b. s.same k (λ e. omega (arith, a, e)) (inr (omega (arith, a), omega (arith, a, b)))))

  runs_same : descriptors_in x ≡ descriptors_in y
  unfolding descriptors_in
  runs_same = records_at-same descriptor_at 16 x y (count_in x) 16 (λ i h. run-same i) ∙ rw counted_same

  tests_same : report_tests x ≡ report_tests y
  unfolding report_tests
  tests_same = rw (runs_same, s.size, in-front 0 (λ e. omega (arith, e)) (omega arith), unit-same, more_same, counted_same)

  index_same : (i : ℕ) → index_tests x i ≡ index_tests y i
  index_same i = rw (tests_same, counted_same)

pub ignored : Ignored
ignored =
    record {
      header = header-same;
      structure = structure-same;
      report = λ x y s.
          let t = tests_same x y s in (
            ap refusal t,
            ap place_in t,
            ap₂ (λ (ts : List Test) b. or_zero ts (bit b)) t (suspended-same x y s),
            ap₂ (λ (ts : List Test) b. or_zero ts (bit b)) t (more_same x y s),
            ap₂ or_zero t (identifier-same x y s),
            ap₂ or_zero t (unit-same x y s),
            ap₂ or_zero t (counted_same x y s),
          );
      descriptor = λ x y s i.
          let t = index_same x y s i in (
            ap refusal t,
            ap₂ (λ (ts : List Test) (d : Descriptor). or_zero ts d.address) t (run-same x y s i),
            ap₂ (λ (ts : List Test) (d : Descriptor). or_zero ts d.length) t (run-same x y s i),
          );
    }
