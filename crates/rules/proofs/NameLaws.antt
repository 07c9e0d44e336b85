-- W3: a start's table names the rule of ranges that is broken first, and its row. Assumes nothing.
use mathlib.Core.Path.{◌≡◌, refl, ap, ◌∙◌}
use mathlib.Core.Logic.{◌⊎◌, inl, inr}
use mathlib.Core.Bool.{true, false}
use mathlib.Core.List.{List, [], ◌∷◌, ◌++◌, append_assoc}
use Prim.Native.Nat.{ℕ, ◌<◌, ◌≤◌}
use native.Mathlib.Omega.{arith}
use lib.ListN.{length, take}
use borrow.Author.Tests.{le-leb, lt-leb}
use Rattle.rules.specs.Refusals.{Test, ◌else◌, verdict, refusal, place_in, passes}
use Rattle.rules.specs.Ranges.{rows_tests, range_tests, list_tests, powers_ok}
use Rattle.rules.specs.StartData.{granularity_of, count_of, ranges_of}
use Rattle.rules.specs.Order.{Seen, start_shared, start_order}
use Rattle.rules.specs.Demands.{Rowless, Names}
use Rattle.rules.specs.declared.Range.{Range}
use Rattle.rules.specs.declared.Settings.{Settings}
use Rattle.rules.proofs.RefusalLaws.{verdict-both, verdict-front, verdict-rest}
use Rattle.rules.proofs.RowLaws.{rows-broken, rows-good}
use Rattle.rules.proofs.StartLaws.{ranges_of-length}

module _ (s : Settings) (m : ℕ) (v : Seen) (x : List ℕ) where
  abbrev tests : List Test
  tests = start_order s m v x

  abbrev g : ℕ
  g = granularity_of x

  abbrev n : ℕ
  n = count_of x

  abbrev rs : List Range
  rs = ranges_of x

  -- the rules behind those of the rows: 10, 11, 12 and 34
  abbrev others : List Test
  others = (powers_ok s rs else 10) ∷ start_shared s m v.units (v.managed m) v.counts x

  size : length rs ≡ n
  size = ranges_of-length x

  -- where a test before the rules of ranges is not passed, no row is named
  pub early : passes (take 9 tests) ≡ false → Rowless (refusal tests) (place_in tests)
  early e =
      let none : (k : ℕ) → k < 18 → Rowless k 0 = λ k h. (inl h, refl) in
      verdict-front Rowless (take 9 tests) (list_tests s g n rs ++ start_shared s m v.units (v.managed m) v.counts x) 0 0 (λ k i. k) (λ k i. i) (
        none 1 (omega arith),
        (
          none 2 (omega arith),
          (none 2 (omega arith), (none 4 (omega arith), (none 3 (omega arith), (none 8 (omega arith), (none 6 (omega arith), (none 7 (omega arith), (none 8 (omega arith), tt))))))),
        ),
      )
      e

  module _ (e : passes (take 9 tests) ≡ true) where
    -- else the rules of ranges answer
    past_first : {A : Type 0} (done : A) (refuse : ℕ → ℕ → A) → verdict tests done refuse ≡ verdict (list_tests s g n rs ++ start_shared s m v.units (v.managed m) v.counts x) done refuse
    past_first done refuse = verdict-rest (take 9 tests) (list_tests s g n rs ++ start_shared s m v.units (v.managed m) v.counts x) done refuse e

    -- past the count, the rows and then the others
    past-count : {A : Type 0} (done : A) (refuse : ℕ → ℕ → A) → 1 ≤ n → n ≤ 16 → verdict tests done refuse ≡ verdict (rows_tests g 0 rs ++ others) done refuse
    unfolding range_tests
    past-count done refuse h k = past_first done refuse ∙ rw (le-leb 1 n h, le-leb n 16 k) (ap (λ (ts : List Test). verdict ts done refuse) (append_assoc (rows_tests g 0 rs) ((powers_ok s rs else 10) ∷ []) (start_shared s m v.units (v.managed m) v.counts x)))

    no-count : {A : Type 0} (done : A) (refuse : ℕ → ℕ → A) → n < 1 → verdict tests done refuse ≡ refuse 18 0
    unfolding range_tests
    no-count done refuse h = past_first done refuse ∙ rw (lt-leb 1 n h)

    over-count : {A : Type 0} (done : A) (refuse : ℕ → ℕ → A) → 16 < n → verdict tests done refuse ≡ refuse 18 0
    unfolding range_tests
    over-count done refuse h = past_first done refuse ∙ rw (le-leb 1 n (omega arith), lt-leb n 16 h)

    bad-count : (length rs ≡ 0) ⊎ (16 < length rs) → (refusal tests ≡ 18) × (place_in tests ≡ 0)
    bad-count (inl h) = let l : n < 1 = omega (arith, size) in (no-count 0 (λ k i. k) l, no-count 0 (λ k i. i) l)
    bad-count (inr h) = let l : 16 < n = omega (arith, size) in (over-count 0 (λ k i. k) l, over-count 0 (λ k i. i) l)

    pub names : Names s m v.units (v.managed m) v.counts g rs (refusal tests) (place_in tests)
    names =
        record {
          count = bad-count;
          rule = λ i k few h good broken.
              let some : 1 ≤ n = omega (arith, size) in
              let most : n ≤ 16 = omega (arith, size) in (
                past-count 0 (λ k i. k) some most ∙ rows-broken (λ k i. k) 0 others g 0 rs i k h good broken,
                past-count 0 (λ k i. i) some most ∙ rows-broken (λ k i. i) 0 others g 0 rs i k h good broken ∙ omega arith,
              );
          behind = λ some few good.
              let h : 1 ≤ n = omega (arith, size) in
              let k : n ≤ 16 = omega (arith, size) in
              past-count 0 (λ k i. k) h k ∙ rows-good (λ k i. k) 0 others g 0 rs good ∙ rw size;
          none = λ some few good.
              let h : 1 ≤ n = omega (arith, size) in
              let k : n ≤ 16 = omega (arith, size) in
              rw (past-count 0 (λ k i. k) h k ∙ rows-good (λ k i. k) 0 others g 0 rs good, past-count 0 (λ k i. i) h k ∙ rows-good (λ k i. i) 0 others g 0 rs good)
              (verdict-both Rowless others 0 0 (λ k i. k) (λ k i. i) ((inl (omega arith), refl), ((inl (omega arith), refl), ((inl (omega arith), refl), ((inr (omega arith), refl), tt)))) (λ q. (inl (omega arith), refl)));
        }
