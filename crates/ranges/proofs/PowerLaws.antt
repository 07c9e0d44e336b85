-- Laws of the power-of-two test: a number is a power of two exactly if it is the power of its trailing zeros (`is_power-trailing`), so that no
-- bit need be tried. All of it is the library's interface. Assumes nothing.
use Prim.Native.Nat.{ℕ, zero, suc, ◌/◌, ◌%◌, ◌^◌, ◌<◌, ◌≤◌}
use mathlib.Core.Path.{◌≡◌, refl, ap, sym, subst, ◌∙◌}
use mathlib.Core.Bool.{Bool, true, true≢false}
use native.Mathlib.Omega.{arith}
use native.Mathlib.Decide.{dec_le}
use native.Mathlib.Nat.{lt_of_not-le, pow-suc}
use lib.Dec.{eqb}
use lib.Count.{count_trailing_zeros, under}
use borrow.Author.Tests.{eqb-true, eq-eqb}
use Rattle.rules.specs.Lists.{some_below}
use Rattle.rules.specs.Ranges.{is_power}
use Rattle.rules.proofs.ListLaws.{or-intro-left, or-intro-right, or_cases, bool-ext}

-- ---- some number below n

pub some_below-hit : (n : ℕ) (p : ℕ → Bool) (k : ℕ) → k < n → p k ≡ true → some_below n p ≡ true
some_below-hit zero p k h e = absurd (omega arith)
some_below-hit (suc n) p k h e = go (dec_le n k) (λ l. some_below-hit n p k l e)
  where
    go : Dec (n ≤ k) → (k < n → some_below n p ≡ true) → some_below (suc n) p ≡ true
    go (yes l) f = let z : k ≡ n = omega arith in or-intro-left (p n) (some_below n p) (subst (λ i. p i ≡ true) z e)
    go (no l) f = or-intro-right (p n) (some_below n p) (f (lt_of_not-le l))

pub some_below-is : (n : ℕ) (p : ℕ → Bool) → some_below n p ≡ true → (k : ℕ) × (k < n) × (p k ≡ true)
some_below-is zero p e = absurd (true≢false (sym e))
some_below-is (suc n) p e =
    or_cases (p n) (some_below n p) ((k : ℕ) × (k < suc n) × (p k ≡ true)) e
    (λ f. (n, omega arith, f))
    (λ f. let r = some_below-is n p f in (r.0, omega (arith, r.1), r.2))

-- ---- trailing zeros

-- those of a power
pub trailing-power : (k j : ℕ) → j < k → count_trailing_zeros k (2 ^ j) ≡ j
unfolding count_trailing_zeros
trailing-power zero j h = absurd (omega arith)
trailing-power (suc k) zero h = refl
trailing-power (suc k) (suc j) h =
    let even : 2 ^ suc j % 2 ≡ 0 = omega (arith, pow-suc 2 j) in
    let half : 2 ^ suc j / 2 ≡ 2 ^ j = omega (arith, pow-suc 2 j) in
    rw (even, half) (ap suc (trailing-power k j (omega arith)))

-- a number of k digits that is not 0 has fewer than k of them
pub trailing_below : (k n : ℕ) → 0 < n → n < 2 ^ k → count_trailing_zeros k n < k
unfolding count_trailing_zeros
trailing_below zero n h l = absurd (omega arith)
trailing_below (suc k) n h l = go (n % 2) refl (trailing_below k (n / 2))
  where
    go : (d : ℕ) → n % 2 ≡ d → (0 < n / 2 → n / 2 < 2 ^ k → count_trailing_zeros k (n / 2) < k) → under d (count_trailing_zeros k (n / 2)) < suc k
    go zero e f = omega (arith, f (omega arith) (omega (arith, pow-suc 2 k)))
    go (suc d) e f = omega arith

-- ---- powers of two

pub is_power-trailing : (n : ℕ) → count_trailing_zeros 32 n < 32 → is_power n ≡ eqb n (2 ^ count_trailing_zeros 32 n)
is_power-trailing n h =
    bool-ext (is_power n) (eqb n (2 ^ count_trailing_zeros 32 n))
    (λ e. let w = some_below-is 32 (λ k. eqb n (2 ^ k)) e in
    let q : n ≡ 2 ^ w.0 = eqb-true n (2 ^ w.0) w.2 in
    eq-eqb n (2 ^ count_trailing_zeros 32 n) (q ∙ ap (λ k. 2 ^ k) (sym (ap (count_trailing_zeros 32) q ∙ trailing-power 32 w.0 w.1))))
    (λ e. some_below-hit 32 (λ k. eqb n (2 ^ k)) (count_trailing_zeros 32 n) h e)
