-- Laws of the sums over controllers: taken one controller after another, each is unknown exactly where a controller's totals are or the exact sum passes 2^64 − 1.
-- Assumes nothing.
use mathlib.Core.Path.{◌≡◌, refl, sym, ap, ap₂, ◌∙◌}
use mathlib.Core.Bool.{Bool, true, false, ◌&&◌, cond, and-false}
use mathlib.Core.List.{List, [], ◌∷◌, ◌++◌, map}
use Prim.Native.Nat.{ℕ, ◌+◌, ◌^◌, ◌≤◌, ◌<◌}
use native.Mathlib.Omega.{arith}
use borrow.Author.Tests.{ltb-false, lt-ltb, le-ltb}
use Rattle.rules.specs.Lists.{all, sum}
use Rattle.rules.specs.Totals.{is_counted}
use Rattle.log_numbers.specs.Sums.{sum_of, no_sums, plus_in, summed_with}
use Rattle.log_numbers.specs.declared.Totals.{Totals}
use Rattle.std.specs.declared.option.Option.{Option}
use Rattle.std.specs.declared.option.Option.TheVariants.{None, Some}
use Rattle.log_numbers.specs.declared.Sums.{Sums}

-- ---- the sums of the totals of several controllers at once

abbrev pub is_known : Option Totals → Bool
is_known (Some n) = true
is_known None = false

abbrev pub marked_in : Option Totals → ℕ
marked_in (Some n) = n.marked
marked_in None = 0

abbrev pub reported_in : Option Totals → ℕ
reported_in (Some n) = n.reported
reported_in None = 0

abbrev pub dropped_in : Option Totals → ℕ
dropped_in (Some n) = n.dropped
dropped_in None = 0

-- one of the three, summed: unknown if the totals of a controller are, or the exact sum passes 2^64 − 1
abbrev pub sum_over : (Option Totals → ℕ) → List (Option Totals) → Option ℕ
sum_over f ts = cond (all is_known ts) (sum_of (sum (map f ts))) None

-- all three
abbrev pub sums_over : List (Option Totals) → Sums
sums_over ts = record { marked = sum_over marked_in ts; reported = sum_over reported_in ts; dropped = sum_over dropped_in ts }

-- ---- the turns of `plus`

sum_of-known : (n : ℕ) → n < 2 ^ 64 → sum_of n ≡ Some n
sum_of-known n h = ap (λ b. cond b (Some n) None) (lt-ltb n (2 ^ 64) h)

sum_of-unknown : (n : ℕ) → 2 ^ 64 ≤ n → sum_of n ≡ None
sum_of-unknown n h = ap (λ b. cond b (Some n) None) (le-ltb n (2 ^ 64) h)

-- ---- a sum that is not unknown for an unknown one of its controllers, with n more

plus_in-sum_of : (m n : ℕ) → plus_in (sum_of m) n ≡ sum_of (m + n)
plus_in-sum_of m n = go (is_counted m) refl
  where
    go : (b : Bool) → is_counted m ≡ b → plus_in (cond b (Some m) None) n ≡ sum_of (m + n)
    go true e = refl
    go false e = sym (sum_of-unknown (m + n) (omega (arith, ltb-false m (2 ^ 64) e)))

-- ---- one controller more

sum-snoc : (f : Option Totals → ℕ) (ts : List (Option Totals)) (t : Option Totals) → sum (map f (ts ++ t ∷ [])) ≡ sum (map f ts) + f t
sum-snoc f [] t = omega arith
sum-snoc f (x ∷ ts) t = omega (arith, sum-snoc f ts t)

all_snoc : (ts : List (Option Totals)) (t : Option Totals) → all is_known (ts ++ t ∷ []) ≡ (all is_known ts && is_known t)
all_snoc [] t = go (is_known t)
  where
    go : (b : Bool) → (b && true) ≡ b
    go true = refl
    go false = refl
all_snoc (x ∷ ts) t = go (is_known x) (all_snoc ts t)
  where
    go : (b : Bool) → all is_known (ts ++ t ∷ []) ≡ (all is_known ts && is_known t) → (b && all is_known (ts ++ t ∷ [])) ≡ ((b && all is_known ts) && is_known t)
    go true e = e
    go false e = refl

module _ (f : Option Totals → ℕ) (ts : List (Option Totals)) (t : Option Totals) where
  over-snoc : sum_over f (ts ++ t ∷ []) ≡ cond (all is_known ts && is_known t) (sum_of (sum (map f ts) + f t)) None
  over-snoc = ap₂ (λ (b : Bool) (n : ℕ). cond b (sum_of n) None) (all_snoc ts t) (sum-snoc f ts t)

  over-known : is_known t ≡ true → plus_in (sum_over f ts) (f t) ≡ sum_over f (ts ++ t ∷ [])
  over-known k = go (all is_known ts) ∙ ap (λ b. cond (all is_known ts && b) (sum_of (sum (map f ts) + f t)) None) (sym k) ∙ sym over-snoc
    where
      go : (b : Bool) → plus_in (cond b (sum_of (sum (map f ts))) None) (f t) ≡ cond (b && true) (sum_of (sum (map f ts) + f t)) None
      go true = plus_in-sum_of (sum (map f ts)) (f t)
      go false = refl

  over-unknown : is_known t ≡ false → None ≡ sum_over f (ts ++ t ∷ [])
  over-unknown k =
      ap (λ b. cond b (sum_of (sum (map f ts) + f t)) None) (sym (and-false (all is_known ts)))
      ∙ ap (λ b. cond (all is_known ts && b) (sum_of (sum (map f ts) + f t)) None) (sym k)
      ∙ sym over-snoc

three : {a a' b b' c c' : Option ℕ} → a ≡ a' → b ≡ b' → c ≡ c' → ◌≡◌ {A = Sums} (record { marked = a; reported = b; dropped = c }) (record { marked = a'; reported = b'; dropped = c' })
three p q r = rw (p, q, r)

pub summed-none : no_sums ≡ sums_over []
summed-none = refl

pub summed-snoc : (ts : List (Option Totals)) (t : Option Totals) → summed_with (sums_over ts) t ≡ sums_over (ts ++ t ∷ [])
summed-snoc ts (Some n) =
    let t : Option Totals = Some (record { marked = n.marked; reported = n.reported; dropped = n.dropped }) in
    three (over-known marked_in ts t refl) (over-known reported_in ts t refl) (over-known dropped_in ts t refl)
summed-snoc ts None =
    let t : Option Totals = None in
    three (over-unknown marked_in ts t refl) (over-unknown reported_in ts t refl) (over-unknown dropped_in ts t refl)

-- ---- the turns of `summed`
