-- Bit j of a number, the lowest first, and what the machine's operations do to it. The crate's own: no contract speaks of it.
-- Assumes nothing.
use mathlib.Core.Path.{◌≡◌, refl, sym, ap, ap₂, ◌∙◌}
use mathlib.Core.Bool.{Bool, true, false, not, cond, ◌&&◌, ◌||◌}
use Prim.Native.Nat.{ℕ, zero, suc, ◌+◌, ◌-◌, ◌*◌, ◌/◌, ◌%◌, ◌^◌, ◌≤◌, ◌<◌, min, max}
use native.Mathlib.Nat.{pow-suc, zero-min, zero-max, suc-add, zero-add, div-one, mul-one}
use native.Mathlib.Numerals.{one-add, add-one}
use native.Mathlib.Omega.{arith}
use lib.Arith.{digits_mod}
use lib.Bits.{bit_and, bit_or, and_step, or_step, and_shr, or_shr, shifted_half, shifted_even}
use lib.Count.{ones, ones_step, ones-le, count_trailing_zeros, under}
use lib.Dec.{eqb}
use lib.ListN.{length, get_or}
use lib.Pow.{shr-shr, pow_pos, mod-mod-pow, field}
use lib.Seq.{ext_get_or}
use Rattle.bits.specs.Flat.{digits}
use Rattle.bits.specs.Span.{clears}
use Rattle.bits.specs.Count.{marks_set}
use Rattle.bits.proofs.Span.{clears-cons}

-- bit j of w
unfoldable pub bit : ℕ → ℕ → Bool
bit w zero = eqb (w % 2) 1
bit w (suc j) = bit (w / 2) j

-- by a shift
pub bit_at : (w j : ℕ) → bit w j ≡ eqb (w / 2 ^ j % 2) 1
unfolding bit
bit_at w zero = rw div-one
bit_at w (suc j) = bit_at (w / 2) j ∙ ap (λ (x : ℕ). eqb (x % 2) 1) (shr-shr w 1 j ∙ ap (λ (x : ℕ). w / 2 ^ x) (one-add j))

pub bit-zero : (j : ℕ) → bit 0 j ≡ false
unfolding bit
bit-zero zero = refl
bit-zero (suc j) = bit-zero j

-- above a number's own bits
pub bit-above : (n a j : ℕ) → a < 2 ^ n → n ≤ j → bit a j ≡ false
unfolding bit
bit-above zero a j ha hj = let z : a ≡ 0 = omega arith in rw z (bit-zero j)
bit-above (suc n) a zero ha hj = absurd (omega arith)
bit-above (suc n) a (suc j) ha hj = bit-above n (a / 2) j (omega (arith, pow-suc 2 n)) (omega arith)

-- ---- and, or
one-min : (x y : ℕ) → x < 2 → y < 2 → eqb (min x y) 1 ≡ (eqb x 1 && eqb y 1)
one-min zero y hx hy = rw zero-min
one-min (suc zero) zero hx hy = refl
one-min (suc zero) (suc zero) hx hy = refl
one-min (suc zero) (suc (suc y)) hx hy = absurd (omega arith)
one-min (suc (suc x)) y hx hy = absurd (omega arith)

one-max : (x y : ℕ) → x < 2 → y < 2 → eqb (max x y) 1 ≡ (eqb x 1 || eqb y 1)
one-max zero y hx hy = rw zero-max
one-max (suc zero) zero hx hy = refl
one-max (suc zero) (suc zero) hx hy = refl
one-max (suc zero) (suc (suc y)) hx hy = absurd (omega arith)
one-max (suc (suc x)) y hx hy = absurd (omega arith)

pub bit-and : (j a b : ℕ) → bit (bit_and a b) j ≡ (bit a j && bit b j)
unfolding bit
bit-and zero a b =
    ap (λ (x : ℕ). eqb (x % 2) 1) (and_step a b) ∙ ap (λ (x : ℕ). eqb x 1) (digits_mod (bit_and (a / 2) (b / 2)) (omega arith))
    ∙ one-min (a % 2) (b % 2) (omega arith) (omega arith)
bit-and (suc j) a b = ap (λ (x : ℕ). bit x j) (and_shr a b 1) ∙ bit-and j (a / 2) (b / 2)

pub bit-or : (j a b : ℕ) → bit (bit_or a b) j ≡ (bit a j || bit b j)
unfolding bit
bit-or zero a b =
    ap (λ (x : ℕ). eqb (x % 2) 1) (or_step a b) ∙ ap (λ (x : ℕ). eqb x 1) (digits_mod (bit_or (a / 2) (b / 2)) (omega arith))
    ∙ one-max (a % 2) (b % 2) (omega arith) (omega arith)
bit-or (suc j) a b = ap (λ (x : ℕ). bit x j) (or_shr a b 1) ∙ bit-or j (a / 2) (b / 2)

-- ---- not: `!a` of a word of n bits
one-flip : (x y : ℕ) → x + y ≡ 1 → eqb x 1 ≡ not (eqb y 1)
one-flip zero zero h = absurd (omega arith)
one-flip zero (suc zero) h = refl
one-flip zero (suc (suc y)) h = absurd (omega arith)
one-flip (suc zero) zero h = refl
one-flip (suc zero) (suc y) h = absurd (omega arith)
one-flip (suc (suc x)) y h = absurd (omega arith)

pub bit_not : (n j a : ℕ) → a < 2 ^ n → j < n → bit ((2 ^ n - 1) - a) j ≡ not (bit a j)
unfolding bit
bit_not zero j a ha hj = absurd (omega arith)
bit_not (suc n) zero a ha hj = one-flip (((2 ^ suc n - 1) - a) % 2) (a % 2) (omega (arith, pow-suc 2 n, pow_pos n))
bit_not (suc n) (suc j) a ha hj =
    ap (λ (x : ℕ). bit x j) (omega (arith, pow-suc 2 n, pow_pos n)) ∙ bit_not n j (a / 2) (omega (arith, pow-suc 2 n)) (omega arith)

-- ---- shifts, and what a word of n bits keeps
pub bit-shr : (k a j : ℕ) → bit (a / 2 ^ k) j ≡ bit a (k + j)
unfolding bit
bit-shr zero a j = rw (zero-add j, div-one)
bit-shr (suc k) a j =
    ap (λ (x : ℕ). bit x j) (ap (λ (x : ℕ). a / 2 ^ x) (sym (one-add k)) ∙ sym (shr-shr a 1 k)) ∙ bit-shr k (a / 2) j ∙ ap (bit a) (sym (suc-add k j))

pub bit-mod : (n a j : ℕ) → j < n → bit (a % 2 ^ n) j ≡ bit a j
unfolding bit
bit-mod zero a j h = absurd (omega arith)
bit-mod (suc n) a zero h = ap (λ (x : ℕ). eqb x 1) (ap (λ (x : ℕ). a % 2 ^ x % 2) (sym (add-one n)) ∙ mod-mod-pow a n 1)
bit-mod (suc n) a (suc j) h =
    ap (λ (x : ℕ). bit x j) (ap (λ (x : ℕ). a % 2 ^ x / 2) (sym (add-one n)) ∙ field a n 1) ∙ bit-mod n (a / 2) j (omega arith)

pub bit-shl-low : (k a j : ℕ) → j < k → bit (a * 2 ^ k) j ≡ false
unfolding bit
bit-shl-low zero a j h = absurd (omega arith)
bit-shl-low (suc k) a zero h = ap (λ (x : ℕ). eqb x 1) (shifted_even a k)
bit-shl-low (suc k) a (suc j) h = ap (λ (x : ℕ). bit x j) (shifted_half a k) ∙ bit-shl-low k a j (omega arith)

pub bit-shl : (k a j : ℕ) → bit (a * 2 ^ k) (k + j) ≡ bit a j
unfolding bit
bit-shl zero a j = rw (mul-one, zero-add)
bit-shl (suc k) a j = rw suc-add (ap (λ (x : ℕ). bit x (k + j)) (shifted_half a k) ∙ bit-shl k a j)

-- ---- a mask: n ones from bit b up
abbrev pub mask_of : ℕ → ℕ → ℕ
mask_of b n = (2 ^ n - 1) * 2 ^ b

module _ (b n j : ℕ) where
  pub mask_below : j < b → bit (mask_of b n) j ≡ false
  mask_below h = bit-shl-low b (2 ^ n - 1) j h

  up : b ≤ j → bit (mask_of b n) j ≡ bit (2 ^ n - 1) (j - b)
  up h = let e : j ≡ b + (j - b) = omega arith in ap (bit (mask_of b n)) e ∙ bit-shl b (2 ^ n - 1) (j - b)

  pub mask-in : b ≤ j → j < b + n → bit (mask_of b n) j ≡ true
  mask-in h g =
      let z : 2 ^ n - 1 ≡ (2 ^ n - 1) - 0 = omega arith in
      up h ∙ ap (λ (x : ℕ). bit x (j - b)) z ∙ bit_not n (j - b) 0 (pow_pos n) (omega arith) ∙ ap not (bit-zero (j - b))

  pub mask-above : b + n ≤ j → bit (mask_of b n) j ≡ false
  mask-above h = up (omega arith) ∙ bit-above n (2 ^ n - 1) (j - b) (omega (arith, pow_pos n)) (omega arith)

-- ---- the count of trailing zeros: below it are zeros, and where it ends a one
pub zeros-below : (n a j : ℕ) → j < count_trailing_zeros n a → bit a j ≡ false
unfolding bit count_trailing_zeros
zeros-below zero a j h = absurd (omega arith)
zeros-below (suc n) a j h = go (a % 2) refl j h (zeros-below n (a / 2))
  where
    go : (d : ℕ) → a % 2 ≡ d → (i : ℕ) → i < under d (count_trailing_zeros n (a / 2)) → ((k : ℕ) → k < count_trailing_zeros n (a / 2) → bit (a / 2) k ≡ false) → bit a i ≡ false
    go zero e zero g ih = rw e
    go zero e (suc i) g ih = ih i (omega arith)
    go (suc d) e i g ih = absurd (omega arith)

pub zeros-end : (n a : ℕ) → count_trailing_zeros n a < n → bit a (count_trailing_zeros n a) ≡ true
unfolding bit count_trailing_zeros
zeros-end zero a h = absurd (omega arith)
zeros-end (suc n) a h = go (a % 2) refl (omega arith) h (zeros-end n (a / 2))
  where
    go : (d : ℕ) → a % 2 ≡ d → d < 2 → under d (count_trailing_zeros n (a / 2)) < suc n → (count_trailing_zeros n (a / 2) < n → bit (a / 2) (count_trailing_zeros n (a / 2)) ≡ true)
        → bit a (under d (count_trailing_zeros n (a / 2))) ≡ true
    go zero e l g ih = ih (omega arith)
    go (suc zero) e l g ih = rw e
    go (suc (suc d)) e l g ih = absurd (omega arith)

-- ---- the list of a number's bits
pub digits-length : (n w : ℕ) → length (digits n w) ≡ n
unfolding digits
digits-length zero w = refl
digits-length (suc n) w = ap suc (digits-length n (w / 2))

pub digits-at : (n w j : ℕ) (d : Bool) → j < n → get_or (digits n w) j d ≡ bit w j
unfolding digits bit
digits-at zero w j d h = absurd (omega arith)
digits-at (suc n) w zero d h = refl
digits-at (suc n) w (suc j) d h = digits-at n (w / 2) j d (omega arith)

one-inj : (x y : ℕ) → x < 2 → y < 2 → eqb x 1 ≡ eqb y 1 → x ≡ y
one-inj zero zero hx hy e = refl
one-inj zero (suc zero) hx hy e = let z : ◌≡◌ {A = ℕ} 0 1 = cc in absurd (omega arith)
one-inj zero (suc (suc y)) hx hy e = absurd (omega arith)
one-inj (suc zero) zero hx hy e = let z : ◌≡◌ {A = ℕ} 0 1 = cc in absurd (omega arith)
one-inj (suc zero) (suc zero) hx hy e = refl
one-inj (suc zero) (suc (suc y)) hx hy e = absurd (omega arith)
one-inj (suc (suc x)) y hx hy e = absurd (omega arith)

pub digits-inj : (n a b : ℕ) → a < 2 ^ n → b < 2 ^ n → digits n a ≡ digits n b → a ≡ b
unfolding digits
digits-inj zero a b ha hb e = omega arith
digits-inj (suc n) a b ha hb e =
    let h : eqb (a % 2) 1 ≡ eqb (b % 2) 1 = cc in
    let t : digits n (a / 2) ≡ digits n (b / 2) = cc in
    omega (arith, one-inj (a % 2) (b % 2) (omega arith) (omega arith) h, digits-inj n (a / 2) (b / 2) (omega (arith, pow-suc 2 n)) (omega (arith, pow-suc 2 n)) t)

pub bit_inj : (n a b : ℕ) → a < 2 ^ n → b < 2 ^ n → ((j : ℕ) → j < n → bit a j ≡ bit b j) → a ≡ b
bit_inj n a b ha hb h =
    digits-inj n a b ha hb (ext_get_or false _ _ (digits-length n a ∙ sym (digits-length n b)) (λ j g.
    let l : j < n = omega (arith, digits-length n a) in
    digits-at n a j false l ∙ h j l ∙ sym (digits-at n b j false l)))

-- the ones of a word are the zeros of its complement
pub ones-clears : (n x : ℕ) → x < 2 ^ n → ones x ≡ clears (digits n ((2 ^ n - 1) - x)) 0 n
unfolding digits clears
ones-clears zero x h = omega (arith, ones-le 0 x h)
ones-clears (suc n) x h =
    let d : ((2 ^ suc n - 1) - x) / 2 ≡ (2 ^ n - 1) - x / 2 = omega (arith, pow-suc 2 n, pow_pos n) in
    ones_step x
    ∙ ap₂ (λ (p q : ℕ). p + q) (one (x % 2) (((2 ^ suc n - 1) - x) % 2) (omega (arith, pow-suc 2 n, pow_pos n)))
    (ones-clears n (x / 2) (omega (arith, pow-suc 2 n)) ∙ ap (λ (y : ℕ). clears (digits n y) 0 n) (sym d))
    ∙ sym (clears-cons (eqb (((2 ^ suc n - 1) - x) % 2) 1) (digits n (((2 ^ suc n - 1) - x) / 2)) n)
  where
    one : (p q : ℕ) → p + q ≡ 1 → p ≡ cond (eqb q 1) 0 1
    one zero zero e = absurd (omega arith)
    one zero (suc zero) e = refl
    one zero (suc (suc q)) e = absurd (omega arith)
    one (suc zero) zero e = refl
    one (suc zero) (suc q) e = absurd (omega arith)
    one (suc (suc p)) q e = absurd (omega arith)

-- the ones of a word are its set bits
pub ones-set : (n x : ℕ) → x < 2 ^ n → ones x ≡ marks_set (digits n x)
unfolding digits marks_set
ones-set zero x h = omega (arith, ones-le 0 x h)
ones-set (suc n) x h = ones_step x ∙ ap₂ (λ (p q : ℕ). p + q) (one (x % 2) (omega arith)) (ones-set n (x / 2) (omega (arith, pow-suc 2 n)))
  where
    one : (p : ℕ) → p < 2 → p ≡ cond (eqb p 1) 1 0
    one zero e = refl
    one (suc zero) e = refl
    one (suc (suc p)) e = absurd (omega arith)
