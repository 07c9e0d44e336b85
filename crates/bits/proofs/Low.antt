-- The lowest wanted bit of a word: what the code's trailing zeros under a mask are, and a turn of the search on the flat list. The crate's own.
-- Assumes nothing.
use mathlib.Core.Path.{◌≡◌, refl, sym, ap, ◌∙◌}
use mathlib.Core.Bool.{Bool, true, false, not, ◌&&◌, beq, true≢false, and-true, and-false}
use mathlib.Core.List.{List}
use Prim.Native.Nat.{ℕ, ◌+◌, ◌-◌, ◌*◌, ◌^◌, ◌≤◌, ◌<◌, min}
use native.Mathlib.Decide.{dec_lt}
use native.Mathlib.Omega.{arith}
use lib.Bits.{bit_and}
use lib.Count.{count_trailing_zeros, trailing_le}
use lib.ListN.{length, get_or}
use Rattle.bits.specs.Flat.{digits, flat}
use Rattle.bits.specs.Next.{next}
use Rattle.bits.proofs.Bit.{bit, bit-and, bit_not, mask_of, mask_below, mask-in, zeros-below, zeros-end, digits-at}
use Rattle.bits.proofs.Next.{beq-true, beq-false, next-high, next-only, next-cut, next-on}
use Rattle.bits.proofs.Share.{next-share}
use Rattle.bits.proofs.Flat.{flat-length, flat_word}

-- a count of zeros fits a word
pub zeros-fit : (x : ℕ) → count_trailing_zeros 64 x < 2 ^ 64
zeros-fit x = omega (arith, trailing_le 64 x)

-- ---- one word, from bit b up
module _ (want : Bool) (w b : ℕ) (h : b < 64) where
  -- the trailing zeros of an x that has ones where w has what is wanted
  low-is : (x : ℕ) → ((j : ℕ) → j < 64 → bit x j ≡ beq (bit w j) want) → count_trailing_zeros 64 (bit_and x (mask_of b (64 - b))) ≡ next want (digits 64 w) b 64
  low-is x f =
      next-only want (digits 64 w) b 64 r (trailing_le 64 y) (λ g. low g (dec_lt r b))
      (λ j a g. let k : j < 64 = omega (arith, trailing_le 64 y) in digits-at 64 w j false k ∙ beq-false (bit w j) want (sym (above j a k) ∙ zeros-below 64 y j g))
      (λ g. digits-at 64 w r false g ∙ beq-true (bit w r) want (sym (above r (low g (dec_lt r b)) g) ∙ zeros-end 64 y g))
    where
      m : ℕ
      m = mask_of b (64 - b)

      y : ℕ
      y = bit_and x m

      r : ℕ
      r = count_trailing_zeros 64 y

      above : (j : ℕ) → b ≤ j → j < 64 → bit y j ≡ beq (bit w j) want
      above j a g = bit-and j x m ∙ ap (λ (o : Bool). bit x j && o) (mask-in b (64 - b) j a (omega arith)) ∙ and-true (bit x j) ∙ f j g

      below : (j : ℕ) → j < b → bit y j ≡ false
      below j a = bit-and j x m ∙ ap (λ (o : Bool). bit x j && o) (mask_below b (64 - b) j a) ∙ and-false (bit x j)

      low : r < 64 → Dec (r < b) → b ≤ r
      low g (yes a) = absurd (true≢false (sym (zeros-end 64 y g) ∙ below r a))
      low g (no a) = omega arith

  -- a pending place: of w itself
  pub low-set : want ≡ true → count_trailing_zeros 64 (bit_and w (mask_of b (64 - b))) ≡ next want (digits 64 w) b 64
  low-set e = low-is w (λ j g. rw e (same (bit w j)))
    where
      same : (p : Bool) → p ≡ beq p true
      same true = refl
      same false = refl

  -- a clear one: of its complement
  pub low_clear : want ≡ false → w < 2 ^ 64 → count_trailing_zeros 64 (bit_and ((2 ^ 64 - 1) - w) (mask_of b (64 - b))) ≡ next want (digits 64 w) b 64
  low_clear e l = low-is ((2 ^ 64 - 1) - w) (λ j g. bit_not 64 j w l g ∙ rw e (other (bit w j)))
    where
      other : (p : Bool) → not p ≡ beq p false
      other true = refl
      other false = refl

-- ---- a turn of the search: word i from bit b up, with z its lowest wanted bit
module _ (want : Bool) (ws : List ℕ) (i b z to : ℕ) (h : i < length ws) (l : b < 64) (e : z ≡ next want (digits 64 (get_or ws i 0)) b 64) where
  place : next want (flat ws) (64 * i + b) (64 * i + 64) ≡ 64 * i + z
  place =
      next-share (flat ws) (64 * i) 64 (omega (arith, flat-length ws)) want b 64 (omega arith)
      ∙ rw (flat_word ws i h, ← e)

  -- there is one
  pub low-found : (z ≡ 64 → ⊥) → min (64 * i + z) to ≡ next want (flat ws) (64 * i + b) to
  low-found g =
      let k : z ≤ 64 = omega (arith, next-high want (digits 64 (get_or ws i 0)) b 64) in
      sym (next-cut want (flat ws) (64 * i + b) (64 * i + 64) to (omega (arith, place)) ∙ rw place)

  -- there is none, and the search goes on at the next word's bit 0
  pub low-none : z ≡ 64 → next want (flat ws) (64 * (i + 1)) to ≡ next want (flat ws) (64 * i + b) to
  low-none g =
      let k : 64 * (i + 1) ≡ 64 * i + 64 = omega arith in
      rw k (sym (next-on want (flat ws) (64 * i + b) (64 * i + 64) to (omega arith) (omega (arith, place))))
