-- What `window` and a turn of `copy_span` are on the flat list. The crate's own.
-- Assumes nothing.
use mathlib.Core.Path.{◌≡◌, refl, sym, ap, ap₂, ◌∙◌}
use mathlib.Core.Bool.{Bool, true, false, not, cond, ◌&&◌, ◌||◌}
use mathlib.Core.List.{List}
use Prim.Native.Nat.{ℕ, ◌+◌, ◌-◌, ◌*◌, ◌/◌, ◌%◌, ◌^◌, ◌≤◌, ◌<◌}
use native.Mathlib.Nat.{add-zero}
use native.Mathlib.Decide.{dec_lt, ℕ_discrete}
use native.Mathlib.Omega.{arith}
use lib.Bits.{bit_and, bit_or, or_lt}
use lib.ListN.{length, get_or, set, drop, length-set, take-append-drop}
use lib.Pow.{shr_le}
use lib.Seq.{ext_get_or, get_or-drop, get_or-set_same, get_or-set_other}
use Rattle.bits.specs.Flat.{flat}
use Rattle.bits.specs.Pack.{word_of}
use Rattle.bits.specs.Share.{get_share, put_share}
use Rattle.bits.proofs.Flat.{flat-length, flat-bit}
use Rattle.bits.proofs.Pack.{word_of-bound, word_of-at}
use Rattle.bits.proofs.Share.{get_share-length, get_share-at, get_share-add, put_share-length, put_share-at-below, put_share-at-in, put_share-at-above, put_share-append}
use Rattle.bits.proofs.Word.{mask_lt}
use Rattle.bits.proofs.Bit.{bit, bit-and, bit-or, bit_not, bit-above, bit-shr, bit-mod, bit-shl-low, bit-shl, bit_inj, mask_of, mask_below, mask-in, mask-above}

-- ---- a window of 64 places
-- a word with the bits of 64 places is their window
window-is : (ws : List ℕ) (k r : ℕ) → r < 2 ^ 64 → ((j : ℕ) → j < 64 → bit r j ≡ bit (get_or ws ((k + j) / 64) 0) ((k + j) % 64)) → r ≡ word_of 64 (drop k (flat ws))
window-is ws k r h f =
    bit_inj 64 r (word_of 64 (drop k (flat ws))) h (word_of-bound 64 (drop k (flat ws)))
    (λ j l. f j l ∙ sym (word_of-at 64 (drop k (flat ws)) j l ∙ get_or-drop k (flat ws) j false ∙ flat-bit ws (k + j)))

module _ (ws : List ℕ) (k : ℕ) (f : get_or ws (k / 64) 0 < 2 ^ 64) where
  abbrev low : ℕ
  low = get_or ws (k / 64) 0 / 2 ^ (k % 64)

  low-at : (j : ℕ) → (k + j) / 64 ≡ k / 64 → bit low j ≡ bit (get_or ws ((k + j) / 64) 0) ((k + j) % 64)
  low-at j d =
      let m : (k + j) % 64 ≡ k % 64 + j = omega arith in
      bit-shr (k % 64) (get_or ws (k / 64) 0) j ∙ sym (rw (d, m))

  -- at a word's edge
  pub window-edge : k % 64 ≡ 0 → get_or ws (k / 64) 0 / 2 ^ (k % 64) ≡ word_of 64 (drop k (flat ws))
  window-edge e = window-is ws k low (omega (arith, shr_le (get_or ws (k / 64) 0) (k % 64))) (λ j l. low-at j (omega arith))

  -- across an edge
  pub window-two : (k % 64 ≡ 0 → ⊥)
      → bit_or (get_or ws (k / 64) 0 / 2 ^ (k % 64)) (get_or ws (k / 64 + 1) 0 * 2 ^ (64 - k % 64) % 2 ^ 64) ≡ word_of 64 (drop k (flat ws))
  window-two ne =
      window-is ws k (bit_or low up) (or_lt 64 low up (omega (arith, shr_le (get_or ws (k / 64) 0) (k % 64))) (omega arith)) (λ j l. bit-or j low up ∙ at j l (dec_lt j (64 - k % 64)))
    where
      up : ℕ
      up = get_or ws (k / 64 + 1) 0 * 2 ^ (64 - k % 64) % 2 ^ 64

      right : (x : Bool) → (x || false) ≡ x
      right true = refl
      right false = refl

      at : (j : ℕ) → j < 64 → Dec (j < 64 - k % 64) → (bit low j || bit up j) ≡ bit (get_or ws ((k + j) / 64) 0) ((k + j) % 64)
      at j l (yes a) =
          let z : bit up j ≡ false = bit-mod 64 _ j l ∙ bit-shl-low (64 - k % 64) (get_or ws (k / 64 + 1) 0) j a in
          rw z (right (bit low j) ∙ low-at j (omega arith))
      at j l (no a) =
          let d : (k + j) / 64 ≡ k / 64 + 1 = omega arith in
          let m : (k + j) % 64 ≡ j - (64 - k % 64) = omega arith in
          let q : j ≡ (64 - k % 64) + (j - (64 - k % 64)) = omega arith in
          let z : bit low j ≡ false = bit-shr (k % 64) (get_or ws (k / 64) 0) j ∙ bit-above 64 (get_or ws (k / 64) 0) (k % 64 + j) f (omega arith) in
          rw (z, d, m) (bit-mod 64 _ j l ∙ ap (bit (get_or ws (k / 64 + 1) 0 * 2 ^ (64 - k % 64))) q ∙ bit-shl (64 - k % 64) (get_or ws (k / 64 + 1) 0) (j - (64 - k % 64)))

-- ---- a turn of the copy: n places within one word
-- the word w with the places of v where the mask has ones
abbrev pub blend : ℕ → ℕ → ℕ → ℕ
blend w v m = bit_or (bit_and w ((2 ^ 64 - 1) - m)) (bit_and v m)

blend-at : (w v m j : ℕ) → m < 2 ^ 64 → j < 64 → bit (blend w v m) j ≡ cond (bit m j) (bit v j) (bit w j)
blend-at w v m j h l =
    bit-or j (bit_and w ((2 ^ 64 - 1) - m)) (bit_and v m)
    ∙ ap₂ (λ (x y : Bool). x || y) (bit-and j w ((2 ^ 64 - 1) - m) ∙ ap (λ (x : Bool). bit w j && x) (bit_not 64 j m h l)) (bit-and j v m)
    ∙ choose (bit w j) (bit v j) (bit m j)
  where
    choose : (x y z : Bool) → ((x && not z) || (y && z)) ≡ cond z y x
    choose true true true = refl
    choose true true false = refl
    choose true false true = refl
    choose true false false = refl
    choose false true true = refl
    choose false true false = refl
    choose false false true = refl
    choose false false false = refl

-- a word x in place of word k / 64 that has the n places of `src` from `from` on, and is as before elsewhere
module _ (ws : List ℕ) (k : ℕ) (src : List Bool) (from n x : ℕ) (h : k / 64 < length ws) (hn : k % 64 + n ≤ 64) (hs : from + n ≤ length src)
    (new : (j : ℕ) → k % 64 ≤ j → j < k % 64 + n → bit x j ≡ get_or src (from + (j - k % 64)) false)
    (low : (j : ℕ) → j < k % 64 → bit x j ≡ bit (get_or ws (k / 64) 0) j)
    (high : (j : ℕ) → k % 64 + n ≤ j → j < 64 → bit x j ≡ bit (get_or ws (k / 64) 0) j) where
  flat-store : flat (set ws (k / 64) x) ≡ put_share (flat ws) k (get_share src from n)
  flat-store =
      ext_get_or false _ _ (flat-length (set ws (k / 64) x) ∙ ap (λ (y : ℕ). 64 * y) (length-set ws (k / 64) x) ∙ sym (flat-length ws) ∙ sym (put_share-length (flat ws) k (get_share src from n) fits))
      (λ q g. at q (dec_lt q k) (dec_lt q (k + n)))
    where
      np : length (get_share src from n) ≡ n
      np = get_share-length src from n hs

      fits : k + length (get_share src from n) ≤ length (flat ws)
      fits = omega (arith, np, flat-length ws)

      -- a place outside the span is as it was
      outside : (q : ℕ) → (q / 64 ≡ k / 64 → bit x (q % 64) ≡ bit (get_or ws (k / 64) 0) (q % 64)) → get_or (flat (set ws (k / 64) x)) q false ≡ get_or (flat ws) q false
      outside q o = flat-bit (set ws (k / 64) x) q ∙ go (ℕ_discrete (q / 64) (k / 64)) ∙ sym (flat-bit ws q)
        where
          go : Dec (q / 64 ≡ k / 64) → bit (get_or (set ws (k / 64) x) (q / 64) 0) (q % 64) ≡ bit (get_or ws (q / 64) 0) (q % 64)
          go (yes e) = rw (e, get_or-set_same ws (k / 64) x 0 h) (o e)
          go (no e) = rw (get_or-set_other ws (k / 64) (q / 64) x 0 e)

      at : (q : ℕ) → Dec (q < k) → Dec (q < k + n) → get_or (flat (set ws (k / 64) x)) q false ≡ get_or (put_share (flat ws) k (get_share src from n)) q false
      at q (yes a) b = outside q (λ e. low (q % 64) (omega arith)) ∙ sym (put_share-at-below (flat ws) k (get_share src from n) fits q false a)
      at q (no a) (yes b) =
          let e : q / 64 ≡ k / 64 = omega arith in
          let i : q ≡ k + (q - k) = omega arith in
          let d : q % 64 - k % 64 ≡ q - k = omega arith in
          flat-bit (set ws (k / 64) x) q ∙ ap (λ (y : ℕ). bit (get_or (set ws (k / 64) x) y 0) (q % 64)) e ∙ ap (λ (y : ℕ). bit y (q % 64)) (get_or-set_same ws (k / 64) x 0 h)
          ∙ new (q % 64) (omega arith) (omega arith) ∙ ap (λ (y : ℕ). get_or src (from + y) false) d
          ∙ sym (ap (λ (y : ℕ). get_or (put_share (flat ws) k (get_share src from n)) y false) i
          ∙ put_share-at-in (flat ws) k (get_share src from n) fits (q - k) false (omega (arith, np)) ∙ get_share-at src from n (q - k) false (omega arith))
      at q (no a) (no b) = outside q (λ e. high (q % 64) (omega arith) (omega arith)) ∙ sym (put_share-at-above (flat ws) k (get_share src from n) fits q false (omega (arith, np)))

module _ (ws : List ℕ) (k : ℕ) (src : List Bool) (from n : ℕ) (h : k / 64 < length ws) (hn : k % 64 + n ≤ 64) (hs : from + n ≤ length src) where
  -- the word that the code stores
  flat-blend : flat (set ws (k / 64) (blend (get_or ws (k / 64) 0) (word_of 64 (drop from src) * 2 ^ (k % 64) % 2 ^ 64) (mask_of (k % 64) n))) ≡ put_share (flat ws) k (get_share src from n)
  flat-blend =
      flat-store ws k src from n (blend w v m) h hn hs
      (λ j a b. is j (omega arith) ∙ rw (mask-in (k % 64) n j a b) (new j a (omega arith)))
      (λ j a. is j (omega arith) ∙ rw (mask_below (k % 64) n j a))
      (λ j a b. is j b ∙ rw (mask-above (k % 64) n j a))
    where
      w : ℕ
      w = get_or ws (k / 64) 0

      v : ℕ
      v = word_of 64 (drop from src) * 2 ^ (k % 64) % 2 ^ 64

      m : ℕ
      m = mask_of (k % 64) n

      is : (j : ℕ) → j < 64 → bit (blend w v m) j ≡ cond (bit m j) (bit v j) (bit w j)
      is j l = blend-at w v m j (mask_lt (k % 64) n hn) l

      new : (j : ℕ) → k % 64 ≤ j → j < 64 → bit v j ≡ get_or src (from + (j - k % 64)) false
      new j a l =
          let e : j ≡ k % 64 + (j - k % 64) = omega arith in
          bit-mod 64 _ j l ∙ ap (bit (word_of 64 (drop from src) * 2 ^ (k % 64))) e ∙ bit-shl (k % 64) (word_of 64 (drop from src)) (j - k % 64)
          ∙ word_of-at 64 (drop from src) (j - k % 64) (omega arith) ∙ get_or-drop from src (j - k % 64) false

-- ---- the copy so far: the first j places of the share
module _ (dst src : List Bool) (to from : ℕ) where
  pub copy-none : dst ≡ put_share dst to (get_share src from 0)
  unfolding put_share get_share
  copy-none = rw (add-zero, take-append-drop)

  -- with n places more
  copy_more : (j n : ℕ) → to + j ≤ length dst → from + j ≤ length src
      → put_share (put_share dst to (get_share src from j)) (to + j) (get_share src (from + j) n) ≡ put_share dst to (get_share src from (j + n))
  copy_more j n h g =
      let e : length (get_share src from j) ≡ j = get_share-length src from j g in
      sym (rw get_share-add (put_share-append dst to (get_share src from j) (get_share src (from + j) n) (omega arith) ∙ rw e))

-- a turn: n places more, in word i from its bit b on
pub copy-turn : (ws : List ℕ) (dst src : List Bool) (to from i b j n j' p m v : ℕ) → i ≡ (to + j) / 64 → b ≡ (to + j) % 64 → j' ≡ j + n → p ≡ from + j
    → flat ws ≡ put_share dst to (get_share src from j) → length dst ≡ length (flat ws) → i < length ws → b + n ≤ 64 → from + j' ≤ length src
    → m ≡ mask_of b n → v ≡ word_of 64 (drop p src)
    → flat (set ws i (blend (get_or ws i 0) (v * 2 ^ b % 2 ^ 64) m)) ≡ put_share dst to (get_share src from j')
copy-turn ws dst src to from i b j n j' p m v ei eb ej ep e l h hn hs em ev =
    rw (em, ev, ep, ei, eb, ej)
    (flat-blend ws (to + j) src (from + j) n (omega arith) (omega arith) (omega arith) ∙ rw e (copy_more dst src to from j n (omega (arith, flat-length ws)) (omega arith)))
