-- One word under a mask: what the code's `w | m`, `w & !m`, `!w & m` and `w & m` are on the flat list. The crate's own.
-- Assumes nothing.
use mathlib.Core.Path.{◌≡◌, refl, sym, ap, ap₂, ◌∙◌}
use mathlib.Core.Bool.{Bool, true, false, not, cond, ◌&&◌, ◌||◌, and-false, and-true}
use mathlib.Core.List.{List, ◌++◌}
use Prim.Native.Nat.{ℕ, ◌+◌, ◌-◌, ◌*◌, ◌/◌, ◌%◌, ◌^◌, ◌≤◌, ◌<◌}
use native.Mathlib.Nat.{zero-add}
use native.Mathlib.Decide.{dec_lt}
use native.Mathlib.Omega.{arith}
use lib.Bits.{bit_and, bit_or, and_lt}
use lib.Count.{ones}
use lib.ListN.{length, get_or, set}
use lib.Pow.{ones_split, high, shl_exact, ones_lt}
use lib.Seq.{ext_get_or}
use Rattle.bits.specs.Flat.{digits, flat}
use Rattle.bits.specs.Span.{fill, clears}
use Rattle.bits.specs.Share.{get_share, put_share}
use Rattle.bits.specs.Count.{marks_set}
use Rattle.bits.proofs.Bit.{bit, bit-and, bit-or, bit_not, mask_of, mask_below, mask-in, mask-above, digits-length, digits-at, ones-clears, ones-set}
use Rattle.bits.proofs.Span.{fill-length, fill-at-below, fill-at-in, fill-at-above, fill-turn, clears-add, clears-ext, clears-none, clears-turn}
use Rattle.bits.proofs.Share.{get_share-length, get_share-at, get_share-add, get_share-ext, get_share-share, get_share-whole, fill-share, clears-share}
use Rattle.bits.proofs.Count.{marks_set-append, marks_set-none, share-turn}
use Rattle.bits.proofs.Flat.{flat-length, flat_word, flat-set}

-- `(u64::MAX >> (64 - n)) << b`
pub mask_is : (b n : ℕ) → b + n ≤ 64 → (2 ^ 64 - 1) / 2 ^ (64 - n) * 2 ^ b % 2 ^ 64 ≡ mask_of b n
mask_is b n h =
    let e : n + (64 - n) ≡ 64 = omega arith in
    let s : (2 ^ 64 - 1) / 2 ^ (64 - n) ≡ 2 ^ n - 1 =
    ap (λ (x : ℕ). (2 ^ x - 1) / 2 ^ (64 - n)) (sym e) ∙ ap (λ (x : ℕ). x / 2 ^ (64 - n)) (ones_split n (64 - n)) ∙ high (2 ^ n - 1) (64 - n) (ones_lt (64 - n)) in
    ap (λ (x : ℕ). x * 2 ^ b % 2 ^ 64) s ∙ shl_exact n b 64 (ones_lt n) (omega arith)

pub mask_lt : (b n : ℕ) → b + n ≤ 64 → mask_of b n < 2 ^ 64
mask_lt b n h = rw (← mask_is b n h) (omega arith)

-- ---- a span within one word
module _ (w b n : ℕ) (h : b + n ≤ 64) where
  -- a word that has v where the mask has ones, and is as before elsewhere
  digits-fill : (v : Bool) (x : ℕ) → ((j : ℕ) → j < 64 → bit x j ≡ cond (bit (mask_of b n) j) v (bit w j)) → digits 64 x ≡ fill v (digits 64 w) b n
  digits-fill v x f =
      ext_get_or false _ _ (digits-length 64 x ∙ sym (fill-length v (digits 64 w) b n ∙ digits-length 64 w))
      (λ j g. let l : j < 64 = omega (arith, digits-length 64 x) in digits-at 64 x j false l ∙ f j l ∙ at j l (dec_lt j b) (dec_lt j (b + n)))
    where
      at : (j : ℕ) → j < 64 → Dec (j < b) → Dec (j < b + n) → cond (bit (mask_of b n) j) v (bit w j) ≡ get_or (fill v (digits 64 w) b n) j false
      at j l (yes p) q = rw (mask_below b n j p) (sym (fill-at-below v (digits 64 w) b n j false p ∙ digits-at 64 w j false l))
      at j l (no p) (yes q) = rw (mask-in b n j (omega arith) q) (sym (fill-at-in v (digits 64 w) b n j false (omega arith) q (omega (arith, digits-length 64 w))))
      at j l (no p) (no q) = rw (mask-above b n j (omega arith)) (sym (fill-at-above v (digits 64 w) b n j false (omega arith) ∙ digits-at 64 w j false l))

  digits-or : digits 64 (bit_or w (mask_of b n)) ≡ fill true (digits 64 w) b n
  digits-or = digits-fill true (bit_or w (mask_of b n)) (λ j l. bit-or j w (mask_of b n) ∙ choose (bit w j) (bit (mask_of b n) j))
    where
      choose : (x m : Bool) → (x || m) ≡ cond m true x
      choose true true = refl
      choose true false = refl
      choose false true = refl
      choose false false = refl

  digits-and : digits 64 (bit_and w ((2 ^ 64 - 1) - mask_of b n)) ≡ fill false (digits 64 w) b n
  digits-and =
      digits-fill false (bit_and w ((2 ^ 64 - 1) - mask_of b n))
      (λ j l. bit-and j w ((2 ^ 64 - 1) - mask_of b n) ∙ ap (λ (x : Bool). bit w j && x) (bit_not 64 j (mask_of b n) (mask_lt b n h) l) ∙ choose (bit w j) (bit (mask_of b n) j))
    where
      choose : (x m : Bool) → (x && not m) ≡ cond m false x
      choose true true = refl
      choose true false = refl
      choose false true = refl
      choose false false = refl

  -- the ones of `!w & m`
  ones_and : w < 2 ^ 64 → ones (bit_and ((2 ^ 64 - 1) - w) (mask_of b n)) ≡ clears (digits 64 w) b n
  ones_and f =
      let q : 64 ≡ b + (n + r) = omega arith in
      ones-clears 64 x (and_lt 64 ((2 ^ 64 - 1) - w) m (omega arith) (mask_lt b n h))
      ∙ ap (clears l 0) q ∙ clears-add l 0 b (n + r) ∙ ap₂ (λ (p q : ℕ). p + q)
      (clears-none l 0 b (λ j g. rw zero-add (at j (omega arith) ∙ rw (mask_below b n j g))))
      (clears-add l (0 + b) n r ∙ ap₂ (λ (p q : ℕ). p + q)
      (clears-ext l (digits 64 w) (0 + b) b n
      (λ j g. rw zero-add (at (b + j) (omega arith) ∙ rw (mask-in b n (b + j) (omega arith) (omega arith)) (sym (digits-at 64 w (b + j) true (omega arith))))))
      (clears-none l (0 + b + n) r (λ j g. rw zero-add (at (b + n + j) (omega arith) ∙ rw (mask-above b n (b + n + j) (omega arith))))))
      ∙ omega arith
    where
      m : ℕ
      m = mask_of b n

      r : ℕ
      r = 64 - (b + n)

      x : ℕ
      x = bit_and ((2 ^ 64 - 1) - w) m

      l : List Bool
      l = digits 64 ((2 ^ 64 - 1) - x)

      choose : (y z : Bool) → not (not y && z) ≡ cond z y true
      choose true true = refl
      choose true false = refl
      choose false true = refl
      choose false false = refl

      at : (j : ℕ) → j < 64 → get_or l j true ≡ cond (bit m j) (bit w j) true
      at j g =
          digits-at 64 ((2 ^ 64 - 1) - x) j true g ∙ bit_not 64 j x (and_lt 64 ((2 ^ 64 - 1) - w) m (omega arith) (mask_lt b n h)) g
          ∙ ap not (bit-and j ((2 ^ 64 - 1) - w) m ∙ ap (λ (y : Bool). y && bit m j) (bit_not 64 j w f g)) ∙ choose (bit w j) (bit m j)

  -- the ones of `w & m`
  ones-set-and : w < 2 ^ 64 → ones (bit_and w (mask_of b n)) ≡ marks_set (get_share (digits 64 w) b n)
  ones-set-and f =
      let q : 64 ≡ b + (n + r) = omega arith in
      ones-set 64 x (and_lt 64 w m f (mask_lt b n h))
      ∙ ap marks_set (sym (get_share-whole l 64 (omega (arith, digits-length 64 x))) ∙ ap (get_share l 0) q ∙ get_share-add l 0 b (n + r) ∙ ap (λ (y : List Bool). get_share l 0 b ++ y) (get_share-add l (0 + b) n r))
      ∙ marks_set-append (get_share l 0 b) (get_share l (0 + b) n ++ get_share l (0 + b + n) r)
      ∙ ap₂ (λ (p q : ℕ). p + q) low (marks_set-append (get_share l (0 + b) n) (get_share l (0 + b + n) r) ∙ ap₂ (λ (p q : ℕ). p + q) (ap marks_set middle) high)
      ∙ omega arith
    where
      m : ℕ
      m = mask_of b n

      r : ℕ
      r = 64 - (b + n)

      x : ℕ
      x = bit_and w m

      l : List Bool
      l = digits 64 x

      at : (j : ℕ) → j < 64 → get_or l j false ≡ (bit w j && bit m j)
      at j g = digits-at 64 x j false g ∙ bit-and j w m

      none : (k e : ℕ) → k + e ≤ 64 → ((j : ℕ) → j < e → bit m (k + j) ≡ false) → marks_set (get_share l k e) ≡ 0
      none k e g z =
          let s : length (get_share l k e) ≡ e = get_share-length l k e (omega (arith, digits-length 64 x)) in
          marks_set-none (get_share l k e) (λ j i.
          let o : j < e = omega arith in
          get_share-at l k e j false o ∙ at (k + j) (omega arith) ∙ ap (λ (y : Bool). bit w (k + j) && y) (z j o) ∙ and-false (bit w (k + j)))

      low : marks_set (get_share l 0 b) ≡ 0
      low = none 0 b (omega arith) (λ j g. mask_below b n (0 + j) (omega arith))

      high : marks_set (get_share l (0 + b + n) r) ≡ 0
      high = none (0 + b + n) r (omega arith) (λ j g. mask-above b n (0 + b + n + j) (omega arith))

      middle : get_share l (0 + b) n ≡ get_share (digits 64 w) b n
      middle =
          rw zero-add
          (get_share-ext l (digits 64 w) b n (digits-length 64 x ∙ sym (digits-length 64 w)) (omega (arith, digits-length 64 x))
          (λ k p q. at k (omega arith) ∙ ap (λ (y : Bool). bit w k && y) (mask-in b n k p q) ∙ and-true (bit w k) ∙ sym (digits-at 64 w k false (omega arith))))

-- ---- a span within one word of the list
module _ (ws : List ℕ) (i b n k : ℕ) (place : k ≡ 64 * i + b) (h : i < length ws) (hn : b + n ≤ 64) where
  fits : 64 * i + 64 ≤ length (flat ws)
  fits = omega (arith, flat-length ws)

  -- a word replaced by one with its span filled
  flat-fill : (v : Bool) (x : ℕ) → digits 64 x ≡ fill v (digits 64 (get_or ws i 0)) b n → flat (set ws i x) ≡ fill v (flat ws) k n
  flat-fill v x e =
      flat-set ws i x h ∙ ap (put_share (flat ws) (64 * i)) (e ∙ ap (λ (l : List Bool). fill v l b n) (sym (flat_word ws i h)))
      ∙ sym (ap (λ (j : ℕ). fill v (flat ws) j n) place ∙ fill-share (flat ws) (64 * i) 64 fits v b n hn)

  flat-or : flat (set ws i (bit_or (get_or ws i 0) (mask_of b n))) ≡ fill true (flat ws) k n
  flat-or = flat-fill true (bit_or (get_or ws i 0) (mask_of b n)) (digits-or (get_or ws i 0) b n hn)

  flat-and : flat (set ws i (bit_and (get_or ws i 0) ((2 ^ 64 - 1) - mask_of b n))) ≡ fill false (flat ws) k n
  flat-and = flat-fill false (bit_and (get_or ws i 0) ((2 ^ 64 - 1) - mask_of b n)) (digits-and (get_or ws i 0) b n hn)

  flat-ones : get_or ws i 0 < 2 ^ 64 → ones (bit_and ((2 ^ 64 - 1) - get_or ws i 0) (mask_of b n)) ≡ clears (flat ws) k n
  flat-ones f =
      ones_and (get_or ws i 0) b n hn f ∙ ap (λ (l : List Bool). clears l b n) (sym (flat_word ws i h))
      ∙ sym (ap (λ (j : ℕ). clears (flat ws) j n) place ∙ clears-share (flat ws) (64 * i) 64 fits b n hn)

  flat-set-ones : get_or ws i 0 < 2 ^ 64 → ones (bit_and (get_or ws i 0) (mask_of b n)) ≡ marks_set (get_share (flat ws) k n)
  flat-set-ones f =
      ones-set-and (get_or ws i 0) b n hn f ∙ ap (λ (l : List Bool). marks_set (get_share l b n)) (sym (flat_word ws i h))
      ∙ ap marks_set (get_share-share (flat ws) (64 * i) 64 b n hn ∙ ap (λ (j : ℕ). get_share (flat ws) j n) (sym place))

  -- ---- a turn of a span's loop: with this word's n places done, the rest up to `to` gives the whole
  module _ (m to k' : ℕ) (e : m ≡ mask_of b n) (g : n ≤ to - k) (next : k' ≡ k + n) where
    pub mark-turn : fill true (flat (set ws i (bit_or (get_or ws i 0) m))) k' (to - k') ≡ fill true (flat ws) k (to - k)
    mark-turn = rw (next, e, flat-or) (fill-turn true (flat ws) k n to g)

    pub clear-turn : fill false (flat (set ws i (bit_and (get_or ws i 0) ((2 ^ 64 - 1) - m)))) k' (to - k') ≡ fill false (flat ws) k (to - k)
    clear-turn = rw (next, e, flat-and) (fill-turn false (flat ws) k n to g)

    pub count_turn : get_or ws i 0 < 2 ^ 64
        → ones (bit_and ((2 ^ 64 - 1) - get_or ws i 0) m) + clears (flat (set ws i (bit_or (get_or ws i 0) m))) k' (to - k') ≡ clears (flat ws) k (to - k)
    count_turn f = rw (next, e, flat-or, flat-ones f) (clears-turn true (flat ws) k n to g)

    pub set-turn : get_or ws i 0 < 2 ^ 64 → ones (bit_and (get_or ws i 0) m) + marks_set (get_share (flat ws) k' (to - k')) ≡ marks_set (get_share (flat ws) k (to - k))
    set-turn f = rw (next, e, flat-set-ones f) (share-turn (flat ws) k n to g)
