-- Marks in words: a share that is written reads as it was written, and every other share as before; shares that are packed read as before, wherever they went.
-- Assumes nothing.
use mathlib.Core.Path.{◌≡◌, sym, ap, ◌∙◌}
use mathlib.Core.Logic.{◌≢◌, ◌⊎◌, inl, inr}
use mathlib.Core.Bool.{Bool, false}
use mathlib.Core.List.{List}
use Prim.Native.Nat.{ℕ, ◌+◌, ◌*◌, ◌≤◌, ◌<◌}
use native.Mathlib.Omega.{arith}
use lib.ListN.{length, get_or, replicate}
use Rattle.bits.specs.Flat.{flat}
use Rattle.bits.specs.Span.{fill}
use Rattle.bits.specs.Share.{get_share, put_share}
use Rattle.bits.proofs.Flat.{flat-length}
use Rattle.bits.proofs.Span.{fill-length, fill-at-in, fill-at-below, fill-at-above}
use Rattle.bits.proofs.Share.{put_share-length, put_share-at-in, put_share-at-below, put_share-at-above, get_share-put_share, get_share-put_share-below, get_share-put_share-above, get_share-fill-below, get_share-fill-above}
use Rattle.bits.proofs.Pack.{pack-length, flat-pack}
use Rattle.pool.specs.Pool.{new_base, packed, Packs}
use Rattle.pool.proofs.Pool.{packed-length, packed-kept, packed-clear}
use Rattle.rules.specs.Settings.{mark_words}
use Rattle.calls.specs.Calls.{marks_at, with_marks, with_clear, packed_words}
use Rattle.demands.specs.Demand2.{bit_of, Elsewhere}

-- two stretches of bits do not overlap
abbrev pub Away : ℕ → ℕ → ℕ → ℕ → Type 0
Away base n base' n' = (base + n ≤ base') ⊎ (base' + n' ≤ base)

module _ (ws : List ℕ) (whole : length ws ≡ mark_words) where
  bits : length (flat ws) ≡ 64 * mark_words
  bits = flat-length ws ∙ rw whole

  -- ---- a share that is made clear

  module _ (base n : ℕ) (inside : base + n ≤ 64 * mark_words) where
    pub clear-length : length (with_clear ws base n) ≡ mark_words
    unfolding with_clear
    clear-length = pack-length (length ws) (fill false (flat ws) base n) ∙ whole

    pub clear-flat : flat (with_clear ws base n) ≡ fill false (flat ws) base n
    unfolding with_clear
    clear-flat = flat-pack (length ws) (fill false (flat ws) base n) (fill-length false (flat ws) base n ∙ flat-length ws)

    pub clear-other : (base' n' : ℕ) → base' + n' ≤ 64 * mark_words → Away base n base' n' → marks_at (with_clear ws base n) base' n' ≡ marks_at ws base' n'
    clear-other base' n' there (inl h) = ap (λ z. get_share z base' n') clear-flat ∙ get_share-fill-above (flat ws) base' n' (omega (arith, bits, there)) false base n h
    clear-other base' n' there (inr h) = ap (λ z. get_share z base' n') clear-flat ∙ get_share-fill-below (flat ws) base' n' (omega (arith, bits, there)) false base n h

    pub clear-bit : (m : ℕ) → m < n → bit_of (with_clear ws base n) base m ≡ false
    clear-bit m h = ap (λ l. get_or l (base + m) false) clear-flat ∙ fill-at-in false (flat ws) base n (base + m) false (omega arith) (omega (arith, h)) (omega (arith, bits, h, inside))

    pub clear-elsewhere : Elsewhere base n ws (with_clear ws base n)
    clear-elsewhere =
        record {
          words = clear-length ∙ sym whole;
          below = λ b h. ap (λ l. get_or l b false) clear-flat ∙ fill-at-below false (flat ws) base n b false h;
          above = λ b h. ap (λ l. get_or l b false) clear-flat ∙ fill-at-above false (flat ws) base n b false h;
        }

  -- ---- marks that are put

  module _ (base : ℕ) (p : List Bool) (inside : base + length p ≤ 64 * mark_words) where
    pub put-length : length (with_marks ws base p) ≡ mark_words
    unfolding with_marks
    put-length = pack-length (length ws) (put_share (flat ws) base p) ∙ whole

    pub put-flat : flat (with_marks ws base p) ≡ put_share (flat ws) base p
    unfolding with_marks
    put-flat = flat-pack (length ws) (put_share (flat ws) base p) (put_share-length (flat ws) base p (omega (arith, bits, inside)) ∙ flat-length ws)

    pub put-own : (n : ℕ) → n ≡ length p → marks_at (with_marks ws base p) base n ≡ p
    put-own n e = ap (λ z. get_share z base n) put-flat ∙ rw e (get_share-put_share (flat ws) base p (omega (arith, bits, inside)))

    pub put_other : (base' n' : ℕ) → base' + n' ≤ 64 * mark_words → Away base (length p) base' n' → marks_at (with_marks ws base p) base' n' ≡ marks_at ws base' n'
    put_other base' n' there (inl h) =
        ap (λ z. get_share z base' n') put-flat ∙ get_share-put_share-above (flat ws) base p (omega (arith, bits, inside)) base' n' h (omega (arith, bits, there))
    put_other base' n' there (inr h) = ap (λ z. get_share z base' n') put-flat ∙ get_share-put_share-below (flat ws) base p (omega (arith, bits, inside)) base' n' h

    pub put-bit : (m : ℕ) → m < length p → bit_of (with_marks ws base p) base m ≡ get_or p m false
    put-bit m k = ap (λ l. get_or l (base + m) false) put-flat ∙ put_share-at-in (flat ws) base p (omega (arith, bits, inside)) m false k

    pub put-elsewhere : Elsewhere base (length p) ws (with_marks ws base p)
    put-elsewhere =
        record {
          words = put-length ∙ sym whole;
          below = λ b k. ap (λ l. get_or l b false) put-flat ∙ put_share-at-below (flat ws) base p (omega (arith, bits, inside)) b false k;
          above = λ b k. ap (λ l. get_or l b false) put-flat ∙ put_share-at-above (flat ws) base p (omega (arith, bits, inside)) b false k;
        }

  -- ---- shares that are packed

  module _ (bases sizes : List ℕ) (i : ℕ) (packs : Packs (flat ws) bases sizes i) where
    pub packs-length : length (packed_words ws bases sizes i) ≡ mark_words
    unfolding packed_words
    packs-length = pack-length (length ws) (packed (flat ws) bases sizes i) ∙ whole

    pub packs-flat : flat (packed_words ws bases sizes i) ≡ packed (flat ws) bases sizes i
    unfolding packed_words
    packs-flat = flat-pack (length ws) (packed (flat ws) bases sizes i) (packed-length (flat ws) bases sizes i packs ∙ flat-length ws)

    -- a share reads at its new place as it did at its old one, and the one at place i is clear
    pub packs-kept : (j : ℕ) → j < 8 → j ≢ i → marks_at (packed_words ws bases sizes i) (new_base sizes j) (get_or sizes j 0) ≡ marks_at ws (get_or bases j 0) (get_or sizes j 0)
    packs-kept j h n = ap (λ z. get_share z (new_base sizes j) (get_or sizes j 0)) packs-flat ∙ packed-kept (flat ws) bases sizes i packs j h n

    pub packs-clear : i < 8 → marks_at (packed_words ws bases sizes i) (new_base sizes i) (get_or sizes i 0) ≡ replicate (get_or sizes i 0) false
    packs-clear h = ap (λ z. get_share z (new_base sizes i) (get_or sizes i 0)) packs-flat ∙ packed-clear (flat ws) bases sizes i packs h
