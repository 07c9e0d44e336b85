-- Laws of `new_base`, `new_bases` and `packed`, for callers; then those of the loops of `pack` and `new_bases`.
-- Assumes nothing.
use mathlib.Core.Path.{◌≡◌, refl, sym, ap, ap₂, ◌∙◌}
use mathlib.Core.Bool.{Bool, true, false, cond}
use mathlib.Core.List.{List, [], ◌∷◌, ◌++◌, append_assoc}
use Prim.Native.Nat.{ℕ, zero, suc, ◌+◌, ◌-◌, ◌*◌, ◌≤◌, ◌<◌}
use native.Mathlib.Decide.{dec_lt, ℕ_discrete}
use native.Mathlib.Numerals.{add-one}
use native.Mathlib.Omega.{arith}
use borrow.Author.Tests.{eq-eqb, ne_eqb}
use lib.Dec.{eqb}
use lib.ListN.{length, get_or, take, drop, set, replicate, get_or-append, get_or-eq_default, length-append, length-replicate, get_or-replicate, replicate-append-replicate}
use lib.Seq.{take-suc, take_at, drop_at, take-append_seam, drop-append-add, take-suc-set, get_or_at, get_or-drop}
use Rattle.bits.specs.Flat.{flat}
use Rattle.bits.specs.Share.{get_share, put_share}
use Rattle.bits.proofs.Flat.{flat-zeros}
use Rattle.bits.proofs.Share.{get_share-length}
use Rattle.pool.specs.Pool.{marks_of, joined, padded, packed, new_base, first_bases, new_bases, Packs}

-- ---- new_base
pub new_base-more : (sizes : List ℕ) (i : ℕ) → new_base sizes (i + 1) ≡ new_base sizes i + get_or sizes i 0
unfolding new_base
new_base-more sizes i = rw add-one

-- the first place, and the rest
pub new_base-cons : (n : ℕ) (sizes : List ℕ) (i : ℕ) → new_base (n ∷ sizes) (suc i) ≡ n + new_base sizes i
unfolding new_base
new_base-cons n sizes zero = omega arith
new_base-cons n sizes (suc i) = ap (λ (x : ℕ). x + get_or sizes i 0) (new_base-cons n sizes i) ∙ omega arith

-- the shares begin in the order of their places
pub new_base-mono : (sizes : List ℕ) (i j : ℕ) → i ≤ j → new_base sizes i ≤ new_base sizes j
unfolding new_base
new_base-mono sizes i zero h = let e : i ≡ 0 = omega arith in rw e (omega arith)
new_base-mono sizes i (suc j) h = go (ℕ_discrete i (suc j)) (new_base-mono sizes i j)
  where
    go : Dec (i ≡ suc j) → (i ≤ j → new_base sizes i ≤ new_base sizes j) → new_base sizes i ≤ new_base sizes j + get_or sizes j 0
    go (yes e) ih = rw e (omega arith)
    go (no e) ih = omega (arith, ih (omega arith))

-- and each ends where a later one begins, or before; with j = 8: at or before the end of all
pub new_base-next : (sizes : List ℕ) (i j : ℕ) → i < j → new_base sizes i + get_or sizes i 0 ≤ new_base sizes j
new_base-next sizes i j h = omega (arith, new_base-more sizes i, new_base-mono sizes (i + 1) j (omega arith))

-- ---- new_bases
first_bases-length : (sizes : List ℕ) (n : ℕ) → length (first_bases sizes n) ≡ n
unfolding first_bases
first_bases-length sizes zero = refl
first_bases-length sizes (suc n) = rw (length-append, first_bases-length sizes n) (omega arith)

first_bases-at : (sizes : List ℕ) (n i : ℕ) → i < n → get_or (first_bases sizes n) i 0 ≡ new_base sizes i
unfolding first_bases
first_bases-at sizes zero i h = absurd (omega arith)
first_bases-at sizes (suc n) i h = go (ℕ_discrete i n) (first_bases-at sizes n i)
  where
    go : Dec (i ≡ n) → (i < n → get_or (first_bases sizes n) i 0 ≡ new_base sizes i) → get_or (first_bases sizes n ++ (new_base sizes n ∷ [])) i 0 ≡ new_base sizes i
    go (yes e) ih = rw e (get_or_at (first_bases sizes n) (new_base sizes n) [] 0 n (first_bases-length sizes n))
    go (no e) ih = get_or-append (first_bases sizes n) (new_base sizes n ∷ []) 0 i (omega (arith, first_bases-length sizes n)) ∙ ih (omega arith)

pub new_bases-length : (sizes : List ℕ) → length (new_bases sizes) ≡ 8
unfolding new_bases
new_bases-length sizes = first_bases-length sizes 8

pub new_bases-at : (sizes : List ℕ) (i : ℕ) → i < 8 → get_or (new_bases sizes) i 0 ≡ new_base sizes i
unfolding new_bases
new_bases-at sizes i h = first_bases-at sizes 8 i h

-- ---- padded
drop-replicate : (m n : ℕ) → drop m (replicate n false) ≡ replicate (n - m) false
drop-replicate zero n = let e : n - 0 ≡ n = omega arith in rw e
drop-replicate (suc m) zero = let e : 0 - suc m ≡ 0 = omega arith in rw e
drop-replicate (suc m) (suc n) = let e : suc n - suc m ≡ n - m = omega arith in rw e (drop-replicate m n)

clear_at : (n k : ℕ) → get_or (replicate n false) k false ≡ false
clear_at n k = go (dec_lt k n)
  where
    go : Dec (k < n) → get_or (replicate n false) k false ≡ false
    go (yes h) = get_or-replicate n k false false h
    go (no h) = get_or-eq_default (replicate n false) false (omega (arith, length-replicate n false))

padded-length : (n : ℕ) (l : List Bool) → length l ≤ n → length (padded n l) ≡ n
unfolding padded
padded-length n l h = simp (length-append, length-replicate) (omega arith)

-- more bits put behind those that are there
padded-put : (n : ℕ) (l p : List Bool) → length l + length p ≤ n → put_share (padded n l) (length l) p ≡ padded n (l ++ p)
unfolding padded put_share
padded-put n l p h =
    let e : n - length l - length p ≡ n - length (l ++ p) = omega (arith, length-append l p) in
    rw (take-append_seam, drop-append-add, drop-replicate, e, append_assoc)

-- clear ones are there already
padded-clear : (n : ℕ) (l : List Bool) (k : ℕ) → length l + k ≤ n → padded n l ≡ padded n (l ++ replicate k false)
unfolding padded
padded-clear n l k h =
    let e : n - length l ≡ k + (n - length (l ++ replicate k false)) = omega (arith, length-append l (replicate k false), length-replicate k false) in
    sym (append_assoc l (replicate k false) (replicate (n - length (l ++ replicate k false)) false)
    ∙ ap (λ (x : List Bool). l ++ x) (replicate-append-replicate k (n - length (l ++ replicate k false)) false ∙ ap (λ (x : ℕ). replicate x false) (sym e)))

-- ---- packed
module _ (bits : List Bool) (bases sizes : List ℕ) (clear : ℕ) where
  marks_of-kept : (i : ℕ) → (i ≡ clear → ⊥) → marks_of bits bases sizes clear i ≡ get_share bits (get_or bases i 0) (get_or sizes i 0)
  unfolding marks_of
  marks_of-kept i ne = rw (ne_eqb i clear ne)

  marks_of-clear : (i : ℕ) → i ≡ clear → marks_of bits bases sizes clear i ≡ replicate (get_or sizes i 0) false
  unfolding marks_of
  marks_of-clear i e = rw (eq-eqb i clear e)

  -- a share with no bits has no marks
  marks_of-empty : (i : ℕ) → get_or sizes i 0 ≡ 0 → marks_of bits bases sizes clear i ≡ replicate (get_or sizes i 0) false
  unfolding marks_of get_share
  marks_of-empty i e = rw e (either (eqb i clear))
    where
      either : (b : Bool) → cond b (replicate 0 false) (take 0 (drop (get_or bases i 0) bits)) ≡ replicate 0 false
      either true = refl
      either false = refl

  module _ (h : Packs bits bases sizes clear) where
    marks_of-length : (i : ℕ) → i < 8 → length (marks_of bits bases sizes clear i) ≡ get_or sizes i 0
    marks_of-length i l = go (ℕ_discrete i clear) (ℕ_discrete (get_or sizes i 0) 0)
      where
        go : Dec (i ≡ clear) → Dec (get_or sizes i 0 ≡ 0) → length (marks_of bits bases sizes clear i) ≡ get_or sizes i 0
        go (yes e) z = rw (marks_of-clear i e) (length-replicate (get_or sizes i 0) false)
        go (no e) (yes z) = rw (marks_of-empty i z) (length-replicate (get_or sizes i 0) false)
        go (no e) (no z) = rw (marks_of-kept i e) (get_share-length bits (get_or bases i 0) (get_or sizes i 0) (h.inside i l e (omega arith)))

    pub joined_length : (n : ℕ) → n ≤ 8 → length (joined bits bases sizes clear n) ≡ new_base sizes n
    unfolding joined new_base
    joined_length zero l = refl
    joined_length (suc n) l = rw (length-append, joined_length n (omega arith), marks_of-length n (omega arith))

    -- as many bits as there were
    pub packed-length : length (packed bits bases sizes clear) ≡ length bits
    unfolding packed
    packed-length = padded-length (length bits) (joined bits bases sizes clear 8) (omega (arith, joined_length 8 (omega arith), h.fits))

    joined_at : (n : ℕ) → n ≤ 8 → (rest : List Bool) (i : ℕ) → i < n
        → get_share (joined bits bases sizes clear n ++ rest) (new_base sizes i) (get_or sizes i 0) ≡ marks_of bits bases sizes clear i
    unfolding joined get_share
    joined_at zero l rest i g = absurd (omega arith)
    joined_at (suc n) l rest i g = rw append_assoc (go (ℕ_discrete i n) (joined_at n (omega arith) (marks_of bits bases sizes clear n ++ rest) i))
      where
        go : Dec (i ≡ n)
            → (i < n → get_share (joined bits bases sizes clear n ++ (marks_of bits bases sizes clear n ++ rest)) (new_base sizes i) (get_or sizes i 0) ≡ marks_of bits bases sizes clear i)
            → get_share (joined bits bases sizes clear n ++ (marks_of bits bases sizes clear n ++ rest)) (new_base sizes i) (get_or sizes i 0) ≡ marks_of bits bases sizes clear i
        go (yes e) ih =
            rw (e, drop_at (joined bits bases sizes clear n) (marks_of bits bases sizes clear n ++ rest) (new_base sizes n) (joined_length n (omega arith)))
            (take_at (marks_of bits bases sizes clear n) rest (get_or sizes n 0) (marks_of-length n (omega arith)))
        go (no e) ih = ih (omega arith)

    packed-at : (i : ℕ) → i < 8 → get_share (packed bits bases sizes clear) (new_base sizes i) (get_or sizes i 0) ≡ marks_of bits bases sizes clear i
    unfolding packed padded
    packed-at i l = joined_at 8 (omega arith) (replicate (length bits - length (joined bits bases sizes clear 8)) false) i l

    -- a share that is kept has its marks, at its new place
    pub packed-kept : (i : ℕ) → i < 8 → (i ≡ clear → ⊥)
        → get_share (packed bits bases sizes clear) (new_base sizes i) (get_or sizes i 0) ≡ get_share bits (get_or bases i 0) (get_or sizes i 0)
    packed-kept i l ne = packed-at i l ∙ marks_of-kept i ne

    -- the one to be cleared has none
    pub packed-clear : clear < 8 → get_share (packed bits bases sizes clear) (new_base sizes clear) (get_or sizes clear 0) ≡ replicate (get_or sizes clear 0) false
    packed-clear l = packed-at clear l ∙ marks_of-clear clear refl

    -- and none stands behind the last share
    pub packed-behind : drop (new_base sizes 8) (packed bits bases sizes clear) ≡ replicate (length bits - new_base sizes 8) false
    unfolding packed padded
    packed-behind =
        let e : length (joined bits bases sizes clear 8) ≡ new_base sizes 8 = joined_length 8 (omega arith) in
        rw e (drop_at (joined bits bases sizes clear 8) (replicate (length bits - new_base sizes 8) false) (new_base sizes 8) e)

    -- nor past the bits
    pub packed-behind-at : (k : ℕ) → new_base sizes 8 ≤ k → get_or (packed bits bases sizes clear) k false ≡ false
    packed-behind-at k g =
        let e : k ≡ new_base sizes 8 + (k - new_base sizes 8) = omega arith in
        ap (λ (x : ℕ). get_or (packed bits bases sizes clear) x false) e ∙ sym (get_or-drop (new_base sizes 8) (packed bits bases sizes clear) (k - new_base sizes 8) false)
        ∙ ap (λ (l : List Bool). get_or l (k - new_base sizes 8) false) packed-behind ∙ clear_at (length bits - new_base sizes 8) (k - new_base sizes 8)

-- only the marks of the kept shares matter: not the bits outside them, and not where the share to be cleared was
module _ (bits bits' : List Bool) (bases bases' sizes : List ℕ) (clear : ℕ) where
  joined-ext : (n : ℕ) → n ≤ 8 → ((i : ℕ) → i < 8 → (i ≡ clear → ⊥) → get_share bits (get_or bases i 0) (get_or sizes i 0) ≡ get_share bits' (get_or bases' i 0) (get_or sizes i 0))
      → joined bits bases sizes clear n ≡ joined bits' bases' sizes clear n
  unfolding joined
  joined-ext zero h f = refl
  joined-ext (suc n) h f = ap₂ (λ (x y : List Bool). x ++ y) (joined-ext n (omega arith) f) (go (ℕ_discrete n clear))
    where
      go : Dec (n ≡ clear) → marks_of bits bases sizes clear n ≡ marks_of bits' bases' sizes clear n
      go (yes e) = marks_of-clear bits bases sizes clear n e ∙ sym (marks_of-clear bits' bases' sizes clear n e)
      go (no e) = marks_of-kept bits bases sizes clear n e ∙ f n (omega arith) e ∙ sym (marks_of-kept bits' bases' sizes clear n e)

  pub packed-ext : length bits ≡ length bits'
      → ((i : ℕ) → i < 8 → (i ≡ clear → ⊥) → get_share bits (get_or bases i 0) (get_or sizes i 0) ≡ get_share bits' (get_or bases' i 0) (get_or sizes i 0))
      → packed bits bases sizes clear ≡ packed bits' bases' sizes clear
  unfolding packed
  packed-ext e f = ap₂ padded e (joined-ext 8 (omega arith) f)

-- ---- the loop of `pack`: l has the first i shares packed, and the next goes to `to`
pub record Packing (bits : List Bool) (bases sizes : List ℕ) (clear : ℕ) (l : List Bool) (to i : ℕ) : Type 0 where
  pub marks : l ≡ padded (length bits) (joined bits bases sizes clear i)
  pub next : to ≡ new_base sizes i
  pub most : i ≤ 8

module _ (bits : List Bool) (bases sizes : List ℕ) (clear : ℕ) where
  pub packing-none : (n : ℕ) → length bits ≡ 64 * n → Packing bits bases sizes clear (flat (replicate n 0)) 0 0
  unfolding padded joined new_base
  packing-none n e = let q : 64 * n ≡ length bits - 0 = omega arith in record { marks = flat-zeros n ∙ ap (λ (x : ℕ). replicate x false) q; next = refl; most = omega arith }

  pub packing-all : {l : List Bool} {to i : ℕ} → Packing bits bases sizes clear l to i → 8 ≤ i → l ≡ packed bits bases sizes clear
  unfolding packed
  packing-all {l} {to} {i} p g = let e : i ≡ 8 = omega (arith, p.most) in p.marks ∙ rw e

  module _ (h : Packs bits bases sizes clear) {l : List Bool} {to i : ℕ} (p : Packing bits bases sizes clear l to i) (g : i < 8) where
    -- the next share fits
    pub packing-fits : to + get_or sizes i 0 ≤ length bits
    packing-fits = omega (arith, p.next, h.fits, new_base-next sizes i 8 g)

    room : length (joined bits bases sizes clear i) + get_or sizes i 0 ≤ length bits
    room = omega (arith, p.next, packing-fits, joined_length bits bases sizes clear h i (omega arith))

    next' : to + get_or sizes i 0 ≡ new_base sizes (i + 1)
    next' = ap (λ (x : ℕ). x + get_or sizes i 0) p.next ∙ sym (new_base-more sizes i)

    -- it is copied
    pub packing-kept : (l' : List Bool) → (i ≡ clear → ⊥) → l' ≡ put_share l to (get_share bits (get_or bases i 0) (get_or sizes i 0)) → Packing bits bases sizes clear l' (to + get_or sizes i 0) (i + 1)
    unfolding joined
    packing-kept l' ne e = record {
      marks =
          let q = marks_of bits bases sizes clear i in
          let n : to ≡ length (joined bits bases sizes clear i) = p.next ∙ sym (joined_length bits bases sizes clear h i (omega arith)) in
          let m : length q ≡ get_or sizes i 0 = marks_of-length bits bases sizes clear h i g in
          e ∙ rw (p.marks, n, ← marks_of-kept bits bases sizes clear i ne) (padded-put (length bits) (joined bits bases sizes clear i) q (omega (arith, room)) ∙ sym (rw add-one));
      next = next';
      most = omega arith;
    }

    -- it is passed over: its marks are clear
    passed : (l' : List Bool) → marks_of bits bases sizes clear i ≡ replicate (get_or sizes i 0) false → l' ≡ l → Packing bits bases sizes clear l' (to + get_or sizes i 0) (i + 1)
    unfolding joined
    passed l' q e = record {
      marks = e ∙ p.marks ∙ padded-clear (length bits) (joined bits bases sizes clear i) (get_or sizes i 0) room ∙ sym (rw (add-one, q));
      next = next';
      most = omega arith;
    }

    pub packing-clear : (l' : List Bool) → i ≡ clear → l' ≡ l → Packing bits bases sizes clear l' (to + get_or sizes i 0) (i + 1)
    packing-clear l' q e = passed l' (marks_of-clear bits bases sizes clear i q) e

    pub packing-empty : (l' : List Bool) → get_or sizes i 0 ≡ 0 → l' ≡ l → Packing bits bases sizes clear l' (to + get_or sizes i 0) (i + 1)
    packing-empty l' q e = passed l' (marks_of-empty bits bases sizes clear i q) e

-- ---- the loop of `new_bases`
pub bases-turn : (sizes bases : List ℕ) (to i : ℕ) → i < length bases → take i bases ≡ first_bases sizes i → to ≡ new_base sizes i
    → take (i + 1) (set bases i to) ≡ first_bases sizes (i + 1)
unfolding first_bases
bases-turn sizes bases to i h e q = rw (add-one, take-suc-set bases i to, e, q)

-- ---- a loop that copies words one by one, for callers
pub words-turn : (dst src : List ℕ) (i : ℕ) → i < length dst → i < length src → take i dst ≡ take i src → take (i + 1) (set dst i (get_or src i 0)) ≡ take (i + 1) src
words-turn dst src i h g e = rw (add-one, take-suc-set dst i (get_or src i 0), take-suc src i 0, e)
