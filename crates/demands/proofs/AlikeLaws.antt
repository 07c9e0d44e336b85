-- W9: marks in words and marks in bytes that are the same, bit by byte, and that what the calls do to marks leaves them so. Assumes nothing.
use mathlib.Core.Path.{◌≡◌, refl, sym, ap, ap₂, ◌∙◌}
use mathlib.Core.Bool.{Bool, true, false, ◌&&◌, ◌||◌, not, cond}
use mathlib.Core.List.{List, [], ◌∷◌, ◌++◌, map}
use Prim.Native.Nat.{ℕ, zero, suc, ◌+◌, ◌-◌, ◌*◌, ◌≤◌, ◌<◌}
use native.Mathlib.Omega.{arith}
use lib.Dec.{eqb}
use lib.ListN.{length, take, drop, get_or, replicate, length-map, length-append, length-replicate}
use lib.Seq.{drop-drop}
use borrow.Author.Tests.{ne_eqb}
use Rattle.bits.specs.Flat.{flat}
use Rattle.bits.specs.Span.{fill}
use Rattle.bits.specs.Share.{get_share, put_share}
use Rattle.bits.proofs.Flat.{flat-length}
use Rattle.bits.proofs.Span.{fill-whole}
use Rattle.bits.proofs.Share.{get_share-length, fill-share}
use Rattle.pool.specs.Pool.{new_base, packed, padded, joined, Packs}
use Rattle.pool.specs.Pool as pool
use Rattle.pool.proofs.Pool.{joined_length}
use Rattle.rules.specs.Lists.{join}
use Rattle.rules.specs.Settings.{mark_words}
use Rattle.rules.specs.Units.{Unit, Write, touches, mark, pending}
use Rattle.rules.specs.Report.{runs, reported_runs, clear_first, marks_left}
use Rattle.rules.proofs.ListLaws.{join-take-drop}
use Rattle.rules.proofs.RunLaws.{runs-join, clear_first-length}
use Rattle.rules.proofs.UnitLaws.{mark-length}
use Rattle.plain_marks.specs.Plain.{mark_of, marks_of, mark_bytes, clear_bytes}
use Rattle.calls.specs.Calls.{in_words, marks_at, with_marks, with_clear, packed_words}
use Rattle.plain.specs.Bytes.{cleared_bytes, joined_bytes, packed_bytes, in_bytes}
use Rattle.demands.proofs.MarkLaws.{put-flat, clear-flat, packs-flat}

-- bit i is set exactly if byte i is not 0
abbrev pub Alike : List ℕ → List ℕ → Type 0
Alike ws bs = flat ws ≡ map mark_of bs

-- ---- lists

map-take : {A B : Type 0} (f : A → B) (n : ℕ) (xs : List A) → take n (map f xs) ≡ map f (take n xs)
map-take f zero xs = refl
map-take f (suc n) [] = refl
map-take f (suc n) (x ∷ xs) = ap (λ l. f x ∷ l) (map-take f n xs)

map-drop : {A B : Type 0} (f : A → B) (n : ℕ) (xs : List A) → drop n (map f xs) ≡ map f (drop n xs)
map-drop f zero xs = refl
map-drop f (suc n) [] = refl
map-drop f (suc n) (x ∷ xs) = map-drop f n xs

map-append : {A B : Type 0} (f : A → B) (xs ys : List A) → map f (xs ++ ys) ≡ map f xs ++ map f ys
map-append f [] ys = refl
map-append f (x ∷ xs) ys = ap (λ l. f x ∷ l) (map-append f xs ys)

pub map-replicate : {A B : Type 0} (f : A → B) (n : ℕ) (a : A) → map f (replicate n a) ≡ replicate n (f a)
map-replicate f zero a = refl
map-replicate f (suc n) a = ap (λ l. f a ∷ l) (map-replicate f n a)

-- ---- a byte

mark-of : (t : Bool) (b : ℕ) → mark_of (cond (t && eqb b 0) 1 b) ≡ (mark_of b || t)
mark-of true zero = refl
mark-of true (suc b) =
    let e = ne_eqb (suc b) 0 (λ z. absurd (omega arith)) in
    ap (λ (c : Bool). mark_of (cond c 1 (suc b))) e ∙ ap not e ∙ sym (ap (λ (c : Bool). not c || true) e)
mark-of false zero = refl
mark-of false (suc b) = rw (ne_eqb (suc b) 0 (λ z. absurd (omega arith)))

-- the marks of units after a write, and those of the bytes behind them
mark_bytes-marks : (w : Write) (us : List Unit) (bs : List ℕ) → map mark_of (mark_bytes w us bs) ≡ mark w us (map mark_of (take (length us) bs)) ++ map mark_of (drop (length us) bs)
mark_bytes-marks w [] bs = refl
mark_bytes-marks w (u ∷ us) [] = refl
mark_bytes-marks w (u ∷ us) (b ∷ bs) = ap₂ (λ x y. x ∷ y) (mark-of (touches w u) b) (mark_bytes-marks w us bs)

clear_bytes-marks : (m : ℕ) (bs : List ℕ) → map mark_of (clear_bytes m bs) ≡ clear_first m (map mark_of bs)
clear_bytes-marks zero bs = refl
clear_bytes-marks (suc m) [] = refl
clear_bytes-marks (suc m) (zero ∷ bs) = ap (λ l. false ∷ l) (clear_bytes-marks (suc m) bs)
clear_bytes-marks (suc m) (suc b ∷ bs) = rw (ne_eqb (suc b) 0 (λ z. absurd (omega arith))) (ap (λ l. false ∷ l) (clear_bytes-marks m bs))

-- where no more are made clear than are pending among the first units, those behind them stay
clear_first-front : (m : ℕ) (us : List Unit) (p q : List Bool) → length p ≡ length us → m ≤ length (pending us p) → clear_first m (p ++ q) ≡ clear_first m p ++ q
clear_first-front zero us p q e h = refl
clear_first-front (suc m) [] [] q e h = absurd (omega arith)
clear_first-front (suc m) [] (b ∷ p) q e h = absurd (omega arith)
clear_first-front (suc m) (u ∷ us) [] q e h = absurd (omega arith)
clear_first-front (suc m) (u ∷ us) (true ∷ p) q e h = ap (λ l. false ∷ l) (clear_first-front m us p q (omega arith) (omega arith))
clear_first-front (suc m) (u ∷ us) (false ∷ p) q e h = ap (λ l. false ∷ l) (clear_first-front (suc m) us p q (omega arith) h)

-- ---- marks that are the same

module _ (ws bs : List ℕ) (same : Alike ws bs) where
  pub same-marks : (base n : ℕ) → marks_at ws base n ≡ marks_of bs base n
  unfolding get_share
  same-marks base n = ap (λ l. take n (drop base l)) same ∙ ap (take n) (map-drop mark_of base bs) ∙ map-take mark_of n (drop base bs)

  same-front : (base : ℕ) → take base (flat ws) ≡ map mark_of (take base bs)
  same-front base = ap (take base) same ∙ map-take mark_of base bs

  same_rest : (base : ℕ) → drop base (flat ws) ≡ map mark_of (drop base bs)
  same_rest base = ap (drop base) same ∙ map-drop mark_of base bs

  module _ (whole : length ws ≡ mark_words) where
    bits : length (flat ws) ≡ 64 * mark_words
    bits = flat-length ws ∙ rw whole

    -- a share that is put, beside bytes that are made anew from its base on
    same-put : (base : ℕ) (p : List Bool) (new : List ℕ) → base + length p ≤ 64 * mark_words → map mark_of new ≡ p ++ map mark_of (drop (length p) (drop base bs))
        → Alike (with_marks ws base p) (take base bs ++ new)
    unfolding put_share
    same-put base p new h e =
        put-flat ws whole base p h
        ∙ ap₂ (λ a b. a ++ (p ++ b)) (same-front base) (same_rest (base + length p) ∙ ap (map mark_of) (sym (drop-drop (length p) base bs)))
        ∙ ap (λ l. map mark_of (take base bs) ++ l) (sym e)
        ∙ sym (map-append mark_of (take base bs) new)

    module _ (base : ℕ) (us : List Unit) (h : base + length us ≤ 64 * mark_words) where
      abbrev p : List Bool
      p = marks_at ws base (length us)

      sized : length p ≡ length us
      sized = get_share-length (flat ws) base (length us) (omega (arith, bits, h))

      pub same-marked : (w : Write) → Alike (in_words.marked ws base w us) (in_bytes.marked bs base w us)
      same-marked w =
          let n : length (mark w us p) ≡ length us = mark-length w us p sized in
          same-put base (mark w us p) (mark_bytes w us (drop base bs)) (omega (arith, n, h))
          (mark_bytes-marks w us (drop base bs)
          ∙ ap₂ (λ a k. mark w us a ++ map mark_of (drop k (drop base bs))) (sym (same-marks base (length us))) (sym n))

      pub same-reported : (k : ℕ) → Alike (in_words.reported ws base k us) (in_bytes.reported bs base k us)
      same-reported k =
          let m = length (join (reported_runs k us p)) in
          let n : length (clear_first m p) ≡ length us = clear_first-length m p ∙ sized in
          let q = pending us p in
          let few : m ≤ length q = omega (arith, length-append (join (take k (runs q))) (join (drop k (runs q))), ap length (join-take-drop k (runs q)), ap length (runs-join q)) in
          let rest = drop (length us) (drop base bs) in
          let parts : map mark_of (drop base bs) ≡ p ++ map mark_of rest = front_rest (length us) (drop base bs) ∙ ap (λ l. l ++ map mark_of rest) (sym (same-marks base (length us))) in
          same-put base (clear_first m p) (clear_bytes m (drop base bs)) (omega (arith, n, h))
          (clear_bytes-marks m (drop base bs) ∙ ap (clear_first m) parts ∙ clear_first-front m us p (map mark_of rest) sized few ∙ ap (λ j. clear_first m p ++ map mark_of (drop j (drop base bs))) (sym n))
          ∙ ap (λ z. map mark_of (take base bs ++ clear_bytes (length (join (reported_runs k us z))) (drop base bs))) (same-marks base (length us))
        where
          front_rest : (n : ℕ) (l : List ℕ) → map mark_of l ≡ map mark_of (take n l) ++ map mark_of (drop n l)
          front_rest zero l = refl
          front_rest (suc n) [] = refl
          front_rest (suc n) (x ∷ l) = ap (λ z. mark_of x ∷ z) (front_rest n l)

    pub same-cleared : (base n : ℕ) → base + n ≤ 64 * mark_words → Alike (in_words.cleared ws base n) (in_bytes.cleared bs base n)
    unfolding cleared_bytes put_share
    same-cleared base n h =
        let long : length (get_share (flat ws) base n) ≡ n = get_share-length (flat ws) base n (omega (arith, bits, h)) in
        let filled : fill false (get_share (flat ws) base n) 0 n ≡ replicate n false =
        fill-whole false (get_share (flat ws) base n) n (omega (arith, long)) ∙ ap (λ k. replicate k false) long in
        clear-flat ws whole base n h
        ∙ ap (λ k. fill false (flat ws) k n) (omega arith)
        ∙ fill-share (flat ws) base n (omega (arith, bits, h)) false 0 n (omega arith)
        ∙ ap (put_share (flat ws) base) filled
        ∙ ap₂ (λ a b. a ++ (replicate n false ++ b)) (same-front base) (ap (λ k. drop (base + k) (flat ws)) (length-replicate n false) ∙ same_rest (base + n))
        ∙ ap (λ l. map mark_of (take base bs) ++ (l ++ map mark_of (drop (base + n) bs))) (sym (map-replicate mark_of n 0))
        ∙ ap (λ l. map mark_of (take base bs) ++ l) (sym (map-append mark_of (replicate n 0) (drop (base + n) bs)))
        ∙ sym (map-append mark_of (take base bs) (replicate n 0 ++ drop (base + n) bs))

    module _ (bases sizes : List ℕ) (i : ℕ) where
      same-joined : (n : ℕ) → joined (flat ws) bases sizes i n ≡ map mark_of (joined_bytes bs bases sizes i n)
      unfolding joined joined_bytes pool.marks_of
      same-joined zero = refl
      same-joined (suc n) =
          ap₂ (λ a b. a ++ b) (same-joined n) (go (eqb n i))
          ∙ sym (map-append mark_of (joined_bytes bs bases sizes i n) (cond (eqb n i) (replicate (get_or sizes n 0) 0) (take (get_or sizes n 0) (drop (get_or bases n 0) bs))))
        where
          go : (b : Bool) → cond b (replicate (get_or sizes n 0) false) (marks_at ws (get_or bases n 0) (get_or sizes n 0)) ≡ map mark_of (cond b (replicate (get_or sizes n 0) 0) (take (get_or sizes n 0) (drop (get_or bases n 0) bs)))
          go true = sym (map-replicate mark_of (get_or sizes n 0) 0)
          go false = same-marks (get_or bases n 0) (get_or sizes n 0)

      pub same-packed : Packs (flat ws) bases sizes i → Alike (in_words.packed ws bases sizes i) (in_bytes.packed bs bases sizes i)
      unfolding packed padded packed_bytes
      same-packed packs =
          let long : length (flat ws) ≡ length bs = ap length same ∙ length-map bs mark_of in
          packs-flat ws whole bases sizes i packs
          ∙ ap₂ (λ a k. a ++ replicate k false) (same-joined 8) (ap₂ (λ a b. a - b) long (joined_length (flat ws) bases sizes i packs 8 (omega arith)))
          ∙ ap (λ l. map mark_of (joined_bytes bs bases sizes i 8) ++ l) (sym (map-replicate mark_of (length bs - new_base sizes 8) 0))
          ∙ sym (map-append mark_of (joined_bytes bs bases sizes i 8) (replicate (length bs - new_base sizes 8) 0))
