-- Laws of the loops of `pack`: bytes that are filled unit by unit, share by share, over bytes that are 0. Assumes nothing.
use mathlib.Core.Path.{◌≡◌, refl, sym, ap, ◌∙◌}
use mathlib.Core.Logic.{◌≢◌}
use mathlib.Core.Bool.{Bool, true, false, cond}
use mathlib.Core.List.{List, [], ◌∷◌, ◌++◌, append_assoc, append-nil}
use Prim.Native.Nat.{ℕ, suc, ◌+◌, ◌-◌, ◌≤◌, ◌<◌}
use native.Mathlib.Omega.{arith}
use native.Mathlib.Numerals.{add-one}
use lib.Dec.{eqb}
use lib.ListN.{length, get_or, set, take, drop, replicate, length-append, length-drop, length-replicate, replicate-append-replicate}
use lib.Seq.{take-suc, get_or-drop, set-append_seam}
use borrow.Author.Tests.{eq-eqb, ne_eqb}
use Rattle.pool.specs.Pool.{new_base, Packs}
use Rattle.pool.proofs.Pool.{new_base-more, new_base-next}
use Rattle.plain.specs.Bytes.{joined_bytes, packed_bytes}

module _ (bs bases sizes : List ℕ) (new : ℕ) where
  -- the bytes of the first n units of the share at place i
  abbrev part_of : ℕ → ℕ → List ℕ
  part_of i n = cond (eqb i new) (replicate n 0) (take n (drop (get_or bases i 0) bs))

  part_none : (i : ℕ) → part_of i 0 ≡ []
  part_none i = go (eqb i new)
    where
      go : (b : Bool) → cond b (replicate 0 0) (take 0 (drop (get_or bases i 0) bs)) ≡ []
      go true = refl
      go false = refl

  part-kept : (i unit : ℕ) → i ≢ new → get_or bases i 0 + unit < length bs → part_of i (unit + 1) ≡ part_of i unit ++ (get_or bs (get_or bases i 0 + unit) 0 ∷ [])
  part-kept i unit n h =
      rw (ne_eqb i new n, add-one)
      (take-suc (drop (get_or bases i 0) bs) unit 0 (omega (arith, h, length-drop (get_or bases i 0) bs))
      ∙ ap (λ v. take unit (drop (get_or bases i 0) bs) ++ (v ∷ [])) (get_or-drop (get_or bases i 0) bs unit 0))

  part-clear : (i unit : ℕ) → i ≡ new → part_of i (unit + 1) ≡ part_of i unit ++ (0 ∷ [])
  part-clear i unit e = rw (eq-eqb i new e) (sym (replicate-append-replicate unit 1 0))

  -- l has the first i shares packed, and of the share at place i the first units; the next goes to `place`, and every byte from there on is 0
  pub record Packing (l : List ℕ) (place i unit : ℕ) : Type 0 where
    pub bytes : l ≡ (joined_bytes bs bases sizes new i ++ part_of i unit) ++ replicate (length bs - place) 0
    pub placed : length (joined_bytes bs bases sizes new i ++ part_of i unit) ≡ place
    pub next : place ≡ new_base sizes i + unit

  pub packing-none : (n : ℕ) → length bs ≡ n → Packing (replicate n 0) 0 0 0
  unfolding joined_bytes new_base
  packing-none n e =
      let q : n ≡ length bs - 0 = omega arith in
      record {
        bytes = rw (part_none 0) (ap (λ k. replicate k 0) q);
        placed = rw (part_none 0);
        next = refl;
      }

  module _ {l : List ℕ} {place i unit : ℕ} (p : Packing l place i unit) where
    pub packing-length : place ≤ length bs → length l ≡ length bs
    packing-length h =
        ap length p.bytes ∙ length-append (joined_bytes bs bases sizes new i ++ part_of i unit) (replicate (length bs - place) 0)
        ∙ omega (arith, p.placed, length-replicate {A = ℕ} (length bs - place) 0, h)

    -- one unit more, whose byte is v
    module _ (h : place < length bs) (v : ℕ) where
      abbrev k : ℕ
      k = length bs - (place + 1)

      abbrev front : List ℕ
      front = joined_bytes bs bases sizes new i ++ part_of i unit

      stored : set l place v ≡ front ++ (v ∷ replicate k 0)
      stored =
          let q : length bs - place ≡ suc k = omega (arith, h) in
          ap (λ x. set x place v) (p.bytes ∙ ap (λ n. front ++ replicate n 0) q)
          ∙ ap (λ n. set (front ++ (0 ∷ replicate k 0)) n v) (sym p.placed) ∙ set-append_seam front 0 (replicate k 0) v

      more : part_of i (unit + 1) ≡ part_of i unit ++ (v ∷ []) → Packing (set l place v) (place + 1) i (unit + 1)
      more e =
          let f : joined_bytes bs bases sizes new i ++ part_of i (unit + 1) ≡ front ++ (v ∷ []) =
          ap (λ x. joined_bytes bs bases sizes new i ++ x) e ∙ sym (append_assoc (joined_bytes bs bases sizes new i) (part_of i unit) (v ∷ [])) in
          record {
            bytes = stored ∙ sym (append_assoc front (v ∷ []) (replicate k 0)) ∙ ap (λ x. x ++ replicate k 0) (sym f);
            placed = ap length f ∙ length-append front (v ∷ []) ∙ omega (arith, p.placed);
            next = omega (arith, p.next);
          }

    pub packing-kept : place < length bs → i ≢ new → get_or bases i 0 + unit < length bs → Packing (set l place (get_or bs (get_or bases i 0 + unit) 0)) (place + 1) i (unit + 1)
    packing-kept h n g = more h (get_or bs (get_or bases i 0 + unit) 0) (part-kept i unit n g)

    -- a byte that is to be 0 is 0 already
    pub packing-clear : place < length bs → i ≡ new → Packing l (place + 1) i (unit + 1)
    packing-clear h e = rw same at (more h 0 (part-clear i unit e))
      where
        same : set l place 0 ≡ l
        same =
            let q : length bs - place ≡ suc (length bs - (place + 1)) = omega (arith, h) in
            stored h 0 ∙ sym (p.bytes ∙ ap (λ n. (joined_bytes bs bases sizes new i ++ part_of i unit) ++ replicate n 0) q)

    -- the next unit's place, and where it was, are within the bytes
    module _ (s : Packs bs bases sizes new) (g : i < 8) (u : unit < get_or sizes i 0) where
      pub packing-room : place < length bs
      packing-room = omega (arith, p.next, s.fits, new_base-next sizes i 8 g, u)

      pub packing-there : i ≢ new → get_or bases i 0 + unit < length bs
      packing-there n = omega (arith, s.inside i g n (omega (arith, u)), u)

    -- a share is whole
    pub packing-share : unit ≡ get_or sizes i 0 → Packing l place (i + 1) 0
    unfolding joined_bytes
    packing-share e =
        let f : joined_bytes bs bases sizes new (i + 1) ++ part_of (i + 1) 0 ≡ joined_bytes bs bases sizes new i ++ part_of i unit =
        ap (λ x. joined_bytes bs bases sizes new (i + 1) ++ x) (part_none (i + 1)) ∙ append-nil (joined_bytes bs bases sizes new (i + 1)) ∙ rw (add-one, e) in
        record {
          bytes = p.bytes ∙ ap (λ x. x ++ replicate (length bs - place) 0) (sym f);
          placed = ap length f ∙ p.placed;
          next = omega (arith, p.next, new_base-more sizes i, e);
        }

  -- all are
  pub packing-all : {l : List ℕ} {place i : ℕ} → Packing l place i 0 → i ≡ 8 → l ≡ packed_bytes bs bases sizes new
  unfolding packed_bytes
  packing-all {l} {place} {i} p e =
      let q : place ≡ new_base sizes 8 = p.next ∙ rw e (omega arith) in
      p.bytes ∙ rw (e, part_none 8, append-nil, q)
