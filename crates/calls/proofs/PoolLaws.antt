-- Laws of the pool (W7): the share at a place, one that is replaced, and shares that are packed. Assumes nothing.
use mathlib.Core.Path.{◌≡◌, refl, sym, ap, ◌∙◌}
use mathlib.Core.Logic.{◌≢◌, ◌⊎◌, inl, inr}
use mathlib.Core.Bool.{Bool, true, false, cond}
use mathlib.Core.List.{List, [], ◌∷◌, ◌++◌, map}
use Rattle.std.specs.declared.option.Option.{Option}
use Rattle.std.specs.declared.option.Option.TheVariants.{None, Some}
use Prim.Native.Nat.{ℕ, zero, suc, ◌+◌, ◌-◌, ◌≤◌, ◌<◌}
use native.Mathlib.Omega.{arith}
use lib.Dec.{leb, eqb}
use lib.ListN.{length, get_or, set, take, replicate, length-map, length-set, length-append, length-replicate}
use lib.Seq.{get_or-set_other, length-take-le}
use borrow.Author.Tests.{eqb-true, eqb-false, leb-true, leb-false}
use Rattle.bits.specs.Flat.{flat}
use Rattle.bits.proofs.Flat.{flat-length}
use Rattle.pool.specs.Pool.{new_base, Packs}
use Rattle.pool.proofs.Pool.{new_base-next}
use Rattle.rules.specs.Lists.{sum}
use Rattle.rules.specs.Settings.{mark_words, most_units}
use Rattle.rules.specs.Device.{Held, held_units, held_of, sound_device, controllers_of, no_share, share_in, share_of, shares_of, shares_ok}
use Rattle.rules.specs.declared.Share.{Share}
use Rattle.rules.specs.declared.Tracking.TheVariants.{Off, On}
use Rattle.rules.specs.declared.Controller.{Controller}
use Rattle.rules.specs.declared.Device.{Device}
use Rattle.rules.proofs.ListLaws.{map-set}
use Rattle.record.proofs.RecordLaws.{shares_of-at, shares_of-sizes, sound_device-facts, sound_device-shares}
use Rattle.rules.proofs.HeldLaws.{lie}
use Rattle.record.specs.Record.{no_controller, with_controller, units_of}
use Rattle.calls.specs.Calls.{bases_of, sizes_of, with_base, packed_from, packed_device}

-- ---- lists

pub get_d_map : {A B : Type 0} (f : A → B) (xs : List A) (i : ℕ) (a : A) (b : B) → f a ≡ b → get_or (map f xs) i b ≡ f (get_or xs i a)
get_d_map f [] i a b e = sym e
get_d_map f (x ∷ xs) zero a b e = refl
get_d_map f (x ∷ xs) (suc i) a b e = get_d_map f xs i a b e

get_d_front : {A : Type 0} (xs ys : List A) (i : ℕ) (d : A) → i < length xs → get_or (xs ++ ys) i d ≡ get_or xs i d
get_d_front [] ys i d h = absurd (omega arith)
get_d_front (x ∷ xs) ys zero d h = refl
get_d_front (x ∷ xs) ys (suc i) d h = get_d_front xs ys i d (omega arith)

get_d-rest : {A : Type 0} (xs : List A) (n i : ℕ) (d : A) → length xs ≤ i → get_or (xs ++ replicate n d) i d ≡ d
get_d-rest [] zero i d h = refl
get_d-rest [] (suc n) zero d h = refl
get_d-rest [] (suc n) (suc i) d h = get_d-rest [] n i d (omega arith)
get_d-rest (x ∷ xs) n zero d h = absurd (omega arith)
get_d-rest (x ∷ xs) n (suc i) d h = get_d-rest xs n i d (omega arith)

set_front : {A : Type 0} (xs ys : List A) (i : ℕ) (x : A) → i < length xs → set (xs ++ ys) i x ≡ set xs i x ++ ys
set_front [] ys i x h = absurd (omega arith)
set_front (y ∷ xs) ys zero x h = refl
set_front (y ∷ xs) ys (suc i) x h = ap (λ l. y ∷ l) (set_front xs ys i x (omega arith))

pub take-set : {A : Type 0} (xs : List A) (n i : ℕ) (x : A) → take n (set xs i x) ≡ set (take n xs) i x
take-set [] zero i x = refl
take-set [] (suc n) i x = refl
take-set (y ∷ xs) zero i x = refl
take-set (y ∷ xs) (suc n) zero x = refl
take-set (y ∷ xs) (suc n) (suc i) x = ap (λ l. y ∷ l) (take-set xs n i x)

-- ---- the shares of a record

-- a share has a bit for each unit
pub share-size : (c : Controller) → (share_of c).size ≡ held_units (held_of c)
share-size c = go (held_of c)
  where
    go : (o : Option Held) → (share_in c.base o).size ≡ held_units o
    go None = refl
    go (Some x) = refl

module _ (d : Device) (eight : length d.controllers ≡ 8) (most : d.settings.count ≤ 8) where
  in_use : length (controllers_of d) ≡ d.settings.count
  in_use = length-take-le d.settings.count d.controllers (omega (arith, eight, most))

  shared : length (map share_of (controllers_of d)) ≡ d.settings.count
  shared = length-map (controllers_of d) share_of ∙ in_use

  pub shares_of-length : length (shares_of d) ≡ 8
  shares_of-length =
      length-append (map share_of (controllers_of d)) (replicate (8 - d.settings.count) no_share)
      ∙ omega (arith, shared, length-replicate (8 - d.settings.count) no_share, most)

  -- a place that is not in use has none
  pub shares_of-none : (j : ℕ) → d.settings.count ≤ j → get_or (shares_of d) j no_share ≡ no_share
  shares_of-none j h = get_d-rest (map share_of (controllers_of d)) (8 - d.settings.count) j no_share (omega (arith, shared))

  -- one that is replaced
  pub shares_of-with : (i : ℕ) (e : Controller) → i < d.settings.count → shares_of (with_controller d i e) ≡ set (shares_of d) i (share_of e)
  shares_of-with i e h =
      ap (λ l. map share_of l ++ replicate (8 - d.settings.count) no_share) (take-set d.controllers d.settings.count i e)
      ∙ ap (λ l. l ++ replicate (8 - d.settings.count) no_share) (map-set share_of (controllers_of d) i e)
      ∙ sym (set_front (map share_of (controllers_of d)) (replicate (8 - d.settings.count) no_share) i (share_of e) (omega (arith, shared)))

  pub sizes-with : (i : ℕ) (e : Controller) → i < d.settings.count → sizes_of (with_controller d i e) ≡ set (sizes_of d) i (held_units (held_of e))
  sizes-with i e h = ap (map (λ (a : Share). a.size)) (shares_of-with i e h) ∙ map-set (λ (a : Share). a.size) (shares_of d) i (share_of e) ∙ ap (set (sizes_of d) i) (share-size e)

  -- how many bits the share at a place has
  pub sizes_of-at : (j : ℕ) → j < d.settings.count → get_or (sizes_of d) j 0 ≡ held_units (held_of (get_or d.controllers j no_controller))
  sizes_of-at j h = get_d_map (λ (a : Share). a.size) (shares_of d) j no_share 0 refl ∙ ap (λ (a : Share). a.size) (shares_of-at d j h (omega (arith, h, most, eight))) ∙ share-size (get_or d.controllers j no_controller)

  pub sizes_of-share : (j : ℕ) → get_or (sizes_of d) j 0 ≡ (get_or (shares_of d) j no_share).size
  sizes_of-share j = get_d_map (λ (a : Share). a.size) (shares_of d) j no_share 0 refl

-- the share of a controller that is on begins at its base
pub base-at : (d : Device) → length d.controllers ≡ 8 → d.settings.count ≤ 8 → (j : ℕ) → j < d.settings.count → (g n : ℕ) → (get_or d.controllers j no_controller).tracking ≡ On g n
    → get_or (bases_of d) j 0 ≡ (get_or d.controllers j no_controller).base
base-at d eight most j h g n t =
    get_d_map (λ (a : Share). a.base) (shares_of d) j no_share 0 refl ∙ ap (λ (a : Share). a.base) (shares_of-at d j h (omega (arith, h, most, eight))) ∙ rw t

-- ---- packed

-- each place of a packed list: as it was where its share has no bits, and else with its share at its new place
abbrev pub packed_at : List ℕ → ℕ → Controller → Controller
packed_at sizes i c = cond (eqb (get_or sizes i 0) 0) c (with_base c (new_base sizes i))

pub packed_from-at : (sizes : List ℕ) (cs : List Controller) (k j : ℕ) → j < length cs → get_or (packed_from sizes k cs) j no_controller ≡ packed_at sizes (k + j) (get_or cs j no_controller)
packed_from-at sizes [] k j h = absurd (omega arith)
packed_from-at sizes (c ∷ cs) k zero h = ap (λ n. packed_at sizes n c) (omega arith)
packed_from-at sizes (c ∷ cs) k (suc j) h = packed_from-at sizes cs (suc k) j (omega arith) ∙ ap (λ n. packed_at sizes n (get_or cs j no_controller)) (omega arith)

pub packed_from-length : (sizes : List ℕ) (cs : List Controller) (k : ℕ) → length (packed_from sizes k cs) ≡ length cs
packed_from-length sizes [] k = refl
packed_from-length sizes (c ∷ cs) k = ap suc (packed_from-length sizes cs (suc k))

pub packed-at : (d : Device) (j : ℕ) → j < length d.controllers → get_or (packed_device d).controllers j no_controller ≡ packed_at (sizes_of d) j (get_or d.controllers j no_controller)
packed-at d j h = packed_from-at (sizes_of d) d.controllers 0 j h ∙ ap (λ n. packed_at (sizes_of d) n (get_or d.controllers j no_controller)) (omega arith)

module _ (d : Device) (eight : length d.controllers ≡ 8) (most : d.settings.count ≤ 8) where
  pub packed-eight : length (packed_device d).controllers ≡ 8
  packed-eight = packed_from-length (sizes_of d) d.controllers 0 ∙ eight

  -- packing leaves of a controller all but its place, and of a share its size
  pub packed_alike : (j : ℕ) (k : Controller) → ((packed_at (sizes_of d) j k).suspended ≡ k.suspended) × ((packed_at (sizes_of d) j k).tracking ≡ k.tracking) × ((packed_at (sizes_of d) j k).ranges ≡ k.ranges)
      × ((packed_at (sizes_of d) j k).queue ≡ k.queue) × ((packed_at (sizes_of d) j k).manager ≡ k.manager)
  packed_alike j k = go (eqb (get_or (sizes_of d) j 0) 0)
    where
      go : (b : Bool)
          → ((cond b k (with_base k (new_base (sizes_of d) j))).suspended ≡ k.suspended) × ((cond b k (with_base k (new_base (sizes_of d) j))).tracking ≡ k.tracking)
          × ((cond b k (with_base k (new_base (sizes_of d) j))).ranges ≡ k.ranges) × ((cond b k (with_base k (new_base (sizes_of d) j))).queue ≡ k.queue)
          × ((cond b k (with_base k (new_base (sizes_of d) j))).manager ≡ k.manager)
      go true = (refl, refl, refl, refl, refl)
      go false = (refl, refl, refl, refl, refl)

  pub packed-size : (j : ℕ) → j < 8 → (get_or (shares_of (packed_device d)) j no_share).size ≡ (get_or (shares_of d) j no_share).size
  packed-size j h = go (leb d.settings.count j) refl
    where
      go : (b : Bool) → leb d.settings.count j ≡ b → (get_or (shares_of (packed_device d)) j no_share).size ≡ (get_or (shares_of d) j no_share).size
      go true e =
          let u = leb-true d.settings.count j e in
          ap (λ (a : Share). a.size) (shares_of-none (packed_device d) packed-eight most j u ∙ sym (shares_of-none d eight most j u))
      go false e =
          let u : j < d.settings.count = leb-false d.settings.count j e in
          let a = packed_alike j (get_or d.controllers j no_controller) in
          ap (λ (a : Share). a.size) (shares_of-at (packed_device d) j u (omega (arith, h, packed-eight)))
          ∙ share-size (get_or (packed_device d).controllers j no_controller)
          ∙ ap (λ (k : Controller). held_units (held_of k)) (packed-at d j (omega (arith, h, eight)))
          ∙ rw (a.1, a.2, a.4) (sym (share-size (get_or d.controllers j no_controller)))
          ∙ sym (ap (λ (a : Share). a.size) (shares_of-at d j u (omega (arith, h, eight))))

  -- a share has as many bits as before, and begins at its new place if it has any
  pub packed-share : (j : ℕ) → j < 8 → 1 ≤ (get_or (shares_of (packed_device d)) j no_share).size
      → ((get_or (shares_of (packed_device d)) j no_share).size ≡ get_or (sizes_of d) j 0) × ((get_or (shares_of (packed_device d)) j no_share).base ≡ new_base (sizes_of d) j)
  packed-share j h = go (leb d.settings.count j) refl
    where
      c : Controller
      c = get_or d.controllers j no_controller

      held : (b : Bool) → eqb (get_or (sizes_of d) j 0) 0 ≡ b → get_or (sizes_of d) j 0 ≡ held_units (held_of c)
          → 1 ≤ (share_of (cond b c (with_base c (new_base (sizes_of d) j)))).size
          → ((share_of (cond b c (with_base c (new_base (sizes_of d) j)))).size ≡ get_or (sizes_of d) j 0) × ((share_of (cond b c (with_base c (new_base (sizes_of d) j)))).base ≡ new_base (sizes_of d) j)
      held true e f k = absurd (omega (arith, eqb-true (get_or (sizes_of d) j 0) 0 e, f, k, share-size c))
      held false e f k = based (held_of c) f k
        where
          based : (o : Option Held) → get_or (sizes_of d) j 0 ≡ held_units o → 1 ≤ (share_in (new_base (sizes_of d) j) o).size
              → ((share_in (new_base (sizes_of d) j) o).size ≡ get_or (sizes_of d) j 0) × ((share_in (new_base (sizes_of d) j) o).base ≡ new_base (sizes_of d) j)
          based None f k = absurd (omega (arith, k))
          based (Some x) f k = (sym f, refl)

      go : (b : Bool) → leb d.settings.count j ≡ b → 1 ≤ (get_or (shares_of (packed_device d)) j no_share).size
          → ((get_or (shares_of (packed_device d)) j no_share).size ≡ get_or (sizes_of d) j 0) × ((get_or (shares_of (packed_device d)) j no_share).base ≡ new_base (sizes_of d) j)
      go true e = λ k. absurd (omega (arith, k, ap (λ (a : Share). a.size) (shares_of-none (packed_device d) packed-eight most j (leb-true d.settings.count j e))))
      go false e =
          let u : j < d.settings.count = leb-false d.settings.count j e in
          rw (shares_of-at (packed_device d) j u (omega (arith, h, packed-eight)), packed-at d j (omega (arith, h, eight)))
          (held (eqb (get_or (sizes_of d) j 0) 0) refl (sizes_of-at d eight most j u))

  -- so packed shares are as they may be
  pub packed-ok : new_base (sizes_of d) 8 ≤ 16384 → shares_ok (shares_of (packed_device d)) ≡ true
  packed-ok fits =
      (lie (shares_of (packed_device d))).1
      (record {
        inside = λ i h k.
            let e = packed-share i (small i h) k in
            omega (arith, e.0, e.1, new_base-next (sizes_of d) i 8 (small i h), fits);
        apart = λ i j h k n x y.
            let e = packed-share i (small i h) x in
            let f = packed-share j (small j k) y in
            order i j n (new_base-next (sizes_of d)) e f;
      })
    where
      small : (i : ℕ) → i < length (shares_of (packed_device d)) → i < 8
      small i h = omega (arith, h, shares_of-length (packed_device d) packed-eight most)

      order : (i j : ℕ) → i ≢ j → ((i j : ℕ) → i < j → new_base (sizes_of d) i + get_or (sizes_of d) i 0 ≤ new_base (sizes_of d) j)
          → ((get_or (shares_of (packed_device d)) i no_share).size ≡ get_or (sizes_of d) i 0) × ((get_or (shares_of (packed_device d)) i no_share).base ≡ new_base (sizes_of d) i)
          → ((get_or (shares_of (packed_device d)) j no_share).size ≡ get_or (sizes_of d) j 0) × ((get_or (shares_of (packed_device d)) j no_share).base ≡ new_base (sizes_of d) j)
          → ((get_or (shares_of (packed_device d)) i no_share).base + (get_or (shares_of (packed_device d)) i no_share).size ≤ (get_or (shares_of (packed_device d)) j no_share).base)
          ⊎ ((get_or (shares_of (packed_device d)) j no_share).base + (get_or (shares_of (packed_device d)) j no_share).size ≤ (get_or (shares_of (packed_device d)) i no_share).base)
      order i j n next e f = go (leb j i) refl
        where
          go : (b : Bool) → leb j i ≡ b
              → ((get_or (shares_of (packed_device d)) i no_share).base + (get_or (shares_of (packed_device d)) i no_share).size ≤ (get_or (shares_of (packed_device d)) j no_share).base)
              ⊎ ((get_or (shares_of (packed_device d)) j no_share).base + (get_or (shares_of (packed_device d)) j no_share).size ≤ (get_or (shares_of (packed_device d)) i no_share).base)
          go true q = let l = leb-true j i q in inr (omega (arith, next j i (omega (arith, l, n)), e.1, f.0, f.1))
          go false q = let l = leb-false j i q in inl (omega (arith, next i j l, e.0, e.1, f.1))

-- a share that is taken away leaves the others as they may be
pub shares_less : (shares : List Share) (i : ℕ) → shares_ok shares ≡ true → shares_ok (set shares i no_share) ≡ true
shares_less shares i e =
    (lie (set shares i no_share)).1
    (record {
      inside = λ j h k. go j (eqb j i) refl h k;
      apart = λ j k h l n x y. pair j k (eqb j i) refl (eqb k i) refl h l n x y;
    })
  where
    size : length (set shares i no_share) ≡ length shares
    size = length-set shares i no_share

    old : (j : ℕ) → j ≢ i → get_or (set shares i no_share) j no_share ≡ get_or shares j no_share
    old j n = get_or-set_other shares i j no_share no_share n

    gone : (j : ℕ) → j ≡ i → (get_or (set shares i no_share) j no_share).size ≡ 0
    gone j e = taken shares i j e
      where
        taken : (xs : List Share) (i j : ℕ) → j ≡ i → (get_or (set xs i no_share) j no_share).size ≡ 0
        taken [] i j e = refl
        taken (x ∷ xs) zero zero e = refl
        taken (x ∷ xs) zero (suc j) e = absurd (omega (arith, e))
        taken (x ∷ xs) (suc i) zero e = absurd (omega (arith, e))
        taken (x ∷ xs) (suc i) (suc j) e = taken xs i j (omega (arith, e))

    go : (j : ℕ) (b : Bool) → eqb j i ≡ b → j < length (set shares i no_share) → 1 ≤ (get_or (set shares i no_share) j no_share).size
        → (get_or (set shares i no_share) j no_share).base + (get_or (set shares i no_share) j no_share).size ≤ 16384
    go j true q h = λ k. absurd (omega (arith, k, gone j (eqb-true j i q)))
    go j false q h = rw (old j (eqb-false j i q)) (λ k. ((lie shares).0 e).inside j (omega (arith, h, size)) k)

    pair : (j k : ℕ) (b : Bool) → eqb j i ≡ b → (c : Bool) → eqb k i ≡ c → j < length (set shares i no_share) → k < length (set shares i no_share) → j ≢ k
        → 1 ≤ (get_or (set shares i no_share) j no_share).size → 1 ≤ (get_or (set shares i no_share) k no_share).size
        → ((get_or (set shares i no_share) j no_share).base + (get_or (set shares i no_share) j no_share).size ≤ (get_or (set shares i no_share) k no_share).base)
        ⊎ ((get_or (set shares i no_share) k no_share).base + (get_or (set shares i no_share) k no_share).size ≤ (get_or (set shares i no_share) j no_share).base)
    pair j k true p c q h l n = λ x y. absurd (omega (arith, x, gone j (eqb-true j i p)))
    pair j k false p true q h l n = λ x y. absurd (omega (arith, y, gone k (eqb-true k i q)))
    pair j k false p false q h l n = rw (old j (eqb-false j i p), old k (eqb-false k i q)) (λ x y. ((lie shares).0 e).apart j k (omega (arith, h, size)) (omega (arith, l, size)) n x y)

-- ---- the room that a start needs

sum-set : (xs : List ℕ) (i v : ℕ) → i < length xs → sum (set xs i v) + get_or xs i 0 ≡ sum xs + v
sum-set [] i v h = absurd (omega arith)
sum-set (x ∷ xs) zero v h = omega arith
sum-set (x ∷ xs) (suc i) v h = omega (arith, sum-set xs i v (omega arith))

sum-next : (xs : List ℕ) (n : ℕ) → sum (take (suc n) xs) ≡ sum (take n xs) + get_or xs n 0
sum-next [] zero = refl
sum-next [] (suc n) = refl
sum-next (x ∷ xs) zero = omega arith
sum-next (x ∷ xs) (suc n) = omega (arith, sum-next xs n)

-- a packed share begins behind the bits of those before it
pub new_base-sum : (sizes : List ℕ) (n : ℕ) → new_base sizes n ≡ sum (take n sizes)
unfolding new_base
new_base-sum sizes zero = refl
new_base-sum sizes (suc n) = omega (arith, new_base-sum sizes n, sum-next sizes n)

pub take_all : (xs : List ℕ) (n : ℕ) → length xs ≤ n → take n xs ≡ xs
take_all [] zero h = refl
take_all [] (suc n) h = refl
take_all (x ∷ xs) zero h = absurd (omega arith)
take_all (x ∷ xs) (suc n) h = ap (λ l. x ∷ l) (take_all xs n (omega arith))

module _ (d : Device) (eight : length d.controllers ≡ 8) (sure : sound_device d ≡ true) where
  most : d.settings.count ≤ 8
  most = (sound_device-facts d sure).count

  -- every share of a sound record that has bits lies in the pool
  pub share-inside : (j : ℕ) → j < 8 → 1 ≤ get_or (sizes_of d) j 0 → get_or (bases_of d) j 0 + get_or (sizes_of d) j 0 ≤ 16384
  share-inside j h k =
      let size = sizes_of-share d eight most j in
      omega (
        arith,
        size,
        get_d_map (λ (a : Share). a.base) (shares_of d) j no_share 0 refl,
        ((lie (shares_of d)).0 (sound_device-shares d sure)).inside j (omega (arith, h, shares_of-length d eight most)) (omega (arith, size, k)),
      )

  -- a controller that is off is given c's place among the shares, and there is room for it
  module _ (i : ℕ) (used : i < d.settings.count) (idle : (get_or d.controllers i no_controller).tracking ≡ Off) (c : Controller) (room : held_units (held_of c) + units_of d ≤ most_units) where
    pub sizes-fit : new_base (sizes_of (with_controller d i c)) 8 ≤ 16384
    sizes-fit =
        let z : get_or (sizes_of d) i 0 ≡ 0 = sizes_of-at d eight most i used ∙ rw idle in
        let l : length (sizes_of d) ≡ 8 = length-map (shares_of d) (λ (a : Share). a.size) ∙ shares_of-length d eight most in
        let m : length (set (sizes_of d) i (held_units (held_of c))) ≡ 8 = length-set (sizes_of d) i (held_units (held_of c)) ∙ l in
        omega (
          arith,
          new_base-sum (sizes_of (with_controller d i c)) 8,
          ap (λ l. sum (take 8 l)) (sizes-with d eight most i c used),
          ap sum (take_all (set (sizes_of d) i (held_units (held_of c))) 8 (omega (arith, m))),
          sum-set (sizes_of d) i (held_units (held_of c)) (omega (arith, l, used, most)),
          shares_of-sizes d,
          z,
          room,
        )

    -- the shares with it may be packed, of marks held one an element in any list that has room for the pool
    pub start-packs-in : {A : Type 0} (l : List A) → length l ≡ most_units → Packs l (bases_of d) (sizes_of (with_controller d i c)) i
    start-packs-in l whole =
        record {
          inside = λ j h n k.
              let e : get_or (sizes_of (with_controller d i c)) j 0 ≡ get_or (sizes_of d) j 0 =
              ap (λ l. get_or l j 0) (sizes-with d eight most i c used) ∙ get_or-set_other (sizes_of d) i j (held_units (held_of c)) 0 n in
              omega (arith, whole, e, share-inside j h (omega (arith, e, k)));
          fits = omega (arith, whole, sizes-fit);
        }

    pub start-packs : (ws : List ℕ) → length ws ≡ mark_words → Packs (flat ws) (bases_of d) (sizes_of (with_controller d i c)) i
    start-packs ws words = start-packs-in (flat ws) (flat-length ws ∙ rw words)
