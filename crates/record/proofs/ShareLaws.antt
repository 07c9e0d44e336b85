-- Laws of shares of the pool (W7): the tests of one, of two and of all as the code makes them, and shares that lie one behind the other. All of it is the
-- library's interface. Assumes nothing.
use Prim.Native.Nat.{ℕ, zero, suc, ◌+◌, ◌-◌, ◌<◌, ◌≤◌}
use mathlib.Core.Path.{◌≡◌, refl, ◌∙◌}
use mathlib.Core.Bool.{Bool, true, false, ◌&&◌, ◌||◌, and-false, or-true}
use mathlib.Core.List.{List, [], ◌∷◌, map}
use native.Mathlib.Numerals.{add-one}
use native.Mathlib.Omega.{arith}
use lib.Dec.{leb, eqb}
use lib.ListN.{length, get_or, drop, replicate, drop_of_length-le}
use lib.Seq.{drop-cons}
use borrow.Author.Tests.{leb-true, le-leb, lt-leb, eq-eqb}
use Rattle.rules.specs.Lists.{all, sum}
use Rattle.rules.specs.Settings.{most_units}
use Rattle.rules.specs.Device.{no_share, is_inside, are_apart, shares_ok}
use Rattle.rules.specs.declared.Share.{Share}
use Rattle.rules.proofs.ListLaws.{All, All-map, All-all, and_intro, or-intro-right, bool-ext}

-- ---- one share

module _ (a : Share) where
  pub inside-none : a.size ≡ 0 → is_inside a ≡ true
  inside-none e = rw (eq-eqb a.size 0 e)

-- ---- two

module _ (a b : Share) where
  pub apart-first : a.size ≡ 0 → are_apart a b ≡ true
  apart-first e = rw (eq-eqb a.size 0 e)

  pub apart-second : b.size ≡ 0 → are_apart a b ≡ true
  apart-second e = rw (eq-eqb b.size 0 e, or-true (eqb a.size 0))

  pub apart-before : leb (a.base + a.size) b.base ≡ true → are_apart a b ≡ true
  apart-before e = rw e (or-true (eqb a.size 0 || eqb b.size 0))

-- ---- all of them: loops from i on

-- what is left at i: the element there, and what is left behind it
rest_at : {A : Type 0} (xs : List A) (i : ℕ) (d : A) → i < length xs → drop i xs ≡ get_or xs i d ∷ drop (i + 1) xs
rest_at xs i d h = rw (add-one, drop-cons xs i d h)

module _ {A : Type 0} (p : A → Bool) (xs : List A) (i : ℕ) where
  pub all-rest-miss : (d : A) → i < length xs → p (get_or xs i d) ≡ false → all p (drop i xs) ≡ false
  all-rest-miss d h e = rw (rest_at xs i d h, e)

  pub all-rest-next : (d : A) → i < length xs → p (get_or xs i d) ≡ true → all p (drop i xs) ≡ all p (drop (i + 1) xs)
  all-rest-next d h e = rw (rest_at xs i d h, e)

  pub all-rest-end : length xs ≤ i → all p (drop i xs) ≡ true
  all-rest-end h = rw (drop_of_length-le xs {i = i} h)

module _ (xs : List Share) (i : ℕ) where
  -- a share that leaves the pool, one that overlaps a later one, and one that does neither
  module _ (h : i < length xs) where
    shares_ok-at : shares_ok (drop i xs) ≡ (is_inside (get_or xs i no_share) && (all (are_apart (get_or xs i no_share)) (drop (i + 1) xs) && shares_ok (drop (i + 1) xs)))
    unfolding shares_ok
    shares_ok-at = rw (rest_at xs i no_share h)

    pub shares_ok-outside : is_inside (get_or xs i no_share) ≡ false → shares_ok (drop i xs) ≡ false
    shares_ok-outside e = shares_ok-at ∙ rw e

    pub shares_ok-overlap : all (are_apart (get_or xs i no_share)) (drop (i + 1) xs) ≡ false → shares_ok (drop i xs) ≡ false
    shares_ok-overlap e = shares_ok-at ∙ rw e (and-false (is_inside (get_or xs i no_share)))

    pub shares_ok-next : is_inside (get_or xs i no_share) ≡ true → all (are_apart (get_or xs i no_share)) (drop (i + 1) xs) ≡ true → shares_ok (drop i xs) ≡ shares_ok (drop (i + 1) xs)
    shares_ok-next e f = shares_ok-at ∙ rw (e, f)

    -- the sizes, with so many bits left
    pub sizes-miss : (left : ℕ) → left < (get_or xs i no_share).size → leb (sum (map (λ (a : Share). a.size) (drop i xs))) left ≡ false
    sizes-miss left l = rw (rest_at xs i no_share h) (lt-leb (sum (map (λ (a : Share). a.size) (get_or xs i no_share ∷ drop (i + 1) xs))) left (omega arith))

    pub sizes-next : (left : ℕ) → (get_or xs i no_share).size ≤ left
        → leb (sum (map (λ (a : Share). a.size) (drop i xs))) left ≡ leb (sum (map (λ (a : Share). a.size) (drop (i + 1) xs))) (left - (get_or xs i no_share).size)
    sizes-next left l = rw (rest_at xs i no_share h) (go (get_or xs i no_share).size (sum (map (λ (a : Share). a.size) (drop (i + 1) xs))) l)
      where
        go : (n m : ℕ) → n ≤ left → leb (n + m) left ≡ leb m (left - n)
        go n m l = bool-ext (leb (n + m) left) (leb m (left - n)) (λ e. le-leb m (left - n) (omega (arith, leb-true (n + m) left e))) (λ e. le-leb (n + m) left (omega (arith, leb-true m (left - n) e)))

  pub shares_ok-end : length xs ≤ i → shares_ok (drop i xs) ≡ true
  unfolding shares_ok
  shares_ok-end h = rw (drop_of_length-le xs {i = i} h)

  pub sizes-end : (left : ℕ) → length xs ≤ i → leb (sum (map (λ (a : Share). a.size) (drop i xs))) left ≡ true
  sizes-end left h = rw (drop_of_length-le xs {i = i} h) (le-leb 0 left (omega arith))

-- ---- shares that lie one behind the other

-- from a bit to another within the pool: none begins before, they are as they may be, and together they have no more bits
pub record Lined (from to : ℕ) (xs : List Share) : Type 0 where
  pub rising : from ≤ to
  pub begin : All (λ (a : Share). 1 ≤ a.size → from ≤ a.base) xs
  pub lie : shares_ok xs ≡ true
  pub sizes : from + sum (map (λ (a : Share). a.size) xs) ≤ to

pub Lined-none : (end : ℕ) → Lined end end []
unfolding shares_ok
Lined-none end = record { rising = omega arith; begin = tt; lie = refl; sizes = omega arith }

module _ (from to : ℕ) (a : Share) (xs : List Share) where
  -- one of no bits before them
  pub Lined-empty : a.size ≡ 0 → Lined from to xs → Lined from to (a ∷ xs)
  unfolding shares_ok
  Lined-empty e l =
      record {
        rising = l.rising;
        begin = ((λ h. absurd (omega (arith, e, h))), l.begin);
        lie = and_intro (is_inside a) _ (inside-none a e) (and_intro (all (are_apart a) xs) (shares_ok xs) (All-all (are_apart a) xs (All-map (λ b h. apart-first a b e) xs l.begin)) l.lie);
        sizes = omega (arith, l.sizes, e);
      }

  -- one before them that has at most so many
  pub Lined-more : (most : ℕ) → to ≤ most_units → from ≤ a.base → a.size ≤ most → Lined (a.base + most) to xs → Lined from to (a ∷ xs)
  unfolding shares_ok
  Lined-more most h f k l =
      record {
        rising = omega (arith, l.rising);
        begin = ((λ z. f), All-map (λ b g z. omega (arith, g z)) xs l.begin);
        lie = and_intro (is_inside a) _ inside (and_intro (all (are_apart a) xs) (shares_ok xs) (All-all (are_apart a) xs (All-map apart xs l.begin)) l.lie);
        sizes = omega (arith, l.sizes);
      }
    where
      inside : is_inside a ≡ true
      inside = or-intro-right (eqb a.size 0) _ (le-leb (a.base + a.size) most_units (omega (arith, l.rising)))

      apart : (b : Share) → (1 ≤ b.size → a.base + most ≤ b.base) → are_apart a b ≡ true
      apart b g = go b.size refl
        where
          go : (n : ℕ) → b.size ≡ n → are_apart a b ≡ true
          go zero e = apart-second a b e
          go (suc n) e = apart-before a b (le-leb (a.base + a.size) b.base (omega (arith, g (omega (arith, e)))))

-- so many shares that have no bits
pub Lined-nowhere : (n end : ℕ) → Lined end end (replicate n no_share)
Lined-nowhere zero end = Lined-none end
Lined-nowhere (suc n) end = Lined-empty end end no_share (replicate n no_share) refl (Lined-nowhere n end)
