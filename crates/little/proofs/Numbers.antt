-- Laws of `number_at` and `number_bytes`, each for every width: how a number is made of parts, both round trips, numbers in a buffer.
-- All but `number_at-cons` and `number_at-nil` is the library's interface. Assumes nothing.
use Prim.Native.Nat.{ℕ, zero, suc, ◌+◌, ◌*◌, ◌/◌, ◌%◌, ◌^◌, ◌≤◌, ◌<◌}
use mathlib.Core.Path.{◌≡◌, refl, sym, ap, ◌∙◌}
use mathlib.Core.List.{List, [], ◌∷◌, ◌++◌}
use native.Mathlib.Nat.{zero-add, suc-add, add-zero, add-suc, pow-zero, pow-suc, pow-succ', one-mul, mul_assoc, mod-one, div-one, div-div-eq-div-mul, mod-eq_of_lt, pow-le-pow_right}
use native.Mathlib.Numerals.{add-one}
use native.Mathlib.Omega.{arith}
use lib.ListN.{length, get_or, take, drop, set}
use lib.Seq.{drop-cons, drop-drop, drop_at}
use lib.Arith.{mod-mul}
use lib.Dec.{lit<}
use Rattle.little.specs.Little.{number_at, number_bytes, put}
use Rattle.little.proofs.Put.{put-append, put-drop, put-at-before, put-at-after}

-- ---- number_at

pub number_at-one : (s : List ℕ) (at : ℕ) → number_at s at 1 ≡ get_or s at 0
unfolding number_at
number_at-one s at = omega arith

-- the low part of a number, and the part above it: the one law of the widths
pub number_at-add : (s : List ℕ) (at m n : ℕ) → number_at s at (m + n) ≡ number_at s at m + 256 ^ m * number_at s (at + m) n
unfolding number_at
number_at-add s at zero n = simp (zero-add, add-zero, pow-zero, one-mul)
number_at-add s at (suc m) n =
    rw (suc-add, number_at-add s (suc at) m n, pow-succ', mul_assoc, add-suc, suc-add) (omega arith)

-- what stands in front does not matter
number_at-cons : (x : ℕ) (s : List ℕ) (k width : ℕ) → number_at (x ∷ s) (suc k) width ≡ number_at s k width
unfolding number_at
number_at-cons x s k zero = refl
number_at-cons x s k (suc width) = rw (number_at-cons x s (suc k) width)

pub number_at-append : (p s : List ℕ) (k width : ℕ) → number_at (p ++ s) (length p + k) width ≡ number_at s k width
number_at-append [] s k width = rw zero-add
number_at-append (x ∷ p) s k width = rw suc-add (number_at-cons x (p ++ s) (length p + k) width ∙ number_at-append p s k width)

-- past the end there are zeros
number_at-nil : (at width : ℕ) → number_at [] at width ≡ 0
unfolding number_at
number_at-nil at zero = refl
number_at-nil at (suc width) = rw (number_at-nil (suc at) width)

pub number_at-drop : (s : List ℕ) (at width : ℕ) → number_at s at width ≡ number_at (drop at s) 0 width
number_at-drop s zero width = refl
number_at-drop [] (suc at) width = number_at-nil (suc at) width ∙ sym (number_at-nil 0 width)
number_at-drop (x ∷ s) (suc at) width = number_at-cons x s at width ∙ number_at-drop s at width

-- ---- number_bytes

pub number_bytes-length : (width v : ℕ) → length (number_bytes width v) ≡ width
unfolding number_bytes
number_bytes-length zero v = refl
number_bytes-length (suc width) v = ap suc (number_bytes-length width (v / 256))

-- the low bytes, and those above them
pub number_bytes-add : (m n v : ℕ) → number_bytes (m + n) v ≡ number_bytes m v ++ number_bytes n (v / 256 ^ m)
unfolding number_bytes
number_bytes-add zero n v = simp (zero-add, pow-zero, div-one)
number_bytes-add (suc m) n v = rw (suc-add, number_bytes-add m n (v / 256), div-div-eq-div-mul, pow-succ')

-- ---- round trips

-- a number that is read where it was written, whatever follows it
pub number_at-number_bytes : (width v : ℕ) (q : List ℕ) → number_at (number_bytes width v ++ q) 0 width ≡ v % 256 ^ width
unfolding number_at number_bytes
number_at-number_bytes zero v q = rw (pow-zero, mod-one)
number_at-number_bytes (suc width) v q =
    rw (number_at-cons (v % 256) (number_bytes width (v / 256) ++ q) 0 width, number_at-number_bytes width (v / 256) q, pow-suc, mod-mul v (positive width) (lit< tt)) (omega arith)
  where
    positive : (k : ℕ) → 0 < 256 ^ k
    positive zero = rw pow-zero (omega arith)
    positive (suc k) = rw pow-suc (omega (arith, positive k))

-- the same at an index from which s is known, and what follows the number there
module _ (s : List ℕ) (at width v : ℕ) (q : List ℕ) (here : drop at s ≡ number_bytes width v ++ q) where
  pub number_at-here : v < 256 ^ width → number_at s at width ≡ v
  number_at-here fits = rw (number_at-drop, here, number_at-number_bytes width v q) (mod-eq_of_lt fits)

  pub number_at-next : drop (at + width) s ≡ q
  number_at-next = rw (← drop-drop width at s, here) (drop_at (number_bytes width v) q width (number_bytes-length width v))

-- the bytes of a number that was read are those that stood there
module _ (s : List ℕ) (bytes : (k : ℕ) → get_or s k 0 < 256) where
  pub number_bytes-number_at : (at width : ℕ) → at + width ≤ length s → number_bytes width (number_at s at width) ≡ take width (drop at s)
  unfolding number_at number_bytes
  number_bytes-number_at at zero fits = refl
  number_bytes-number_at at (suc width) fits =
      let inside : at < length s = omega (arith, add-suc at width) in
      let byte : get_or s at 0 < 256 = bytes at in
      let low : (get_or s at 0 + 256 * number_at s (suc at) width) % 256 ≡ get_or s at 0 = omega arith in
      let high : (get_or s at 0 + 256 * number_at s (suc at) width) / 256 ≡ number_at s (suc at) width = omega arith in
      rw (drop-cons s at 0 inside, low, high, number_bytes-number_at (suc at) width (omega arith))

  pub number_at-bound : (at width : ℕ) → number_at s at width < 256 ^ width
  unfolding number_at
  number_at-bound at zero = rw pow-zero (omega arith)
  number_at-bound at (suc width) = rw pow-succ' (omega (arith, number_at-bound (suc at) width, bytes at))

  -- fewer than 8 bytes leave room for one more below them
  pub number_at-room : (at width : ℕ) → width ≤ 7 → number_at s at width < 2 ^ 56
  number_at-room at width few =
      let most : 256 ^ width ≤ 256 ^ 7 = pow-le-pow_right (lit< tt) few in
      omega (arith, number_at-bound at width)

-- ---- numbers in a buffer

-- a number that is stored is read back, and one that stands apart from a store is as it was
pub number_at-put : (l : List ℕ) (at width v : ℕ) → at + width ≤ length l → v < 256 ^ width → number_at (put l at (number_bytes width v)) at width ≡ v
number_at-put l at width v fits small =
    number_at-here (put l at (number_bytes width v)) at width v (drop (at + length (number_bytes width v)) l)
    (put-drop l at (number_bytes width v) (omega (arith, number_bytes-length width v))) small

pub number_at-put-before : (l : List ℕ) (at : ℕ) (vs : List ℕ) (i width : ℕ) → i + width ≤ at → number_at (put l at vs) i width ≡ number_at l i width
unfolding number_at
number_at-put-before l at vs i zero h = refl
number_at-put-before l at vs i (suc width) h =
    rw (put-at-before l at vs i 0 (omega (arith, add-suc i width)), number_at-put-before l at vs (suc i) width (omega (arith, add-suc i width, suc-add i width)))

pub number_at-put-after : (l : List ℕ) (at : ℕ) (vs : List ℕ) (i width : ℕ) → at + length vs ≤ i → number_at (put l at vs) i width ≡ number_at l i width
unfolding number_at
number_at-put-after l at vs i zero h = refl
number_at-put-after l at vs i (suc width) h =
    rw (put-at-after l at vs i 0 h, number_at-put-after l at vs (suc i) width (omega arith))

-- a field after a field: `simp put-number` makes of a record's bytes one store for each field
pub put-number : (l : List ℕ) (at width v : ℕ) (b : List ℕ) → put l at (number_bytes width v ++ b) ≡ put (put l at (number_bytes width v)) (at + width) b
put-number l at width v b = rw (put-append, number_bytes-length)

-- a turn of the loop that stores a number, and its end
pub put-number-turn : (l : List ℕ) (i j m n v : ℕ) → j ≡ i + 1 → n ≡ m + 1 → put (set l i (v % 256)) j (number_bytes m (v / 256)) ≡ put l i (number_bytes n v)
unfolding number_bytes put
put-number-turn l i j m n v e q = rw (e, q, add-one i, add-one m)

pub put-number-end : (l : List ℕ) (i n v : ℕ) → n ≤ 0 → put l i (number_bytes n v) ≡ l
unfolding number_bytes put
put-number-end l i zero v h = refl
put-number-end l i (suc n) v h = absurd (omega arith)

-- the start of the loop that reads one, and a turn, from its highest byte down
pub number_at-none : (s : List ℕ) (at width : ℕ) → width ≤ 0 → 0 ≡ number_at s at width
unfolding number_at
number_at-none s at zero h = refl
number_at-none s at (suc width) h = absurd (omega arith)

pub number_at-turn : (s : List ℕ) (at j m n v : ℕ) → j ≡ at + 1 → n ≡ m + 1 → v ≡ number_at s j m → 256 * v + get_or s at 0 ≡ number_at s at n
unfolding number_at
number_at-turn s at j m n v e q f = rw (q, add-one m, f, e, add-one at) (omega arith)
