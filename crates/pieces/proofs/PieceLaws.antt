-- Laws of pieces: which units of a range another covers, and what is left of the units of ranges from a unit on. Assumes nothing.
use mathlib.Core.Path.{◌≡◌, refl, sym, ap, ap₂, subst, ◌∙◌}
use mathlib.Core.Bool.{Bool, true, false, ◌&&◌, ◌||◌, not, and-false, or-true, true≢false}
use mathlib.Core.List.{List, [], ◌∷◌, ◌++◌, append_assoc}
use Prim.Native.Nat.{ℕ, zero, suc, ◌+◌, ◌-◌, ◌*◌, ◌/◌, ◌%◌, ◌^◌, ◌≤◌, ◌<◌, min}
use native.Mathlib.Omega.{arith}
use native.Mathlib.Nat.{zero-mul, suc-mul, add-mul, mul_comm, mul-le-mul_right, div-add-mod', one-mul, sub-zero}
use native.Mathlib.Decide.{dec_le, dec_lt}
use native.Mathlib.Numerals.{add-one}
use lib.Dec.{leb, ltb}
use lib.ListN.{length, take, drop, get_or, length-append, length-take, drop_of_length-le, get_or-eq_default}
use lib.Seq.{drop-cons, take-suc, take-take, get_or-take}
use borrow.Author.Tests.{le-leb, lt-leb, lt-ltb, le-ltb, leb-true, ltb-true, ltb-false}
use Rattle.rules.specs.Lists.{any, keep}
use Rattle.rules.specs.Settings.{unit_size, whole_units}
use Rattle.rules.specs.Units.{Unit, units_of_row, end_of, covers, uncovered, units_from}
use Rattle.rules.specs.Ranges.{rows_ok}
use Rattle.rules.specs.StartData.{no_range}
use Rattle.rules.specs.Demands.{Good}
use Rattle.rules.specs.declared.Range.{Range}
use Rattle.rules.proofs.ListLaws.{All, All-map, All-append, All-keep, and_left, and_right, and_intro, or-neither, or-intro-left, or-intro-right, bool-ext, any_snoc}
use Rattle.rules.proofs.UnitLaws.{units_of_row-row, units_of_row-length}
use Rattle.rules.proofs.RowLaws.{rows_ok-at, rows_ok-front}
use Rattle.rules.proofs.ScanLaws.{Beyond}
use Rattle.measures.proofs.MeasureLaws.{unit_size-least}
use Rattle.pieces.specs.Pieces.{row_of, Overlaps, cut_before, unit_of, StretchIs, units_left, PieceFound}
use Rattle.pieces.specs.declared.Piece.{Piece}

-- ---- which units another range covers

mul-cancel : (m n k : ℕ) → 0 < k → m * k ≤ n * k → m ≤ n
mul-cancel m n k z h = go (dec_le m n)
  where
    go : Dec (m ≤ n) → m ≤ n
    go (yes a) = a
    go (no a) = absurd (omega (arith, h, z, suc-mul n k, mul-le-mul_right {m = suc n} {n = m} k (omega arith)))

-- a multiple of the unit is so many units
pub whole : (size x : ℕ) → x % size ≡ 0 → x / size * size ≡ x
whole size x e = omega (arith, div-add-mod' x size, e)

module _ (size : ℕ) (z : 0 < size) (r q : Range) (a b : ℕ) (e : a * size ≡ r.start) (f : b * size ≡ q.start) where
  start-cover : (j : ℕ) → leb q.start (r.start + j * size) ≡ leb (b - a) j
  start-cover j =
      bool-ext (leb q.start (r.start + j * size)) (leb (b - a) j)
      (λ h. le-leb (b - a) j (omega (arith, mul-cancel b (a + j) size z (omega (arith, leb-true q.start (r.start + j * size) h, e, f, add-mul a j size)))))
      (λ h. le-leb q.start (r.start + j * size) (omega (arith, e, f, add-mul a j size, mul-le-mul_right {m = b} {n = a + j} size (omega (arith, leb-true (b - a) j h)))))

  end-cover : (j : ℕ) → ltb (r.start + j * size) (q.start + q.length * size) ≡ ltb j (b + q.length - a)
  end-cover j =
      bool-ext (ltb (r.start + j * size) (q.start + q.length * size)) (ltb j (b + q.length - a))
      (λ h. lt-ltb j (b + q.length - a) (go (dec_le (b + q.length) (a + j)) (ltb-true (r.start + j * size) (q.start + q.length * size) h)))
      (λ h. lt-ltb (r.start + j * size) (q.start + q.length * size)
      (omega (arith, e, f, z, add-mul a j size, add-mul b q.length size, suc-mul (a + j) size, mul-le-mul_right {m = suc (a + j)} {n = b + q.length} size (omega (arith, ltb-true j (b + q.length - a) h)))))
    where
      go : Dec (b + q.length ≤ a + j) → r.start + j * size < q.start + q.length * size → j < b + q.length - a
      go (yes c) h = absurd (omega (arith, h, e, f, add-mul a j size, add-mul b q.length size, mul-le-mul_right {m = b + q.length} {n = a + j} size c))
      go (no c) h = omega arith

  pub overlap-is : 1 ≤ q.length → Overlaps size r q (b - a) (b + q.length - a)
  overlap-is l = record { exactly = λ j. ap₂ (λ x y. x && y) (start-cover j) (end-cover j); some = λ h. omega arith }

-- ---- units of a range

-- a unit of a range that ends at most at 2^64 begins below it
pub unit-below : (size start n j : ℕ) → 0 < size → j < n → start + n * size ≤ 2 ^ 64 → start + j * size < 2 ^ 64
unit-below size start n j z h e = omega (arith, z, e, suc-mul j size, mul-le-mul_right {m = suc j} {n = n} size h)

-- where a range ends that passes 19 to 21, in units counted from address 0, has a number of 64 bits
pub end-small : (g : ℕ) (r : Range) → Good g r → whole_units g r.start + r.length < 2 ^ 64
end-small g r good =
    let first = whole_units g r.start in
    omega (arith, good.within, whole (unit_size g) r.start good.aligned, add-mul first r.length (unit_size g), mul_comm (unit_size g) (first + r.length), mul-le-mul_right {m = 4096} {n = unit_size g} (first + r.length) (unit_size-least g))

-- ---- units of a row of which some are kept

module _ (f : Unit → Bool) (row size : ℕ) where
  abbrev at : ℕ → Unit
  at a = record { row = row; address = a; size = size }

  -- none of the first m
  keep-skip : (a m k : ℕ) → m ≤ k → ((j : ℕ) → j < m → f (at (a + j * size)) ≡ false) → keep f (units_of_row row size a k) ≡ keep f (units_of_row row size (a + m * size) (k - m))
  keep-skip a zero k h none = let e : a + 0 * size ≡ a = omega (arith, zero-mul size) in rw (e, sub-zero)
  keep-skip a (suc m) zero h none = absurd (omega arith)
  keep-skip a (suc m) (suc k) h none =
      let z : a + 0 * size ≡ a = omega (arith, zero-mul size) in
      let first : f (at a) ≡ false = rw z at (none 0 (omega arith)) in
      let e : a + suc m * size ≡ a + size + m * size = omega (arith, suc-mul m size) in
      let s : suc k - suc m ≡ k - m = omega arith in
      rw (first, e, s) (keep-skip (a + size) m k (omega arith) (λ j l. let i : a + size + j * size ≡ a + suc j * size = omega (arith, suc-mul j size) in rw i (none (suc j) (omega arith))))

  -- all of the first m
  keep-take : (a m k : ℕ) → m ≤ k → ((j : ℕ) → j < m → f (at (a + j * size)) ≡ true)
      → keep f (units_of_row row size a k) ≡ units_of_row row size a m ++ keep f (units_of_row row size (a + m * size) (k - m))
  keep-take a zero k h each = let e : a + 0 * size ≡ a = omega (arith, zero-mul size) in rw (e, sub-zero)
  keep-take a (suc m) zero h each = absurd (omega arith)
  keep-take a (suc m) (suc k) h each =
      let z : a + 0 * size ≡ a = omega (arith, zero-mul size) in
      let first : f (at a) ≡ true = rw z at (each 0 (omega arith)) in
      let e : a + suc m * size ≡ a + size + m * size = omega (arith, suc-mul m size) in
      let s : suc k - suc m ≡ k - m = omega arith in
      rw (first, e, s)
      (ap (λ l. at a ∷ l) (keep-take (a + size) m k (omega arith) (λ j l. let i : a + size + j * size ≡ a + suc j * size = omega (arith, suc-mul j size) in rw i (each (suc j) (omega arith)))))

-- ---- what is left

module _ (size : ℕ) (rs : List Range) (i : ℕ) where
  abbrev r : Range
  r = row_of rs i

  abbrev later : List Unit
  later = units_from size (suc i) (take (suc i) rs) (drop (suc i) rs)

  shift : (j m : ℕ) → r.start + j * size + m * size ≡ r.start + (j + m) * size
  shift j m = omega (arith, add-mul j m size)

  fewer : (j m : ℕ) → r.length - j - m ≡ r.length - (j + m)
  fewer j m = omega arith

  -- none of m units from j on belongs to the row
  pub left-skip : (j m : ℕ) → j + m ≤ r.length → ((k : ℕ) → j ≤ k → k < j + m → uncovered size (take i rs) (unit_of size r k) ≡ false)
      → units_left size rs i j ≡ units_left size rs i (j + m)
  left-skip j m h none =
      ap (λ l. l ++ later)
      (keep-skip (uncovered size (take i rs)) i size (r.start + j * size) m (r.length - j) (omega arith) (λ k l. rw (shift j k) (none (j + k) (omega arith) (omega arith)))
      ∙ ap₂ (λ x n. keep (uncovered size (take i rs)) (units_of_row i size x n)) (shift j m) (fewer j m))

  -- all of them do
  pub left-take : (j m : ℕ) → j + m ≤ r.length → ((k : ℕ) → j ≤ k → k < j + m → uncovered size (take i rs) (unit_of size r k) ≡ true)
      → units_left size rs i j ≡ units_of_row i size (r.start + j * size) m ++ units_left size rs i (j + m)
  left-take j m h each =
      ap (λ l. l ++ later)
      (keep-take (uncovered size (take i rs)) i size (r.start + j * size) m (r.length - j) (omega arith) (λ k l. rw (shift j k) (each (j + k) (omega arith) (omega arith)))
      ∙ ap₂ (λ x n. units_of_row i size (r.start + j * size) m ++ keep (uncovered size (take i rs)) (units_of_row i size x n)) (shift j m) (fewer j m))
      ∙ append_assoc (units_of_row i size (r.start + j * size) m) (keep (uncovered size (take i rs)) (units_of_row i size (r.start + (j + m) * size) (r.length - (j + m)))) later

  -- nothing of the row is left
  pub left-row : (j : ℕ) → r.length ≤ j → units_left size rs i j ≡ later
  left-row j h = let e : r.length - j ≡ 0 = omega arith in rw e

-- the next row
pub left-next : (size : ℕ) (rs : List Range) (i : ℕ) → i < length rs → units_from size i (take i rs) (drop i rs) ≡ units_left size rs i 0
left-next size rs i h =
    let e : (row_of rs i).start + 0 * size ≡ (row_of rs i).start = omega (arith, zero-mul size) in
    rw (drop-cons rs i no_range h, e, sub-zero) (ap (λ b. keep (uncovered size (take i rs)) (units_of_row i size (row_of rs i).start (row_of rs i).length) ++ units_from size (suc i) b (drop (suc i) rs)) (sym (take-suc rs i no_range h)))

-- past the last row
pub left-past : (size : ℕ) (rs : List Range) (i : ℕ) → length rs ≤ i → units_from size i (take i rs) (drop i rs) ≡ []
left-past size rs i h = rw (drop_of_length-le rs h)

-- ---- nothing beyond a piece follows it

later-beyond : (size row : ℕ) (before rs : List Range) (own e : ℕ) → own < row → Beyond own e (units_from size row before rs)
later-beyond size row before [] own e h = tt
later-beyond size row before (r ∷ rs) own e h =
    All-append (λ y. y.row ≡ own → e < y.address) (keep (uncovered size before) (units_of_row row size r.start r.length)) (units_from size (suc row) (before ++ r ∷ []) rs)
    (All-keep (λ y. y.row ≡ own → e < y.address) (uncovered size before) (units_of_row row size r.start r.length)
    (All-map (λ y q s. absurd (omega (arith, q, s, h))) (units_of_row row size r.start r.length) (units_of_row-row row size r.start r.length)))
    (later-beyond size (suc row) (before ++ r ∷ []) rs own e (omega arith))

row-beyond : (row size a n own e : ℕ) → e < a → Beyond own e (units_of_row row size a n)
row-beyond row size a zero own e h = tt
row-beyond row size a (suc n) own e h = ((λ s. h), row-beyond row size (a + size) n own e (omega arith))

-- where the row's next unit does not belong to it, what is left begins further on than that unit
pub left-beyond : (size : ℕ) (rs : List Range) (i j : ℕ) → 0 < size → j ≤ (row_of rs i).length → (j < (row_of rs i).length → uncovered size (take i rs) (unit_of size (row_of rs i) j) ≡ false)
    → Beyond i ((row_of rs i).start + j * size) (units_left size rs i j)
left-beyond size rs i j z h cut = go (dec_lt j (row_of rs i).length)
  where
    last : Beyond i ((row_of rs i).start + j * size) (units_from size (suc i) (take (suc i) rs) (drop (suc i) rs))
    last = later-beyond size (suc i) (take (suc i) rs) (drop (suc i) rs) i ((row_of rs i).start + j * size) (omega arith)

    go : Dec (j < (row_of rs i).length) → Beyond i ((row_of rs i).start + j * size) (units_left size rs i j)
    go (yes l) =
        subst (Beyond i ((row_of rs i).start + j * size)) (sym (left-skip size rs i j 1 (omega arith) (λ k a b. let e : k ≡ j = omega arith in rw e (cut l))))
        (All-append (λ y. y.row ≡ i → (row_of rs i).start + j * size < y.address)
        (keep (uncovered size (take i rs)) (units_of_row i size ((row_of rs i).start + (j + 1) * size) ((row_of rs i).length - (j + 1)))) (units_from size (suc i) (take (suc i) rs) (drop (suc i) rs))
        (All-keep (λ y. y.row ≡ i → (row_of rs i).start + j * size < y.address) (uncovered size (take i rs)) (units_of_row i size ((row_of rs i).start + (j + 1) * size) ((row_of rs i).length - (j + 1)))
        (row-beyond i size ((row_of rs i).start + (j + 1) * size) ((row_of rs i).length - (j + 1)) i ((row_of rs i).start + j * size) (omega (arith, z, add-mul j 1 size, one-mul size))))
        last)
    go (no l) = subst (Beyond i ((row_of rs i).start + j * size)) (sym (left-row size rs i j (omega arith))) last

-- ---- a stretch, against one earlier range after another

any-take : {A : Type 0} (p : A → Bool) (xs : List A) (n i : ℕ) (d : A) → i < n → i < length xs → p (get_or xs i d) ≡ true → any p (take n xs) ≡ true
any-take p [] n i d h k e = absurd (omega arith)
any-take p (x ∷ xs) zero i d h k e = absurd (omega arith)
any-take p (x ∷ xs) (suc n) zero d h k e = rw e
any-take p (x ∷ xs) (suc n) (suc i) d h k e = rw (any-take p xs n i d (omega arith) (omega arith) e) (or-true (p x))

-- whether one of some ranges covers a unit of a range
abbrev covered : ℕ → List Range → Range → ℕ → Bool
covered size before r j = any (λ q. covers size q (r.start + j * size)) before

-- as far as some ranges go: they cover none of the units from `at` below `to`, and the next one where it is a unit of the range
pub record Stretching (size : ℕ) (before : List Range) (r : Range) (at to : ℕ) : Type 0 where
  pub further : at < to
  pub inside : to ≤ r.length
  pub free : (j : ℕ) → at ≤ j → j < to → covered size before r j ≡ false
  pub cut : to < r.length → covered size before r to ≡ true

module _ (size : ℕ) (r : Range) (at to : ℕ) where
  pub stretch-start : at < r.length → Stretching size [] r at r.length
  stretch-start h = record { further = h; inside = omega arith; free = λ j a b. refl; cut = λ l. absurd (omega arith) }

  module _ (before : List Range) (q : Range) (from end : ℕ) (o : Overlaps size r q from end) (s : Stretching size before r at to) where
    snoc : (j : ℕ) → covered size (before ++ q ∷ []) r j ≡ (covered size before r j || (leb from j && ltb j end))
    snoc j = any_snoc (λ p. covers size p (r.start + j * size)) before q ∙ ap (λ b. covered size before r j || b) (o.exactly j)

    -- a range that does not cover the first unit
    pub stretch-next : (leb from at && ltb at end) ≡ false → Stretching size (before ++ q ∷ []) r at (cut_before from at to)
    stretch-next e = go (dec_le from at)
      where
        outside : (j : ℕ) → j < from → (leb from j && ltb j end) ≡ false
        outside j h = rw (lt-leb from j h)

        passed : (j : ℕ) → end ≤ j → (leb from j && ltb j end) ≡ false
        passed j h = rw (le-ltb j end h) (and-false (leb from j))

        go : Dec (from ≤ at) → Stretching size (before ++ q ∷ []) r at (cut_before from at to)
        go (yes a) =
            let n : end ≤ at = ltb-false at end (rw (le-leb from at a) at e) in
            rw (le-leb from at a)
            (record {
              further = s.further;
              inside = s.inside;
              free = λ j l h. snoc j ∙ or-neither (covered size before r j) (leb from j && ltb j end) (s.free j l h) (passed j (omega arith));
              cut = λ l. snoc to ∙ or-intro-left (covered size before r to) (leb from to && ltb to end) (s.cut l);
            })
        go (no a) = rw (lt-leb from at (omega arith)) (near (dec_lt from to))
          where
            near : Dec (from < to) → Stretching size (before ++ q ∷ []) r at (min from to)
            near (yes b) =
                let m : min from to ≡ from = omega arith in
                rw m
                (record {
                  further = omega arith;
                  inside = omega (arith, s.inside);
                  free = λ j l h. snoc j ∙ or-neither (covered size before r j) (leb from j && ltb j end) (s.free j l (omega arith)) (outside j h);
                  cut = λ l. snoc from ∙ or-intro-right (covered size before r from) (leb from from && ltb from end)
                      (and_intro (leb from from) (ltb from end) (le-leb from from (omega arith)) (lt-ltb from end (o.some (omega arith))));
                })
            near (no b) =
                let m : min from to ≡ to = omega arith in
                rw m
                (record {
                  further = s.further;
                  inside = s.inside;
                  free = λ j l h. snoc j ∙ or-neither (covered size before r j) (leb from j && ltb j end) (s.free j l h) (outside j (omega arith));
                  cut = λ l. snoc to ∙ or-intro-left (covered size before r to) (leb from to && ltb to end) (s.cut l);
                })

  -- all earlier ranges were asked: the stretch belongs to the range
  pub stretch-own : (before : List Range) → Stretching size before r at to → StretchIs size before r at to true
  stretch-own before s =
      record {
        further = s.further;
        inside = s.inside;
        alike = λ j a b. ap not (s.free j a b);
        cut = λ e l. ap not (s.cut l);
      }

  -- an earlier one covers the first unit: it covers all up to its end
  pub stretch-other : (rs : List Range) (n i from end : ℕ) → i < n → i < length rs → Overlaps size r (row_of rs i) from end → (leb from at && ltb at end) ≡ true → at < to → to ≤ r.length
      → StretchIs size (take n rs) r at (min end to) false
  stretch-other rs n i from end h k o e f g =
      let l : from ≤ at = leb-true from at (and_left (leb from at) (ltb at end) e) in
      let u : at < end = ltb-true at end (and_right (leb from at) (ltb at end) e) in
      record {
        further = omega arith;
        inside = omega arith;
        alike = λ j a b.
            ap not (any-take (λ q. covers size q (r.start + j * size)) rs n i no_range h k
            (o.exactly j ∙ and_intro (leb from j) (ltb j end) (le-leb from j (omega arith)) (lt-ltb j end (omega arith))));
        cut = λ z. absurd (true≢false (sym z));
      }

-- ---- the next piece

-- the same stretch among the first n ranges
pub stretch-among : (size : ℕ) (rs : List Range) (n i at to : ℕ) (own : Bool) → i < n → StretchIs size (take i rs) (row_of rs i) at to own → StretchIs size (take i (take n rs)) (row_of (take n rs) i) at to own
stretch-among size rs n i at to own h s =
    subst (λ (r : Range). StretchIs size (take i (take n rs)) r at to own) (sym (get_or-take n rs i no_range h))
    (subst (λ before. StretchIs size before (row_of rs i) at to own) (sym (take-take i n rs (omega arith))) s)

module _ (size : ℕ) (rs : List Range) where
  -- a row begins with its first unit, and past the last row nothing is left
  left-first : (i : ℕ) → units_from size i (take i rs) (drop i rs) ≡ units_left size rs i 0
  left-first i = go (dec_lt i (length rs))
    where
      go : Dec (i < length rs) → units_from size i (take i rs) (drop i rs) ≡ units_left size rs i 0
      go (yes h) = left-next size rs i h
      go (no h) =
          let none : row_of rs i ≡ no_range = get_or-eq_default rs no_range (omega arith) in
          let more : drop (suc i) rs ≡ [] = drop_of_length-le rs {i = suc i} (omega arith) in
          left-past size rs i (omega arith) ∙ rw (none, more)

  pub left-all : units_from size 0 [] rs ≡ units_left size rs 0 0
  left-all = left-first 0

  pub left-none : (i j : ℕ) → length rs ≤ i → units_left size rs i j ≡ []
  left-none i j h =
      let none : row_of rs i ≡ no_range = get_or-eq_default rs no_range h in
      let more : drop (suc i) rs ≡ [] = drop_of_length-le rs {i = suc i} (omega arith) in
      let e : 0 - j ≡ 0 = omega arith in
      rw (none, more, e)

  module _ (i j : ℕ) where
    -- a row of which nothing is left
    pub left_step : (row_of rs i).length ≤ j → units_left size rs i j ≡ units_left size rs (i + 1) 0
    left_step h = left-row size rs i j h ∙ ap (λ n. units_from size n (take n rs) (drop n rs)) (sym (add-one i)) ∙ left-first (i + 1)

    module _ (to : ℕ) where
      -- a stretch that belongs to others
      pub left_other : StretchIs size (take i rs) (row_of rs i) j to false → units_left size rs i j ≡ units_left size rs i to
      left_other s =
          let e : j + (to - j) ≡ to = omega (arith, s.further) in
          left-skip size rs i j (to - j) (omega (arith, s.further, s.inside)) (λ k a b. s.alike k a (omega arith)) ∙ ap (units_left size rs i) e

      -- a stretch of its own is a piece
      pub left-piece : StretchIs size (take i rs) (row_of rs i) j to true → i < length rs
          → PieceFound size rs i j (record { row = i; next = record { 0 = to }; range = record { start = (row_of rs i).start + j * size; length = to - j } })
      left-piece s h =
          let back : to - (to - j) ≡ j = omega (arith, s.further) in
          record {
            row_in = h;
            some = omega (arith, s.further);
            long = omega arith;
            inside = s.inside;
            starts = ap (λ n. (row_of rs i).start + n * size) (sym back);
            begins = ap (units_left size rs i) (sym back);
            own = λ m l.
                let e : to - m + m ≡ to = omega (arith, l) in
                let n : to - m ≡ j + (to - j - m) = omega (arith, l, s.further) in
                let a : (row_of rs i).start + (to - m) * size ≡ (row_of rs i).start + j * size + (to - j - m) * size =
                rw n (omega (arith, add-mul j (to - j - m) size)) in
                left-take size rs i (to - m) m (omega (arith, l, s.inside)) (λ k b c. s.alike k (omega (arith, l)) (omega (arith, l)))
                ∙ ap₂ (λ x n. units_of_row i size x m ++ units_left size rs i n) a e;
            cut = s.cut refl;
          }

    -- what is found further on is found from here
    pub found_from : (i' j' : ℕ) (p : Piece) → units_left size rs i j ≡ units_left size rs i' j' → PieceFound size rs i' j' p → PieceFound size rs i j p
    found_from i' j' p e f =
        record {
          row_in = f.row_in;
          some = f.some;
          long = f.long;
          inside = f.inside;
          starts = f.starts;
          begins = e ∙ f.begins;
          own = f.own;
          cut = f.cut;
        }

-- its units come next, and then what is left after it; the units of its row that are left begin further on than it ends
module _ (size : ℕ) (rs : List Range) (i j : ℕ) (p : Piece) (f : PieceFound size rs i j p) where
  pub piece-left : units_left size rs i j ≡ units_of_row p.row size p.range.start p.range.length ++ units_left size rs p.row p.next.0
  piece-left =
      let z : p.range.start + (p.range.length - p.range.length) * size ≡ p.range.start =
      (let e : p.range.length - p.range.length ≡ 0 = omega arith in rw e (omega (arith, zero-mul size))) in
      f.begins ∙ f.own p.range.length (omega arith) ∙ ap (λ a. units_of_row p.row size a p.range.length ++ units_left size rs p.row p.next.0) z

  pub piece-length : length (units_left size rs i j) ≡ p.range.length + length (units_left size rs p.row p.next.0)
  piece-length = ap length piece-left ∙ length-append (units_of_row p.row size p.range.start p.range.length) _ ∙ rw units_of_row-length

  pub piece-beyond : 0 < size → Beyond p.row (p.range.start + p.range.length * size) (units_left size rs p.row p.next.0)
  piece-beyond z =
      let e : (row_of rs p.row).start + p.next.0 * size ≡ p.range.start + p.range.length * size =
      (let n : p.next.0 ≡ p.next.0 - p.range.length + p.range.length = omega (arith, f.long) in
      ap (λ k. (row_of rs p.row).start + k * size) n ∙ omega (arith, f.starts, add-mul (p.next.0 - p.range.length) p.range.length size)) in
      subst (λ x. Beyond p.row x (units_left size rs p.row p.next.0)) e (left-beyond size rs p.row p.next.0 z f.inside f.cut)

-- a piece of ranges that pass 9 each by itself ends at most at 2^64
pub piece-within : (g : ℕ) (rs : List Range) (i j : ℕ) (p : Piece) → rows_ok g rs ≡ true → PieceFound (unit_size g) rs i j p → end_of (unit_size g) p.range ≤ 2 ^ 64
piece-within g rs i j p ok f = within (unit_size g) (row_of rs p.row) p.range p.next.0 f.long f.inside f.starts (rows_ok-at g rs p.row ok f.row_in).within
  where
    within : (size : ℕ) (r q : Range) (next : ℕ) → q.length ≤ next → next ≤ r.length → q.start ≡ r.start + (next - q.length) * size → end_of size r ≤ 2 ^ 64 → end_of size q ≤ 2 ^ 64
    within size r q next l h e w =
        let d : next ≡ next - q.length + q.length = omega (arith, l) in
        omega (arith, e, w, ap (λ k. k * size) d, add-mul (next - q.length) q.length size, mul-le-mul_right {m = next} {n = r.length} size h)

-- ---- rows that ascend and do not overlap

-- some ranges end at or below an address, counted in units
abbrev pub EndBy : ℕ → ℕ → List Range → Type 0
EndBy size end rs = All (λ q. end_of size q ≤ end * size) rs

-- they cover no unit of a range that begins there or further on
past-covered : (size end : ℕ) (before : List Range) (r : Range) (j : ℕ) → EndBy size end before → end * size ≤ r.start → covered size before r j ≡ false
past-covered size end [] r j a h = refl
past-covered size end (q ∷ before) r j a h =
    or-neither (covers size q (r.start + j * size)) (covered size before r j)
    (rw (le-ltb (r.start + j * size) (end_of size q) (omega (arith, a.0, h))) (and-false (leb q.start (r.start + j * size))))
    (past-covered size end before r j a.1 h)

-- all rows before one end at or below a unit, and it begins with that or a later one, its first
module _ (size : ℕ) (rs : List Range) (i : ℕ) (h : i < length rs) (end first : ℕ) (a : EndBy size end (take i rs)) (e : first * size ≡ (row_of rs i).start) (l : end ≤ first) where
  -- the whole row is one piece
  left-whole : units_left size rs i 0 ≡ units_of_row i size (row_of rs i).start (row_of rs i).length ++ units_left size rs (i + 1) 0
  left-whole =
      let z : (row_of rs i).start + 0 * size ≡ (row_of rs i).start = omega (arith, zero-mul size) in
      left-take size rs i 0 (row_of rs i).length (omega arith) (λ k b c. ap not (past-covered size end (take i rs) (row_of rs i) k a (omega (arith, e, mul-le-mul_right {m = end} {n = first} size l))))
      ∙ ap₂ (λ x us. units_of_row i size x (row_of rs i).length ++ us) z (left_step size rs i (0 + (row_of rs i).length) (omega arith))

  -- where it ends, all rows up to it have ended
  ends_next : EndBy size (first + (row_of rs i).length) (take (i + 1) rs)
  ends_next =
      let m = add-mul first (row_of rs i).length size in
      rw (add-one, take-suc rs i no_range h)
      (All-append (λ q. end_of size q ≤ (first + (row_of rs i).length) * size) (take i rs) (row_of rs i ∷ [])
      (All-map (λ q b. omega (arith, b, m, mul-le-mul_right {m = end} {n = first} size l)) (take i rs) a) (omega (arith, e, m), tt))

-- the same of a row of the first n ranges, which pass 19 to 21: what a loop over them that carries the end knows of a row that begins at or past it
pub row-whole : (g n : ℕ) (rs : List Range) (i end first : ℕ) → i < n → n ≤ length rs → rows_ok g (take n rs) ≡ true → EndBy (unit_size g) end (take i (take n rs))
    → first ≡ whole_units g (row_of rs i).start → end ≤ first
    → (units_left (unit_size g) (take n rs) i 0 ≡ units_of_row i (unit_size g) (row_of rs i).start (row_of rs i).length ++ units_left (unit_size g) (take n rs) (i + 1) 0)
    × EndBy (unit_size g) (first + (row_of rs i).length) (take (i + 1) (take n rs))
row-whole g n rs i end first h k ok a e l =
    let in-front : i < length (take n rs) = omega (arith, length-take n rs) in
    let same : row_of (take n rs) i ≡ row_of rs i = get_or-take n rs i no_range h in
    let begins : first * unit_size g ≡ (row_of (take n rs) i).start =
    rw (e, same) (whole (unit_size g) (row_of rs i).start (rows_ok-front g rs n i ok h (omega arith)).aligned) in
    rw (sym same) (left-whole (unit_size g) (take n rs) i in-front end first a begins l, ends_next (unit_size g) (take n rs) i in-front end first a begins l)
