-- Laws of a noted write: in each range the touched units are a span, so marking spans of the marks, range by range, is what the rules say.
-- Assumes nothing.
use mathlib.Core.Path.{◌≡◌, refl, sym, ap, ap₂, subst, ◌∙◌}
use mathlib.Core.Bool.{Bool, true, false, ◌&&◌, ◌||◌, not, cond, or-false, or-true}
use mathlib.Core.List.{List, [], ◌∷◌, ◌++◌}
use Prim.Native.Nat.{ℕ, zero, suc, ◌+◌, ◌-◌, ◌*◌, ◌/◌, ◌^◌, ◌≤◌, ◌<◌, min}
use native.Mathlib.Omega.{arith}
use native.Mathlib.Nat.{suc-add, zero-add, add_assoc, add-zero, div-lt_iff_lt-mul, suc-mul, lt_of_not-le}
use native.Mathlib.Decide.{dec_lt, dec_le}
use lib.Dec.{leb, ltb}
use lib.ListN.{length, get_or, take, drop, length-append, take-append-drop}
use lib.Seq.{ext_get_or, take-add, drop-drop}
use borrow.Author.Tests.{le-leb, lt-leb, lt-ltb, le-ltb}
use Rattle.bits.specs.Flat.{flat}
use Rattle.bits.specs.Span.{fill, clears}
use Rattle.bits.specs.Share.{Holds, get_share, put_share}
use Rattle.bits.proofs.Flat.{flat-length}
use Rattle.bits.proofs.Span.{fill-length, fill-at-below, fill-at-in, fill-at-above, clears-cons, clears-ext}
use Rattle.bits.proofs.Share.{get_share-length, get_share-put_share-above, put_share-append, fill-share, clears-share}
use Rattle.rules.specs.Lists.{keep}
use Rattle.rules.specs.Settings.{unit_size}
use Rattle.rules.specs.Units.{Unit, Write, units_of_row, uncovered, units, touches, mark, newly}
use Rattle.rules.specs.declared.Range.{Range}
use Rattle.rules.proofs.UnitLaws.{units_of_row-length, units_of_row-at, mark-length, mark-append, newly-append, newly-le, mark-at}
use Rattle.pieces.specs.Pieces.{unit_of}
use Rattle.marking.specs.Note.{write_to, Touched, units_of, mark_in, newly_in}

no_unit : Unit
no_unit = record { row = 0; address = 0; size = 0 }

-- ---- a span of touched units

-- an index is from `from` on, and below `to`
abbrev among : ℕ → ℕ → ℕ → Bool
among from to j = leb from j && ltb j to

among_below : (from to j : ℕ) → j < from → among from to j ≡ false
among_below from to j h = rw (lt-leb from j h)

among_in : (from to j : ℕ) → from ≤ j → j < to → among from to j ≡ true
among_in from to j h k = rw (le-leb from j h, lt-ltb j to k)

among-above : (from to j : ℕ) → to ≤ j → among from to j ≡ false
among-above from to j h = rw (le-ltb j to h) (and-false' (leb from j))
  where
    and-false' : (b : Bool) → (b && false) ≡ false
    and-false' true = refl
    and-false' false = refl

module _ (w : Write) where
  -- units of which just those of a span are touched
  abbrev SpanTouched : List Unit → ℕ → ℕ → Type 0
  SpanTouched us from n = (j : ℕ) → j < length us → touches w (get_or us j no_unit) ≡ among from (from + n) j

  mark-span : (us : List Unit) (p : List Bool) (from n : ℕ) → length p ≡ length us → from + n ≤ length us → SpanTouched us from n → mark w us p ≡ fill true p from n
  mark-span us p from n e h f =
      ext_get_or false (mark w us p) (fill true p from n) (mark-length w us p e ∙ sym (fill-length true p from n ∙ e))
      (λ j l. let k : j < length us = omega (arith, mark-length w us p e) in mark-at w us p j no_unit e k ∙ rw (f j k) (at j k (dec_lt j from) (dec_lt j (from + n))))
    where
      at : (j : ℕ) → j < length us → Dec (j < from) → Dec (j < from + n) → (get_or p j false || among from (from + n) j) ≡ get_or (fill true p from n) j false
      at j k (yes b) c = rw (among_below from (from + n) j b) (or-false (get_or p j false) ∙ sym (fill-at-below true p from n j false b))
      at j k (no b) (yes c) = rw (among_in from (from + n) j (omega arith) c) (or-true (get_or p j false) ∙ sym (fill-at-in true p from n j false (omega arith) c (omega arith)))
      at j k (no b) (no c) = rw (among-above from (from + n) j (omega arith)) (or-false (get_or p j false) ∙ sym (fill-at-above true p from n j false (omega arith)))

  newly-span : (us : List Unit) (p : List Bool) (from n : ℕ) → length p ≡ length us → from + n ≤ length us → SpanTouched us from n → newly w us p ≡ clears p from n
  unfolding clears
  newly-span [] [] zero zero e h f = refl
  newly-span [] [] zero (suc n) e h f = absurd (omega arith)
  newly-span [] [] (suc from) n e h f = absurd (omega arith)
  newly-span [] (b ∷ p) from n e h f = absurd (omega arith)
  newly-span (u ∷ us) [] from n e h f = absurd (omega arith)
  newly-span (u ∷ us) (b ∷ p) (suc from) n e h f =
      rw (f 0 (omega arith) ∙ among_below (suc from) (suc from + n) 0 (omega arith))
      (zero-add (newly w us p)
      ∙ newly-span us p from n (omega arith) (omega arith) (λ j l. f (suc j) (omega arith) ∙ shift from n j)
      ∙ clears-ext p (b ∷ p) from (suc from) n (λ j l. rw suc-add))
    where
      shift : (from n j : ℕ) → among (suc from) (suc from + n) (suc j) ≡ among from (from + n) j
      shift from n j = go (dec_lt j from) (dec_lt j (from + n))
        where
          go : Dec (j < from) → Dec (j < from + n) → among (suc from) (suc from + n) (suc j) ≡ among from (from + n) j
          go (yes b) c = among_below (suc from) (suc from + n) (suc j) (omega arith) ∙ sym (among_below from (from + n) j b)
          go (no b) (yes c) = among_in (suc from) (suc from + n) (suc j) (omega arith) (omega arith) ∙ sym (among_in from (from + n) j (omega arith) c)
          go (no b) (no c) = among-above (suc from) (suc from + n) (suc j) (omega arith) ∙ sym (among-above from (from + n) j (omega arith))
  newly-span (u ∷ us) (b ∷ p) zero zero e h f =
      rw (f 0 (omega arith) ∙ among-above 0 (0 + 0) 0 (omega arith))
      (zero-add (newly w us p) ∙ newly-span us p 0 0 (omega arith) (omega arith) (λ j l. f (suc j) (omega arith) ∙ among-above 0 (0 + 0) (suc j) (omega arith) ∙ sym (among-above 0 (0 + 0) j (omega arith))))
  newly-span (u ∷ us) (b ∷ p) zero (suc n) e h f =
      rw (f 0 (omega arith) ∙ among_in 0 (0 + suc n) 0 (omega arith) (omega arith))
      (ap₂ (λ x y. x + y) (first b)
      (newly-span us p 0 n (omega arith) (omega arith) (λ j l. f (suc j) (omega arith) ∙ shift n j (dec_lt j n)))
      ∙ sym (clears-cons b p n))
    where
      first : (b : Bool) → ◌≡◌ {A = ℕ} (cond (not b) 1 0) (cond b 0 1)
      first true = refl
      first false = refl

      shift : (n j : ℕ) → Dec (j < n) → among 0 (0 + suc n) (suc j) ≡ among 0 (0 + n) j
      shift n j (yes c) = among_in 0 (0 + suc n) (suc j) (omega arith) (omega arith) ∙ sym (among_in 0 (0 + n) j (omega arith) (omega arith))
      shift n j (no c) = among-above 0 (0 + suc n) (suc j) (omega arith) ∙ sym (among-above 0 (0 + n) j (omega arith))

  -- ---- one range

  range-span : (size : ℕ) (r : Range) (from to : ℕ) → Touched w size r from to → SpanTouched (units_of size r) from (to - from)
  range-span size r from to t j h =
      let k : j < r.length = omega (arith, units_of_row-length 0 size r.start r.length) in
      let e : from + (to - from) ≡ to = omega (arith, t.order) in
      ap (touches w) (units_of_row-at 0 size r.start r.length j no_unit k) ∙ t.exactly j k ∙ ap (λ x. among from x j) (sym e)

  -- ---- one range: its span is marked, from bit off + from below off + to
  module _ (l : List Bool) (off size : ℕ) (r : Range) (fits : off + r.length ≤ length l) (from to : ℕ) (t : Touched w size r from to) where
    abbrev us : List Unit
    us = units_of size r

    sized : length us ≡ r.length
    sized = units_of_row-length 0 size r.start r.length

    abbrev share : List Bool
    share = get_share l off (length us)

    share-length : length share ≡ length us
    share-length = get_share-length l off (length us) (omega (arith, sized))

    span : off + to - (off + from) ≡ to - from
    span = omega arith

    pub range-bits : fill true l (off + from) (off + to - (off + from)) ≡ mark_in w us l off
    range-bits =
        rw span
        (fill-share l off (length us) (omega (arith, sized)) true from (to - from) (omega (arith, t.order, t.within, sized))
        ∙ ap (put_share l off) (sym (mark-span us share from (to - from) share-length (omega (arith, t.order, t.within, sized)) (range-span size r from to t))))

    pub range-count : clears l (off + from) (off + to - (off + from)) ≡ newly_in w us l off
    range-count =
        rw span
        (clears-share l off (length us) (omega (arith, sized)) from (to - from) (omega (arith, t.order, t.within, sized))
        ∙ sym (newly-span us share from (to - from) share-length (omega (arith, t.order, t.within, sized)) (range-span size r from to t)))

  -- ---- some units after others: bits l, of which those from `off` on are their marks

  module _ (l : List Bool) (off : ℕ) (us rest : List Unit) (fits : off + (length us + length rest) ≤ length l) where
    abbrev firsts : List Bool
    firsts = get_share l off (length us)

    firsts-length : length firsts ≡ length us
    firsts-length = get_share-length l off (length us) (omega arith)

    both : get_share l off (length (us ++ rest)) ≡ firsts ++ get_share l (off + length us) (length rest)
    unfolding get_share
    both = rw (length-append, take-add, drop-drop)

    marked-length : length (mark w us firsts) ≡ length us
    marked-length = mark-length w us firsts firsts-length

    rest-same : get_share (mark_in w us l off) (off + length us) (length rest) ≡ get_share l (off + length us) (length rest)
    rest-same = get_share-put_share-above l off (mark w us firsts) (omega (arith, marked-length)) (off + length us) (length rest) (omega (arith, marked-length)) (omega arith)

    -- the bits: what is left to mark after the first, on the bits as they are then, is all that was to be marked
    note-bits : mark_in w rest (mark_in w us l off) (off + length us) ≡ mark_in w (us ++ rest) l off
    note-bits =
        ap (λ p. put_share (mark_in w us l off) (off + length us) (mark w rest p)) rest-same
        ∙ ap (λ n. put_share (mark_in w us l off) (off + n) (mark w rest (get_share l (off + length us) (length rest)))) (sym marked-length)
        ∙ sym (put_share-append l off (mark w us firsts) (mark w rest (get_share l (off + length us) (length rest))) (omega (arith, marked-length)))
        ∙ ap (put_share l off) (sym (ap (mark w (us ++ rest)) both ∙ mark-append w us rest firsts (get_share l (off + length us) (length rest)) firsts-length))

    -- the count
    note-count : newly_in w us l off + newly_in w rest (mark_in w us l off) (off + length us) ≡ newly_in w (us ++ rest) l off
    note-count =
        ap (λ p. newly_in w us l off + newly w rest p) rest-same
        ∙ sym (ap (newly w (us ++ rest)) both ∙ newly-append w us rest firsts (get_share l (off + length us) (length rest)) firsts-length)

  -- ---- which row units are of does not matter

  mark-row : (row size a n : ℕ) (p : List Bool) → mark w (units_of_row row size a n) p ≡ mark w (units_of_row 0 size a n) p
  mark-row row size a zero p = refl
  mark-row row size a (suc n) [] = refl
  mark-row row size a (suc n) (b ∷ p) = rw (mark-row row size (a + size) n p)

  newly-row : (row size a n : ℕ) (p : List Bool) → newly w (units_of_row row size a n) p ≡ newly w (units_of_row 0 size a n) p
  newly-row row size a zero p = refl
  newly-row row size a (suc n) [] = refl
  newly-row row size a (suc n) (b ∷ p) = rw (newly-row row size (a + size) n p)

  module _ (row size : ℕ) (r : Range) (l : List Bool) (off : ℕ) where
    mark_in-row : mark_in w (units_of_row row size r.start r.length) l off ≡ mark_in w (units_of size r) l off
    mark_in-row = rw (mark-row row size r.start r.length, units_of_row-length row size r.start r.length, units_of_row-length 0 size r.start r.length)

    newly_in-row : newly_in w (units_of_row row size r.start r.length) l off ≡ newly_in w (units_of size r) l off
    newly_in-row = rw (newly-row row size r.start r.length, units_of_row-length row size r.start r.length, units_of_row-length 0 size r.start r.length)

-- ---- which units of a range a write touches

module _ (size : ℕ) (z : 0 < size) (r : Range) (at last : ℕ) (h : at ≤ last) where
  abbrev w : Write
  w = write_to at last

  touched-yes : (j : ℕ) → at < r.start + suc j * size → r.start + j * size ≤ last → touches w (unit_of size r j) ≡ true
  touched-yes j a b =
      rw (lt-ltb 0 (last - at + 1) (omega arith), lt-ltb at (r.start + j * size + size) (omega (arith, suc-mul j size)), lt-ltb (r.start + j * size) (at + (last - at + 1)) (omega arith))

  touched-not-left : (j : ℕ) → r.start + suc j * size ≤ at → touches w (unit_of size r j) ≡ false
  touched-not-left j a = rw (lt-ltb 0 (last - at + 1) (omega arith), le-ltb at (r.start + j * size + size) (omega (arith, suc-mul j size)))

  touched-not-right : (j : ℕ) → last < r.start + j * size → touches w (unit_of size r j) ≡ false
  touched-not-right j a =
      rw (lt-ltb 0 (last - at + 1) (omega arith), lt-ltb at (r.start + j * size + size) (omega arith), le-ltb (r.start + j * size) (at + (last - at + 1)) (omega arith))

  -- a quotient of a distance, as a bound on it
  quotient-lt : (x y : ℕ) → x / size < y → x < y * size
  quotient-lt x y l = (div-lt_iff_lt-mul {x = x} {y = y} z).0 l

  quotient_le : (x y : ℕ) → y ≤ x / size → y * size ≤ x
  quotient_le x y l = go (dec_le (y * size) x)
    where
      go : Dec (y * size ≤ x) → y * size ≤ x
      go (yes b) = b
      go (no b) = absurd (let d : x / size < y = (div-lt_iff_lt-mul {x = x} {y = y} z).1 (lt_of_not-le b) in omega arith)

  among_none : (j : ℕ) → among 0 0 j ≡ false
  among_none j = among-above 0 0 j (omega arith)

  -- the write ends before the range
  pub touched-before : last < r.start → Touched w size r 0 0
  touched-before l = record { order = omega arith; within = omega arith; exactly = λ j k. touched-not-right j (omega arith) ∙ sym (among_none j) }

  -- up to the unit of its last byte
  module _ (to : ℕ) (e : to ≡ min ((last - r.start) / size + 1) r.length) (there : r.start ≤ last) where
    low-enough : (j : ℕ) → j < to → r.start + j * size ≤ last
    low-enough j l = omega (arith, quotient_le (last - r.start) j (omega arith))

    too-high : (j : ℕ) → j < r.length → to ≤ j → last < r.start + j * size
    too-high j k l = omega (arith, quotient-lt (last - r.start) j (omega arith))

    pub touched-to : at ≤ r.start → Touched w size r 0 to
    touched-to l = record { order = omega arith; within = omega arith; exactly = λ j k. go j k (dec_lt j to) }
      where
        go : (j : ℕ) → j < r.length → Dec (j < to) → touches w (unit_of size r j) ≡ among 0 to j
        go j k (yes a) = touched-yes j (omega (arith, suc-mul j size)) (low-enough j a) ∙ sym (among_in 0 to j (omega arith) a)
        go j k (no a) = touched-not-right j (too-high j k (omega arith)) ∙ sym (among-above 0 to j (omega arith))

    module _ (from : ℕ) (e' : from ≡ (at - r.start) / size) (past : r.start < at) where
      from-left : (j : ℕ) → j < from → r.start + suc j * size ≤ at
      from-left j l = omega (arith, quotient_le (at - r.start) (suc j) (omega arith))

      from-right : (j : ℕ) → from ≤ j → at < r.start + suc j * size
      from-right j l = omega (arith, quotient-lt (at - r.start) (suc j) (omega arith))

      pub touched-after : to ≤ from → Touched w size r 0 0
      touched-after l = record { order = omega arith; within = omega arith; exactly = λ j k. go j k (dec_lt j from) }
        where
          go : (j : ℕ) → j < r.length → Dec (j < from) → touches w (unit_of size r j) ≡ among 0 0 j
          go j k (yes a) = touched-not-left j (from-left j a) ∙ sym (among_none j)
          go j k (no a) = touched-not-right j (too-high j k (omega arith)) ∙ sym (among_none j)

      pub touched-span : from < to → Touched w size r from to
      touched-span l = record { order = omega arith; within = omega arith; exactly = λ j k. go j k (dec_lt j from) (dec_lt j to) }
        where
          go : (j : ℕ) → j < r.length → Dec (j < from) → Dec (j < to) → touches w (unit_of size r j) ≡ among from to j
          go j k (yes a) b = touched-not-left j (from-left j a) ∙ sym (among_below from to j a)
          go j k (no a) (yes b) = touched-yes j (from-right j (omega arith)) (low-enough j b) ∙ sym (among_in from to j (omega arith) b)
          go j k (no a) (no b) = touched-not-right j (too-high j k (omega arith)) ∙ sym (among-above from to j (omega arith))

-- ---- the loops over a controller's ranges and over their pieces

-- what is still to be marked, units whose marks stand from a bit on, makes of the marks and the count as they are now what they are to be
pub record Marking (w : Write) (us : List Unit) (words : List ℕ) (from count : ℕ) (bits : List Bool) (total : ℕ) : Type 0 where
  pub held : Holds words from (length us)
  pub marked : mark_in w us (flat words) from ≡ bits
  pub counted : count + newly_in w us (flat words) from ≡ total
  pub few : total < 2 ^ 64

pub marking-start : (w : Write) (us : List Unit) (words : List ℕ) (base : ℕ) → Holds words base (length us)
    → Marking w us words base 0 (mark_in w us (flat words) base) (newly_in w us (flat words) base)
marking-start w us words base h =
    record { held = h; marked = refl; counted = zero-add _; few = omega (arith, h.small, newly-le w us (get_share (flat words) base (length us))) }

module _ (w : Write) (us : List Unit) (words : List ℕ) (at count : ℕ) (bits : List Bool) (total : ℕ) (m : Marking w us words at count bits total) where
  -- the units of a range come first
  module _ (row size : ℕ) (r : Range) (rest : List Unit) (first : us ≡ units_of_row row size r.start r.length ++ rest) where
    abbrev own : List Unit
    own = units_of_row row size r.start r.length

    own-length : length own ≡ r.length
    own-length = units_of_row-length row size r.start r.length

    both-length : length us ≡ r.length + length rest
    both-length = ap length first ∙ length-append own rest ∙ rw own-length

    pub range-held : Holds words at r.length
    range-held = record { within = omega (arith, m.held.within, both-length); small = omega (arith, m.held.small, both-length) }

    -- they are marked, and k of them were clear
    pub marking-next : (words' : List ℕ) (k : ℕ) → length words' ≡ length words → flat words' ≡ mark_in w (units_of size r) (flat words) at → k ≡ newly_in w (units_of size r) (flat words) at
        → Marking w rest words' (at + r.length) (count + k) bits total
    marking-next words' k same e e' =
        record {
          held = record { within = omega (arith, m.held.within, both-length, same); small = omega (arith, m.held.small, both-length) };
          marked =
              ap₂ (λ b n. mark_in w rest b (at + n)) put (sym own-length)
              ∙ note-bits w (flat words) at own rest fits
              ∙ subst (λ us. mark_in w us (flat words) at ≡ bits) first m.marked;
          counted =
              ap₂ (λ x b. count + x + newly_in w rest b (at + r.length)) new put
              ∙ ap (λ n. count + newly_in w own (flat words) at + newly_in w rest (mark_in w own (flat words) at) (at + n)) (sym own-length)
              ∙ add_assoc count (newly_in w own (flat words) at) _
              ∙ ap (λ x. count + x) (note-count w (flat words) at own rest fits)
              ∙ subst (λ us. count + newly_in w us (flat words) at ≡ total) first m.counted;
          few = m.few;
        }
      where
        fits : at + (length own + length rest) ≤ length (flat words)
        fits = omega (arith, m.held.within, both-length, own-length, flat-length words)

        put : flat words' ≡ mark_in w own (flat words) at
        put = e ∙ sym (mark_in-row w row size r (flat words) at)

        new : k ≡ newly_in w own (flat words) at
        new = e' ∙ sym (newly_in-row w row size r (flat words) at)

  -- all that is left is marked, and k of it was clear
  pub marking-rest : (words' : List ℕ) (k : ℕ) → flat words' ≡ mark_in w us (flat words) at → k ≡ newly_in w us (flat words) at → (count + k ≡ total) × (flat words' ≡ bits)
  marking-rest words' k e e' = (ap (λ x. count + x) e' ∙ m.counted, e ∙ m.marked)

  -- nothing is left
  pub marking-end : us ≡ [] → (count ≡ total) × (flat words ≡ bits)
  unfolding put_share
  marking-end none =
      let e : at + 0 ≡ at = omega arith in (
        sym (add-zero count) ∙ subst (λ us. count + newly_in w us (flat words) at ≡ total) none m.counted,
        sym (take-append-drop at (flat words)) ∙ ap (λ k. take at (flat words) ++ drop k (flat words)) (sym e)
            ∙ subst (λ us. mark_in w us (flat words) at ≡ bits) none m.marked,
      )

-- ---- a range that is listed alone

-- no range covers a unit before it
kept_whole : (size : ℕ) (us : List Unit) → keep (uncovered size []) us ++ [] ≡ us
kept_whole size [] = refl
kept_whole size (u ∷ us) = ap (λ l. u ∷ l) (kept_whole size us)

pub units-alone : (g : ℕ) (r : Range) → units g (r ∷ []) ≡ units_of (unit_size g) r
units-alone g r = kept_whole (unit_size g) (units_of_row 0 (unit_size g) r.start r.length)

pub alone-held : (ws : List ℕ) (base g : ℕ) (r : Range) → Holds ws base (length (units g (r ∷ []))) → Holds ws base r.length
alone-held ws base g r h =
    subst (Holds ws base) (ap length (units-alone g r) ∙ units_of_row-length 0 (unit_size g) r.start r.length) h
