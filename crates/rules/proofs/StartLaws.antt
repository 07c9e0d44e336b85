-- Laws of the start structure, and both round trips: its reader and its writer rest on one description of a range's record. Assumes nothing.
use mathlib.Core.Path.{◌≡◌, refl, sym, ap, ◌∙◌}
use mathlib.Core.List.{List, [], ◌∷◌, ◌++◌, append_assoc}
use Prim.Native.Nat.{ℕ, ◌+◌, ◌*◌, ◌%◌, ◌≤◌, ◌<◌}
use native.Mathlib.Nat.{zero-add}
use native.Mathlib.Omega.{arith}
use lib.ListN.{length, get_or, take, drop, replicate, length-append}
use lib.Seq.{take-add, drop-drop}
use borrow.Author.Tests.{leb-true, eqb-true, le-leb}
use Rattle.little.specs.Little.{number_bytes, put, records, records_at}
use Rattle.little.proofs.Put.{put_is, put-drop-after, put-take-front}
use Rattle.little.proofs.Numbers.{number_bytes-length, number_at-here, number_at-next, number_bytes-number_at}
use Rattle.little.proofs.Records.{records-length, records_at-length, records_at-here, records-records_at}
use Rattle.rules.specs.StartData.{version_of, granularity_of, count_of, range_at, ranges_of, start_size, read_tests, start_data, no_range, placed, range_bytes, header_bytes, start_bytes, write_tests, start_written}
use Rattle.rules.specs.Demands.{Fits, Bytes, WithoutLoss}
use Rattle.rules.specs.declared.Range.{Range}
use Rattle.rules.specs.declared.Header.TheVariants.{Is, Refused}
use Rattle.rules.specs.declared.StartData.{StartData}
use Rattle.rules.proofs.RefusalLaws.{Passed, verdict-has}

-- ---- sizes

pub range_bytes-length : (r : Range) → length (range_bytes r) ≡ 12
range_bytes-length r = simp (length-append, number_bytes-length)

pub header_bytes-length : (g n : ℕ) → length (header_bytes g n) ≡ 8
header_bytes-length g n = simp (length-append, number_bytes-length)

pub start_bytes-length : (g : ℕ) (rs : List Range) → length (start_bytes g rs) ≡ start_size (length rs)
unfolding start_bytes
start_bytes-length g rs = rw (length-append, header_bytes-length g (length rs), records-length range_bytes 12 range_bytes-length rs)

pub ranges_of-length : (x : List ℕ) → length (ranges_of x) ≡ count_of x
unfolding ranges_of
ranges_of-length x = records_at-length range_at 12 x 8 (count_of x)

-- ---- one range: read where it was written, and written where it was read

range_at-here : (x q : List ℕ) (at : ℕ) (r : Range) → Fits r → drop at x ≡ range_bytes r ++ q → range_at x at ≡ r
range_at-here x q at r f h =
    let h0 : drop at x ≡ number_bytes 8 r.start ++ (number_bytes 4 r.length ++ q) = rw append_assoc at h in
    rw (number_at-here x at 8 _ _ h0 f.start, number_at-here x (at + 8) 4 _ _ (number_at-next x at 8 _ _ h0) f.length)

range_bytes-range_at : (x : List ℕ) → Bytes x → (at : ℕ) → at + 12 ≤ length x → range_bytes (range_at x at) ≡ take 12 (drop at x)
range_bytes-range_at x b at h =
    rw (number_bytes-number_at x b at 8 (omega arith), number_bytes-number_at x b (at + 8) 4 (omega arith), take-add 8 4 (drop at x), drop-drop 8 at x)

-- ---- what the reader answers where all is there

start_data-whole : (x : List ℕ) (g n : ℕ) → version_of x ≡ 0 → granularity_of x ≡ g → count_of x ≡ n → n ≤ 16 → start_size n ≤ length x
    → start_data x ≡ record { header = Is g n; ranges = placed (ranges_of x) }
unfolding start_data
start_data-whole x g n v eg en few room =
    let long : 8 ≤ length x = omega arith in
    rw (le-leb 8 (length x) long, v, eg, en, le-leb n 16 few, le-leb (start_size n) (length x) room)

-- ---- reading what was written gives the same values

module _ (buffer : List ℕ) (g : ℕ) (rs : List Range) (fits : (i : ℕ) → i < length rs → Fits (get_or rs i no_range)) (few : length rs ≤ 16) (room : start_size (length rs) ≤ length buffer) where
  rest : List ℕ
  rest = drop (start_size (length rs)) buffer

  written_is : start_written buffer g (length rs) rs ≡ start_bytes g rs ++ rest
  unfolding start_written rest
  written_is =
      rw (le-leb (length rs) 16 few, le-leb (start_size (length rs)) (length buffer) room)
      (put_is buffer 0 (start_bytes g rs) (omega (arith, start_bytes-length g rs)) ∙ rw (start_bytes-length g rs, zero-add))

  after-header : drop 8 (start_bytes g rs ++ rest) ≡ records range_bytes rs ++ rest
  unfolding start_bytes number_bytes
  after-header = refl

  count-back : count_of (start_bytes g rs ++ rest) ≡ length rs
  unfolding start_bytes number_bytes
  count-back = number_at-here (start_bytes g rs ++ rest) 4 4 (length rs) (records range_bytes rs ++ rest) refl (omega arith)

  ranges-back : ranges_of (start_bytes g rs ++ rest) ≡ rs
  unfolding ranges_of
  ranges-back =
      rw count-back
      (records_at-here range_bytes range_at 12 range_bytes-length Fits range_at-here (start_bytes g rs ++ rest) rest 8 (length rs) rs no_range refl fits after-header)

  read_written : g < 256 → start_data (start_written buffer g (length rs) rs) ≡ record { header = Is g (length rs); ranges = placed rs }
  unfolding start_bytes number_bytes
  read_written small =
      let long : start_size (length rs) ≤ length (start_bytes g rs ++ rest) = omega (arith, length-append (start_bytes g rs) rest, start_bytes-length g rs) in
      rw written_is
      (start_data-whole (start_bytes g rs ++ rest) g (length rs) refl (omega arith) count-back few long ∙ rw ranges-back)

-- ---- writing what was read gives the same bytes

-- what was there, where a structure was read
record Whole (x : List ℕ) (g n : ℕ) (rs : List Range) : Type 0 where
  few : n ≤ 16
  room : start_size n ≤ length x
  version : version_of x ≡ 0
  granularity : granularity_of x ≡ g
  count : count_of x ≡ n
  ranges : rs ≡ placed (ranges_of x)

whole : (x : List ℕ) (g n : ℕ) (rs : List Range) → start_data x ≡ record { header = Is g n; ranges = rs } → Whole x g n rs
unfolding start_data
whole x g n rs =
    verdict-has (λ (d : StartData). d ≡ record { header = Is g n; ranges = rs } → Whole x g n rs)
    (λ k at. record { header = Refused k at; ranges = placed [] })
    (λ k at e. refused-not k at e)
    (read_tests x) (record { header = Is (granularity_of x) (count_of x); ranges = placed (ranges_of x) }) passed
  where
    refused-not : (k at : ℕ) → ◌≡◌ {A = StartData} (record { header = Refused k at; ranges = placed [] }) (record { header = Is g n; ranges = rs }) → Whole x g n rs
    refused-not k at e =
        let f : Refused k at ≡ Is g n = ap (λ (d : StartData). d.header) e in
        let z : ◌≡◌ {A = ℕ} 0 1 = cc in
        absurd (omega arith)

    passed : Passed (read_tests x) → ◌≡◌ {A = StartData} (record { header = Is (granularity_of x) (count_of x); ranges = placed (ranges_of x) }) (record { header = Is g n; ranges = rs }) → Whole x g n rs
    passed h e =
        let f : Is (granularity_of x) (count_of x) ≡ Is g n = ap (λ (d : StartData). d.header) e in
        let eg : granularity_of x ≡ g = cc in
        let en : count_of x ≡ n = cc in
        record {
          few = rw en at (leb-true (count_of x) 16 h.1.1.0);
          room = rw en at (leb-true (start_size (count_of x)) (length x) h.1.1.1.0);
          version = eqb-true (version_of x) 0 h.1.0;
          granularity = eg;
          count = en;
          ranges = sym (ap (λ (d : StartData). d.ranges) e);
        }

take-4 : (x : List ℕ) → 4 ≤ length x → take 4 x ≡ get_or x 0 0 ∷ get_or x 1 0 ∷ get_or x 2 0 ∷ get_or x 3 0 ∷ []
take-4 [] h = absurd (omega arith)
take-4 (a ∷ []) h = absurd (omega arith)
take-4 (a ∷ b ∷ []) h = absurd (omega arith)
take-4 (a ∷ b ∷ c ∷ []) h = absurd (omega arith)
take-4 (a ∷ b ∷ c ∷ d ∷ x) h = refl

written_read : (x : List ℕ) (g n : ℕ) (rs : List Range) → Bytes x → get_or x 1 0 ≡ 0 → get_or x 2 0 ≡ 0
    → start_data x ≡ record { header = Is g n; ranges = rs } → start_bytes g (take n rs) ≡ take (start_size n) x
unfolding start_bytes number_bytes ranges_of
written_read x g n rs b r1 r2 e =
    let w = whole x g n rs e in
    let few = w.few in
    let room = w.room in
    let size : length (ranges_of x) ≡ n = ranges_of-length x ∙ w.count in
    let front : take n rs ≡ ranges_of x = rw w.ranges (put-take-front (replicate 16 no_range) n (ranges_of x) size few) in
    let tail : records range_bytes (records_at range_at 12 x 8 n) ≡ take (12 * n) (drop 8 x) =
    records-records_at range_bytes range_at 12 x (range_bytes-range_at x b) 8 n (omega arith) in
    let four : take 4 x ≡ 0 ∷ 0 ∷ 0 ∷ g ∷ [] = take-4 x (omega arith) ∙ rw (w.version, r1, r2, w.granularity) in
    let split : start_size n ≡ 4 + (4 + 12 * n) = omega arith in
    let small : g % 256 ≡ g = omega (arith, b 3, w.granularity) in
    rw (
      front,
      size,
      w.count,
      tail,
      split,
      take-add 4 (4 + 12 * n) x,
      four,
      take-add 4 (12 * n) (drop 4 x),
      drop-drop 4 4 x,
      ← number_bytes-number_at x b 4 4 (omega arith),
      w.count,
      small,
    )

rest-unchanged : (buffer : List ℕ) (g n : ℕ) (rs : List Range) → drop (start_size (length rs)) (start_written buffer g n rs) ≡ drop (start_size (length rs)) buffer
unfolding start_written
rest-unchanged buffer g n rs =
    verdict-has (λ (l : List ℕ). drop (start_size (length rs)) l ≡ drop (start_size (length rs)) buffer) (λ k at. buffer) (λ k at. refl)
    (write_tests (length buffer) n) (put buffer 0 (start_bytes g rs))
    (λ h. put-drop-after buffer 0 (start_bytes g rs) (start_size (length rs)) (omega (arith, start_bytes-length g rs)))

pub without-loss : WithoutLoss
without-loss =
    record {
      read_written = λ buffer g rs small fits few room. read_written buffer g rs fits few room small;
      written_read = written_read;
      rest = rest-unchanged;
    }
