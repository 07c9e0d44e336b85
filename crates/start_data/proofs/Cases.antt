-- The promises case by case, a law for each return: `search` finds it there, since its premises have the shape of what is known. The crate's own.
-- Assumes nothing.
use mathlib.Core.Path.{◌≡◌, sym, ◌∙◌}
use mathlib.Core.Logic.{◌≢◌}
use mathlib.Core.List.{List}
use Prim.Native.Nat.{ℕ, ◌≤◌, ◌<◌}
use borrow.Author.Tests.{leb-true, le-leb, lt-leb, eq-eqb, ne_eqb}
use lib.ListN.{length, take, replicate}
use lib.Seq.{length-take-le}
use Rattle.little.specs.Little.{put, records, records_at}
use Rattle.little.proofs.Put.{put-append}
use Rattle.rules.specs.Refusals.{refusal}
use Rattle.rules.specs.StartData.{version_of, granularity_of, count_of, range_at, ranges_of, start_size, stops_at, header_of, start_data, no_range, placed, range_bytes, header_bytes, start_bytes, write_tests, start_written}
use Rattle.rules.specs.declared.Range.{Range}
use Rattle.rules.specs.declared.Header.{Header}
use Rattle.rules.specs.declared.Header.TheVariants.{Is, Refused}
use Rattle.rules.specs.declared.StartData.{StartData}
use Rattle.rules.proofs.StartLaws.{header_bytes-length}
use Rattle.start_data.proofs.Answers.{HeaderIs, HeaderRefused, no_header, other_version, header_of-is, header_of-refused}

-- ---- read_header

module _ (x : List ℕ) where
  pub read-header-short : length x < 8 → Refused 8 0 ≡ header_of x
  unfolding header_of
  read-header-short short = rw (lt-leb 8 (length x) short)

  pub read-header-version : 8 ≤ length x → version_of x ≢ 0 → Refused 6 0 ≡ header_of x
  unfolding header_of
  read-header-version there other = rw (le-leb 8 (length x) there, ne_eqb (version_of x) 0 other)

  pub read-header-whole : (n : ℕ) → 8 ≤ length x → version_of x ≡ 0 → n ≡ count_of x → Is (granularity_of x) n ≡ header_of x
  unfolding header_of
  read-header-whole n there version e = rw (le-leb 8 (length x) there, eq-eqb (version_of x) 0 version, e)

-- ---- read_start

-- an answer with no range
abbrev no_ranges : Header → StartData
no_ranges h = record { header = h; ranges = replicate 16 no_range }

module _ (x : List ℕ) (h : Header) (e : h ≡ header_of x) where
  pub read-start-refused : (r : StartData) (k at : ℕ) → r ≡ no_ranges h → h ≡ Refused k at → r ≡ start_data x
  unfolding start_data put
  read-start-refused r k at q f = q ∙ rw f (go k at (header_of-refused x k at (sym e ∙ f)))
    where
      go : (k at : ℕ) → HeaderRefused x k at → no_ranges (Refused k at) ≡ start_data x
      go k at (no_header t) = rw t
      go k at (other_version t v) = rw (t, v)

  module _ (g n : ℕ) (f : h ≡ Is g n) where
    told : HeaderIs x g n
    told = header_of-is x g n (sym e ∙ f)

    pub read-start-there : 8 ≤ length x
    read-start-there = leb-true 8 (length x) told.there

    pub read-start-many : (r : StartData) → r ≡ no_ranges (Refused 18 4) → 16 < n → r ≡ start_data x
    unfolding start_data put
    read-start-many r q many = rw (q, told.there, told.version, told.count, lt-leb n 16 many)

    pub read-start-short : (r : StartData) → r ≡ no_ranges (Refused 8 (stops_at x)) → n ≤ 16 → length x < start_size n → r ≡ start_data x
    unfolding start_data put
    read-start-short r q few short = rw (q, told.there, told.version, told.count, le-leb n 16 few, lt-leb (start_size n) (length x) short)

    pub read-start-whole : (rs : List Range) → rs ≡ placed (records_at range_at 12 x 8 n) → n ≤ 16 → start_size n ≤ length x
        → ◌≡◌ {A = StartData} (record { header = Is g n; ranges = rs }) (start_data x)
    unfolding start_data ranges_of
    read-start-whole rs q few room =
        rw (q, told.there, told.version, told.granularity, told.count, le-leb n 16 few, le-leb (start_size n) (length x) room)

-- ---- write_start

-- what it promises of its number and of the buffer
abbrev Wrote : List ℕ → ℕ → ℕ → List Range → ℕ → List ℕ → Type 0
Wrote l g n rs k l' = (k ≡ refusal (write_tests (length l) n)) × (l' ≡ start_written l g n (take n rs))

module _ (l : List ℕ) (g n : ℕ) (rs : List Range) where
  pub write-start-many : 16 < n → Wrote l g n rs 18 l
  unfolding start_written
  write-start-many many = let t = lt-leb n 16 many in (rw t, rw t)

  pub write-start-short : n ≤ 16 → length l < start_size n → Wrote l g n rs 8 l
  unfolding start_written
  write-start-short few short =
      let t = le-leb n 16 few in
      let u = lt-leb (start_size n) (length l) short in
      (rw (t, u), rw (t, u))

  pub write-start-whole : (l' l'' : List ℕ) → n ≤ 16 → start_size n ≤ length l → n ≤ length rs → l' ≡ put l 0 (header_bytes g n)
      → l'' ≡ put l' 8 (records range_bytes (take n rs)) → Wrote l g n rs 0 l''
  unfolding start_written start_bytes
  write-start-whole l' l'' few room there e f =
      let t = le-leb n 16 few in
      let u = le-leb (start_size n) (length l) room in
      (rw (t, u), rw (t, u, f, e, length-take-le n rs there, put-append l 0 (header_bytes g n), header_bytes-length g n))
