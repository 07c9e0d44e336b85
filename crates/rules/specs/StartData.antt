-- Document 01, "The start structure" (NVMe: Track Memory Changes data structure): where its fields stand, what its reader and its writer answer.
-- The layout is that of figures TMC-FIG2 and TMC-FIG3 of source document 001: version in byte 0, bytes 2:1 reserved, granularity in byte 3,
-- count in bytes 7:4, and from byte 8 on 12 bytes for each range, its start address in 7:0 and its length in units in 11:8.
use Rattle.std.specs.Prelude.{ℕ, ◌+◌, ◌-◌, ◌*◌, ◌/◌, Bool, List, [], ◌∷◌, ◌++◌, leb, eqb, length, get_or, replicate}
use Rattle.little.specs.Little.{number_at, number_bytes, put, records, records_at}
use Rattle.rules.specs.Refusals.{Test, ◌else◌, ◌place◌, verdict}
use Rattle.rules.specs.declared.Range.{Range}
use Rattle.rules.specs.declared.Header.{Header}
use Rattle.rules.specs.declared.Header.TheVariants.{Is, Refused}
use Rattle.rules.specs.declared.StartData.{StartData}

-- ---- the fields

abbrev pub version_of : List ℕ → ℕ
version_of x = get_or x 0 0

abbrev pub granularity_of : List ℕ → ℕ
granularity_of x = get_or x 3 0

abbrev pub count_of : List ℕ → ℕ
count_of x = number_at x 4 4

-- a range's record of 12 bytes at an index
abbrev pub range_at : List ℕ → ℕ → Range
range_at x at = record { start = number_at x at 8; length = number_at x (at + 8) 4 }

-- the listed ranges
unfoldable pub ranges_of : List ℕ → List Range
ranges_of x = records_at range_at 12 x 8 (count_of x)

-- the bytes of a structure with n ranges
abbrev pub start_size : ℕ → ℕ
start_size n = 8 + 12 * n

-- ---- what is there

-- 8: the header is there
abbrev pub header_there : List ℕ → Bool
header_there x = leb (start_size 0) (length x)

-- 6
abbrev pub version_ok : List ℕ → Bool
version_ok x = eqb (version_of x) 0

-- 8: all listed ranges are there
abbrev pub ranges_there : List ℕ → Bool
ranges_there x = leb (start_size (count_of x)) (length x)

-- the place of the first range that is not wholly there
abbrev pub stops_at : List ℕ → ℕ
stops_at x = start_size ((length x - 8) / 12)

-- ---- reading

-- what the header's reader checks: 8 and 6, both at place 0
abbrev pub header_tests : List ℕ → List Test
header_tests x = (header_there x else 8) ∷ (version_ok x else 6) ∷ []

-- the header, or the refusal and its place
unfoldable pub header_of : List ℕ → Header
header_of x = verdict (header_tests x) (Is (granularity_of x) (count_of x)) Refused

-- what the structure's reader checks: 8, 6, a count over 16 as 18 at the count's place, then 8 at the first range that is not wholly there
abbrev pub read_tests : List ℕ → List Test
read_tests x = header_tests x ++ (leb (count_of x) 16 else 18 place 4) ∷ (ranges_there x else 8 place stops_at x) ∷ []

-- a range of zeros, as in the places that are not in use
abbrev pub no_range : Range
no_range = record { start = 0; length = 0 }

-- 16 places of which the first hold some ranges
abbrev pub placed : List Range → List Range
placed rs = put (replicate 16 no_range) 0 rs

-- what reading the structure answers
unfoldable pub start_data : List ℕ → StartData
start_data x =
    verdict (read_tests x)
    (record { header = Is (granularity_of x) (count_of x); ranges = placed (ranges_of x) })
    (λ n at. record { header = Refused n at; ranges = placed [] })

-- ---- writing

abbrev pub range_bytes : Range → List ℕ
range_bytes r = number_bytes 8 r.start ++ number_bytes 4 r.length

-- version 0, two reserved bytes, the granularity, the count
abbrev pub header_bytes : ℕ → ℕ → List ℕ
header_bytes g n = number_bytes 1 0 ++ (number_bytes 2 0 ++ (number_bytes 1 g ++ number_bytes 4 n))

-- the structure's bytes
unfoldable pub start_bytes : ℕ → List Range → List ℕ
start_bytes g rs = header_bytes g (length rs) ++ records range_bytes rs

-- what the writer of n ranges into a buffer of so many bytes checks: more than 16, then a buffer too short
abbrev pub write_tests : ℕ → ℕ → List Test
write_tests size n = (leb n 16 else 18) ∷ (leb (start_size n) size else 8) ∷ []

-- what a buffer holds after the writer was asked to write n ranges: bytes after the structure, or where it was refused all, are as they were
unfoldable pub start_written : List ℕ → ℕ → ℕ → List Range → List ℕ
start_written buffer g n rs = verdict (write_tests (length buffer) n) (put buffer 0 (start_bytes g rs)) (λ k at. buffer)
