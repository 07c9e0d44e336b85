-- Document 02, W1: the host's reader of a report (NVMe: Tracked Memory Changed data structure): its header, and its descriptors by index.
-- Reserved bits and bytes are not looked at. What a report's writer stores stands in Report.antt.
use Rattle.std.specs.Prelude.{ℕ, suc, ◌+◌, ◌*◌, ◌/◌, ◌%◌, Bool, not, ◌&&◌, cond, List, [], ◌∷◌, ◌++◌, leb, ltb, eqb, length, get_or}
use Rattle.little.specs.Little.{number_at, records_at}
use Rattle.rules.specs.Refusals.{Test, ◌else◌, ◌place◌, refusal, place_in, or_zero}
use Rattle.rules.specs.Ranges.{row_ok}
use Rattle.rules.specs.Report.{Descriptor, range_of}

-- ---- the fields

-- the bytes of a report with n descriptors
abbrev pub report_size : ℕ → ℕ
report_size n = 16 + 16 * n

abbrev pub version_in : List ℕ → ℕ
version_in x = get_or x 0 0

-- attributes: bit 0 More To Report, bit 1 suspended; the others are reserved
abbrev pub more_in : List ℕ → Bool
more_in x = eqb (get_or x 1 0 % 2) 1

abbrev pub suspended_in : List ℕ → Bool
suspended_in x = eqb (get_or x 1 0 / 2 % 2) 1

abbrev pub identifier_in : List ℕ → ℕ
identifier_in x = number_at x 2 2

abbrev pub count_in : List ℕ → ℕ
count_in x = number_at x 4 4

abbrev pub granularity_in : List ℕ → ℕ
granularity_in x = number_at x 8 2

-- the descriptor in the 16 bytes from a byte on; the last four are reserved
abbrev pub descriptor_at : List ℕ → ℕ → Descriptor
descriptor_at x at = record { address = number_at x at 8; length = number_at x (at + 8) 4 }

-- the descriptor with an index, counted from 0
abbrev pub descriptor_of : List ℕ → ℕ → Descriptor
descriptor_of x i = descriptor_at x (16 + 16 * i)

unfoldable pub descriptors_in : List ℕ → List Descriptor
descriptors_in x = records_at descriptor_at 16 x 16 (count_in x)

-- ---- refusals

-- a descriptor is good where as a range it would pass the rules of a row: its length is not 0, its address is a multiple of the unit, its end is at most
-- 2^64
abbrev pub good_descriptor : ℕ → Descriptor → Bool
good_descriptor g d = row_ok g (range_of d)

-- 17 for each descriptor, with its index
abbrev pub descriptor_tests : ℕ → ℕ → List Descriptor → List Test
descriptor_tests g i [] = []
descriptor_tests g i (d ∷ ds) = (good_descriptor g d else 17 place i) ∷ descriptor_tests g (suc i) ds

-- More To Report is set with no descriptors
abbrev pub more_of_none : List ℕ → Bool
more_of_none x = more_in x && eqb (count_in x) 0

-- 8 fewer than 16 bytes, 6, 7 a granularity above 20, 9 More set with no descriptors, 8 descriptors not wholly there, 17 with the first bad index
unfoldable pub report_tests : List ℕ → List Test
report_tests x =
    (leb (report_size 0) (length x) else 8)
    ∷ (eqb (version_in x) 0 else 6)
    ∷ (leb (granularity_in x) 20 else 7)
    ∷ (not (more_of_none x) else 9)
    ∷ (leb (report_size (count_in x)) (length x) else 8)
    ∷ descriptor_tests (granularity_in x) 0 (descriptors_in x)

-- and of an index: 33 past the last descriptor
abbrev pub index_tests : List ℕ → ℕ → List Test
index_tests x i = report_tests x ++ (ltb i (count_in x) else 33) ∷ []

-- ---- answers: what each function of the reader answers, of a report's bytes and an index. Refused, each but the refusal and its index is 0

-- a Bool as C has it
abbrev pub bit : Bool → ℕ
bit b = cond b 1 0

-- what the report is refused for, or 0
abbrev pub report_refusal : List ℕ → ℕ
report_refusal x = refusal (report_tests x)

-- the index that the refusal is about: that of the first bad descriptor, else 0
abbrev pub report_bad_index : List ℕ → ℕ
report_bad_index x = place_in (report_tests x)

abbrev pub report_suspended : List ℕ → ℕ
report_suspended x = or_zero (report_tests x) (bit (suspended_in x))

abbrev pub report_more : List ℕ → ℕ
report_more x = or_zero (report_tests x) (bit (more_in x))

abbrev pub report_identifier : List ℕ → ℕ
report_identifier x = or_zero (report_tests x) (identifier_in x)

abbrev pub report_granularity : List ℕ → ℕ
report_granularity x = or_zero (report_tests x) (granularity_in x)

abbrev pub report_count : List ℕ → ℕ
report_count x = or_zero (report_tests x) (count_in x)

-- what the descriptor at an index is refused for, or 0
abbrev pub report_refusal_at : List ℕ → ℕ → ℕ
report_refusal_at x i = refusal (index_tests x i)

abbrev pub report_address : List ℕ → ℕ → ℕ
report_address x i = or_zero (index_tests x i) (descriptor_of x i).address

abbrev pub report_length : List ℕ → ℕ → ℕ
report_length x i = or_zero (index_tests x i) (descriptor_of x i).length

-- ---- a run by itself, for a loop over the runs of a report that is not refused: the count and the descriptor's own bytes are looked at, and nothing else

-- the descriptor with an index is listed, and the bytes that are there reach to its end
abbrev pub run_there : List ℕ → ℕ → Bool
run_there x i = ltb i (count_in x) && leb (report_size (suc i)) (length x)

abbrev pub report_run_address : List ℕ → ℕ → ℕ
report_run_address x i = cond (run_there x i) (descriptor_of x i).address 0

abbrev pub report_run_length : List ℕ → ℕ → ℕ
report_run_length x i = cond (run_there x i) (descriptor_of x i).length 0
