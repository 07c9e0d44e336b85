-- Document 01, "Which form goes where": "When an answer is an enum, a definition gives this paper's number and values for each of its cases. The promises
-- use that definition." The reader's enum is the header, in both its answers; which it is for which bytes is said by rules' `header_of` and `start_data`.
use Rattle.std.specs.Prelude.{ℕ, ◌≡◌, ◌&&◌, cond, List, leb, length, replicate}
use Rattle.little.specs.Little.{records_at}
use Rattle.rules.specs.Refusals.{Test, number_of, refusal, place_in, or_zero}
use Rattle.rules.specs.StartData.{granularity_of, count_of, range_at, start_size, header_tests, header_of, read_tests, start_data, no_range, placed}
use Rattle.std.specs.declared.result.Result.{Result}
use Rattle.std.specs.declared.result.Result.TheVariants.{Err, Ok}
use Rattle.rules.specs.declared.Refusal.{Refusal}
use Rattle.rules.specs.declared.Range.{Range}
use Rattle.rules.specs.declared.Header.{Header}
use Rattle.rules.specs.declared.Header.TheVariants.{Is, Refused}
use Rattle.rules.specs.declared.StartData.{StartData}

-- what a header's answer says: the refusal's number and the byte where reading stopped, or the values that were read; zeros for the rest
pub record Said : Type 0 where
  pub number : ℕ
  pub place : ℕ
  pub granularity : ℕ
  pub count : ℕ

abbrev pub header_says : Header → Said
header_says (Is g n) = record { number = 0; place = 0; granularity = g; count = n }
header_says (Refused k at) = record { number = k; place = at; granularity = 0; count = 0 }

-- the header that is read by its two numbers, or refused
abbrev pub header_by : Result (ℕ × ℕ) Refusal → Header
header_by (Ok h) = Is h.0 h.1
header_by (Err r) = Refused (number_of r) 0

-- what a table of tests lets be said of a structure's bytes
abbrev pub said_by : List Test → List ℕ → Said
said_by ts x = record { number = refusal ts; place = place_in ts; granularity = or_zero ts (granularity_of x); count = or_zero ts (count_of x) }

-- the promise of the header's reader: its answer to bytes x, and what that says
pub record HeaderRead (x : List ℕ) (h : Header) : Type 0 where
  pub is : h ≡ header_of x
  pub says : header_says h ≡ said_by (header_tests x) x

-- the promise of the structure's reader
pub record StartRead (x : List ℕ) (r : StartData) : Type 0 where
  pub is : r ≡ start_data x
  pub says : header_says r.header ≡ said_by (read_tests x) x

-- the first n ranges of a structure that has them, where they are at most 16, and else none
unfoldable pub ranges_read : List ℕ → ℕ → List Range
ranges_read x n = cond (leb n 16 && leb (start_size n) (length x)) (placed (records_at range_at 12 x 8 n)) (replicate 16 no_range)
