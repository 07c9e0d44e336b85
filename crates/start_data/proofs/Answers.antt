-- What the readers' answers tell whoever calls them: of the bytes, the number and the place. All but `says-by` is the crate's interface. Assumes nothing.
use mathlib.Core.Path.{◌≡◌, refl, ap, ◌∙◌}
use mathlib.Core.Logic.{◌≢◌}
use mathlib.Core.Bool.{Bool, true, false, cond, and-false}
use mathlib.Core.List.{List, [], ◌∷◌}
use Prim.Native.Nat.{ℕ, ◌≤◌, ◌<◌}
use native.Mathlib.Omega.{arith}
use lib.Dec.{leb}
use lib.ListN.{length, replicate}
use borrow.Author.Tests.{le-leb, lt-leb}
use Rattle.little.specs.Little.{put, records_at}
use Rattle.rules.specs.Refusals.{Test, ◌else◌, verdict, refusal, place_in, or_zero}
use Rattle.rules.specs.StartData.{granularity_of, count_of, ranges_of, range_at, start_size, no_range, header_there, version_ok, header_tests, header_of, read_tests, start_data, placed, start_bytes, write_tests, start_written}
use Rattle.rules.specs.declared.Range.{Range}
use Rattle.rules.specs.declared.Header.{Header}
use Rattle.rules.specs.declared.Header.TheVariants.{Is, Refused}
use Rattle.rules.specs.declared.StartData.{StartData}
use Rattle.rules.proofs.RefusalLaws.{verdict-has, verdict-map, verdict-refused}
use Rattle.start_data.specs.Answer.{header_says, said_by, HeaderRead, StartRead, ranges_read}

-- ---- a header

-- what is known where the header was read, and where it was refused
pub record HeaderIs (x : List ℕ) (g n : ℕ) : Type 0 where
  pub there : header_there x ≡ true
  pub version : version_ok x ≡ true
  pub granularity : granularity_of x ≡ g
  pub count : count_of x ≡ n

pub data HeaderRefused (x : List ℕ) : ℕ → ℕ → Type 0 where
  no_header : header_there x ≡ false → HeaderRefused x 8 0
  other_version : header_there x ≡ true → version_ok x ≡ false → HeaderRefused x 6 0

pub header_of-is : (x : List ℕ) (g n : ℕ) → header_of x ≡ Is g n → HeaderIs x g n
unfolding header_of
header_of-is x g n =
    verdict-has (λ (h : Header). h ≡ Is g n → HeaderIs x g n) Refused
    (λ k at e. let z : ◌≡◌ {A = ℕ} 0 1 = cc in absurd (omega arith))
    (header_tests x) (Is (granularity_of x) (count_of x))
    (λ passed e. record { there = passed.0; version = passed.1.0; granularity = cc; count = cc })

pub header_of-refused : (x : List ℕ) (k at : ℕ) → header_of x ≡ Refused k at → HeaderRefused x k at
unfolding header_of
header_of-refused x k at = go (header_there x) (version_ok x) refl refl
  where
    is : (m i : ℕ) → Refused m i ≡ Refused k at → HeaderRefused x m i → HeaderRefused x k at
    is m i e r = let p : m ≡ k = cc in let q : i ≡ at = cc in rw (← p, ← q) r

    go : (there version : Bool) → header_there x ≡ there → version_ok x ≡ version
        → verdict ((there else 8) ∷ (version else 6) ∷ []) (Is (granularity_of x) (count_of x)) Refused ≡ Refused k at → HeaderRefused x k at
    go true true t v e = let z : ◌≡◌ {A = ℕ} 0 1 = cc in absurd (omega arith)
    go true false t v e = is 6 0 e (other_version t v)
    go false version t v e = is 8 0 e (no_header t)

-- ---- what each reader's answer says

-- of a table's verdict that is a header
says-by : (ts : List Test) (x : List ℕ) → verdict ts (header_says (Is (granularity_of x) (count_of x))) (λ k at. header_says (Refused k at)) ≡ said_by ts x
says-by [] x = refl
says-by (t ∷ ts) x = go t.ok (says-by ts x)
  where
    go : (b : Bool) → verdict ts (header_says (Is (granularity_of x) (count_of x))) (λ k at. header_says (Refused k at)) ≡ said_by ts x
        → cond b (verdict ts (header_says (Is (granularity_of x) (count_of x))) (λ k at. header_says (Refused k at))) (header_says (Refused t.number t.place))
        ≡ record { number = cond b (refusal ts) t.number; place = cond b (place_in ts) t.place; granularity = cond b (or_zero ts (granularity_of x)) 0; count = cond b (or_zero ts (count_of x)) 0 }
    go true e = e
    go false e = refl

module _ (x : List ℕ) where
  pub header_of-says : header_says (header_of x) ≡ said_by (header_tests x) x
  unfolding header_of
  header_of-says = verdict-map header_says (header_tests x) (Is (granularity_of x) (count_of x)) Refused ∙ says-by (header_tests x) x

  pub start_data-says : header_says (start_data x).header ≡ said_by (read_tests x) x
  unfolding start_data
  start_data-says =
      verdict-map (λ (d : StartData). header_says d.header) (read_tests x)
      (record { header = Is (granularity_of x) (count_of x); ranges = placed (ranges_of x) })
      (λ k at. record { header = Refused k at; ranges = placed [] })
      ∙ says-by (read_tests x) x

  pub header_read : (h : Header) → h ≡ header_of x → HeaderRead x h
  header_read h e = record { is = e; says = ap header_says e ∙ header_of-says }

  pub start-read : (r : StartData) → r ≡ start_data x → StartRead x r
  start-read r e = record { is = e; says = ap (λ (d : StartData). header_says d.header) e ∙ start_data-says }

  -- a refused structure comes with no range
  pub start_data-none : refusal (read_tests x) ≢ 0 → (start_data x).ranges ≡ placed []
  unfolding start_data
  start_data-none h =
      verdict-map (λ (d : StartData). d.ranges) (read_tests x)
      (record { header = Is (granularity_of x) (count_of x); ranges = placed (ranges_of x) })
      (λ k at. record { header = Refused k at; ranges = placed [] })
      ∙ verdict-refused (read_tests x) (placed (ranges_of x)) (λ k at. placed []) h

-- a refused writer changes no byte
pub start_written-refused : (buffer : List ℕ) (g n : ℕ) (rs : List Range) → refusal (write_tests (length buffer) n) ≢ 0 → start_written buffer g n rs ≡ buffer
unfolding start_written
start_written-refused buffer g n rs h = verdict-refused (write_tests (length buffer) n) (put buffer 0 (start_bytes g rs)) (λ k at. buffer) h

-- ---- the ranges

module _ (x : List ℕ) (n : ℕ) where
  pub ranges_read-many : 16 < n → ranges_read x n ≡ replicate 16 no_range
  unfolding ranges_read
  ranges_read-many h = rw (lt-leb n 16 h)

  pub ranges_read-short : length x < start_size n → ranges_read x n ≡ replicate 16 no_range
  unfolding ranges_read
  ranges_read-short h = rw (lt-leb (start_size n) (length x) h, and-false (leb n 16))

  pub ranges_read-there : n ≤ 16 → start_size n ≤ length x → ranges_read x n ≡ placed (records_at range_at 12 x 8 n)
  unfolding ranges_read
  ranges_read-there h k = rw (le-leb n 16 h, le-leb (start_size n) (length x) k)
