-- Document 01, "Refusal numbers": "Order, first hit answers". How a table of tests answers; which tests a call has stands in Order.antt.
use Rattle.std.specs.Prelude.{ℕ, Bool, cond, List, [], ◌∷◌}
use Rattle.rules.specs.Lists.{all}
use Rattle.std.specs.declared.result.Result.{Result}
use Rattle.std.specs.declared.result.Result.TheVariants.{Ok, Err}
use Rattle.rules.specs.declared.Refusal.{Refusal}
use Rattle.rules.specs.declared.Refusal.TheVariants.{Unsound, Unknown, Tracked, Suspended, Untracked, Version, Granularity, Short, Empty, Power, Units, Limit, Running, PastEnd, Kind, Settings, Descriptor, Ranges, NoUnits, Unaligned, RangeEnd, Records, Others, Offset, Data, Order, State, Area, NoQueue, Stopped, Mark, FileVersion, Index, Shelf, FileLength}
use Rattle.rules.specs.declared.RowRefusal.{RowRefusal}

-- the number of each refusal
abbrev pub number_of : Refusal → ℕ
number_of Unsound = 1
number_of Unknown = 2
number_of Tracked = 3
number_of Suspended = 4
number_of Untracked = 5
number_of Version = 6
number_of Granularity = 7
number_of Short = 8
number_of Empty = 9
number_of Power = 10
number_of Units = 11
number_of Limit = 12
number_of Running = 13
number_of PastEnd = 14
number_of Kind = 15
number_of Settings = 16
number_of Descriptor = 17
number_of Ranges = 18
number_of NoUnits = 19
number_of Unaligned = 20
number_of RangeEnd = 21
number_of Records = 22
number_of Others = 23
number_of Offset = 24
number_of Data = 25
number_of Order = 26
number_of State = 27
number_of Area = 28
number_of NoQueue = 29
number_of Stopped = 30
number_of Mark = 31
number_of FileVersion = 32
number_of Index = 33
number_of Shelf = 34
number_of FileLength = 35

infix 28 ◌else◌
infix 27 ◌place◌
-- a test of a table: whether it is passed; where it is not, the refusal's number, and the row or the byte that it is about
pub record Test : Type 0 where
  pub ok : Bool
  pub number : ℕ
  pub place : ℕ

-- a test with its number, at place 0
abbrev pub ◌else◌ : Bool → ℕ → Test
◌else◌ b n = record { ok = b; number = n; place = 0 }

-- a test at another place
abbrev pub ◌place◌ : Test → ℕ → Test
◌place◌ t i = record { ok = t.ok; number = t.number; place = i }

-- what a table answers: that of the first test that is not passed, by its number and place, or where all are passed what is done
abbrev pub verdict : {A : Type 0} → List Test → A → (ℕ → ℕ → A) → A
verdict [] done refuse = done
verdict (t ∷ ts) done refuse = cond t.ok (verdict ts done refuse) (refuse t.number t.place)

-- the number that a table answers, 0 where all tests are passed
abbrev pub refusal : List Test → ℕ
refusal ts = verdict ts 0 (λ n i. n)

-- the place that it answers, 0 where all tests are passed
abbrev pub place_in : List Test → ℕ
place_in ts = verdict ts 0 (λ n i. i)

-- both, of a table whose places are rows
pub record Refused : Type 0 where
  pub number : ℕ
  pub row : ℕ

abbrev pub refusal_at : List Test → Refused
refusal_at ts = verdict ts (record { number = 0; row = 0 }) (λ n i. record { number = n; row = i })

-- a number where all tests are passed, else 0
abbrev pub or_zero : List Test → ℕ → ℕ
or_zero ts n = verdict ts n (λ k i. 0)

-- whether all tests of a table are passed
abbrev pub passes : List Test → Bool
passes ts = all (λ (t : Test). t.ok) ts

-- ---- what a function answers that may refuse

-- the number of its refusal, 0 where it does what it was asked for
abbrev pub refused_by : {A : Type 0} → Result A Refusal → ℕ
refused_by (Ok x) = 0
refused_by (Err r) = number_of r

-- the same, with the row
abbrev pub refused_at : {A : Type 0} → Result A RowRefusal → Refused
refused_at (Ok x) = record { number = 0; row = 0 }
refused_at (Err r) = record { number = number_of r.refusal; row = r.row }
