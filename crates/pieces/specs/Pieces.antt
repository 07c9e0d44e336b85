-- What the functions that cut ranges into pieces promise. Which units ranges have, and to which range each belongs, is defined in `rules`.
use Rattle.std.specs.Prelude.{ℕ, suc, ◌+◌, ◌-◌, ◌*◌, ◌≤◌, ◌<◌, min, ◌≡◌, Bool, true, false, ◌&&◌, cond, List, [], ◌++◌, leb, ltb, length, take, drop, get_or}
use Rattle.rules.specs.Lists.{keep}
use Rattle.rules.specs.Units.{Unit, units_of_row, covers, uncovered, units_from}
use Rattle.rules.specs.StartData.{no_range}
use Rattle.rules.specs.declared.Range.{Range}
use Rattle.pieces.specs.declared.Piece.{Piece}
use Rattle.std.specs.declared.option.Option.{Option}
use Rattle.std.specs.declared.option.Option.TheVariants.{None, Some}

-- the range of a row; past the last there is none, of length 0
abbrev pub row_of : List Range → ℕ → Range
row_of rs row = get_or rs row no_range

-- a unit of a range, counted from its first
abbrev pub unit_of : ℕ → Range → ℕ → Unit
unit_of size r j = record { row = 0; address = r.start + j * size; size = size }

-- of a range's units those from `from` below `to` are covered by another range; where these do not begin with its first, there are some
pub record Overlaps (size : ℕ) (r q : Range) (from to : ℕ) : Type 0 where
  pub exactly : (j : ℕ) → covers size q (r.start + j * size) ≡ (leb from j && ltb j to)
  pub some : 0 < from → from < to

-- units from `at` to `to`, cut where others begin that do so further on
abbrev pub cut_before : ℕ → ℕ → ℕ → ℕ
cut_before from at to = cond (leb from at) to (min from to)

-- the units of a range from `at` below `to` all belong to it or none does, for the ranges before it; where they do, the next one does not
pub record StretchIs (size : ℕ) (before : List Range) (r : Range) (at to : ℕ) (own : Bool) : Type 0 where
  pub further : at < to
  pub inside : to ≤ r.length
  pub alike : (j : ℕ) → at ≤ j → j < to → uncovered size before (unit_of size r j) ≡ own
  pub cut : own ≡ true → to < r.length → uncovered size before (unit_of size r to) ≡ false

-- the units that are left from unit j of a row on: those of the row that belong to it, and those of all later rows
abbrev pub units_left : ℕ → List Range → ℕ → ℕ → List Unit
units_left size rs i j =
    keep (uncovered size (take i rs)) (units_of_row i size ((row_of rs i).start + j * size) ((row_of rs i).length - j))
    ++ units_from size (suc i) (take (suc i) rs) (drop (suc i) rs)

-- the next piece from unit j of a row on
pub record PieceFound (size : ℕ) (rs : List Range) (i j : ℕ) (p : Piece) : Type 0 where
  pub row_in : p.row < length rs
  pub some : 1 ≤ p.range.length
  pub long : p.range.length ≤ p.next.0
  pub inside : p.next.0 ≤ (row_of rs p.row).length
  pub starts : p.range.start ≡ (row_of rs p.row).start + (p.next.0 - p.range.length) * size
  -- nothing is left before it; its units come next, and of these so many as one likes from the last
  pub begins : units_left size rs i j ≡ units_left size rs p.row (p.next.0 - p.range.length)
  pub own : (m : ℕ) → m ≤ p.range.length
      → units_left size rs p.row (p.next.0 - m) ≡ units_of_row p.row size (p.range.start + (p.range.length - m) * size) m ++ units_left size rs p.row p.next.0
  -- it is a longest one: the row's next unit belongs to another range
  pub cut : p.next.0 < (row_of rs p.row).length → uncovered size (take p.row rs) (unit_of size (row_of rs p.row) p.next.0) ≡ false

abbrev pub NextIs : ℕ → List Range → ℕ → ℕ → Option Piece → Type 0
NextIs size rs i j (Some p) = PieceFound size rs i j p
NextIs size rs i j None = units_left size rs i j ≡ []
