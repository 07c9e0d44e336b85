-- Document 01, "Settings and sizes" and "Starting, writing, stopping", and document 02, W2: the units of a list of ranges and their marks, which units a written
-- range touches, and what an accepted write makes pending. One mark a unit, a Bool, in the order of the units.
use Rattle.std.specs.Prelude.{ℕ, zero, suc, ◌+◌, ◌*◌, Bool, true, false, ◌&&◌, ◌||◌, not, cond, List, [], ◌∷◌, ◌++◌, map, leb, ltb}
use Rattle.rules.specs.Lists.{keep, any}
use Rattle.rules.specs.Settings.{unit_size}
use Rattle.rules.specs.declared.Range.{Range}

-- a unit: the row of the range that it belongs to, its first byte's address and its size in bytes
pub record Unit : Type 0 where
  pub row : ℕ
  pub address : ℕ
  pub size : ℕ

-- n units of one row, from an address on
abbrev pub units_of_row : ℕ → ℕ → ℕ → ℕ → List Unit
units_of_row row size address zero = []
units_of_row row size address (suc n) = record { row = row; address = address; size = size } ∷ units_of_row row size (address + size) n

-- where a range ends whose units are of a size
abbrev pub end_of : ℕ → Range → ℕ
end_of size r = r.start + r.length * size

-- whether a range covers the byte at an address
abbrev pub covers : ℕ → Range → ℕ → Bool
covers size r a = leb r.start a && ltb a (end_of size r)

-- whether a unit is covered by none of some ranges
abbrev pub uncovered : ℕ → List Range → Unit → Bool
uncovered size rs u = not (any (λ r. covers size r u.address) rs)

-- the units of ranges, the first of which is listed in a row, after some others. A unit that several ranges cover belongs to the earliest listed
abbrev pub units_from : ℕ → ℕ → List Range → List Range → List Unit
units_from size row before [] = []
units_from size row before (r ∷ rs) =
    keep (uncovered size before) (units_of_row row size r.start r.length) ++ units_from size (suc row) (before ++ r ∷ []) rs

-- the units of a list of ranges, each once: in the order of the ranges as listed, and by address within a range
abbrev pub units : ℕ → List Range → List Unit
units g rs = units_from (unit_size g) 0 [] rs

-- a written range: an address and a length in bytes
pub record Write : Type 0 where
  pub address : ℕ
  pub bytes : ℕ

-- whether a written range shares a byte with a unit; length 0 touches none
abbrev pub touches : Write → Unit → Bool
touches w u = ltb 0 w.bytes && (ltb w.address (u.address + u.size) && ltb u.address (w.address + w.bytes))

-- the marks with nothing pending
abbrev pub clear : List Unit → List Bool
clear us = map (λ (u : Unit). false) us

-- the marks after a write: what was pending stays so, and touched units become pending
abbrev pub mark : Write → List Unit → List Bool → List Bool
mark w [] p = []
mark w (u ∷ us) [] = []
mark w (u ∷ us) (b ∷ p) = (b || touches w u) ∷ mark w us p

-- how many units were not pending before the write, and are after it
abbrev pub newly : Write → List Unit → List Bool → ℕ
newly w [] p = 0
newly w (u ∷ us) [] = 0
newly w (u ∷ us) (b ∷ p) = cond (touches w u && not b) 1 0 + newly w us p

-- the pending units, in their order
abbrev pub pending : List Unit → List Bool → List Unit
pending [] p = []
pending (u ∷ us) [] = []
pending (u ∷ us) (true ∷ p) = u ∷ pending us p
pending (u ∷ us) (false ∷ p) = pending us p
