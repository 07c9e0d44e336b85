-- Document 02, W9: marks as one byte a unit, 0 clear and all else pending, and what a write and a report make of these bytes. All of it is the crate's
-- interface. Which units there are, which of them a write touches and which a report lists, is defined in `rules`.
use Rattle.std.specs.Prelude.{ℕ, zero, suc, ◌+◌, ◌-◌, ◌*◌, ◌^◌, ◌≤◌, ◌<◌, ◌≡◌, Bool, ◌&&◌, not, cond, List, [], ◌∷◌, ◌++◌, map, eqb, length, take, drop}
use Rattle.little.specs.Little.{put, records}
use Rattle.rules.specs.Lists.{keep, any, join, non_empty}
use Rattle.rules.specs.Units.{Unit, covers, Write, touches, mark, newly}
use Rattle.rules.specs.Report.{descriptor, descriptor_bytes, reported_runs, later_runs, groups_on, marks_left}
use Rattle.rules.specs.declared.Range.{Range}
use Rattle.pieces.specs.Pieces.{row_of}

-- ---- marks

-- a byte as a mark
abbrev pub mark_of : ℕ → Bool
mark_of b = not (eqb b 0)

-- the marks that the n bytes of an area from `base` on hold
abbrev pub marks_of : List ℕ → ℕ → ℕ → List Bool
marks_of area base n = map mark_of (take n (drop base area))

-- how many marks of some are set
abbrev pub marks_set : List Bool → ℕ
marks_set p = length (keep (λ b. b) p)

-- whether one of some ranges covers the byte at an address
abbrev pub covered_by : ℕ → List Range → ℕ → Bool
covered_by size rs a = any (λ r. covers size r a) rs

-- no row of the first n ends past 2^64
abbrev pub Ends : ℕ → List Range → ℕ → Type 0
Ends size rs n = (i : ℕ) → i < n → (row_of rs i).start + (row_of rs i).length * size ≤ 2 ^ 64

-- ---- a write

-- a write from a byte to a last byte
abbrev pub write_to : ℕ → ℕ → Write
write_to at last = record { address = at; bytes = last - at + 1 }

-- bytes that begin with those of some units, after a write: of a touched unit a byte 0 becomes 1, and all else stays
abbrev pub mark_bytes : Write → List Unit → List ℕ → List ℕ
mark_bytes w [] bs = bs
mark_bytes w (u ∷ us) [] = []
mark_bytes w (u ∷ us) (b ∷ bs) = cond (touches w u && eqb b 0) 1 b ∷ mark_bytes w us bs

-- what a write answers and leaves, of the marks of units that stand in an area from `base` on
pub record Marked (w : Write) (us : List Unit) (area : List ℕ) (base count : ℕ) (area' : List ℕ) : Type 0 where
  pub count_is : count ≡ newly w us (marks_of area base (length us))
  pub marks_are : marks_of area' base (length us) ≡ mark w us (marks_of area base (length us))
  pub bytes_are : area' ≡ take base area ++ mark_bytes w us (drop base area)

-- ---- a report

-- bytes of which the first m that are not 0 are made 0
abbrev pub clear_bytes : ℕ → List ℕ → List ℕ
clear_bytes zero bs = bs
clear_bytes (suc m) [] = []
clear_bytes (suc m) (zero ∷ bs) = 0 ∷ clear_bytes (suc m) bs
clear_bytes (suc m) (suc b ∷ bs) = 0 ∷ clear_bytes m bs

-- what a report with room for so many runs lists, examines and leaves, of the marks of units that stand in an area from `base` on and of a buffer x. The
-- bytes made clear are the units' own: they are as many as the listed units, which are the first pending ones (`listed-after` in proofs/Outside.antt)
pub record Lists (us : List Unit) (area : List ℕ) (base : ℕ) (x : List ℕ) (room count : ℕ) (more : Bool) (groups : ℕ) (area' x' : List ℕ) : Type 0 where
  pub count_is : count ≡ length (reported_runs room us (marks_of area base (length us)))
  pub more_is : more ≡ non_empty (later_runs room us (marks_of area base (length us)))
  pub groups_is : groups ≡ groups_on room us (marks_of area base (length us))
  pub marks_are : marks_of area' base (length us) ≡ marks_left room us (marks_of area base (length us))
  pub area_is : area' ≡ take base area ++ clear_bytes (length (join (reported_runs room us (marks_of area base (length us))))) (drop base area)
  pub buffer_is : x' ≡ put x 16 (records descriptor_bytes (map descriptor (reported_runs room us (marks_of area base (length us)))))
