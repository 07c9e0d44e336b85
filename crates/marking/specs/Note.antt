-- What the inner functions of `write` promise: the units of one range that a written range touches, as a span, and what a write makes of bits some of which are
-- marks. These serve this crate alone.
use Rattle.std.specs.Prelude.{ℕ, ◌+◌, ◌-◌, ◌≤◌, ◌<◌, ◌≡◌, Bool, ◌&&◌, List, leb, ltb, length}
use Rattle.bits.specs.Share.{get_share, put_share}
use Rattle.rules.specs.Units.{Unit, Write, units_of_row, touches, mark, newly}
use Rattle.rules.specs.declared.Range.{Range}
use Rattle.pieces.specs.Pieces.{unit_of}

-- a write from a byte to a last byte
abbrev pub write_to : ℕ → ℕ → Write
write_to at last = record { address = at; bytes = last - at + 1 }

-- of a range's units those from `from` below `to` are touched, and no others
pub record Touched (w : Write) (size : ℕ) (r : Range) (from to : ℕ) : Type 0 where
  pub order : from ≤ to
  pub within : to ≤ r.length
  pub exactly : (j : ℕ) → j < r.length → touches w (unit_of size r j) ≡ (leb from j && ltb j to)

-- the units of a range by itself
abbrev pub units_of : ℕ → Range → List Unit
units_of size r = units_of_row 0 size r.start r.length

-- bits of which those from a place on are the marks of some units, after a write; and how many of these units were not pending before it
abbrev pub mark_in : Write → List Unit → List Bool → ℕ → List Bool
mark_in w us bits base = put_share bits base (mark w us (get_share bits base (length us)))

abbrev pub newly_in : Write → List Unit → List Bool → ℕ → ℕ
newly_in w us bits base = newly w us (get_share bits base (length us))
