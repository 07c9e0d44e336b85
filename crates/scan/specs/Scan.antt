-- What the inner functions of `receive` promise: where a scan over a controller's units stands, the next pending unit from there, and the run that begins there. These serve this crate
-- alone; what a run is, is defined in `rules`.
use Rattle.std.specs.Prelude.{ℕ, ◌+◌, ◌-◌, ◌*◌, ◌^◌, ◌≤◌, ◌<◌, ◌≡◌, Bool, true, false, List, [], map, length, drop, get_or}
use Rattle.bits.specs.Next.{next}
use Rattle.bits.specs.Share.{get_share, put_share}
use Rattle.little.specs.Little.{put, records}
use Rattle.rules.specs.Settings.{unit_size}
use Rattle.rules.specs.Units.{end_of, units, pending}
use Rattle.rules.specs.Lists.{non_empty}
use Rattle.rules.specs.Report.{descriptor, descriptor_bytes, reported_runs, later_runs, marks_left, groups_on}
use Rattle.rules.specs.declared.Range.{Range}
use Rattle.pieces.specs.Pieces.{row_of, units_left, PieceFound}
use Rattle.scan.specs.declared.Found.{Found}
use Rattle.scan.specs.declared.Run.{Run}
use Rattle.std.specs.declared.result.Result.{Result}
use Rattle.std.specs.declared.result.Result.TheVariants.{Err, Ok}

-- the units that are left from unit `pos` on are those from unit `unit` of a row on
pub record Stands (g : ℕ) (rs : List Range) (row unit pos : ℕ) : Type 0 where
  pub within : unit ≤ (row_of rs row).length
  pub inside : pos ≤ length (units g rs)
  pub left : drop pos (units g rs) ≡ units_left (unit_size g) rs row unit

-- a scan from unit `pos` on, of units with marks p, stands at unit `at`: all marks that it passed are clear
pub record Scanned (g : ℕ) (rs : List Range) (p : List Bool) (pos row unit at : ℕ) : Type 0 where
  pub stands : Stands g rs row unit at
  pub past : pos ≤ at
  pub clear : (i : ℕ) → pos ≤ i → i < at → get_or p i false ≡ false

-- just past the last unit of the piece that has a pending unit
abbrev pub piece_end : Found → ℕ
piece_end f = f.at + f.piece.range.length

-- the next pending unit from unit `pos` on: the scan stood where its piece begins, and it is the piece's first pending one
pub record PendingFound (g : ℕ) (rs : List Range) (p : List Bool) (pos : ℕ) (f : Found) : Type 0 where
  pub row : ℕ
  pub unit : ℕ
  pub scanned : Scanned g rs p pos row unit f.at
  pub piece : PieceFound (unit_size g) rs row unit f.piece
  pub first : f.from ≡ next true p f.at (piece_end f)
  pub inside : f.from < piece_end f

-- what the search answers: the next pending unit, or that none is from there on, with the number of all units
abbrev pub NextIs : ℕ → List Range → List Bool → ℕ → Result Found ℕ → Type 0
NextIs g rs p pos (Ok f) = PendingFound g rs p pos f
NextIs g rs p pos (Err n) = (pending (drop pos (units g rs)) (drop pos p) ≡ []) × (n ≡ length (units g rs))

-- a pending unit whose marks stand in bits l from `base` on, in a piece that lies in memory
pub record Begins (l : List Bool) (base g : ℕ) (f : Found) : Type 0 where
  pub within : end_of (unit_size g) f.piece.range ≤ 2 ^ 64
  pub long : f.piece.range.length ≤ f.piece.next.0
  pub low : f.at ≤ f.from
  pub high : f.from < piece_end f
  pub small : base + piece_end f < 2 ^ 64
  pub set : get_or l (base + f.from) false ≡ true

-- the run that begins at a pending unit and ends before unit `to`
abbrev pub run_of : ℕ → Found → ℕ → Run
run_of g f to =
    record {
      row = f.piece.row;
      next = record { 0 = f.piece.next.0 - (piece_end f - to) };
      range = record { start = f.piece.range.start + (f.from - f.at) * unit_size g; length = to - f.at - (f.from - f.at) };
      from = f.from;
      to = to;
    }

-- what a report with room for so many runs lists and leaves, of the marks that stand in bits l from `base` on and of a buffer x
pub record Lists (g : ℕ) (rs : List Range) (l : List Bool) (base : ℕ) (x : List ℕ) (room count : ℕ) (more : Bool) (groups : ℕ) (l' : List Bool) (x' : List ℕ) : Type 0 where
  pub count_is : count ≡ length (reported_runs room (units g rs) (get_share l base (length (units g rs))))
  pub more_is : more ≡ non_empty (later_runs room (units g rs) (get_share l base (length (units g rs))))
  pub groups_is : groups ≡ groups_on room (units g rs) (get_share l base (length (units g rs)))
  pub bits_are : l' ≡ put_share l base (marks_left room (units g rs) (get_share l base (length (units g rs))))
  pub bytes_are : x' ≡ put x 16 (records descriptor_bytes (map descriptor (reported_runs room (units g rs) (get_share l base (length (units g rs))))))
