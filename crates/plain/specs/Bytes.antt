-- Document 02, W9: the plain engine holds marks one byte a unit, 0 clear and all else pending, in an area with a byte for each unit of the pool. What its calls answer and leave is
-- what those of any engine do (`calls`), with marks held so.
use Rattle.std.specs.Prelude.{ℕ, zero, suc, ◌+◌, ◌-◌, cond, List, [], ◌++◌, eqb, length, take, drop, get_or, replicate}
use Rattle.rules.specs.Lists.{join}
use Rattle.rules.specs.Settings.{mark_words, most_units}
use Rattle.rules.specs.Report.{reported_runs}
use Rattle.pool.specs.Pool.{new_base}
use Rattle.plain_marks.specs.Plain.{marks_of, mark_bytes, clear_bytes}
use Rattle.calls.specs.Calls.{Engine}

-- an area of the right size stands for the marks' words, any other for none: so 1 is answered for it as for words of another number
abbrev pub words_for : ℕ → ℕ
words_for bytes = cond (eqb bytes most_units) mark_words 0

-- an area of which n bytes from a place on are 0
unfoldable pub cleared_bytes : List ℕ → ℕ → ℕ → List ℕ
cleared_bytes bs base n = take base bs ++ (replicate n 0 ++ drop (base + n) bs)

-- the bytes of the shares at the first n places, one share after another and each byte as it was, but for the one at place `clear`, whose bytes are 0
unfoldable pub joined_bytes : List ℕ → List ℕ → List ℕ → ℕ → ℕ → List ℕ
joined_bytes bs bases sizes clear zero = []
joined_bytes bs bases sizes clear (suc n) =
    joined_bytes bs bases sizes clear n ++ cond (eqb n clear) (replicate (get_or sizes n 0) 0) (take (get_or sizes n 0) (drop (get_or bases n 0) bs))

-- an area in which these shares stand packed from byte 0 on, and every byte behind them is 0
unfoldable pub packed_bytes : List ℕ → List ℕ → List ℕ → ℕ → List ℕ
packed_bytes bs bases sizes clear = joined_bytes bs bases sizes clear 8 ++ replicate (length bs - new_base sizes 8) 0

abbrev pub in_bytes : Engine
in_bytes =
    record {
      words = λ bs. words_for (length bs);
      marks = marks_of;
      emptied = λ bs. replicate (length bs) 0;
      marked = λ bs base w us. take base bs ++ mark_bytes w us (drop base bs);
      reported = λ bs base k us. take base bs ++ clear_bytes (length (join (reported_runs k us (marks_of bs base (length us))))) (drop base bs);
      cleared = cleared_bytes;
      packed = packed_bytes;
    }
