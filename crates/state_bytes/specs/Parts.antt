-- A part of a controller's state (document 02, W6) with what is there before it. All of it is the library's interface. Which part is accepted is not said here.
use Rattle.std.specs.Prelude.{ℕ, List, ◌++◌, take}

-- the whole that a part at `offset` makes, before it is stored: the area's bytes up to there, and then the part's
unfoldable pub assembled : List ℕ → ℕ → List ℕ → List ℕ
assembled area offset bytes = take offset area ++ bytes
