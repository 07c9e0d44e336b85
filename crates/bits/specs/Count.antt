-- How many of some marks are pending.
-- `marks_set` is the interface. Its laws are in proofs/Count.antt.
use Rattle.std.specs.Prelude.{Bool, cond, List, [], ◌∷◌, ℕ, ◌+◌}

-- how many of the bits of a list are set
unfoldable pub marks_set : List Bool → ℕ
marks_set [] = 0
marks_set (b ∷ bits) = cond b 1 0 + marks_set bits
