-- Document 01, "Session listing": the fields of a line, one space between, and the decimal numbers that they spell. A line is the list of its bytes.
-- All of it is the library's interface. Which line is which call is not said here.
use Rattle.std.specs.Prelude.{ℕ, ◌+◌, ◌-◌, ◌*◌, Bool, true, false, not, ◌&&◌, cond, List, [], ◌∷◌, leb, eqb, length, get_or, Option, Some, None}
use Rattle.rules.specs.Lists.{all, every}

-- ---- fields: "one space between"

-- the first field: the bytes before the first space
unfoldable pub first_field : List ℕ → List ℕ
first_field [] = []
first_field (b ∷ s) = cond (eqb b 32) [] (b ∷ first_field s)

-- the later fields: after each space, the bytes before the next
unfoldable pub later_fields : List ℕ → List (List ℕ)
later_fields [] = []
later_fields (b ∷ s) = cond (eqb b 32) (first_field s ∷ later_fields s) (later_fields s)

-- whether two lists of bytes are the same
unfoldable pub same_bytes : List ℕ → List ℕ → Bool
same_bytes [] [] = true
same_bytes [] (b ∷ t) = false
same_bytes (a ∷ s) [] = false
same_bytes (a ∷ s) (b ∷ t) = eqb a b && same_bytes s t

-- ---- numbers: "decimal numbers without leading zeros that fit their fields"

abbrev pub is_digit : ℕ → Bool
is_digit b = leb 48 b && leb b 57

-- the number that digits spell behind those of v
unfoldable pub spelled : ℕ → List ℕ → ℕ
spelled v [] = v
spelled v (b ∷ s) = spelled (10 * v + (b - 48)) s

-- the number that a field spells
abbrev pub value : List ℕ → ℕ
value f = spelled 0 f

abbrev pub leading_zero : List ℕ → Bool
leading_zero f = leb 2 (length f) && eqb (get_or f 0 0) 48

-- what makes a field a number of at most so much: it is not empty, no zero stands before another digit, digits alone, and it fits
abbrev pub number_rules : ℕ → List ℕ → List Bool
number_rules most f = leb 1 (length f) ∷ not (leading_zero f) ∷ all is_digit f ∷ leb (value f) most ∷ []

unfoldable pub is_number : ℕ → List ℕ → Bool
is_number most f = every (number_rules most f)

-- what a field says: its number, if it is one of at most so much
unfoldable pub number_of : ℕ → List ℕ → Option ℕ
number_of most f = cond (is_number most f) (Some (value f)) None

-- what the next of some fields says: no number, where there is none
abbrev pub next_number : ℕ → List (List ℕ) → Option ℕ
next_number most [] = None
next_number most (f ∷ fs) = number_of most f
