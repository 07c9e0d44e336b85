-- What the reader's own functions promise each other; which line is which call is said by Listing.antt alone.
use Rattle.std.specs.Prelude.{ℕ, ◌+◌, ◌≤◌, ◌<◌, ◌&&◌, cond, List, [], ◌∷◌, Option, Some, None, ltb, length, get_or, set}
use Rattle.fields.specs.Fields.{value, is_number}
use Rattle.listing.specs.Listing.{most_at, takes_count, plain_line, call_line}
use Rattle.listing.specs.declared.Call.TheVariants as call
use Rattle.listing.specs.declared.Line.{Line}
use Rattle.listing.specs.declared.Word.{Word}

-- what reading numbers answers, how many there are if each fits, and leaves in the places for them
pub record Reading : Type 0 where
  pub answer : Option ℕ
  pub values : List ℕ

-- the numbers of fields, the first of them for place i of a; it stops at a field that has no place, or is no number that fits
unfoldable pub gathered : Word → ℕ → List ℕ → List (List ℕ) → Reading
gathered w i a [] = record { answer = Some i; values = a }
gathered w i a (f ∷ fs) =
    cond (ltb i 34 && is_number (most_at w i) f) (gathered w (i + 1) (set a i (value f)) fs) (record { answer = None; values = a })

-- numbers that fit their places after a word
abbrev pub Fit : Word → List ℕ → Type 0
Fit w ns = (k : ℕ) → k < length ns → get_or ns k 0 ≤ most_at w k

-- the line of a word with numbers: bad, where it takes fewer or more
abbrev pub taken_line : Word → List ℕ → Line
taken_line w ns = cond (takes_count w (length ns)) (call_line w (length ns) ns) (plain_line call.Bad)
