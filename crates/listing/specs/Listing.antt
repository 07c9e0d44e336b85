-- Document 01, "Session listing": which call a line asks for, or that it is bad. A line is the list of its bytes, without the line feed.
-- All of it is the library's interface. What a call answers is not said here.
use Rattle.std.specs.Prelude.{ℕ, ◌+◌, ◌-◌, ◌/◌, ◌%◌, ◌≤◌, Bool, true, false, ◌&&◌, cond, List, [], ◌∷◌, map, leb, eqb, length, get_or, replicate}
use Rattle.little.specs.Little.{put, records_at}
use Rattle.rules.specs.Lists.{every}
use Rattle.rules.specs.StartData.{placed}
use Rattle.rules.specs.declared.Range.{Range}
use Rattle.fields.specs.Fields.{first_field, later_fields, value, is_number, same_bytes}
use Rattle.listing.specs.declared.Call.{Call}
use Rattle.listing.specs.declared.Call.TheVariants as call
use Rattle.listing.specs.declared.Line.{Line}
use Rattle.listing.specs.declared.Word.{Word}
use Rattle.listing.specs.declared.Word.TheVariants as word

-- ---- words

-- the word that a field is, in ASCII: dev, start, stop, write, recv, susp, resume
unfoldable pub word_of : List ℕ → Word
word_of f =
    cond (same_bytes f (100 ∷ 101 ∷ 118 ∷ [])) word.Dev
    (cond (same_bytes f (115 ∷ 116 ∷ 97 ∷ 114 ∷ 116 ∷ [])) word.Start
    (cond (same_bytes f (115 ∷ 116 ∷ 111 ∷ 112 ∷ [])) word.Stop
    (cond (same_bytes f (119 ∷ 114 ∷ 105 ∷ 116 ∷ 101 ∷ [])) word.Write
    (cond (same_bytes f (114 ∷ 101 ∷ 99 ∷ 118 ∷ [])) word.Recv
    (cond (same_bytes f (115 ∷ 117 ∷ 115 ∷ 112 ∷ [])) word.Susp
    (cond (same_bytes f (114 ∷ 101 ∷ 115 ∷ 117 ∷ 109 ∷ 101 ∷ [])) word.Resume word.Other))))))

-- the greatest number that the place i after a word takes: identifiers and limit 16 bits, addresses and bytes 64, lengths 32, granularities and type 8,
-- the rule 0 or 1, a buffer at most 4096
abbrev pub most_at : Word → ℕ → ℕ
most_at word.Dev i = get_or (65535 ∷ 255 ∷ 255 ∷ 1 ∷ 65535 ∷ []) i 65535
most_at word.Start i = get_or (65535 ∷ 255 ∷ []) i (cond (eqb (i % 2) 0) 18446744073709551615 4294967295)
most_at word.Stop i = 65535
most_at word.Write i = get_or (65535 ∷ []) i 18446744073709551615
most_at word.Recv i = get_or (65535 ∷ []) i 4096
most_at word.Susp i = get_or (65535 ∷ []) i 255
most_at word.Resume i = 65535
most_at word.Other i = 0

-- whether a word takes so many numbers: `dev` five and 0 to 8 identifiers, `start` two and 0 to 16 pairs
abbrev pub takes_count : Word → ℕ → Bool
takes_count word.Dev n = every (leb 5 n ∷ leb n 13 ∷ [])
takes_count word.Start n = every (leb 2 n ∷ eqb (n % 2) 0 ∷ leb n 34 ∷ [])
takes_count word.Stop n = eqb n 1
takes_count word.Write n = eqb n 3
takes_count word.Recv n = eqb n 2
takes_count word.Susp n = eqb n 2
takes_count word.Resume n = eqb n 1
takes_count word.Other n = false

-- whether each field is a number that fits its place after a word, the first at place i
unfoldable pub fitting : Word → ℕ → List (List ℕ) → Bool
fitting w i [] = true
fitting w i (f ∷ fs) = is_number (most_at w i) f && fitting w (i + 1) fs

-- ---- lines

-- a line that lists neither identifiers nor pairs
abbrev pub plain_line : Call → Line
plain_line c = record { call = c; identifiers = replicate 8 0; ranges = placed [] }

-- 34 places of which the first hold some numbers: no line has more
abbrev pub places : List ℕ → List ℕ
places ns = put (replicate 34 0) 0 ns

-- a pair of a `start`, at a place
abbrev pub pair_at : List ℕ → ℕ → Range
pair_at ns i = record { start = get_or ns i 0; length = get_or ns (i + 1) 0 }

-- an identifier of a `dev`, at a place
abbrev pub identifier_at : List ℕ → ℕ → ℕ
identifier_at ns i = get_or ns i 0

-- the line of a word with n numbers, which stand in places
unfoldable pub call_line : Word → ℕ → List ℕ → Line
call_line word.Dev n ns =
    record {
      call = call.Dev (get_or ns 0 0) (get_or ns 1 0) (get_or ns 2 0) (eqb (get_or ns 3 0) 1) (get_or ns 4 0) (n - 5);
      identifiers = put (replicate 8 0) 0 (records_at identifier_at 1 ns 5 (n - 5));
      ranges = placed [];
    }
call_line word.Start n ns =
    record {
      call = call.Start (get_or ns 0 0) (get_or ns 1 0) ((n - 2) / 2);
      identifiers = replicate 8 0;
      ranges = placed (records_at pair_at 2 ns 2 ((n - 2) / 2));
    }
call_line word.Stop n ns = plain_line (call.Stop (get_or ns 0 0))
call_line word.Write n ns = plain_line (call.Write (get_or ns 0 0) (get_or ns 1 0) (get_or ns 2 0))
call_line word.Recv n ns = plain_line (call.Recv (get_or ns 0 0) (get_or ns 1 0))
call_line word.Susp n ns = plain_line (call.Susp (get_or ns 0 0) (get_or ns 1 0))
call_line word.Resume n ns = plain_line (call.Resume (get_or ns 0 0))
call_line word.Other n ns = plain_line call.Bad

-- what makes a line a call: at most 1,023 bytes; as many fields behind its word as the word takes; each of them a number that fits
abbrev pub line_rules : List ℕ → Word → List (List ℕ) → List Bool
line_rules s w fs = leb (length s) 1023 ∷ takes_count w (length fs) ∷ fitting w 0 fs ∷ []

-- what a line asks for
unfoldable pub line_of : List ℕ → Line
line_of s =
    cond (every (line_rules s (word_of (first_field s)) (later_fields s)))
    (call_line (word_of (first_field s)) (length (later_fields s)) (places (map value (later_fields s))))
    (plain_line call.Bad)

-- a start has at most 16 pairs, a receive's buffer at most 4096 bytes
abbrev pub Bounded : Call → Type 0
Bounded call.Bad = Unit {0}
Bounded (call.Dev manager least greatest powers limit n) = Unit {0}
Bounded (call.Start id g n) = n ≤ 16
Bounded (call.Stop id) = Unit {0}
Bounded (call.Write id address bytes) = Unit {0}
Bounded (call.Recv id n) = n ≤ 4096
Bounded (call.Susp id kind) = Unit {0}
Bounded (call.Resume id) = Unit {0}
