-- Document 02, W11: the settings file. Where its fields stand, what its readers and its writer answer. All of it is the library's interface.
-- The layout: `TRK` in bytes 0 to 2, version in 4:3, manager in 6:5, least in 7, greatest in 8, the powers' rule in 9, limit in 11:10, number of
-- identifiers in 12, their 8 places in 28:13; version 2 adds the second manager in 30:29, its limit in 32:31 and the shelf's limit in 34:33.
use Rattle.std.specs.Prelude.{ℕ, Bool, ◌&&◌, cond, List, [], ◌∷◌, ◌++◌, leb, eqb, length, get_or, drop}
use Rattle.little.specs.Little.{number_at, number_bytes, put, records, records_at}
use Rattle.rules.specs.Lists.{all, every}
use Rattle.rules.specs.Refusals.{Test, ◌else◌, verdict}
use Rattle.rules.specs.Settings.{settings_ok, managers_of, second_limit}
use Rattle.rules.specs.Device.{cleaned, closed_settings}
use Rattle.rules.specs.declared.Second.{Second}
use Rattle.std.specs.declared.option.Option.{Option}
use Rattle.std.specs.declared.option.Option.TheVariants.{None, Some}
use Rattle.rules.specs.declared.Settings.{Settings}
use Rattle.settings_file.specs.declared.Read.{Read}

-- the bytes of a file of version 1, and of version 2; no other is asked for its length
abbrev pub file_size : ℕ → ℕ
file_size v = cond (eqb v 1) 29 35

-- ---- the fields

-- `TRK`
abbrev pub mark : List ℕ
mark = 84 ∷ 82 ∷ 75 ∷ []

-- whether a file begins with it
abbrev pub mark_rules : List ℕ → List Bool
mark_rules x = eqb (get_or x 0 0) 84 ∷ eqb (get_or x 1 0) 82 ∷ eqb (get_or x 2 0) 75 ∷ []

unfoldable pub mark_ok : List ℕ → Bool
mark_ok x = every (mark_rules x)

abbrev pub version_in : List ℕ → ℕ
version_in x = number_at x 3 2

abbrev pub rule_in : List ℕ → ℕ
rule_in x = number_at x 9 1

abbrev pub identifier_at : List ℕ → ℕ → ℕ
identifier_at x at = number_at x at 2

-- the 8 places for identifiers, in use or not
abbrev pub identifiers_in : List ℕ → List ℕ
identifiers_in x = records_at identifier_at 2 x 13 8

-- the second manager that an identifier and a limit stand for: the first manager again, with the limit 0, for none
unfoldable pub second_of : ℕ → ℕ → ℕ → Option Second
second_of manager id limit = cond (eqb id manager && eqb limit 0) None (Some (record { id = id; limit = limit }))

-- and the identifier that stands for it; the limit is `second_limit`
abbrev pub second_place : ℕ → Option Second → ℕ
second_place manager None = manager
second_place manager (Some two) = two.id

-- a file of version 1 has one manager, and the shelf's limit 128
unfoldable pub second_in : ℕ → List ℕ → Option Second
second_in v x = cond (eqb v 1) None (second_of (number_at x 5 2) (number_at x 29 2) (number_at x 31 2))

unfoldable pub shelf_in : ℕ → List ℕ → ℕ
shelf_in v x = cond (eqb v 1) 128 (number_at x 33 2)

-- the settings of a file of a version
abbrev pub settings_in : ℕ → List ℕ → Settings
settings_in v x =
    record {
      manager = number_at x 5 2;
      least = number_at x 7 1;
      greatest = number_at x 8 1;
      powers = eqb (rule_in x) 1;
      limit = number_at x 10 2;
      second = second_in v x;
      shelf = shelf_in v x;
      count = number_at x 12 1;
      identifiers = identifiers_in x;
    }

-- ---- one encoding

-- the places that are not in use hold zeros
unfoldable pub spare_ok : Settings → Bool
spare_ok s = all (λ y. eqb y 0) (drop s.count s.identifiers)

-- the powers' rule is 0 or 1, and spare bytes are 0
abbrev pub plain_rules : List ℕ → Settings → List Bool
plain_rules x s = leb (rule_in x) 1 ∷ spare_ok s ∷ []

-- ---- reading

-- whether a reader that knows the versions 1 to `last` knows this one
abbrev pub known_version : ℕ → ℕ → Bool
known_version last v = leb 1 v && leb v last

-- what it checks
abbrev pub read_tests : ℕ → List ℕ → List Test
read_tests last x =
    (leb 5 (length x) else 35)
    ∷ (mark_ok x else 31)
    ∷ (known_version last (version_in x) else 32)
    ∷ (eqb (length x) (file_size (version_in x)) else 35)
    ∷ (every (plain_rules x (settings_in (version_in x) x)) else 16)
    ∷ (settings_ok (settings_in (version_in x) x) else 16)
    ∷ []

-- what it answers; a refusal comes with zeros in all fields
unfoldable pub read_up_to : ℕ → List ℕ → Read
read_up_to last x =
    verdict (read_tests last x)
    (record { number = 0; settings = settings_in (version_in x) x })
    (λ n i. record { number = n; settings = closed_settings })

-- the reader of version 1, and that of both versions
abbrev pub old_read : List ℕ → Read
old_read x = read_up_to 1 x

abbrev pub new_read : List ℕ → Read
new_read x = read_up_to 2 x

-- ---- writing

abbrev pub identifier_bytes : ℕ → List ℕ
identifier_bytes id = number_bytes 2 id

-- the fields that both versions have: the numbers, and the 8 places for identifiers
abbrev pub numbers_bytes : Settings → List ℕ
numbers_bytes s =
    number_bytes 2 s.manager
    ++ (number_bytes 1 s.least
    ++ (number_bytes 1 s.greatest
    ++ (number_bytes 1 (cond s.powers 1 0)
    ++ (number_bytes 2 s.limit
    ++ number_bytes 1 s.count))))

abbrev pub common_bytes : Settings → List ℕ
common_bytes s = numbers_bytes s ++ records identifier_bytes s.identifiers

-- the mark, the version, and these fields
abbrev pub head_bytes : ℕ → Settings → List ℕ
head_bytes v s = mark ++ (number_bytes 2 v ++ common_bytes s)

-- the fields that version 2 adds
abbrev pub second_bytes : Settings → List ℕ
second_bytes s =
    number_bytes 2 (second_place s.manager s.second)
    ++ (number_bytes 2 (second_limit s.second)
    ++ number_bytes 2 s.shelf)

-- the bytes of a file, with zeros in the places that are not in use
unfoldable pub file_bytes : ℕ → Settings → List ℕ
file_bytes v s = head_bytes v (cleaned s) ++ cond (eqb v 1) [] (second_bytes s)

-- whether a version can hold settings: version 1 those with one manager and the shelf's limit 128, version 2 all
unfoldable pub holds : ℕ → Settings → Bool
holds v s = cond (eqb v 1) (eqb (length (managers_of s)) 1 && eqb s.shelf 128) (eqb v 2)

-- what the writer into a buffer of so many bytes checks
abbrev pub write_tests : ℕ → ℕ → Settings → List Test
write_tests size v s = (settings_ok s else 16) ∷ (holds v s else 32) ∷ (leb (file_size v) size else 8) ∷ []

-- what a buffer holds after the writer was asked: bytes after the file, or where it was refused all, are as they were
unfoldable pub file_written : List ℕ → ℕ → Settings → List ℕ
file_written buffer v s = verdict (write_tests (length buffer) v s) (put buffer 0 (file_bytes v s)) (λ n i. buffer)
