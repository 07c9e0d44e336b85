-- Document 01, "Settings and sizes", with the managers of document 02 (W12): the settings and their rule (16), the sizes, and what a granularity means.
use Rattle.std.specs.Prelude.{ℕ, ◌+◌, ◌*◌, ◌/◌, ◌^◌, Bool, ◌&&◌, not, cond, List, [], ◌∷◌, take, leb, eqb}
use Rattle.std.specs.declared.option.Option.{Option}
use Rattle.rules.specs.Lists.{every, member, different, place_from}
use Rattle.rules.specs.declared.Second.{Second}
use Rattle.std.specs.declared.option.Option.TheVariants.{None, Some}
use Rattle.rules.specs.declared.Settings.{Settings}

-- ---- settings

-- the controllers' identifiers
abbrev pub identifiers_of : Settings → List ℕ
identifiers_of s = take s.count s.identifiers

-- W12: a second manager is not the first, not among the controllers, and has a limit of 0 to 128
abbrev pub second_rules : Settings → Option Second → List Bool
second_rules s None = []
second_rules s (Some two) =
    not (eqb two.id s.manager)
    ∷ not (member two.id (identifiers_of s))
    ∷ leb two.limit 128
    ∷ []

-- 1 to 8 identifiers, all different; the manager's not among them; least ≤ greatest ≤ 20; limits of 0 to 128, the shelf's too
abbrev pub settings_rules : Settings → List Bool
settings_rules s =
    leb 1 s.count
    ∷ leb s.count 8
    ∷ different (identifiers_of s)
    ∷ not (member s.manager (identifiers_of s))
    ∷ leb s.least s.greatest
    ∷ leb s.greatest 20
    ∷ leb s.limit 128
    ∷ leb s.shelf 128
    ∷ second_rules s s.second

-- whether settings pass 16
unfoldable pub settings_ok : Settings → Bool
settings_ok s = every (settings_rules s)

-- W12: the managers, one or two
abbrev pub seconds : Option Second → List ℕ
seconds None = []
seconds (Some two) = two.id ∷ []

abbrev pub managers_of : Settings → List ℕ
managers_of s = s.manager ∷ seconds s.second

-- whether an identifier is a manager's
unfoldable pub is_manager : Settings → ℕ → Bool
is_manager s m = member m (managers_of s)

-- the limit of a manager. (Of no other identifier it is asked.)
abbrev pub second_limit : Option Second → ℕ
second_limit None = 0
second_limit (Some two) = two.limit

unfoldable pub limit_of : Settings → ℕ → ℕ
limit_of s m = cond (eqb m s.manager) s.limit (second_limit s.second)

-- where an identifier stands in the settings
unfoldable pub place_of : Settings → ℕ → Option ℕ
place_of s id = place_from 0 (identifiers_of s) id

-- whether a granularity passes 7: not below the least, not above the greatest
unfoldable pub granularity_ok : Settings → ℕ → Bool
granularity_ok s g = leb s.least g && leb g s.greatest

-- ---- sizes

-- the lent words of marks: one pool (W7)
abbrev pub mark_words : ℕ
mark_words = 256

-- the most units that all tracked controllers may have together: a bit of the pool each
abbrev pub most_units : ℕ
most_units = 16384

-- the most records of a batch (W4)
abbrev pub most_notes : ℕ
most_notes = 1024

-- ---- granularities

-- the bytes of a unit: 2^n times 4 KiB
abbrev pub unit_size : ℕ → ℕ
unit_size g = 2 ^ (12 + g)

-- a length in units, in bytes
abbrev pub bytes_of : ℕ → ℕ → ℕ
bytes_of g units = units * unit_size g

-- the whole units in a length in bytes
abbrev pub whole_units : ℕ → ℕ → ℕ
whole_units g bytes = bytes / unit_size g
