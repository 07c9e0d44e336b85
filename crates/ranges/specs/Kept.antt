-- What one pass over listed ranges answers. All of it is the library's interface; the rules themselves are defined in `rules`.
use Rattle.std.specs.Prelude.{ℕ, Bool, cond, List, map, leb, length}
use Rattle.rules.specs.Lists.{sum}
use Rattle.rules.specs.Refusals.{passes}
use Rattle.rules.specs.Settings.{most_units}
use Rattle.rules.specs.Units.{units}
use Rattle.rules.specs.Ranges.{list_tests}
use Rattle.rules.specs.declared.Range.{Range}
use Rattle.rules.specs.declared.Settings.{Settings}
use Rattle.rules.specs.declared.Units.{Units}
use Rattle.std.specs.declared.option.Option.{Option}
use Rattle.std.specs.declared.option.Option.TheVariants.{None, Some}

-- the lengths of ranges, together
abbrev pub lengths_of : List Range → ℕ
lengths_of rs = sum (map (λ (r : Range). r.length) rs)

-- at least as many as there are different units: the lengths, which are quickly added, or where these pass the pool, the units themselves
abbrev pub most_of : ℕ → List Range → ℕ
most_of g rs = cond (leb (lengths_of rs) most_units) (lengths_of rs) (length (units g rs))

-- at most so many units, where rules are kept
abbrev pub kept_by : Bool → ℕ → Option Units
kept_by b n = cond b (Some (record { 0 = n })) None

-- how many these are at most: none where a rule is broken
abbrev pub most_in : Option Units → ℕ
most_in None = 0
most_in (Some u) = u.0

-- 18 to 21 and 10
abbrev pub kept_of : Settings → ℕ → ℕ → List Range → Option Units
kept_of s g n rs = kept_by (passes (list_tests s g n rs)) (most_of g rs)
