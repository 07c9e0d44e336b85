-- What it means that a promise leaves nothing open. `Post` of a function's `Reads` is its contract as the checker reads it off the source: of its arguments,
-- its result and what it was lent, at exit.
use Rattle.std.specs.Prelude.{◌≡◌}

-- any two results that a promise allows are equal
abbrev pub Determinate : {K : Type 0} {A R E : K → Type 0} → ((κs : K) → A κs → R κs → E κs → Type 0) → Type 0
Determinate promise = (κs : _) (a : _) (r r' : _) (e e' : _) → promise κs a r e → promise κs a r' e' → r ≡ r'
