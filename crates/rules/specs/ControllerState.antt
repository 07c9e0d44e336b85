-- Document 02, W6: the fields of a controller's state by their places (NVMe, Set Controller State), and the test of a finished one. The attributes, byte
-- 2, and the reserved bytes 15:3 are not looked at.
use Rattle.std.specs.Prelude.{ℕ, ◌+◌, ◌*◌, Bool, List, [], ◌∷◌, leb, eqb, length}
use Rattle.little.specs.Little.{number_at}
use Rattle.rules.specs.Lists.{every}

-- the bytes of the header
abbrev pub state_header : ℕ
state_header = 48

-- the most bytes that a state may have, those of the lent area: house rule
abbrev pub state_most : ℕ
state_most = 4096

-- bytes 1:0, the version of the structure
abbrev pub state_version : List ℕ → ℕ
state_version x = number_at x 0 2

-- bytes 31:16, how many dwords of NVMe's own state follow the header
abbrev pub nvme_size : List ℕ → ℕ
nvme_size x = number_at x 16 16

-- bytes 47:32, how many dwords of the vendor's state follow those
abbrev pub vendor_size : List ℕ → ℕ
vendor_size x = number_at x 32 16

-- the bytes that the header and its two size fields say
abbrev pub state_size : List ℕ → ℕ
state_size x = state_header + 4 * (nvme_size x + vendor_size x)

-- "the whole is at least its header", "the version is 0", "and it is as long as the header and its two size fields say"
abbrev pub state_rules : List ℕ → List Bool
state_rules x = leb state_header (length x) ∷ eqb (state_version x) 0 ∷ eqb (length x) (state_size x) ∷ []

-- whether a finished state is accepted
unfoldable pub state_ok : List ℕ → Bool
state_ok x = every (state_rules x)
