-- What the inner functions of `set_state` compute. These serve this crate alone.
use Rattle.std.specs.Prelude.{ℕ, Bool, false, ◌&&◌, cond, eqb}
use Rattle.rules.specs.Order as order
use Rattle.rules.specs.Order.{first_by, last_by}
use Rattle.rules.specs.declared.Sequence.{Sequence}
use Rattle.std.specs.declared.option.Option.{Option}
use Rattle.std.specs.declared.option.Option.TheVariants.{None, Some}
use Rattle.rules.specs.declared.Device.{Device}
use Rattle.record.specs.Record.{with_sequence}
use Rattle.calls.specs.declared.StateSet.{StateSet}
use Rattle.controller_state.specs.declared.Part.{Part}

-- a part, as the rules have it
abbrev pub part_of : Part → order.Part
part_of p = record { indicator = p.indicator; low = p.low; high = p.high; count = p.count; bytes = p.bytes.now }

-- whether a part at an offset goes on where its own sequence ends
abbrev pub goes_on : Option Sequence → ℕ → ℕ → Bool
goes_on None id offset = false
goes_on (Some seq) id offset = eqb seq.owner id && eqb offset seq.end

abbrev pub is_next : Option Sequence → ℕ → ℕ → ℕ → Bool
is_next q id indicator offset = cond (first_by indicator) (eqb offset 0) (goes_on q id offset)

-- the answer to a part that ends at a byte
abbrev pub ended_at : Device → ℕ → ℕ → ℕ → StateSet
ended_at d id indicator end =
    cond (last_by indicator)
    (record { number = 0; whole = end; device = with_sequence d None })
    (record { number = 0; whole = 0; device = with_sequence d (Some (record { owner = id; end = end })) })
