-- Document 02, W13: a controller's totals as a log keeps them, and what is added to them. What they are to be, of a controller's calls and answers, is defined in `rules`.
use Rattle.std.specs.Prelude.{ℕ, ◌+◌, get_or, set, replicate}
use Rattle.rules.specs.Totals.{Shown, known, unknown, shown_of}
use Rattle.std.specs.declared.option.Option.{Option}
use Rattle.log_numbers.specs.declared.Totals.{Totals}
use Rattle.std.specs.declared.option.Option.TheVariants.{None, Some}
use Rattle.log_numbers.specs.declared.Account.{Account}
use Rattle.log_numbers.specs.declared.Log.{Log}

-- the totals that show it, of the rules' numbers
abbrev pub showing : Shown → Option Totals
showing (known m r d) = Some (record { marked = m; reported = r; dropped = d })
showing unknown = None

-- totals with so many units more: "If a total would pass 2^64 − 1, that controller's three read unknown from then on"
abbrev pub added_to : Option Totals → ℕ → ℕ → ℕ → Option Totals
added_to (Some n) marked reported dropped = showing (shown_of (n.marked + marked) (n.reported + reported) (n.dropped + dropped))
added_to None marked reported dropped = None

-- an account of nothing, and a log of such accounts
abbrev pub empty_account : Account
empty_account = record { totals = Some (record { marked = 0; reported = 0; dropped = 0 }) }

abbrev pub empty_log : Log
empty_log = record { accounts = replicate 8 empty_account }

-- the totals at a place
abbrev pub totals_at : Log → ℕ → Option Totals
totals_at l i = (get_or l.accounts i empty_account).totals

-- a log with so many units more in the account at a place
abbrev pub booked_at : Log → ℕ → ℕ → ℕ → ℕ → Log
booked_at l i marked reported dropped = record { accounts = set l.accounts i (record { totals = added_to (totals_at l i) marked reported dropped }) }
