-- Document 02, W13: "last a sum over all, unknown if it holds an unknown or passes 2^64 − 1". Each of the three totals is summed by itself.
use Rattle.std.specs.Prelude.{ℕ, ◌+◌, cond}
use Rattle.rules.specs.Totals.{is_counted}
use Rattle.log_numbers.specs.declared.Totals.{Totals}
use Rattle.std.specs.declared.option.Option.{Option}
use Rattle.std.specs.declared.option.Option.TheVariants.{None, Some}
use Rattle.log_numbers.specs.declared.Sums.{Sums}

-- a sum that does not pass 2^64 − 1, or unknown
abbrev pub sum_of : ℕ → Option ℕ
sum_of n = cond (is_counted n) (Some n) None

abbrev pub no_sums : Sums
no_sums = record { marked = Some 0; reported = Some 0; dropped = Some 0 }

-- a sum with n more
abbrev pub plus_in : Option ℕ → ℕ → Option ℕ
plus_in (Some m) n = sum_of (m + n)
plus_in None n = None

-- the sums with one controller's totals more
abbrev pub summed_with : Sums → Option Totals → Sums
summed_with s (Some n) = record { marked = plus_in s.marked n.marked; reported = plus_in s.reported n.reported; dropped = plus_in s.dropped n.dropped }
summed_with s None = record { marked = None; reported = None; dropped = None }
