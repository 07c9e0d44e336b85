-- What the crate's own functions answer, as the readers answer it.
use Rattle.std.specs.declared.result.Result.{Result}
use Rattle.std.specs.declared.result.Result.TheVariants.{Ok, Err}
use Rattle.rules.specs.Refusals.{number_of}
use Rattle.rules.specs.Device.{closed_settings}
use Rattle.rules.specs.declared.Refusal.{Refusal}
use Rattle.rules.specs.declared.Settings.{Settings}
use Rattle.settings_file.specs.declared.Read.{Read}

-- the settings, or a refusal's number with zeros in all fields
abbrev pub read_of : Result Settings Refusal → Read
read_of (Ok s) = record { number = 0; settings = s }
read_of (Err r) = record { number = number_of r; settings = closed_settings }
