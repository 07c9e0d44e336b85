-- The worked numbers, each computed. Assumes nothing.
use mathlib.Core.Path.{◌≡◌, refl}
use mathlib.Core.List.{map}
use Rattle.little.specs.Little.{number_at, number_bytes, records, records_at}
use Rattle.rules.specs.Settings.{settings_ok}
use Rattle.settings_file.specs.File.{mark_ok, second_of, second_in, shelf_in, spare_ok, read_up_to, old_read, new_read, file_bytes}
use Rattle.settings_file.specs.Worked.{alone56, both567, alone_one, alone_two, both_two, full, full_two, Case, cases, Worked}

worked-old : map (λ (c : Case). (old_read c.file).number) cases ≡ map (λ (c : Case). c.old) cases
unfolding cases read_up_to mark_ok spare_ok settings_ok second_of second_in shelf_in number_at records_at
worked-old = refl

worked-new : map (λ (c : Case). (new_read c.file).number) cases ≡ map (λ (c : Case). c.new) cases
unfolding cases read_up_to mark_ok spare_ok settings_ok second_of second_in shelf_in number_at records_at
worked-new = refl

worked-files : (file_bytes 1 alone56 ≡ alone_one) × (file_bytes 2 alone56 ≡ alone_two) × (file_bytes 2 both567 ≡ both_two) × (file_bytes 2 full ≡ full_two)
unfolding file_bytes number_bytes records
worked-files = (refl, refl, refl, refl)

-- and read back
worked-settings : ((new_read alone_one).settings ≡ alone56) × ((new_read alone_two).settings ≡ alone56) × ((new_read both_two).settings ≡ both567) × ((new_read full_two).settings ≡ full)
unfolding read_up_to mark_ok spare_ok settings_ok second_of second_in shelf_in number_at records_at
worked-settings = (refl, refl, refl, refl)

pub worked : Worked
worked = record { old = worked-old; new = worked-new; files = worked-files; settings = worked-settings }
