-- What an updater is answered of a file's bytes: the reader's numbers, zeros where it refuses the file (`new_read`), and the file written at another version.
use Rattle.std.specs.Prelude.{ℕ, cond, List, eqb, get_or}
use Rattle.rules.specs.Refusals.{refusal}
use Rattle.rules.specs.Settings.{second_limit}
use Rattle.settings_file.specs.File.{version_in, new_read, second_place, write_tests, file_written}

-- its version, 0 where it is refused
unfoldable pub file_version : List ℕ → ℕ
file_version x = cond (eqb (new_read x).number 0) (version_in x) 0

-- the powers' rule, 0 or 1
abbrev pub file_rule : List ℕ → ℕ
file_rule x = cond (new_read x).settings.powers 1 0

-- the identifier in a place; past the places 0
abbrev pub file_identifier : List ℕ → ℕ → ℕ
file_identifier x i = get_or (new_read x).settings.identifiers i 0

-- the second manager, as a file of version 2 has it
abbrev pub file_second : List ℕ → ℕ
file_second x = second_place (new_read x).settings.manager (new_read x).settings.second

abbrev pub file_second_limit : List ℕ → ℕ
file_second_limit x = second_limit (new_read x).settings.second

-- the file written at a version to a buffer of so many bytes: the reader's refusal, then the writer's
unfoldable pub save_number : List ℕ → ℕ → ℕ → ℕ
save_number x v size = cond (eqb (new_read x).number 0) (refusal (write_tests size v (new_read x).settings)) (new_read x).number

-- and what the buffer then holds
unfoldable pub saved : List ℕ → ℕ → List ℕ → List ℕ
saved x v buffer = cond (eqb (new_read x).number 0) (file_written buffer v (new_read x).settings) buffer
