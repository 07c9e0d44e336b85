-- Document 02, W11: what an updater is answered, in the reader's and the writer's own numbers.
use Rattle.std.specs.Prelude.{ℕ, ◌≡◌, ◌≢◌, true, false, List, length, get_or, take}
use Rattle.rules.specs.Refusals.{refusal}
use Rattle.rules.specs.Demands.{Bytes}
use Rattle.std.specs.declared.option.Option.TheVariants.{None, Some}
use Rattle.settings_file.specs.File.{file_size, version_in, new_read, write_tests, file_written}
use Rattle.settings_updater.specs.Answers.{file_version, file_rule, file_identifier, file_second, file_second_limit, save_number, saved}

-- its numbers: a refused file's version is 0, and its settings are zeros (`Readers`, `new_zeros`)
pub record Numbers (x : List ℕ) : Type 0 where
  pub no_version : (new_read x).number ≢ 0 → file_version x ≡ 0
  pub version : (new_read x).number ≡ 0 → file_version x ≡ version_in x
  pub on : (new_read x).settings.powers ≡ true → file_rule x ≡ 1
  pub off : (new_read x).settings.powers ≡ false → file_rule x ≡ 0
  pub identifier : (i : ℕ) → file_identifier x i ≡ get_or (new_read x).settings.identifiers i 0
  pub alone : (new_read x).settings.second ≡ None → (file_second x ≡ (new_read x).settings.manager) × (file_second_limit x ≡ 0)
  pub second : (id limit : ℕ) → (new_read x).settings.second ≡ Some (record { id = id; limit = limit }) → (file_second x ≡ id) × (file_second_limit x ≡ limit)

-- the file at another version
pub record Saves (x : List ℕ) (v : ℕ) (buffer : List ℕ) : Type 0 where
  pub refused : (new_read x).number ≢ 0 → (save_number x v (length buffer) ≡ (new_read x).number) × (saved x v buffer ≡ buffer)
  pub written : (new_read x).number ≡ 0
      → (save_number x v (length buffer) ≡ refusal (write_tests (length buffer) v (new_read x).settings)) × (saved x v buffer ≡ file_written buffer v (new_read x).settings)
  -- "Settings should survive an update"
  pub survives : Bytes x → (new_read x).number ≡ 0 → save_number x v (length buffer) ≡ 0 → new_read (take (file_size v) (saved x v buffer)) ≡ new_read x

pub record Updater : Type 0 where
  pub numbers : (x : List ℕ) → Numbers x
  pub saves : (x : List ℕ) (v : ℕ) (buffer : List ℕ) → Saves x v buffer
