-- Document 02, W11: what is proved of the settings file. `Bytes` says of a list that its elements are bytes, as those of every lent slice are.
use Rattle.std.specs.Prelude.{ℕ, ◌+◌, ◌*◌, ◌^◌, ◌≤◌, ◌<◌, ◌≡◌, ◌≢◌, ◌↔◌, ◌⊎◌, Bool, true, false, ◌||◌, cond, List, [], ◌∷◌, eqb, length, get_or, take, drop}
use Rattle.little.specs.Little.{number_at, put}
use Rattle.rules.specs.Demands.{Bytes}
use Rattle.rules.specs.Refusals.{refusal}
use Rattle.rules.specs.Settings.{settings_ok}
use Rattle.rules.specs.Device.{cleaned, closed_settings}
use Rattle.std.specs.declared.option.Option.TheVariants.{None, Some}
use Rattle.rules.specs.declared.Settings.{Settings}
use Rattle.settings_file.specs.File.{file_size, mark, version_in, old_read, new_read, holds, write_tests, file_written}

-- what the code's types hold: identifiers of 16 bits, 8 places for them
pub record Fits (s : Settings) : Type 0 where
  pub manager : s.manager < 2 ^ 16
  pub second : (id limit : ℕ) → s.second ≡ Some (record { id = id; limit = limit }) → id < 2 ^ 16
  pub places : length s.identifiers ≡ 8
  pub identifiers : (i : ℕ) → get_or s.identifiers i 0 < 2 ^ 16

-- the mark, the version's two bytes, and the lengths, in numbers
pub record Begins : Type 0 where
  pub mark : mark ≡ 0x54 ∷ 0x52 ∷ 0x4b ∷ []
  pub version : (x : List ℕ) → version_in x ≡ get_or x 3 0 + 256 * get_or x 4 0
  pub one : file_size 1 ≡ 29
  pub two : file_size 2 ≡ 35

-- a file and its settings: the bytes in which each stands (docs/SETTINGS-FILE.md)
pub record Laid (x : List ℕ) (s : Settings) : Type 0 where
  pub manager : number_at x 5 2 ≡ s.manager
  pub least : number_at x 7 1 ≡ s.least
  pub greatest : number_at x 8 1 ≡ s.greatest
  pub rule : number_at x 9 1 ≡ cond s.powers 1 0
  pub limit : number_at x 10 2 ≡ s.limit
  pub count : number_at x 12 1 ≡ s.count
  pub identifiers : (i : ℕ) → i < 8 → number_at x (13 + 2 * i) 2 ≡ get_or s.identifiers i 0
  -- version 2: none is the first manager again with limit 0
  pub none : version_in x ≡ 2 → s.second ≡ None → (number_at x 29 2 ≡ s.manager) × (number_at x 31 2 ≡ 0)
  pub second : version_in x ≡ 2 → (id limit : ℕ) → s.second ≡ Some (record { id = id; limit = limit }) → (number_at x 29 2 ≡ id) × (number_at x 31 2 ≡ limit)
  pub shelf : version_in x ≡ 2 → number_at x 33 2 ≡ s.shelf

-- each accepted file is laid out so
abbrev pub Layout : Type 0
Layout = (x : List ℕ) → (new_read x).number ≡ 0 → Laid x (new_read x).settings

-- "Refusals: 35 for a wrong length, first where fewer than five bytes are there, else after 31 wrong mark and 32 version; then 16": of a reader's number, and of the versions
-- that it takes
pub record Refuses (number : List ℕ → ℕ) (takes : ℕ → Bool) : Type 0 where
  pub few : (x : List ℕ) → length x < 5 → number x ≡ 35
  pub unmarked : (x : List ℕ) → 5 ≤ length x → take 3 x ≢ mark → number x ≡ 31
  pub version : (x : List ℕ) → 5 ≤ length x → take 3 x ≡ mark → takes (version_in x) ≡ false → number x ≡ 32
  pub size : (x : List ℕ) → 5 ≤ length x → take 3 x ≡ mark → takes (version_in x) ≡ true → length x ≢ file_size (version_in x) → number x ≡ 35
  pub last : (x : List ℕ) → 5 ≤ length x → take 3 x ≡ mark → takes (version_in x) ≡ true → length x ≡ file_size (version_in x) → (number x ≡ 0) ⊎ (number x ≡ 16)

pub record Readers : Type 0 where
  pub old : Refuses (λ x. (old_read x).number) (λ v. eqb v 1)
  pub new : Refuses (λ x. (new_read x).number) (λ v. eqb v 1 || eqb v 2)
  -- a refusal comes with zeros
  pub old_zeros : (x : List ℕ) → (old_read x).number ≢ 0 → (old_read x).settings ≡ closed_settings
  pub new_zeros : (x : List ℕ) → (new_read x).number ≢ 0 → (new_read x).settings ≡ closed_settings

-- the writer: 16, 32, 8, and otherwise it is done; which version can hold which settings
pub record Writer : Type 0 where
  pub rules : (size v : ℕ) (s : Settings) → settings_ok s ≡ false → refusal (write_tests size v s) ≡ 16
  pub version : (size v : ℕ) (s : Settings) → settings_ok s ≡ true → holds v s ≡ false → refusal (write_tests size v s) ≡ 32
  pub short : (size v : ℕ) (s : Settings) → settings_ok s ≡ true → holds v s ≡ true → size < file_size v → refusal (write_tests size v s) ≡ 8
  pub done : (size v : ℕ) (s : Settings) → settings_ok s ≡ true → holds v s ≡ true → file_size v ≤ size → refusal (write_tests size v s) ≡ 0
  pub one : (s : Settings) → (holds 1 s ≡ true) ↔ ((s.second ≡ None) × (s.shelf ≡ 128))
  pub two : (s : Settings) → holds 2 s ≡ true
  pub other : (v : ℕ) (s : Settings) → v ≢ 1 → v ≢ 2 → holds v s ≡ false
  -- a refused one changes no byte, and a done one none after the file
  pub refused : (buffer : List ℕ) (v : ℕ) (s : Settings) → refusal (write_tests (length buffer) v s) ≢ 0 → file_written buffer v s ≡ buffer
  pub rest : (buffer : List ℕ) (v : ℕ) (s : Settings) → length s.identifiers ≡ 8 → drop (file_size v) (file_written buffer v s) ≡ drop (file_size v) buffer

-- "Settings have one encoding at each version that can hold them"
pub record OneEncoding : Type 0 where
  -- "Settings should survive an update": a file that is read and written at any version that can hold it means the same
  pub survives : (buffer x : List ℕ) (v : ℕ) → Bytes x → (new_read x).number ≡ 0 → refusal (write_tests (length buffer) v (new_read x).settings) ≡ 0
      → new_read (take (file_size v) (file_written buffer v (new_read x).settings)) ≡ new_read x
  -- reading what was written gives the settings, with zeros in the places that are not in use
  pub read_written : (buffer : List ℕ) (v : ℕ) (s : Settings) → Fits s → refusal (write_tests (length buffer) v s) ≡ 0
      → new_read (take (file_size v) (file_written buffer v s)) ≡ record { number = 0; settings = cleaned s }
  -- writing what was read, at its version, is done where there is room, and gives the file's bytes
  pub written_read : (buffer x : List ℕ) → Bytes x → (new_read x).number ≡ 0 → length x ≤ length buffer
      → (refusal (write_tests (length buffer) (version_in x) (new_read x).settings) ≡ 0) × (file_written buffer (version_in x) (new_read x).settings ≡ put buffer 0 x)
  -- two accepted files of one version that give the same settings are equal
  pub one : (x y : List ℕ) → Bytes x → Bytes y → (new_read x).number ≡ 0 → (new_read y).number ≡ 0 → version_in x ≡ version_in y
      → (new_read x).settings ≡ (new_read y).settings → x ≡ y

-- "The new reader takes both; a version 1 file gives one manager and the shelf limit 128. The version 1 reader .. refuses version 2 by number."
pub record BothReaders : Type 0 where
  -- a file of version 1 means the same to both readers: they refuse it with one number, or take it with one manager and the shelf limit 128
  pub same : (x : List ℕ) → version_in x ≡ 1 → new_read x ≡ old_read x
  pub one : (x : List ℕ) → version_in x ≡ 1 → (new_read x).number ≡ 0 → ((new_read x).settings.second ≡ None) × ((new_read x).settings.shelf ≡ 128)
  -- every file of version 2, and all else that begins like one, is refused by the old reader with 32
  pub version_two : (x : List ℕ) → 5 ≤ length x → take 3 x ≡ mark → version_in x ≡ 2 → old_read x ≡ record { number = 32; settings = closed_settings }
