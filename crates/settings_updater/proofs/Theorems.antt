-- An updater's answers, in the reader's and the writer's own numbers. Assumes nothing.
use Prim.Native.Nat.{ℕ}
use mathlib.Core.Path.{◌≡◌, refl, sym, ap, ◌∙◌}
use mathlib.Core.Logic.{◌≢◌}
use mathlib.Core.List.{List}
use lib.ListN.{length, take}
use borrow.Author.Tests.{eq-eqb, ne_eqb}
use Rattle.rules.specs.Refusals.{refusal}
use Rattle.settings_file.specs.File.{file_size, version_in, new_read, write_tests, file_written}
use Rattle.settings_file.proofs.RoundTrip.{one-encoding}
use Rattle.settings_updater.specs.Answers.{file_version, save_number, saved}
use Rattle.settings_updater.specs.Statements.{Numbers, Saves, Updater}

no-version : (x : List ℕ) → (new_read x).number ≢ 0 → file_version x ≡ 0
unfolding file_version
no-version x h = rw (ne_eqb (new_read x).number 0 h)

version : (x : List ℕ) → (new_read x).number ≡ 0 → file_version x ≡ version_in x
unfolding file_version
version x h = rw (eq-eqb (new_read x).number 0 h)

numbers : (x : List ℕ) → Numbers x
numbers x =
    record {
      no_version = no-version x;
      version = version x;
      on = λ h. rw h;
      off = λ h. rw h;
      identifier = λ i. refl;
      alone = λ h. (rw h, rw h);
      second = λ id limit h. (rw h, rw h);
    }

module _ (x : List ℕ) (v : ℕ) (buffer : List ℕ) where
  refused : (new_read x).number ≢ 0 → (save_number x v (length buffer) ≡ (new_read x).number) × (saved x v buffer ≡ buffer)
  unfolding save_number saved
  refused h = let no = ne_eqb (new_read x).number 0 h in (rw no, rw no)

  written : (new_read x).number ≡ 0
      → (save_number x v (length buffer) ≡ refusal (write_tests (length buffer) v (new_read x).settings)) × (saved x v buffer ≡ file_written buffer v (new_read x).settings)
  unfolding save_number saved
  written h = let yes-it-is = eq-eqb (new_read x).number 0 h in (rw yes-it-is, rw yes-it-is)

  saves : Saves x v buffer
  saves =
      record {
        refused = refused;
        written = written;
        survives = λ b h w. ap (λ l. new_read (take (file_size v) l)) (written h).1 ∙ one-encoding.survives buffer x v b h (sym (written h).0 ∙ w);
      }

pub updater : Updater
updater = record { numbers = numbers; saves = saves }
