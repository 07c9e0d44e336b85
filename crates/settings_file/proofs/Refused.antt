-- What the readers and the writer refuse, in the document's words. Assumes nothing.
use Prim.Native.Nat.{ℕ, zero, suc, ◌≤◌, ◌<◌}
use mathlib.Core.Path.{◌≡◌, refl, sym, ◌∙◌}
use mathlib.Core.Logic.{◌≢◌, ◌⊎◌, inl, inr}
use mathlib.Core.Bool.{Bool, true, false, ◌||◌, cond}
use mathlib.Core.List.{List}
use native.Mathlib.Omega.{arith}
use lib.Dec.{eqb}
use lib.ListN.{length, take, drop}
use borrow.Author.Tests.{le-leb, lt-leb, eq-eqb, ne_eqb}
use Rattle.little.specs.Little.{put}
use Rattle.little.proofs.Put.{put-drop-after}
use Rattle.rules.specs.Lists.{every}
use Rattle.rules.specs.Refusals.{refusal}
use Rattle.rules.specs.Settings.{settings_ok}
use Rattle.rules.specs.Device.{closed_settings}
use Rattle.rules.specs.declared.Settings.{Settings}
use Rattle.rules.proofs.RefusalLaws.{verdict-has, verdict-refused}
use Rattle.settings_file.specs.declared.Read.{Read}
use Rattle.settings_file.specs.File.{file_size, mark, version_in, settings_in, plain_rules, known_version, read_tests, read_up_to, file_bytes, holds, write_tests, file_written}
use Rattle.settings_file.specs.Statements.{Refuses, Readers, Writer}
use Rattle.settings_file.proofs.FieldLaws.{file_bytes-length, holds-one}
use Rattle.settings_file.proofs.ReaderLaws.{mark-is, mark-not}

-- ---- the readers

-- the versions that each knows
known-old : (v : ℕ) → eqb v 1 ≡ known_version 1 v
known-old zero = refl
known-old (suc zero) = refl
known-old (suc (suc v)) =
    rw (ne_eqb (suc (suc v)) 1 (λ z. omega arith), le-leb 1 (suc (suc v)) (omega arith), lt-leb (suc (suc v)) 1 (omega arith))

known-new : (v : ℕ) → (eqb v 1 || eqb v 2) ≡ known_version 2 v
known-new zero = refl
known-new (suc zero) = refl
known-new (suc (suc zero)) = refl
known-new (suc (suc (suc v))) =
    let n = suc (suc (suc v)) in
    rw (ne_eqb n 1 (λ z. omega arith), ne_eqb n 2 (λ z. omega arith), le-leb 1 n (omega arith), lt-leb n 2 (omega arith))

module _ (newest : ℕ) (x : List ℕ) where
  few : length x < 5 → (read_up_to newest x).number ≡ 35
  unfolding read_up_to
  few h = rw (lt-leb 5 (length x) h)

  zeros : (read_up_to newest x).number ≢ 0 → (read_up_to newest x).settings ≡ closed_settings
  unfolding read_up_to
  zeros =
      verdict-has (λ (r : Read). r.number ≢ 0 → r.settings ≡ closed_settings) (λ n i. record { number = n; settings = closed_settings }) (λ n i h. refl) (read_tests newest x)
      (record { number = 0; settings = settings_in (version_in x) x }) (λ p h. absurd (h refl))

  module _ (h : 5 ≤ length x) where
    unmarked : take 3 x ≢ mark → (read_up_to newest x).number ≡ 31
    unfolding read_up_to
    unmarked e = rw (le-leb 5 (length x) h, mark-not x h e)

    module _ (m : take 3 x ≡ mark) where
      version : known_version newest (version_in x) ≡ false → (read_up_to newest x).number ≡ 32
      unfolding read_up_to
      version e = rw (le-leb 5 (length x) h, mark-is x h m, e)

      module _ (e : known_version newest (version_in x) ≡ true) where
        size : length x ≢ file_size (version_in x) → (read_up_to newest x).number ≡ 35
        unfolding read_up_to
        size l = rw (le-leb 5 (length x) h, mark-is x h m, e, ne_eqb (length x) (file_size (version_in x)) l)

        last : length x ≡ file_size (version_in x) → ((read_up_to newest x).number ≡ 0) ⊎ ((read_up_to newest x).number ≡ 16)
        unfolding read_up_to
        last l =
            rw (le-leb 5 (length x) h, mark-is x h m, e, eq-eqb (length x) (file_size (version_in x)) l)
            (go (every (plain_rules x (settings_in (version_in x) x))) (settings_ok (settings_in (version_in x) x)))
          where
            none : Read
            none = record { number = 16; settings = closed_settings }

            go : (a b : Bool)
                → ((cond {A = Read} a (cond b (record { number = 0; settings = settings_in (version_in x) x }) none) none).number ≡ 0)
                ⊎ ((cond {A = Read} a (cond b (record { number = 0; settings = settings_in (version_in x) x }) none) none).number ≡ 16)
            go true true = inl refl
            go true false = inr refl
            go false b = inr refl

refuses : (newest : ℕ) (takes : ℕ → Bool) → ((v : ℕ) → takes v ≡ known_version newest v) → Refuses (λ x. (read_up_to newest x).number) takes
refuses newest takes e =
    record {
      few = few newest;
      unmarked = unmarked newest;
      version = λ x h m t. version newest x h m (sym (e (version_in x)) ∙ t);
      size = λ x h m t. size newest x h m (sym (e (version_in x)) ∙ t);
      last = λ x h m t. last newest x h m (sym (e (version_in x)) ∙ t);
    }

pub readers : Readers
readers =
    record {
      old = refuses 1 (λ v. eqb v 1) known-old;
      new = refuses 2 (λ v. eqb v 1 || eqb v 2) known-new;
      old_zeros = zeros 1;
      new_zeros = zeros 2;
    }

-- ---- the writer

holds-two : (s : Settings) → holds 2 s ≡ true
unfolding holds
holds-two s = refl

holds-other : (v : ℕ) (s : Settings) → v ≢ 1 → v ≢ 2 → holds v s ≡ false
unfolding holds
holds-other v s a b = rw (ne_eqb v 1 a, ne_eqb v 2 b)

-- bytes after the file stay
module _ (buffer : List ℕ) (v : ℕ) (s : Settings) where
  written-rest : length s.identifiers ≡ 8 → drop (file_size v) (file_written buffer v s) ≡ drop (file_size v) buffer
  unfolding file_written
  written-rest e =
      verdict-has (λ (l : List ℕ). drop (file_size v) l ≡ drop (file_size v) buffer) (λ n i. buffer) (λ n i. refl) (write_tests (length buffer) v s) (put buffer 0 (file_bytes v s))
      (λ p. put-drop-after buffer 0 (file_bytes v s) (file_size v) (omega (arith, file_bytes-length v s e)))

  written-refused : refusal (write_tests (length buffer) v s) ≢ 0 → file_written buffer v s ≡ buffer
  unfolding file_written
  written-refused h = verdict-refused (write_tests (length buffer) v s) (put buffer 0 (file_bytes v s)) (λ n i. buffer) h

pub writer : Writer
writer =
    record {
      rules = λ size v s e. rw e;
      version = λ size v s e f. rw (e, f);
      short = λ size v s e f h. rw (e, f, lt-leb (file_size v) size h);
      done = λ size v s e f h. rw (e, f, le-leb (file_size v) size h);
      one = holds-one;
      two = holds-two;
      other = holds-other;
      refused = written-refused;
      rest = written-rest;
    }
