-- Laws of the readers: what is known of a file that is accepted, and how the two readers agree. Assumes nothing.
use Prim.Native.Nat.{ℕ, zero, suc, ◌≤◌}
use mathlib.Core.Path.{◌≡◌, refl, sym, ◌∙◌}
use mathlib.Core.Logic.{◌≢◌, ◌⊎◌, inl, inr}
use mathlib.Core.Bool.{Bool, true, false, true≢false}
use mathlib.Core.List.{List, [], ◌∷◌}
use native.Mathlib.Omega.{arith}
use lib.Dec.{leb}
use lib.ListN.{length, take}
use borrow.Author.Tests.{le-leb, eq-eqb, leb-true, eqb-true}
use Rattle.rules.specs.Lists.{every}
use Rattle.rules.specs.Refusals.{refusal}
use Rattle.rules.specs.Settings.{settings_ok}
use Rattle.rules.specs.Device.{closed_settings}
use Rattle.std.specs.declared.option.Option.TheVariants.{None}
use Rattle.rules.proofs.ListLaws.{every-at, and_right}
use Rattle.rules.proofs.RefusalLaws.{Passed, verdict-map, verdict-passed, passes-Passed, refusal-none}
use Rattle.settings_file.specs.File.{file_size, mark, mark_rules, mark_ok, version_in, rule_in, second_in, shelf_in, settings_in, spare_ok, plain_rules, known_version, read_tests, read_up_to, old_read, new_read}
use Rattle.settings_file.specs.Statements.{BothReaders}
use Rattle.settings_file.specs.declared.Read.{Read}

-- ---- the mark

pub mark-is : (x : List ℕ) → 5 ≤ length x → take 3 x ≡ mark → mark_ok x ≡ true
unfolding mark_ok
mark-is [] h e = absurd (omega (arith, h))
mark-is (a ∷ []) h e = absurd (omega (arith, h))
mark-is (a ∷ b ∷ []) h e = absurd (omega (arith, h))
mark-is (a ∷ b ∷ c ∷ x) h e =
    let p : a ≡ 84 = cc in
    let q : b ≡ 82 = cc in
    let r : c ≡ 75 = cc in
    rw (eq-eqb a 84 p, eq-eqb b 82 q, eq-eqb c 75 r)

pub marked : (x : List ℕ) → 5 ≤ length x → mark_ok x ≡ true → take 3 x ≡ mark
unfolding mark_ok
marked [] h e = absurd (omega (arith, h))
marked (a ∷ []) h e = absurd (omega (arith, h))
marked (a ∷ b ∷ []) h e = absurd (omega (arith, h))
marked (a ∷ b ∷ c ∷ x) h e =
    let rules = mark_rules (a ∷ b ∷ c ∷ x) in
    rw (eqb-true a 84 (every-at rules 0 e), eqb-true b 82 (every-at rules 1 e), eqb-true c 75 (every-at rules 2 e))

pub mark-not : (x : List ℕ) → 5 ≤ length x → take 3 x ≢ mark → mark_ok x ≡ false
mark-not x h e = go (mark_ok x) refl
  where
    go : (b : Bool) → mark_ok x ≡ b → mark_ok x ≡ false
    go true q = absurd (e (marked x h q))
    go false q = q

-- ---- a file that is accepted

-- what is known of it
pub record Accepted (x : List ℕ) : Type 0 where
  pub marked : mark_ok x ≡ true
  pub version : (version_in x ≡ 1) ⊎ (version_in x ≡ 2)
  pub size : length x ≡ file_size (version_in x)
  pub rule : rule_in x ≤ 1
  pub spare : spare_ok (settings_in (version_in x) x) ≡ true
  pub rules : settings_ok (settings_in (version_in x) x) ≡ true
  pub read : new_read x ≡ record { number = 0; settings = settings_in (version_in x) x }

known_two : (v : ℕ) → known_version 2 v ≡ true → (v ≡ 1) ⊎ (v ≡ 2)
known_two zero e = absurd (true≢false (sym e))
known_two (suc zero) e = inl refl
known_two (suc (suc zero)) e = inr refl
known_two (suc (suc (suc v))) e = absurd (omega (arith, leb-true (suc (suc (suc v))) 2 (and_right (leb 1 (suc (suc (suc v)))) (leb (suc (suc (suc v))) 2) e)))

new_read-number : (x : List ℕ) → (new_read x).number ≡ refusal (read_tests 2 x)
unfolding read_up_to
new_read-number x =
    verdict-map (λ (r : Read). r.number) (read_tests 2 x) (record { number = 0; settings = settings_in (version_in x) x })
    (λ n i. record { number = n; settings = closed_settings })

new_read-passed : (x : List ℕ) → (new_read x).number ≡ 0 → Passed (read_tests 2 x)
new_read-passed x e =
    passes-Passed (read_tests 2 x)
    (sym (refusal-none (read_tests 2 x) (omega arith, (omega arith, (omega arith, (omega arith, (omega arith, (omega arith, tt))))))) ∙ eq-eqb (refusal (read_tests 2 x)) 0 (sym (new_read-number x) ∙ e))

pub accepted : (x : List ℕ) → (new_read x).number ≡ 0 → Accepted x
unfolding read_up_to
accepted x e =
    let h = new_read-passed x e in
    let plain = plain_rules x (settings_in (version_in x) x) in
    let p : every plain ≡ true = h.1.1.1.1.0 in
    record {
      marked = h.1.0;
      version = known_two (version_in x) h.1.1.0;
      size = eqb-true (length x) (file_size (version_in x)) h.1.1.1.0;
      rule = leb-true (rule_in x) 1 (every-at plain 0 p);
      spare = every-at plain 1 p;
      rules = h.1.1.1.1.1.0;
      read =
          verdict-passed (read_tests 2 x) (record { number = 0; settings = settings_in (version_in x) x })
          (λ n i. record { number = n; settings = closed_settings }) h;
    }

-- and that this is enough
pub new_read-whole : (x : List ℕ) (v : ℕ) → version_in x ≡ v → 5 ≤ length x → mark_ok x ≡ true → known_version 2 v ≡ true → length x ≡ file_size v → rule_in x ≤ 1
    → spare_ok (settings_in v x) ≡ true → settings_ok (settings_in v x) ≡ true → new_read x ≡ record { number = 0; settings = settings_in v x }
unfolding read_up_to
new_read-whole x v e long marked known size rule spare rules =
    rw (e, le-leb 5 (length x) long, marked, known, eq-eqb (length x) (file_size v) size, le-leb (rule_in x) 1 rule, spare, rules)

-- ---- both readers

same : (x : List ℕ) → version_in x ≡ 1 → new_read x ≡ old_read x
unfolding read_up_to
same x e = rw e

one : (x : List ℕ) → version_in x ≡ 1 → (new_read x).number ≡ 0 → ((new_read x).settings.second ≡ None) × ((new_read x).settings.shelf ≡ 128)
unfolding second_in shelf_in
one x e h = rw ((accepted x h).read, e) (refl, refl)

version_two : (x : List ℕ) → 5 ≤ length x → take 3 x ≡ mark → version_in x ≡ 2 → old_read x ≡ record { number = 32; settings = closed_settings }
unfolding read_up_to
version_two x long begins two = rw (le-leb 5 (length x) long, mark-is x long begins, two)

pub both-readers : BothReaders
both-readers = record { same = same; one = one; version_two = version_two }
