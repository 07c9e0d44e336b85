-- Laws of a fresh device: clear marks are words of zeros. Assumes nothing.
use mathlib.Core.Path.{◌≡◌, refl, sym, ap, ◌∙◌}
use mathlib.Core.Logic.{◌≢◌}
use mathlib.Core.Bool.{Bool, true, false, cond, true≢false}
use mathlib.Core.List.{List}
use Prim.Native.Nat.{ℕ, zero, suc, ◌*◌}
use native.Mathlib.Omega.{arith}
use lib.ListN.{length, get_or, replicate}
use lib.Dec.{eqb}
use borrow.Author.Tests.{eqb-true, eq-eqb, ne_eqb}
use Rattle.bits.specs.Flat.{flat, Words}
use Rattle.bits.specs.Span.{fill}
use Rattle.bits.proofs.Flat.{flat-length, flat-inj, flat-zeros}
use Rattle.bits.proofs.Span.{fill-whole}
use Rattle.rules.specs.Refusals.{refusal}
use Rattle.rules.specs.Settings.{mark_words, settings_ok}
use Rattle.rules.specs.Order.{fresh_order}
use Rattle.rules.specs.Device.{fresh_device, closed_device, fresh_of}
use Rattle.rules.specs.declared.Settings.{Settings}
use Rattle.rules.proofs.RefusalLaws.{number_of-pos, verdict-refused}
use Rattle.rules.specs.declared.Device.{Device}
use Rattle.rules.specs.declared.Refusal.{Refusal}
use Rattle.std.specs.Result.{is_ok}
use Rattle.std.specs.declared.result.Result.{Result}
use Rattle.std.specs.declared.result.Result.TheVariants.{Err, Ok}
use Rattle.calls.specs.declared.Changed.{Changed}
use Rattle.calls.specs.Inner.{changed_by}
use Rattle.calls.specs.Calls.{Engine, fresh_by, changed}

-- ---- all marks clear

zeros-at : (n i : ℕ) → ◌≡◌ {A = ℕ} (get_or (replicate n 0) i 0) 0
zeros-at zero i = refl
zeros-at (suc n) zero = refl
zeros-at (suc n) (suc i) = zeros-at n i

zeros-words : (n : ℕ) → Words (replicate n 0)
zeros-words n i = omega (arith, zeros-at n i)

pub clear-words : (n : ℕ) (ws ws' : List ℕ) → length ws ≡ n → Words ws' → flat ws' ≡ fill false (flat ws) 0 (64 * n) → ws' ≡ replicate n 0
clear-words n ws ws' e h f =
    flat-inj ws' (replicate n 0) h (zeros-words n)
    (f ∙ fill-whole false (flat ws) (64 * n) (omega (arith, flat-length ws)) ∙ ap (λ k. replicate k false) (flat-length ws ∙ ap (λ k. 64 * k) e) ∙ sym (flat-zeros n))

-- ---- what a fresh answers, by case

abbrev pub answer_of : Settings → ℕ → Changed
answer_of s words = record { number = refusal (fresh_order s words); device = fresh_of s words }

pub made-settings : (s : Settings) (words : ℕ) → settings_ok s ≡ false → answer_of s words ≡ record { number = 16; device = closed_device }
unfolding fresh_of
made-settings s words e = rw e

pub made-words : (s : Settings) (words : ℕ) → settings_ok s ≡ true → words ≢ mark_words → answer_of s words ≡ record { number = 1; device = closed_device }
unfolding fresh_of
made-words s words e h = rw (e, ne_eqb words mark_words h)

pub made-done : (s : Settings) (words : ℕ) → settings_ok s ≡ true → words ≡ mark_words → answer_of s words ≡ record { number = 0; device = fresh_device s }
unfolding fresh_of
made-done s words e h = rw (e, eq-eqb words mark_words h)

-- a fresh answers 0 where it is done
done-number : (d : Device) (made : Result Device Refusal) → is_ok made ≡ true → (changed_by d made).number ≡ 0
done-number d (Ok e) h = refl
done-number d (Err r) h = absurd (true≢false (sym h))

refused-number : (d : Device) (made : Result Device Refusal) → is_ok made ≡ false → (changed_by d made).number ≢ 0
refused-number d (Ok e) h = absurd (true≢false h)
refused-number d (Err r) h = number_of-pos r

-- ---- what it leaves, in any engine

pub fresh-refused : (en : Engine) (s : Settings) (ws : List ℕ) → (answer_of s (en.words ws)).number ≢ 0 → fresh_by en s ws ≡ record { answer = answer_of s (en.words ws); marks = ws }
unfolding fresh_by
fresh-refused en s ws h =
    verdict-refused (fresh_order s (en.words ws)) (changed 0 (fresh_of s (en.words ws)) (en.emptied ws)) (λ n i. changed n (fresh_of s (en.words ws)) ws) h

-- where it is done both tests are passed
passed : (s : Settings) (words : ℕ) → (answer_of s words).number ≡ 0 → (settings_ok s ≡ true) × (words ≡ mark_words)
passed s words = go (settings_ok s) (eqb words mark_words) refl refl
  where
    go : (a b : Bool) → settings_ok s ≡ a → eqb words mark_words ≡ b → ◌≡◌ {A = ℕ} (cond a (cond b 0 1) 16) 0 → (settings_ok s ≡ true) × (words ≡ mark_words)
    go true true e f z = (e, eqb-true words mark_words f)
    go true false e f z = absurd (omega (arith, z))
    go false b e f z = absurd (omega (arith, z))

pub fresh-whole : (s : Settings) (words : ℕ) → (answer_of s words).number ≡ 0 → words ≡ mark_words
fresh-whole s words z = (passed s words z).1

pub fresh-done : (en : Engine) (s : Settings) (ws : List ℕ) → (answer_of s (en.words ws)).number ≡ 0 → fresh_by en s ws ≡ record { answer = answer_of s (en.words ws); marks = en.emptied ws }
unfolding fresh_by fresh_of
fresh-done en s ws z = let p = passed s (en.words ws) z in rw (p.0, eq-eqb (en.words ws) mark_words p.1)

-- by what is made of the settings
module _ (en : Engine) (s : Settings) (ws : List ℕ) (made : Result Device Refusal) (r : changed_by closed_device made ≡ answer_of s (en.words ws)) where
  pub fresh-refuses : is_ok made ≡ false → fresh_by en s ws ≡ record { answer = answer_of s (en.words ws); marks = ws }
  fresh-refuses h = fresh-refused en s ws (λ z. refused-number closed_device made h (ap (λ (x : Changed). x.number) r ∙ z))

  pub fresh-does : is_ok made ≡ true → (en.words ws ≡ mark_words) × (fresh_by en s ws ≡ record { answer = answer_of s (en.words ws); marks = en.emptied ws })
  fresh-does h = let z = sym (ap (λ (x : Changed). x.number) r) ∙ done-number closed_device made h in (fresh-whole s (en.words ws) z, fresh-done en s ws z)
