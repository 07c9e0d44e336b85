-- For how many words an area stands. Assumes nothing.
use mathlib.Core.Path.{◌≡◌, refl}
use mathlib.Core.Logic.{◌≢◌}
use mathlib.Core.Bool.{Bool, true, false}
use Prim.Native.Nat.{ℕ}
use native.Mathlib.Omega.{arith}
use lib.Dec.{eqb}
use borrow.Author.Tests.{eqb-true, eqb-false, eq-eqb, ne_eqb}
use Rattle.rules.specs.Settings.{mark_words, most_units}
use Rattle.plain.specs.Bytes.{words_for}

pub words_right : (bytes : ℕ) → bytes ≡ most_units → mark_words ≡ words_for bytes
words_right bytes e = rw (eq-eqb bytes most_units e)

pub words-wrong : (bytes : ℕ) → bytes ≢ most_units → 0 ≡ words_for bytes
words-wrong bytes e = rw (ne_eqb bytes most_units e)

-- an area that stands for the marks' words has a byte for each unit
pub area-whole : (bytes : ℕ) → words_for bytes ≡ mark_words → bytes ≡ most_units
area-whole bytes e = go (eqb bytes most_units) refl
  where
    go : (b : Bool) → eqb bytes most_units ≡ b → bytes ≡ most_units
    go true f = eqb-true bytes most_units f
    go false f = absurd (omega (arith, words-wrong bytes (eqb-false bytes most_units f), e))
