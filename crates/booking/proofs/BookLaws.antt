-- What a log books of an answer: nothing of a refusal. Assumes nothing.
use mathlib.Core.Path.{◌≡◌, refl}
use mathlib.Core.Logic.{◌≢◌}
use Rattle.std.specs.declared.option.Option.{Option}
use Rattle.std.specs.declared.option.Option.TheVariants.{None, Some}
use Prim.Native.Nat.{ℕ, ◌<◌}
use native.Mathlib.Omega.{arith}
use lib.ListN.{length, length-take}
use borrow.Author.Tests.{eq-eqb, ne_eqb}
use Rattle.rules.specs.Settings.{place_of}
use Rattle.rules.specs.declared.Settings.{Settings}
use Rattle.rules.proofs.StateLaws.{place_of-is}
use Rattle.log_numbers.specs.declared.Log.{Log}
use Rattle.calls.specs.declared.Changed.{Changed}
use Rattle.calls.specs.declared.Written.{Written}
use Rattle.log_numbers.specs.Log.{empty_log}
use Rattle.booking.specs.Booking.{booked_by, begun_by}

module _ (l : Log) (number : ℕ) where
  pub begun-refused : number ≢ 0 → l ≡ begun_by l number
  unfolding begun_by
  begun-refused h = rw (ne_eqb number 0 h)

  pub begun-done : number ≡ 0 → empty_log ≡ begun_by l number
  unfolding begun_by
  begun-done h = rw (eq-eqb number 0 h)

  module _ (m r d : ℕ) where
    pub book-refused : (p : Option ℕ) → number ≢ 0 → l ≡ booked_by l p number m r d
    unfolding booked_by
    book-refused p h = rw (ne_eqb number 0 h)

-- of an answer that is another's
pub begun-same : (l : Log) (r r' : Changed) → r ≡ r' → begun_by l r.number ≡ begun_by l r'.number
begun-same l r r' e = rw e

pub book-same : (l : Log) (p : Option ℕ) (w w' : Written) → w ≡ w' → booked_by l p w.number w.count 0 0 ≡ booked_by l p w'.number w'.count 0 0
book-same l p w w' e = rw e

-- an identifier's place is one of the eight
pub found_below : (s : Settings) (id i : ℕ) → length s.identifiers ≡ 8 → place_of s id ≡ Some i → i < 8
found_below s id i h = go (place_of s id) refl
  where
    go : (p : Option ℕ) → place_of s id ≡ p → p ≡ Some i → i < 8
    go None e f = let n : ◌≡◌ {A = ℕ} 0 1 = cc in absurd (omega arith)
    go (Some j) e f = let same : j ≡ i = cc in omega (arith, same, (place_of-is s id j e).0, length-take s.count s.identifiers)
