-- Laws of a controller's totals in a log: kept by additions, they are what the rules show of the sums; and an entry changes one account alone.
-- Assumes nothing.
use mathlib.Core.Path.{◌≡◌, refl, sym, ap, ◌∙◌}
use mathlib.Core.Logic.{◌≢◌, inl, inr}
use mathlib.Core.Bool.{Bool, true, false, ◌&&◌, cond}
use Prim.Native.Nat.{ℕ, ◌+◌, ◌<◌}
use native.Mathlib.Omega.{arith}
use lib.ListN.{length, set, length-set}
use lib.Seq.{get_or-set_same, get_or-set_other}
use Rattle.rules.specs.Totals.{Shown, known, unknown, is_counted, shown_of}
use Rattle.rules.specs.Demands.{Passes}
use Rattle.rules.proofs.TotalLaws.{shown_of-passed, shown_of-unknown}
use Rattle.log_numbers.specs.Log.{showing, added_to, empty_account, totals_at, booked_at}
use Rattle.std.specs.declared.option.Option.{Option}
use Rattle.log_numbers.specs.declared.Totals.{Totals}
use Rattle.std.specs.declared.option.Option.TheVariants.{None, Some}
use Rattle.log_numbers.specs.declared.Log.{Log}

-- ---- what totals show

abbrev pub shown : Option Totals → Shown
shown (Some n) = known n.marked n.reported n.dropped
shown None = unknown

pub shown-showing : (s : Shown) → shown (showing s) ≡ s
shown-showing (known m r d) = refl
shown-showing unknown = refl

pub showing-shown : (t : Option Totals) → showing (shown t) ≡ t
showing-shown (Some n) = refl
showing-shown None = refl

-- ---- the turns of `added`

module _ (t : Option Totals) (m r d a b c : ℕ) (e : t ≡ Some (record { marked = m; reported = r; dropped = d })) where
  abbrev sums : Shown
  sums = shown_of (m + a) (r + b) (d + c)

  passed : Passes (m + a) (r + b) (d + c) → None ≡ added_to t a b c
  passed p = rw e (sym (ap showing (shown_of-unknown (m + a) (r + b) (d + c) p)))

-- ---- totals that show what the rules show of three numbers do so of the three with more

module _ (m r d a b c : ℕ) where
  later : Passes m r d → Passes (m + a) (r + b) (d + c)
  later (inl h) = inl (omega arith)
  later (inr (inl h)) = inr (inl (omega arith))
  later (inr (inr h)) = inr (inr (omega arith))

  -- by the numbers themselves
  pub added_to-showing : added_to (showing (shown_of m r d)) a b c ≡ showing (shown_of (m + a) (r + b) (d + c))
  added_to-showing = go (shown_of m r d) refl
    where
      known_is : (x y z : ℕ) → known x y z ≡ shown_of m r d → (x ≡ m) × (y ≡ r) × (z ≡ d)
      known_is x y z = go (is_counted m && (is_counted r && is_counted d))
        where
          go : (q : Bool) → known x y z ≡ cond q (known m r d) unknown → (x ≡ m) × (y ≡ r) × (z ≡ d)
          go true e = (cc, cc, cc)
          go false e = let n : ◌≡◌ {A = ℕ} 0 1 = cc in absurd (omega arith)

      go : (s : Shown) → shown_of m r d ≡ s → added_to (showing s) a b c ≡ showing (shown_of (m + a) (r + b) (d + c))
      go (known x y z) e = let k = known_is x y z (sym e) in rw (k.0, k.1, k.2)
      go unknown e = sym (ap showing (shown_of-unknown (m + a) (r + b) (d + c) (later (shown_of-passed m r d e))))

  pub added_to-shows : (t : Option Totals) → shown t ≡ shown_of m r d → shown (added_to t a b c) ≡ shown_of (m + a) (r + b) (d + c)
  added_to-shows t e =
      ap (λ x. shown (added_to x a b c)) (sym (showing-shown t) ∙ ap showing e) ∙ ap shown added_to-showing ∙ shown-showing (shown_of (m + a) (r + b) (d + c))

-- ---- an entry in the log

module _ (l : Log) (i a b c : ℕ) where
  pub booked-is : (x : Option Totals) → x ≡ added_to (totals_at l i) a b c → record { accounts = set l.accounts i (record { totals = x }) } ≡ booked_at l i a b c
  booked-is x e = rw e

  pub booked_at-length : length (booked_at l i a b c).accounts ≡ length l.accounts
  booked_at-length = length-set l.accounts i (record { totals = added_to (totals_at l i) a b c })

  pub booked_at-own : i < length l.accounts → totals_at (booked_at l i a b c) i ≡ added_to (totals_at l i) a b c
  booked_at-own h = ap (λ x. x.totals) (get_or-set_same l.accounts i (record { totals = added_to (totals_at l i) a b c }) empty_account h)

  pub booked_at-other : (j : ℕ) → j ≢ i → totals_at (booked_at l i a b c) j ≡ totals_at l j
  booked_at-other j n = ap (λ x. x.totals) (get_or-set_other l.accounts i j (record { totals = added_to (totals_at l i) a b c }) empty_account n)
