-- Each run that a report lists is a good descriptor: its units are units of ranges that pass the rules of a row. Assumes nothing.
use mathlib.Core.Path.{◌≡◌, sym, ap, subst, ◌∙◌}
use mathlib.Core.Bool.{Bool, true}
use mathlib.Core.List.{List, [], ◌∷◌, ◌++◌, map}
use Prim.Native.Nat.{ℕ, zero, suc, ◌+◌, ◌*◌, ◌%◌, ◌^◌, ◌≤◌, ◌<◌}
use native.Mathlib.Omega.{arith}
use native.Mathlib.Nat.{add-mod_right, zero-mul, suc-mul}
use lib.ListN.{length, take, length-append}
use borrow.Author.Tests.{le-leb, eq-eqb}
use Rattle.rules.specs.Lists.{keep, join}
use Rattle.rules.specs.Settings.{most_units, unit_size}
use Rattle.rules.specs.Units.{Unit, units_of_row, uncovered, units_from, units, pending}
use Rattle.rules.specs.Ranges.{row_tests, row_ok, rows_ok}
use Rattle.rules.specs.Report.{runs, Descriptor, range_of, descriptor, reported_runs}
use Rattle.rules.specs.ReportReader.{good_descriptor}
use Rattle.rules.specs.declared.Range.{Range}
use Rattle.rules.proofs.ListLaws.{and_left, and_right, All, All-map, All-both, All-append, All-keep, All-left, All-right, All-take}
use Rattle.rules.proofs.RefusalLaws.{passes-all}
use Rattle.rules.proofs.RowLaws.{row_ok-facts}
use Rattle.rules.proofs.UnitLaws.{Chain, units_from-sized, unit_size-pos, All-pending}
use Rattle.rules.proofs.RunLaws.{Run, runs-join, runs-run, runs-length-le, pending-length-le}

-- ---- units

-- a unit of size s that begins at a multiple of it and ends at most at 2^64
abbrev Within : ℕ → Unit → Type 0
Within s u = (u.address % s ≡ 0) × (u.address + s ≤ 2 ^ 64)

row_within : (s row a n : ℕ) → a % s ≡ 0 → a + n * s ≤ 2 ^ 64 → All (Within s) (units_of_row row s a n)
row_within s row a zero e h = tt
row_within s row a (suc n) e h = (
  (e, omega (arith, h, suc-mul n s)),
  row_within s row (a + s) n (add-mod_right a s ∙ e) (omega (arith, h, suc-mul n s)),
)

ranges-within : (g row : ℕ) (before rs : List Range) → rows_ok g rs ≡ true → All (Within (unit_size g)) (units_from (unit_size g) row before rs)
ranges-within g row before [] h = tt
ranges-within g row before (r ∷ rs) h =
    let f = row_ok-facts g r (and_left (row_ok g r) (rows_ok g rs) h) in
    All-append (Within (unit_size g)) (keep (uncovered (unit_size g) before) (units_of_row row (unit_size g) r.start r.length)) (units_from (unit_size g) (suc row) (before ++ r ∷ []) rs)
    (All-keep (Within (unit_size g)) (uncovered (unit_size g) before) (units_of_row row (unit_size g) r.start r.length) (row_within (unit_size g) row r.start r.length f.aligned f.within))
    (ranges-within g (suc row) (before ++ r ∷ []) rs (and_right (row_ok g r) (rows_ok g rs) h))

-- ---- runs

All-join : {A : Type 0} (P : A → Type 0) (xs : List (List A)) → All P (join xs) → All (All P) xs
All-join P [] h = tt
All-join P (x ∷ xs) h = (All-left P x (join xs) h, All-join P xs (All-right P x (join xs) h))

join-length : {A : Type 0} (xs : List (List A)) → All (λ x. length x ≤ length (join xs)) xs
join-length [] = tt
join-length (x ∷ xs) = (omega (arith, length-append x (join xs)), All-map (λ y h. omega (arith, h, length-append x (join xs))) xs (join-length xs))

chain-end : (s a : ℕ) (u : Unit) (us : List Unit) → Chain s a (u ∷ us) → All (Within s) (u ∷ us) → a + length (u ∷ us) * s ≤ 2 ^ 64
chain-end s a u [] c h = omega (arith, c.0, h.0.1, suc-mul 0 s, zero-mul s)
chain-end s a u (v ∷ vs) c h = omega (arith, chain-end s (a + s) v vs c.2 h.1, suc-mul (length (v ∷ vs)) s)

-- what a descriptor of a report is known by: it is good, and its fields fit their bytes
pub record Fitting (g : ℕ) (d : Descriptor) : Type 0 where
  pub good : good_descriptor g d ≡ true
  pub address : d.address < 2 ^ 64
  pub length : d.length < 2 ^ 32

run_fits : (g : ℕ) (r : List Unit) → Run (unit_size g) r → All (Within (unit_size g)) r → length r ≤ most_units → Fitting g (descriptor r)
run_fits g [] c h l = absurd c
run_fits g (u ∷ us) c h l =
    let e : u.address + suc (length us) * unit_size g ≤ 2 ^ 64 = chain-end (unit_size g) u.address u us c h in
    record {
      good =
          passes-all (row_tests g 0 (range_of (descriptor (u ∷ us))))
          (le-leb 1 (suc (length us)) (omega arith), (eq-eqb (u.address % unit_size g) 0 h.0.0, (le-leb (u.address + suc (length us) * unit_size g) (2 ^ 64) e, tt)));
      address = omega (arith, h.0.1, unit_size-pos g);
      length = omega (arith, l);
    }

-- ---- what a report lists

module _ (g : ℕ) (rs : List Range) (rows : rows_ok g rs ≡ true) (total : length (units g rs) ≤ most_units) (p : List Bool) (k : ℕ) where
  abbrev us : List Unit
  us = pending (units g rs) p

  few : length us ≤ most_units
  few = omega (arith, pending-length-le (units g rs) p, total)

  all_runs : All (λ r. Fitting g (descriptor r)) (runs us)
  all_runs =
      All-map (λ r h. run_fits g r h.0 h.1.0 (omega (arith, h.1.1, few, ap length (runs-join us)))) (runs us)
      (All-both (Run (unit_size g)) (λ r. All (Within (unit_size g)) r × (length r ≤ length (join (runs us)))) (runs us)
      (runs-run (unit_size g) us (All-pending (λ u. u.size ≡ unit_size g) (units g rs) p (units_from-sized (unit_size g) 0 [] rs)))
      (All-both (All (Within (unit_size g))) (λ r. length r ≤ length (join (runs us))) (runs us)
      (All-join (Within (unit_size g)) (runs us) (subst (All (Within (unit_size g))) (sym (runs-join us)) (All-pending (Within (unit_size g)) (units g rs) p (ranges-within g 0 [] rs rows))))
      (join-length (runs us))))

  pub listed-fit : All (Fitting g) (map descriptor (reported_runs k (units g rs) p))
  listed-fit = All-of-map (take k (runs us)) (All-take (λ r. Fitting g (descriptor r)) k (runs us) all_runs)
    where
      All-of-map : (xs : List (List Unit)) → All (λ r. Fitting g (descriptor r)) xs → All (Fitting g) (map descriptor xs)
      All-of-map [] h = tt
      All-of-map (x ∷ xs) h = (h.0, All-of-map xs h.1)

  pub runs-few : length (runs us) ≤ most_units
  runs-few = omega (arith, runs-length-le us, few)
