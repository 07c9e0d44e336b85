-- Laws of the reader: which descriptor is the first bad one, and what that says of the refusal. Assumes nothing.
use mathlib.Core.Path.{◌≡◌, refl}
use mathlib.Core.Bool.{Bool, true, false, cond}
use mathlib.Core.List.{List, [], ◌∷◌}
use Rattle.std.specs.declared.option.Option.{Option}
use Rattle.std.specs.declared.option.Option.TheVariants.{None, Some}
use Rattle.std.specs.Prelude.{is_some}
use Rattle.std.specs.Option.{unwrap_or}
use Prim.Native.Nat.{ℕ, suc, ◌+◌, ◌-◌, ◌*◌, ◌≤◌, ◌<◌}
use native.Mathlib.Omega.{arith}
use native.Mathlib.Nat.{sub-zero}
use native.Mathlib.Numerals.{add-one}
use Rattle.little.specs.Little.{records_at}
use Rattle.rules.specs.Refusals.{verdict, refusal, place_in}
use Rattle.rules.specs.Report.{Descriptor}
use Rattle.rules.specs.ReportReader.{descriptor_at, good_descriptor, descriptor_tests}

-- ---- the first bad descriptor, one by one

-- looked for from index i on
abbrev pub first_bad : ℕ → List Descriptor → ℕ → Option ℕ
first_bad g ds i = verdict (descriptor_tests g i ds) None (λ k j. Some j)

-- those from index i on
abbrev pub descriptors_from : List ℕ → ℕ → ℕ → List Descriptor
descriptors_from x n i = records_at descriptor_at 16 x (16 + 16 * i) (n - i)

module _ (x : List ℕ) (g n : ℕ) where
  pub bad-start : first_bad g (descriptors_from x n 0) 0 ≡ verdict (descriptor_tests g 0 (records_at descriptor_at 16 x 16 n)) None (λ k i. Some i)
  bad-start = rw sub-zero

  module _ (i : ℕ) where
    pub bad-here : i < n → good_descriptor g (descriptor_at x (16 + 16 * i)) ≡ false → first_bad g (descriptors_from x n i) i ≡ Some i
    unfolding records_at
    bad-here h e = let k : n - i ≡ suc (n - (i + 1)) = omega arith in rw (k, e)

    pub bad-later : i < n → good_descriptor g (descriptor_at x (16 + 16 * i)) ≡ true → first_bad g (descriptors_from x n (i + 1)) (i + 1) ≡ first_bad g (descriptors_from x n i) i
    unfolding records_at
    bad-later h e =
        let k : n - i ≡ suc (n - (i + 1)) = omega arith in
        let a : 16 + 16 * (i + 1) ≡ 16 + 16 * i + 16 = omega arith in
        rw (k, e, a, add-one)

    pub bad-end : n ≤ i → first_bad g (descriptors_from x n i) i ≡ None
    unfolding records_at
    bad-end h = let k : n - i ≡ 0 = omega arith in rw k

-- ---- what it says of the refusal: 17 with its index, or none

pub bad-said : (g i : ℕ) (ds : List Descriptor) (b : Option ℕ) → b ≡ first_bad g ds i
    → (refusal (descriptor_tests g i ds) ≡ cond (is_some b) 17 0) × (place_in (descriptor_tests g i ds) ≡ unwrap_or b 0)
bad-said g i ds b e = rw e (go i ds)
  where
    go : (i : ℕ) (ds : List Descriptor)
        → (refusal (descriptor_tests g i ds) ≡ cond (is_some (first_bad g ds i)) 17 0) × (place_in (descriptor_tests g i ds) ≡ unwrap_or (first_bad g ds i) 0)
    go i [] = (refl, refl)
    go i (d ∷ ds) = step (good_descriptor g d) (go (suc i) ds)
      where
        step : (b : Bool)
            → (refusal (descriptor_tests g (suc i) ds) ≡ cond (is_some (first_bad g ds (suc i))) 17 0) × (place_in (descriptor_tests g (suc i) ds) ≡ unwrap_or (first_bad g ds (suc i)) 0)
            → (cond b (refusal (descriptor_tests g (suc i) ds)) 17 ≡ cond (is_some (cond {A = Option ℕ} b (first_bad g ds (suc i)) (Some i))) 17 0)
            × (cond b (place_in (descriptor_tests g (suc i) ds)) i ≡ unwrap_or (cond {A = Option ℕ} b (first_bad g ds (suc i)) (Some i)) 0)
        step true h = h
        step false h = (refl, refl)
