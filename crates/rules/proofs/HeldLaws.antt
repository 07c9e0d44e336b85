-- What soundness asks of a tracked controller, and of the shares (W7), in plain words. Assumes nothing.
use mathlib.Core.Path.{◌≡◌, refl, sym, ap, ◌∙◌}
use mathlib.Core.Logic.{◌≢◌, ◌↔◌, ◌⊎◌, inl, inr}
use mathlib.Core.Bool.{Bool, true, false, ◌||◌}
use mathlib.Core.List.{List, [], ◌∷◌}
use Rattle.std.specs.declared.option.Option.TheVariants.{Some}
use Prim.Native.Nat.{ℕ, zero, suc, ◌+◌, ◌<◌, ◌≤◌}
use native.Mathlib.Omega.{arith}
use lib.Dec.{leb, eqb}
use lib.ListN.{length, get_or}
use borrow.Author.Tests.{leb-true, le-leb, eqb-true, eqb-false}
use Rattle.rules.specs.Refusals.{Test, ◌else◌, passes}
use Rattle.rules.specs.Settings.{most_units, is_manager, granularity_ok}
use Rattle.rules.specs.Ranges.{row_ok, rows_ok, rows_tests, range_tests, list_tests, powers_ok}
use Rattle.rules.specs.StartData.{no_range}
use Rattle.rules.specs.Device.{held_ok, no_share, is_inside, are_apart, shares_ok}
use Rattle.rules.specs.declared.Share.{Share}
use Rattle.rules.specs.Lists.{all}
use Rattle.rules.specs.Demands.{Good, Lawful, Held, Lying, Lie}
use Rattle.rules.specs.declared.Range.{Range}
use Rattle.rules.proofs.ListLaws.{and_left, and_right, and_intro, or_cases, or-intro-left, or-intro-right, all-at, all_from}
use Rattle.rules.proofs.RefusalLaws.{passes-all, passes-Passed, passes_append, Passed-left, Passed-right}
use Rattle.rules.proofs.RowLaws.{rows_ok-at, good-row, rows_tests-passes}

rows_all : (g : ℕ) (rs : List Range) → ((j : ℕ) → j < length rs → Good g (get_or rs j no_range)) → rows_ok g rs ≡ true
rows_all g [] h = refl
rows_all g (r ∷ rs) h = and_intro (row_ok g r) (rows_ok g rs) (good-row g r (h 0 (omega arith))) (rows_all g rs (λ j l. h (suc j) (omega arith)))

pub held : Held
unfolding held_ok range_tests granularity_ok
held s m g n rs = (forward, back)
  where
    others : List Test
    others = (powers_ok s rs else 10) ∷ []

    forward : held_ok s (Some (record { manager = m; granularity = g; count = n; ranges = rs })) ≡ true → (is_manager s m ≡ true) × Lawful s g n rs
    forward e =
        let tests = (granularity_ok s g else 7) ∷ list_tests s g n rs in
        let p = passes-Passed tests (and_right (is_manager s m) (passes tests) e) in
        let l = Passed-left (range_tests g n rs) others p.1 in
        let r = Passed-right (range_tests g n rs) others p.1 in (
          and_left (is_manager s m) (passes tests) e,
          record {
            granularity = (leb-true s.least g (and_left (leb s.least g) (leb g s.greatest) p.0), leb-true g s.greatest (and_right (leb s.least g) (leb g s.greatest) p.0));
            count = (leb-true 1 n l.0, leb-true n 16 l.1.0);
            rows = λ j h. rows_ok-at g rs j (sym (rows_tests-passes g 0 rs) ∙ passes-all (rows_tests g 0 rs) l.1.1) h;
            powers = r.0;
          },
        )

    back : (is_manager s m ≡ true) × Lawful s g n rs → held_ok s (Some (record { manager = m; granularity = g; count = n; ranges = rs })) ≡ true
    back q =
        let l = q.1 in
        rw (q.0, le-leb s.least g l.granularity.0, le-leb g s.greatest l.granularity.1, passes_append (range_tests g n rs) others, le-leb 1 n l.count.0, le-leb n 16 l.count.1, rows_tests-passes g 0 rs, rows_all g rs l.rows, l.powers)

-- ---- shares

-- a share that has bits: the two tests in plain words
inside-iff : (a : Share) → (is_inside a ≡ true) ↔ (1 ≤ a.size → a.base + a.size ≤ 16384)
inside-iff a = go (eqb a.size 0) refl
  where
    go : (b : Bool) → eqb a.size 0 ≡ b → ((b || leb (a.base + a.size) most_units) ≡ true) ↔ (1 ≤ a.size → a.base + a.size ≤ 16384)
    go true e = let z = eqb-true a.size 0 e in ((λ q h. absurd (omega (arith, z, h))), (λ f. refl))
    go false e = let z = eqb-false a.size 0 e in ((λ q h. leb-true (a.base + a.size) most_units q), (λ f. le-leb (a.base + a.size) most_units (f (omega (arith, z)))))

abbrev Apart : Share → Share → Type 0
Apart a b = 1 ≤ a.size → 1 ≤ b.size → (a.base + a.size ≤ b.base) ⊎ (b.base + b.size ≤ a.base)

apart-iff : (a b : Share) → (are_apart a b ≡ true) ↔ Apart a b
apart-iff a b = go (eqb a.size 0) refl (eqb b.size 0) refl
  where
    go : (x : Bool) → eqb a.size 0 ≡ x → (y : Bool) → eqb b.size 0 ≡ y
        → (((x || y) || (leb (a.base + a.size) b.base || leb (b.base + b.size) a.base)) ≡ true) ↔ Apart a b
    go true e y f = let z = eqb-true a.size 0 e in ((λ q h k. absurd (omega (arith, z, h))), (λ g. refl))
    go false e true f = let z = eqb-true b.size 0 f in ((λ q h k. absurd (omega (arith, z, k))), (λ g. refl))
    go false e false f =
        let z = eqb-false a.size 0 e in
        let w = eqb-false b.size 0 f in (
          (λ q h k. or_cases (leb (a.base + a.size) b.base) (leb (b.base + b.size) a.base) _ q (λ r. inl (leb-true _ _ r)) (λ r. inr (leb-true _ _ r))),
          (λ g. either (g (omega (arith, z)) (omega (arith, w)))),
        )
      where
        either : (a.base + a.size ≤ b.base) ⊎ (b.base + b.size ≤ a.base) → (leb (a.base + a.size) b.base || leb (b.base + b.size) a.base) ≡ true
        either (inl h) = or-intro-left (leb (a.base + a.size) b.base) _ (le-leb (a.base + a.size) b.base h)
        either (inr h) = or-intro-right (leb (a.base + a.size) b.base) _ (le-leb (b.base + b.size) a.base h)

apart-sym : (a b : Share) → Apart a b → Apart b a
apart-sym a b f h k = turned (f k h)
  where
    turned : (a.base + a.size ≤ b.base) ⊎ (b.base + b.size ≤ a.base) → (b.base + b.size ≤ a.base) ⊎ (a.base + a.size ≤ b.base)
    turned (inl x) = inr x
    turned (inr x) = inl x

pub lie : Lie
unfolding shares_ok
lie xs = (to xs, fro xs)
  where
    to : (xs : List Share) → shares_ok xs ≡ true → Lying xs
    to [] e = record { inside = λ i h. absurd (omega (arith, h)); apart = λ i j h. absurd (omega (arith, h)) }
    to (a ∷ xs) e =
        let first = and_left (is_inside a) _ e in
        let rest = and_right (is_inside a) _ e in
        let others = and_left (all (are_apart a) xs) (shares_ok xs) rest in
        let r = to xs (and_right (all (are_apart a) xs) (shares_ok xs) rest) in
        record {
          inside = λ i h. at i h r.inside ((inside-iff a).0 first);
          apart = λ i j h k n. pair i j h k n r.apart (λ m l. (apart-iff a (get_or xs m no_share)).0 (all-at (are_apart a) xs m no_share others l));
        }
      where
        at : (i : ℕ) → i < suc (length xs) → ((i : ℕ) → i < length xs → 1 ≤ (get_or xs i no_share).size → (get_or xs i no_share).base + (get_or xs i no_share).size ≤ 16384)
            → (1 ≤ a.size → a.base + a.size ≤ 16384) → 1 ≤ (get_or (a ∷ xs) i no_share).size → (get_or (a ∷ xs) i no_share).base + (get_or (a ∷ xs) i no_share).size ≤ 16384
        at zero h f g = g
        at (suc i) h f g = f i (omega arith)

        pair : (i j : ℕ) → i < suc (length xs) → j < suc (length xs) → i ≢ j
            → ((i j : ℕ) → i < length xs → j < length xs → i ≢ j → Apart (get_or xs i no_share) (get_or xs j no_share))
            → ((m : ℕ) → m < length xs → Apart a (get_or xs m no_share)) → Apart (get_or (a ∷ xs) i no_share) (get_or (a ∷ xs) j no_share)
        pair zero zero h k n f g = absurd (n refl)
        pair zero (suc j) h k n f g = g j (omega arith)
        pair (suc i) zero h k n f g = apart-sym a (get_or xs i no_share) (g i (omega arith))
        pair (suc i) (suc j) h k n f g = f i j (omega arith) (omega arith) (λ z. n (ap suc z))

    fro : (xs : List Share) → Lying xs → shares_ok xs ≡ true
    fro [] l = refl
    fro (a ∷ xs) l =
        and_intro (is_inside a) _ ((inside-iff a).1 (l.inside 0 (omega arith)))
        (and_intro (all (are_apart a) xs) (shares_ok xs) (all_from (are_apart a) xs no_share (λ m h. (apart-iff a (get_or xs m no_share)).1 (l.apart 0 (suc m) (omega arith) (omega arith) (λ z. absurd (omega (arith, z))))))
        (fro xs (record { inside = λ i h. l.inside (suc i) (omega arith); apart = λ i j h k n. l.apart (suc i) (suc j) (omega arith) (omega arith) (λ z. n (omega (arith, z))) })))
