-- Laws of a row's tests: what a range that passes them is known by, and each of some ranges; and which row and rule they answer. Assumes nothing.
use mathlib.Core.Path.{◌≡◌, refl, sym, ap, ◌∙◌}
use mathlib.Core.Bool.{Bool, true, false, ◌&&◌, cond}
use mathlib.Core.List.{List, [], ◌∷◌, ◌++◌}
use Prim.Native.Nat.{ℕ, zero, suc, ◌+◌, ◌%◌, ◌^◌, ◌≤◌, ◌<◌}
use native.Mathlib.Omega.{arith}
use lib.Dec.{leb, eqb}
use lib.ListN.{length, take, get_or}
use lib.Seq.{take-take}
use borrow.Author.Tests.{leb-true, le-leb, lt-leb, eqb-true, eq-eqb, ne_eqb}
use Rattle.rules.specs.Lists.{all}
use Rattle.rules.specs.Refusals.{Test, verdict, refusal, passes}
use Rattle.rules.specs.Settings.{unit_size}
use Rattle.rules.specs.Units.{end_of}
use Rattle.rules.specs.Ranges.{row_tests, row_ok, rows_ok, rows_tests}
use Rattle.rules.specs.StartData.{no_range}
use Rattle.rules.specs.Demands.{Good, Breaks, empty, unaligned, past}
use Rattle.rules.specs.declared.Range.{Range}
use Rattle.rules.proofs.ListLaws.{and_left, and_right, and_intro, all-at}
use Rattle.rules.proofs.LoopLaws.{all-front}
use Rattle.rules.proofs.RefusalLaws.{passes-Passed, passes_append}

pub row_ok-facts : (g : ℕ) (r : Range) → row_ok g r ≡ true → Good g r
row_ok-facts g r e =
    let p = passes-Passed (row_tests g 0 r) e in
    record {
      some = leb-true 1 r.length p.0;
      aligned = eqb-true (r.start % unit_size g) 0 p.1.0;
      within = leb-true (end_of (unit_size g) r) (2 ^ 64) p.1.1.0;
    }

-- of each of some ranges, and of the first n
pub rows_ok-at : (g : ℕ) (rs : List Range) (i : ℕ) → rows_ok g rs ≡ true → i < length rs → Good g (get_or rs i no_range)
rows_ok-at g rs i e h = row_ok-facts g (get_or rs i no_range) (all-at (row_ok g) rs i no_range e h)

pub rows_ok-front : (g : ℕ) (rs : List Range) (n i : ℕ) → rows_ok g (take n rs) ≡ true → i < n → i < length rs → Good g (get_or rs i no_range)
rows_ok-front g rs n i e h k = row_ok-facts g (get_or rs i no_range) (all-front (row_ok g) rs n i no_range h k e)

all_take : {A : Type 0} (p : A → Bool) (xs : List A) (k : ℕ) → all p xs ≡ true → all p (take k xs) ≡ true
all_take p xs zero e = refl
all_take p [] (suc k) e = refl
all_take p (x ∷ xs) (suc k) e = and_intro (p x) (all p (take k xs)) (and_left (p x) (all p xs) e) (all_take p xs k (and_right (p x) (all p xs) e))

-- fewer of them pass too
pub rows_ok-fewer : (g : ℕ) (rs : List Range) (n m : ℕ) → rows_ok g (take n rs) ≡ true → m ≤ n → rows_ok g (take m rs) ≡ true
rows_ok-fewer g rs n m e h = ap (rows_ok g) (sym (take-take m n rs h)) ∙ all_take (row_ok g) (take n rs) m e

-- ---- which row and which rule

-- a row's tests are passed or not wherever it is listed
pub rows_tests-passes : (g row : ℕ) (rs : List Range) → passes (rows_tests g row rs) ≡ rows_ok g rs
rows_tests-passes g row [] = refl
rows_tests-passes g row (r ∷ rs) = passes_append (row_tests g row r) (rows_tests g (suc row) rs) ∙ rw (rows_tests-passes g (suc row) rs)

-- a row's tests before others: its own number and row, or the others answer
pub row-answers : {A : Type 0} (g row : ℕ) (r : Range) (us : List Test) (done : A) (refuse : ℕ → ℕ → A)
    → verdict (row_tests g row r ++ us) done refuse ≡ cond (row_ok g r) (verdict us done refuse) (refuse (refusal (row_tests g 0 r)) row)
row-answers g row r us done refuse = go (leb 1 r.length) (eqb (r.start % unit_size g) 0) (leb (end_of (unit_size g) r) (2 ^ 64))
  where
    go : (a b c : Bool)
        → cond a (cond b (cond c (verdict us done refuse) (refuse 21 row)) (refuse 20 row)) (refuse 19 row)
        ≡ cond (a && (b && (c && true))) (verdict us done refuse) (refuse (cond a (cond b (cond c 0 21) 20) 19) row)
    go true true true = refl
    go true true false = refl
    go true false c = refl
    go false b c = refl

-- a range that breaks no rule, and one that breaks one
pub good-row : (g : ℕ) (r : Range) → Good g r → row_ok g r ≡ true
good-row g r h = rw (le-leb 1 r.length h.some, eq-eqb (r.start % unit_size g) 0 h.aligned, le-leb (end_of (unit_size g) r) (2 ^ 64) h.within)

pub broken-row : (g : ℕ) (r : Range) (k : ℕ) → Breaks g r k → (refusal (row_tests g 0 r) ≡ k) × (row_ok g r ≡ false)
broken-row g r k (empty e) = rw (lt-leb 1 r.length (omega (arith, e))) (refl, refl)
broken-row g r k (unaligned h e) = rw (le-leb 1 r.length h, ne_eqb (r.start % unit_size g) 0 e) (refl, refl)
broken-row g r k (past h e l) = rw (le-leb 1 r.length h, eq-eqb (r.start % unit_size g) 0 e, lt-leb (end_of (unit_size g) r) (2 ^ 64) l) (refl, refl)

-- rows before others: where each one before row i is good and that one breaks a rule, it answers
pub rows-broken : {A : Type 0} (refuse : ℕ → ℕ → A) (done : A) (us : List Test) (g row : ℕ) (rs : List Range) (i k : ℕ) → i < length rs
    → ((j : ℕ) → j < i → Good g (get_or rs j no_range)) → Breaks g (get_or rs i no_range) k → verdict (rows_tests g row rs ++ us) done refuse ≡ refuse k (row + i)
rows-broken refuse done us g row [] i k h good broken = absurd (omega arith)
rows-broken refuse done us g row (r ∷ rs) zero k h good broken =
    let b = broken-row g r k broken in
    row-answers g row r (rows_tests g (suc row) rs ++ us) done refuse ∙ rw (b.0, b.1) (ap (refuse k) (omega arith))
rows-broken refuse done us g row (r ∷ rs) (suc i) k h good broken =
    row-answers g row r (rows_tests g (suc row) rs ++ us) done refuse ∙ rw (good-row g r (good 0 (omega arith)))
    (rows-broken refuse done us g (suc row) rs i k (omega arith) (λ j l. good (suc j) (omega arith)) broken ∙ ap (refuse k) (omega arith))

-- where all are good, the others answer
pub rows-good : {A : Type 0} (refuse : ℕ → ℕ → A) (done : A) (us : List Test) (g row : ℕ) (rs : List Range)
    → ((j : ℕ) → j < length rs → Good g (get_or rs j no_range)) → verdict (rows_tests g row rs ++ us) done refuse ≡ verdict us done refuse
rows-good refuse done us g row [] good = refl
rows-good refuse done us g row (r ∷ rs) good =
    row-answers g row r (rows_tests g (suc row) rs ++ us) done refuse ∙ rw (good-row g r (good 0 (omega arith)))
    (rows-good refuse done us g (suc row) rs (λ j l. good (suc j) (omega arith)))
