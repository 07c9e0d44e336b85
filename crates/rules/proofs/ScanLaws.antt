-- Laws for a loop that goes over a controller's marks once, from the first unit on: clear marks are passed, a row of set marks is the next run, and
-- what was passed is clear afterwards. Assumes nothing.
use mathlib.Core.Path.{◌≡◌, refl, sym, ap, subst, ◌∙◌}
use mathlib.Core.Bool.{Bool, true, false, ◌&&◌, cond}
use mathlib.Core.List.{List, [], ◌∷◌, ◌++◌, map}
use Prim.Native.Nat.{ℕ, zero, suc, ◌+◌, ◌-◌, ◌*◌, ◌≤◌, ◌<◌}
use native.Mathlib.Omega.{arith}
use native.Mathlib.Nat.{add-zero, suc-mul, zero-mul, mul-le-mul_right}
use lib.Dec.{eqb}
use lib.ListN.{length, take, drop, get_or, length-append, length-take}
use lib.Seq.{drop-drop, take-append-le, drop-append-le, drop-cons}
use borrow.Author.Tests.{eq-eqb, ne_eqb, eqb-true}
use Rattle.rules.specs.Units.{Unit, units_of_row, pending}
use Rattle.rules.specs.Report.{follows, with_first, runs, descriptor, clear_first}
use Rattle.rules.proofs.ListLaws.{All, All-map, All-append}
use Rattle.rules.proofs.UnitLaws.{All-pending, chain-within, units_of_row-chain, units_of_row-length}

-- ---- what is pending from a unit on

pub pending-none : (us : List Unit) → pending us [] ≡ []
pending-none [] = refl
pending-none (u ∷ us) = refl

-- a clear mark is passed
pending-clear : (us : List Unit) (p : List Bool) (a : ℕ) → get_or p a false ≡ false → pending (drop a us) (drop a p) ≡ pending (drop (suc a) us) (drop (suc a) p)
pending-clear [] p zero e = refl
pending-clear (u ∷ us) [] zero e = sym (pending-none us)
pending-clear (u ∷ us) (true ∷ p) zero e = let z : ◌≡◌ {A = ℕ} 0 1 = cc in absurd (omega arith)
pending-clear (u ∷ us) (false ∷ p) zero e = refl
pending-clear [] p (suc a) e = refl
pending-clear (u ∷ us) [] (suc a) e = pending-none (drop a us) ∙ sym (pending-none (drop (suc a) us))
pending-clear (u ∷ us) (b ∷ p) (suc a) e = pending-clear us p a e

-- a set mark is a pending unit
pending-set : (us : List Unit) (p : List Bool) (a : ℕ) (d : Unit) → a < length us → get_or p a false ≡ true
    → pending (drop a us) (drop a p) ≡ get_or us a d ∷ pending (drop (suc a) us) (drop (suc a) p)
pending-set [] p a d h e = absurd (omega arith)
pending-set (u ∷ us) [] a d h e = let z : ◌≡◌ {A = ℕ} 0 1 = cc in absurd (omega arith)
pending-set (u ∷ us) (true ∷ p) zero d h e = refl
pending-set (u ∷ us) (false ∷ p) zero d h e = let z : ◌≡◌ {A = ℕ} 0 1 = cc in absurd (omega arith)
pending-set (u ∷ us) (b ∷ p) (suc a) d h e = pending-set us p a d (omega arith) e

-- m clear marks are passed
pub pending-skip : (us : List Unit) (p : List Bool) (a m : ℕ) → ((i : ℕ) → a ≤ i → i < a + m → get_or p i false ≡ false)
    → pending (drop a us) (drop a p) ≡ pending (drop (a + m) us) (drop (a + m) p)
pending-skip us p a zero f = rw add-zero
pending-skip us p a (suc m) f =
    pending-clear us p a (f a (omega arith) (omega arith))
    ∙ pending-skip us p (suc a) m (λ i l h. f i (omega arith) (omega arith))
    ∙ (let e : suc a + m ≡ a + suc m = omega arith in rw e)

-- m set marks are m pending units
pub pending-row : (us : List Unit) (p : List Bool) (a m : ℕ) → a + m ≤ length us → ((i : ℕ) → a ≤ i → i < a + m → get_or p i false ≡ true)
    → pending (drop a us) (drop a p) ≡ take m (drop a us) ++ pending (drop (a + m) us) (drop (a + m) p)
pending-row us p a zero h f = rw add-zero
pending-row us p a (suc m) h f =
    let d : Unit = record { row = 0; address = 0; size = 0 } in
    let l : a < length us = omega arith in
    let e : suc a + m ≡ a + suc m = omega arith in
    pending-set us p a d l (f a (omega arith) (omega arith))
    ∙ rw (drop-cons us a d l) (ap (λ r. get_or us a d ∷ r) (pending-row us p (suc a) m (omega arith) (λ i l h. f i (omega arith) (omega arith)) ∙ rw e))

-- ---- a longest row is the first run

-- the runs of a list that is not empty begin with its first unit
runs-first : (u : Unit) (rs : List (List Unit)) → (r : List Unit) × (ss : List (List Unit)) × (with_first u rs ≡ (u ∷ r) ∷ ss)
runs-first u [] = ([], [], refl)
runs-first u ([] ∷ rs) = ([], rs, refl)
runs-first u ((v ∷ vs) ∷ rs) = go (follows u v)
  where
    go : (b : Bool) → (r : List Unit) × (ss : List (List Unit)) × (cond b ((u ∷ v ∷ vs) ∷ rs) ((u ∷ []) ∷ (v ∷ vs) ∷ rs) ≡ (u ∷ r) ∷ ss)
    go true = (v ∷ vs, rs, refl)
    go false = ([], (v ∷ vs) ∷ rs, refl)

-- no unit of a list follows a unit
abbrev Unfollowed : Unit → List Unit → Type 0
Unfollowed u ys = All (λ y. follows u y ≡ false) ys

-- u and the units of vs follow on each other, and no unit of ys follows the last
abbrev Linked : Unit → List Unit → List Unit → Type 0
Linked u [] ys = Unfollowed u ys
Linked u (v ∷ vs) ys = (follows u v ≡ true) × Linked v vs ys

runs-peel : (u : Unit) (vs ys : List Unit) → Linked u vs ys → runs (u ∷ vs ++ ys) ≡ (u ∷ vs) ∷ runs ys
runs-peel u [] [] h = refl
runs-peel u [] (y ∷ ys) h = let w = runs-first y (runs ys) in rw (w.2, h.0)
runs-peel u (v ∷ vs) ys h = ap (with_first u) (runs-peel v vs ys h.1) ∙ rw h.0

-- ---- units of one row, and those beyond it

-- no unit of a list is of a row and begins before some byte, or at it
abbrev pub Beyond : ℕ → ℕ → List Unit → Type 0
Beyond row e ys = All (λ y. y.row ≡ row → e < y.address) ys

and-false-right : (b : Bool) → (b && false) ≡ false
and-false-right true = refl
and-false-right false = refl

-- such units follow none that ends there or before
beyond-unfollowed : (u : Unit) (row e : ℕ) (ys : List Unit) → u.row ≡ row → u.address + u.size ≤ e → Beyond row e ys → Unfollowed u ys
beyond-unfollowed u row e ys q h b = All-map one ys b
  where
    one : (y : Unit) → (y.row ≡ row → e < y.address) → follows u y ≡ false
    one y f = go (eqb u.row y.row) refl
      where
        go : (b : Bool) → eqb u.row y.row ≡ b → (b && eqb (u.address + u.size) y.address) ≡ false
        go true s = ne_eqb (u.address + u.size) y.address (λ z. absurd (omega (arith, f (sym (eqb-true u.row y.row s) ∙ q), z, h)))
        go false s = refl

-- units of its own row that begin further on than it ends do not follow it
further-unfollowed : (u : Unit) (row size a n : ℕ) → u.row ≡ row → u.address + u.size < a → Unfollowed u (units_of_row row size a n)
further-unfollowed u row size a n e h =
    All-map eq-not (units_of_row row size a n)
    (chain-within size a a (a + length (units_of_row row size a n) * size) (units_of_row row size a n) (units_of_row-chain row size a n) (omega arith) (omega arith))
  where
    eq-not : (y : Unit) → (a ≤ y.address) × (y.address + y.size ≤ a + length (units_of_row row size a n) * size) × (y.size ≡ size) → follows u y ≡ false
    eq-not y w = rw (ne_eqb (u.address + u.size) y.address (λ q. omega (arith, w.0))) (and-false-right (eqb u.row y.row))

row-linked : (row size a m : ℕ) (ys : List Unit) → Unfollowed (record { row = row; address = a + m * size; size = size }) ys
    → Linked (record { row = row; address = a; size = size }) (units_of_row row size (a + size) m) ys
row-linked row size a zero ys h =
    let e : a + 0 * size ≡ a = omega (arith, zero-mul size) in
    rw e at h
row-linked row size a (suc m) ys h =
    let e : a + suc m * size ≡ a + size + m * size = omega (arith, suc-mul m size) in
    let f : Unfollowed (record { row = row; address = a + size + m * size; size = size }) ys = rw e at h in
    (rw (eq-eqb row row refl, eq-eqb (a + size) (a + size) refl), row-linked row size (a + size) m ys f)

-- ---- where a scan stands: what is left are k units of a row from an address on, and others

abbrev pub Left : List Unit → ℕ → ℕ → ℕ → ℕ → ℕ → List Unit → Type 0
Left us pos row size a k rest = drop pos us ≡ units_of_row row size a k ++ rest

units_of_row-drop : (row size a k m : ℕ) → m ≤ k → drop m (units_of_row row size a k) ≡ units_of_row row size (a + m * size) (k - m)
units_of_row-drop row size a k zero h =
    let e : a + 0 * size ≡ a = omega (arith, zero-mul size) in
    let f : k - 0 ≡ k = omega arith in
    rw (e, f)
units_of_row-drop row size a zero (suc m) h = absurd (omega arith)
units_of_row-drop row size a (suc k) (suc m) h =
    let e : a + suc m * size ≡ a + size + m * size = omega (arith, suc-mul m size) in
    let f : suc k - suc m ≡ k - m = omega arith in
    rw (e, f) (units_of_row-drop row size (a + size) k m (omega arith))

units_of_row-take : (row size a k m : ℕ) → m ≤ k → take m (units_of_row row size a k) ≡ units_of_row row size a m
units_of_row-take row size a k zero h = refl
units_of_row-take row size a zero (suc m) h = absurd (omega arith)
units_of_row-take row size a (suc k) (suc m) h = ap (λ r. record { row = row; address = a; size = size } ∷ r) (units_of_row-take row size (a + size) k m (omega arith))

module _ (us : List Unit) (row size : ℕ) (tail : List Unit) where
  -- m units further in the row
  pub left-on : (pos a k m : ℕ) → m ≤ k → Left us pos row size a k tail → Left us (pos + m) row size (a + m * size) (k - m) tail
  left-on pos a k m h e =
      sym (drop-drop m pos us) ∙ ap (drop m) e
      ∙ drop-append-le m (units_of_row row size a k) tail (rw (units_of_row-length row size a k) h)
      ∙ ap (λ l. l ++ tail) (units_of_row-drop row size a k m h)

  -- so many are left
  pub left-length : (pos a k : ℕ) → Left us pos row size a k tail → length (drop pos us) ≡ k + length tail
  left-length pos a k e = ap length e ∙ rw (length-append, units_of_row-length row size a k)

  left-take : (pos a k m : ℕ) → m ≤ k → Left us pos row size a k tail → take m (drop pos us) ≡ units_of_row row size a m
  left-take pos a k m h e =
      ap (take m) e
      ∙ take-append-le m (units_of_row row size a k) tail (rw (units_of_row-length row size a k) h)
      ∙ units_of_row-take row size a k m h

  -- the next run: m set marks, after which the row ends or a mark is clear
  pub run-next : (p : List Bool) (pos a k m : ℕ) → 0 < size → suc m ≤ k → pos + suc m ≤ length us → Left us pos row size a k tail → Beyond row (a + k * size) tail
      → ((i : ℕ) → pos ≤ i → i < pos + suc m → get_or p i false ≡ true) → (suc m < k → get_or p (pos + suc m) false ≡ false)
      → runs (pending (drop pos us) (drop pos p)) ≡ units_of_row row size a (suc m) ∷ runs (pending (drop (pos + suc m) us) (drop (pos + suc m) p))
  run-next p pos a k m z h fits e cut set clear =
      ap runs (pending-row us p pos (suc m) fits set ∙ ap (λ l. l ++ rest) (left-take pos a k (suc m) h e))
      ∙ runs-peel (record { row = row; address = a; size = size }) (units_of_row row size (a + size) m) rest (row-linked row size a m rest (after (k - suc m) refl))
    where
      last : Unit
      last = record { row = row; address = a + m * size; size = size }

      rest : List Unit
      rest = pending (drop (pos + suc m) us) (drop (pos + suc m) p)

      unfollowed : Unfollowed last tail
      unfollowed = beyond-unfollowed last row (a + k * size) tail refl (omega (arith, suc-mul m size, mul-le-mul_right {m = suc m} {n = k} size h)) cut

      there : Left us (pos + suc m) row size (a + suc m * size) (k - suc m) tail
      there = left-on pos a k (suc m) h e

      after : (n : ℕ) → k - suc m ≡ n → Unfollowed last rest
      after zero q =
          All-pending (λ y. follows last y ≡ false) (drop (pos + suc m) us) (drop (pos + suc m) p)
          (subst (Unfollowed last) (sym (there ∙ ap (λ n. units_of_row row size (a + suc m * size) n ++ tail) q)) unfollowed)
      after (suc n) q =
          let one : 1 ≤ k - suc m = omega arith in
          let beyond : Left us (pos + suc m + 1) row size (a + suc m * size + 1 * size) (k - suc m - 1) tail = left-on (pos + suc m) (a + suc m * size) (k - suc m) 1 one there in
          let passed : rest ≡ pending (drop (pos + suc m + 1) us) (drop (pos + suc m + 1) p) =
          pending-skip us p (pos + suc m) 1 (λ i l g. let x : i ≡ pos + suc m = omega arith in rw x (clear (omega arith))) in
          rw passed
          (All-pending (λ y. follows last y ≡ false) (drop (pos + suc m + 1) us) (drop (pos + suc m + 1) p)
          (subst (Unfollowed last) (sym beyond)
          (All-append (λ y. follows last y ≡ false) (units_of_row row size (a + suc m * size + 1 * size) (k - suc m - 1)) tail
          (further-unfollowed last row size (a + suc m * size + 1 * size) (k - suc m - 1) refl (omega (arith, suc-mul m size)))
          unfollowed)))

-- the run's descriptor
pub descriptor-row : (row size a m : ℕ) → descriptor (units_of_row row size a (suc m)) ≡ record { address = a; length = suc m }
descriptor-row row size a m = ap (λ n. record { address = a; length = suc n }) (units_of_row-length row size (a + size) m)

-- ---- what was passed is clear

-- the marks with all before a place clear
abbrev pub clear_before : ℕ → List Bool → List Bool
clear_before n p = map (λ (b : Bool). false) (take n p) ++ drop n p

trues : List Bool → ℕ
trues [] = 0
trues (true ∷ p) = suc (trues p)
trues (false ∷ p) = trues p

clear_first-false : (m : ℕ) (p : List Bool) → clear_first m (false ∷ p) ≡ false ∷ clear_first m p
clear_first-false zero p = refl
clear_first-false (suc m) p = refl

clear_first-before : (n : ℕ) (p : List Bool) → clear_first (trues (take n p)) p ≡ clear_before n p
unfolding trues
clear_first-before zero p = refl
clear_first-before (suc n) [] = refl
clear_first-before (suc n) (true ∷ p) = ap (λ l. false ∷ l) (clear_first-before n p)
clear_first-before (suc n) (false ∷ p) = clear_first-false (trues (take n p)) p ∙ ap (λ l. false ∷ l) (clear_first-before n p)

pending-trues : (us : List Unit) (p : List Bool) → length p ≤ length us → length (pending us p) ≡ trues p
unfolding trues
pending-trues [] [] h = refl
pending-trues [] (b ∷ p) h = absurd (omega arith)
pending-trues (u ∷ us) [] h = refl
pending-trues (u ∷ us) (true ∷ p) h = ap suc (pending-trues us p (omega arith))
pending-trues (u ∷ us) (false ∷ p) h = pending-trues us p (omega arith)

pub pending-split : (n : ℕ) (us : List Unit) (p : List Bool) → pending us p ≡ pending (take n us) (take n p) ++ pending (drop n us) (drop n p)
pending-split zero us p = refl
pending-split (suc n) [] p = refl
pending-split (suc n) (u ∷ us) [] = refl ∙ sym (pending-none (drop n us))
pending-split (suc n) (u ∷ us) (true ∷ p) = ap (λ l. u ∷ l) (pending-split n us p)
pending-split (suc n) (u ∷ us) (false ∷ p) = pending-split n us p

-- if so many units were pending before a place as are reported, the report leaves all before it clear and the rest as it was
pub clear_first-clear_before : (us : List Unit) (p : List Bool) (n m : ℕ) → length p ≡ length us → m + length (pending (drop n us) (drop n p)) ≡ length (pending us p)
    → clear_first m p ≡ clear_before n p
clear_first-clear_before us p n m e h =
    let s : length (pending us p) ≡ length (pending (take n us) (take n p)) + length (pending (drop n us) (drop n p)) =
    ap length (pending-split n us p) ∙ length-append (pending (take n us) (take n p)) (pending (drop n us) (drop n p)) in
    let t : length (pending (take n us) (take n p)) ≡ trues (take n p) =
    pending-trues (take n us) (take n p) (omega (arith, length-take n us, length-take n p)) in
    let q : m ≡ trues (take n p) = omega arith in
    ap (λ i. clear_first i p) q ∙ clear_first-before n p
