-- Laws of units and their marks: the units of ranges that pass 9 share no byte and are of one size; what a write marks; what is pending.
-- Assumes nothing.
use mathlib.Core.Path.{◌≡◌, refl, sym, ap, subst, ◌∙◌}
use mathlib.Core.Logic.{◌↔◌}
use mathlib.Core.Bool.{Bool, true, false, ◌&&◌, ◌||◌, not, cond, true≢false}
use mathlib.Core.List.{List, [], ◌∷◌, ◌++◌, map}
use Rattle.std.specs.declared.option.Option.TheVariants.{None, Some}
use Prim.Native.Nat.{ℕ, zero, suc, ◌+◌, ◌*◌, ◌/◌, ◌%◌, ◌≤◌, ◌<◌, max}
use native.Mathlib.Omega.{arith}
use native.Mathlib.Nat.{zero-add, add_assoc, zero-mul, suc-mul, add-mod_right, div-add-mod', mul-le-mul_right}
use native.Mathlib.Decide.{dec_le, dec_lt}
use lib.Dec.{leb, ltb}
use lib.ListN.{length, get_or, length-append}
use Rattle.std.specs.List.{slice_get}
use lib.Pow.{pow_pos}
use borrow.Author.Tests.{ltb-true, le-leb, lt-ltb, not-true}
use Rattle.rules.specs.Lists.{any, keep, sum}
use Rattle.rules.specs.Settings.{unit_size}
use Rattle.rules.specs.Units.{Unit, units_of_row, covers, uncovered, units_from, Write, touches, mark, newly, pending}
use Rattle.rules.specs.declared.Range.{Range}
use Rattle.rules.proofs.ListLaws.{All, All-map, All-both, All-append, All-keep, All-kept, All-at, some_inj, Pairwise, Pairwise-append, Pairwise-keep, and_left, and_right, and_intro, any_left, any_last, keep-length}

-- ---- bytes of units

-- a byte lies in a unit; two units share no byte; no two of a list do; all of a list are of one size
abbrev pub In : ℕ → Unit → Type 0
In x u = (u.address ≤ x) × (x < u.address + u.size)

abbrev pub Free : Unit → Unit → Type 0
Free u v = (x : ℕ) → In x u → In x v → ⊥

abbrev pub Apart : List Unit → Type 0
Apart us = Pairwise Free us

abbrev pub Sized : ℕ → List Unit → Type 0
Sized s us = All (λ u. u.size ≡ s) us

-- ---- units of one row, one after the other from an address on

abbrev pub Chain : ℕ → ℕ → List Unit → Type 0
Chain s a [] = Prim.Unit {0}
Chain s a (u ∷ us) = (u.address ≡ a) × (u.size ≡ s) × Chain s (a + s) us

-- each lies within the chain
pub chain-within : (s a b e : ℕ) (us : List Unit) → Chain s a us → b ≤ a → a + length us * s ≤ e
    → All (λ u. (b ≤ u.address) × (u.address + u.size ≤ e) × (u.size ≡ s)) us
chain-within s a b e [] h l m = tt
chain-within s a b e (u ∷ us) h l m = (
  (omega (arith, h.0), omega (arith, h.0, h.1, suc-mul (length us) s), h.1),
  chain-within s (a + s) b e us h.2 (omega arith) (omega (arith, suc-mul (length us) s)),
)

pub chain-apart : (s a : ℕ) (us : List Unit) → Chain s a us → Apart us
chain-apart s a [] h = tt
chain-apart s a (u ∷ us) h = (
  All-map (λ v w x i j. omega (arith, h.0, h.1, w.0, i.1, j.0)) us (chain-within s (a + s) (a + s) (a + s + length us * s) us h.2 (omega arith) (omega arith)),
  chain-apart s (a + s) us h.2,
)

pub units_of_row-chain : (row s a n : ℕ) → Chain s a (units_of_row row s a n)
units_of_row-chain row s a zero = tt
units_of_row-chain row s a (suc n) = (refl, refl, units_of_row-chain row s (a + s) n)

pub units_of_row-length : (row s a n : ℕ) → length (units_of_row row s a n) ≡ n
units_of_row-length row s a zero = refl
units_of_row-length row s a (suc n) = ap suc (units_of_row-length row s (a + s) n)

pub units_of_row-at : (row s a n j : ℕ) (d : Unit) → j < n → get_or (units_of_row row s a n) j d ≡ record { row = row; address = a + j * s; size = s }
units_of_row-at row s a zero j d h = absurd (omega arith)
units_of_row-at row s a (suc n) zero d h =
    let e : a ≡ a + 0 * s = omega (arith, zero-mul s) in
    ap (λ x. record { row = row; address = x; size = s }) e
units_of_row-at row s a (suc n) (suc j) d h =
    let e : a + s + j * s ≡ a + suc j * s = omega (arith, suc-mul j s) in
    units_of_row-at row s (a + s) n j d (omega arith) ∙ ap (λ x. record { row = row; address = x; size = s }) e

pub units_of_row-row : (row s a n : ℕ) → All (λ u. u.row ≡ row) (units_of_row row s a n)
units_of_row-row row s a zero = tt
units_of_row-row row s a (suc n) = (refl, units_of_row-row row s (a + s) n)

-- a unit of a range lies within the range
pub units_of_row-within : (row s : ℕ) (r : Range)
    → All (λ u. (r.start ≤ u.address) × (u.address + u.size ≤ r.start + r.length * s) × (u.size ≡ s)) (units_of_row row s r.start r.length)
units_of_row-within row s r =
    chain-within s r.start r.start (r.start + r.length * s) (units_of_row row s r.start r.length)
    (units_of_row-chain row s r.start r.length) (omega arith)
    (rw (units_of_row-length row s r.start r.length) (omega arith))

-- ---- the units of ranges

pub unit_size-pos : (g : ℕ) → 0 < unit_size g
unit_size-pos g = pow_pos (12 + g)

-- a unit of a later range is covered by none of the ranges before
units_from-free : (s row : ℕ) (before rs : List Range) → All (λ v. any (λ q. covers s q v.address) before ≡ false) (units_from s row before rs)
units_from-free s row before [] = tt
units_from-free s row before (r ∷ rs) =
    All-append (λ v. any (λ q. covers s q v.address) before ≡ false) (keep (uncovered s before) (units_of_row row s r.start r.length)) (units_from s (suc row) (before ++ r ∷ []) rs)
    (All-map (λ v e. not-true (any (λ q. covers s q v.address) before) e) (keep (uncovered s before) (units_of_row row s r.start r.length)) (All-kept (uncovered s before) (units_of_row row s r.start r.length)))
    (All-map (λ v e. any_left (λ q. covers s q v.address) before (r ∷ []) e) (units_from s (suc row) (before ++ r ∷ []) rs) (units_from-free s (suc row) (before ++ r ∷ []) rs))

pub units_from-sized : (s row : ℕ) (before rs : List Range) → Sized s (units_from s row before rs)
units_from-sized s row before [] = tt
units_from-sized s row before (r ∷ rs) =
    All-append (λ u. u.size ≡ s) (keep (uncovered s before) (units_of_row row s r.start r.length)) (units_from s (suc row) (before ++ r ∷ []) rs)
    (All-keep (λ u. u.size ≡ s) (uncovered s before) (units_of_row row s r.start r.length) (All-map (λ u w. w.2) (units_of_row row s r.start r.length) (units_of_row-within row s r)))
    (units_from-sized s (suc row) (before ++ r ∷ []) rs)

-- there are at most as many as the lengths say
pub units_from-length : (s row : ℕ) (before rs : List Range) → length (units_from s row before rs) ≤ sum (map (λ (r : Range). r.length) rs)
units_from-length s row before [] = omega arith
units_from-length s row before (r ∷ rs) =
    rw length-append
    (omega (arith, keep-length (uncovered s before) (units_of_row row s r.start r.length), units_of_row-length row s r.start r.length, units_from-length s (suc row) (before ++ r ∷ []) rs))

-- ---- each unit is there once: the units of ranges that begin at multiples of the unit share no byte

abbrev pub Aligned : ℕ → Range → Type 0
Aligned s r = r.start % s ≡ 0

units_of_row-aligned : (row s a n : ℕ) → a % s ≡ 0 → All (λ u. u.address % s ≡ 0) (units_of_row row s a n)
units_of_row-aligned row s a zero e = tt
units_of_row-aligned row s a (suc n) e = (e, units_of_row-aligned row s (a + s) n (add-mod_right a s ∙ e))

pub units_from-aligned : (s row : ℕ) (before rs : List Range) → All (Aligned s) rs → All (λ u. u.address % s ≡ 0) (units_from s row before rs)
units_from-aligned s row before [] h = tt
units_from-aligned s row before (r ∷ rs) h =
    All-append (λ u. u.address % s ≡ 0) (keep (uncovered s before) (units_of_row row s r.start r.length)) (units_from s (suc row) (before ++ r ∷ []) rs)
    (All-keep (λ u. u.address % s ≡ 0) (uncovered s before) (units_of_row row s r.start r.length) (units_of_row-aligned row s r.start r.length h.0))
    (units_from-aligned s (suc row) (before ++ r ∷ []) rs h.1)

-- between a multiple of s and a greater one lies s
pub aligned-gap : (s x y : ℕ) → 0 < s → x % s ≡ 0 → y % s ≡ 0 → x < y → x + s ≤ y
aligned-gap s x y z e f h = go (dec_le (y / s) (x / s))
  where
    low : x / s * s ≡ x
    low = omega (arith, div-add-mod' x s, e)

    high : y / s * s ≡ y
    high = omega (arith, div-add-mod' y s, f)

    go : Dec (y / s ≤ x / s) → x + s ≤ y
    go (yes a) = absurd (omega (arith, low, high, h, mul-le-mul_right {m = y / s} {n = x / s} s a))
    go (no a) = omega (arith, low, high, suc-mul (x / s) s, mul-le-mul_right {m = suc (x / s)} {n = y / s} s (omega arith))

-- a unit of a range, and one that begins at a multiple of the unit and that the range does not cover
covered-not : (s : ℕ) (r : Range) (u v : Unit) → 0 < s → Aligned s r → (r.start ≤ u.address) × (u.address + u.size ≤ r.start + r.length * s) × (u.size ≡ s)
    → covers s r v.address ≡ false → v.address % s ≡ 0 → v.size ≡ s → Free u v
covered-not s r u v z e w c d n x i j = go (dec_le r.start v.address) (dec_lt v.address (r.start + r.length * s))
  where
    go : Dec (r.start ≤ v.address) → Dec (v.address < r.start + r.length * s) → ⊥
    go (yes a) (yes b) =
        true≢false (sym (and_intro (leb r.start v.address) (ltb v.address (r.start + r.length * s)) (le-leb r.start v.address a) (lt-ltb v.address (r.start + r.length * s) b)) ∙ c)
    go (yes a) (no b) = absurd (omega (arith, w.1, i.1, j.0))
    go (no a) b = absurd (omega (arith, aligned-gap s v.address r.start z d e (omega arith), w.0, i.0, j.1, n))

pub units_from-apart : (s row : ℕ) (before rs : List Range) → 0 < s → All (Aligned s) rs → Apart (units_from s row before rs)
units_from-apart s row before [] z h = tt
units_from-apart s row before (r ∷ rs) z h =
    Pairwise-append Free (keep (uncovered s before) own) later
    (Pairwise-keep Free (uncovered s before) own (chain-apart s r.start own (units_of_row-chain row s r.start r.length)))
    (units_from-apart s (suc row) (before ++ r ∷ []) rs z h.1)
    (All-map (λ u w. All-map (λ v q. covered-not s r u v z h.0 w (any_last (λ q. covers s q v.address) before r q.0) q.1.0 q.1.1) later known)
    (keep (uncovered s before) own)
    (All-keep (λ u. (r.start ≤ u.address) × (u.address + u.size ≤ r.start + r.length * s) × (u.size ≡ s)) (uncovered s before) own (units_of_row-within row s r)))
  where
    own : List Unit
    own = units_of_row row s r.start r.length

    later : List Unit
    later = units_from s (suc row) (before ++ r ∷ []) rs

    known : All (λ v. (any (λ q. covers s q v.address) (before ++ r ∷ []) ≡ false) × ((v.address % s ≡ 0) × (v.size ≡ s))) later
    known =
        All-both (λ v. any (λ q. covers s q v.address) (before ++ r ∷ []) ≡ false) (λ v. (v.address % s ≡ 0) × (v.size ≡ s)) later
        (units_from-free s (suc row) (before ++ r ∷ []) rs)
        (All-both (λ v. v.address % s ≡ 0) (λ v. v.size ≡ s) later (units_from-aligned s (suc row) (before ++ r ∷ []) rs h.1) (units_from-sized s (suc row) (before ++ r ∷ []) rs))

-- ---- touches: some byte lies in both

pub touches-iff : (w : Write) (u : Unit) → 0 < u.size
    → (touches w u ≡ true) ↔ ((x : ℕ) × (w.address ≤ x) × (x < w.address + w.bytes) × In x u)
touches-iff w u z = (to, fro)
  where
    to : touches w u ≡ true → (x : ℕ) × (w.address ≤ x) × (x < w.address + w.bytes) × In x u
    to e =
        let h = ltb-true 0 w.bytes (and_left (ltb 0 w.bytes) _ e) in
        let f = and_right (ltb 0 w.bytes) _ e in
        let k = ltb-true w.address (u.address + u.size) (and_left (ltb w.address (u.address + u.size)) _ f) in
        let l = ltb-true u.address (w.address + w.bytes) (and_right (ltb w.address (u.address + u.size)) _ f) in
        (max w.address u.address, omega arith, omega arith, (omega arith, omega arith))

    fro : (x : ℕ) × (w.address ≤ x) × (x < w.address + w.bytes) × In x u → touches w u ≡ true
    fro h =
        and_intro (ltb 0 w.bytes) _ (lt-ltb 0 w.bytes (omega (arith, h.1, h.2)))
        (and_intro (ltb w.address (u.address + u.size)) _ (lt-ltb w.address (u.address + u.size) (omega (arith, h.1, h.3.1)))
        (lt-ltb u.address (w.address + w.bytes) (omega (arith, h.2, h.3.0))))

-- ---- marks

-- marks that are a function of the unit, after a write
pub mark-map : (w : Write) (f : Unit → Bool) (us : List Unit) → mark w us (map f us) ≡ map (λ u. f u || touches w u) us
mark-map w f [] = refl
mark-map w f (u ∷ us) = ap (λ l. (f u || touches w u) ∷ l) (mark-map w f us)

pub mark-length : (w : Write) (us : List Unit) (p : List Bool) → length p ≡ length us → length (mark w us p) ≡ length us
mark-length w [] p e = refl
mark-length w (u ∷ us) [] e = absurd (omega arith)
mark-length w (u ∷ us) (b ∷ p) e = ap suc (mark-length w us p (omega arith))

-- the write's count: by so many the pending units grow
pub newly-is : (w : Write) (us : List Unit) (p : List Bool) → length (pending us (mark w us p)) ≡ length (pending us p) + newly w us p
newly-is w [] p = refl
newly-is w (u ∷ us) [] = refl
newly-is w (u ∷ us) (true ∷ p) = go (touches w u) (newly-is w us p)
  where
    go : (b : Bool) → length (pending us (mark w us p)) ≡ length (pending us p) + newly w us p
        → suc (length (pending us (mark w us p))) ≡ suc (length (pending us p)) + (cond (b && false) 1 0 + newly w us p)
    go true e = omega arith
    go false e = omega arith
newly-is w (u ∷ us) (false ∷ p) = go (touches w u) (newly-is w us p)
  where
    go : (b : Bool) → length (pending us (mark w us p)) ≡ length (pending us p) + newly w us p
        → length (pending (u ∷ us) (b ∷ mark w us p)) ≡ length (pending us p) + (cond (b && true) 1 0 + newly w us p)
    go true e = omega arith
    go false e = omega arith

-- marks of two lists of units, one after the other
pub mark-append : (w : Write) (us vs : List Unit) (p q : List Bool) → length p ≡ length us → mark w (us ++ vs) (p ++ q) ≡ mark w us p ++ mark w vs q
mark-append w [] vs [] q e = refl
mark-append w [] vs (b ∷ p) q e = absurd (omega arith)
mark-append w (u ∷ us) vs [] q e = absurd (omega arith)
mark-append w (u ∷ us) vs (b ∷ p) q e = ap (λ l. (b || touches w u) ∷ l) (mark-append w us vs p q (omega arith))

pub newly-append : (w : Write) (us vs : List Unit) (p q : List Bool) → length p ≡ length us → newly w (us ++ vs) (p ++ q) ≡ newly w us p + newly w vs q
newly-append w [] vs [] q e = sym (zero-add (newly w vs q))
newly-append w [] vs (b ∷ p) q e = absurd (omega arith)
newly-append w (u ∷ us) vs [] q e = absurd (omega arith)
newly-append w (u ∷ us) vs (b ∷ p) q e =
    ap (λ n. cond (touches w u && not b) 1 0 + n) (newly-append w us vs p q (omega arith))
    ∙ sym (add_assoc (cond (touches w u && not b) 1 0) (newly w us p) (newly w vs q))

-- the mark of one unit
pub mark-at : (w : Write) (us : List Unit) (p : List Bool) (j : ℕ) (d : Unit) → length p ≡ length us → j < length us
    → get_or (mark w us p) j false ≡ (get_or p j false || touches w (get_or us j d))
mark-at w [] p j d e h = absurd (omega arith)
mark-at w (u ∷ us) [] j d e h = absurd (omega arith)
mark-at w (u ∷ us) (b ∷ p) zero d e h = refl
mark-at w (u ∷ us) (b ∷ p) (suc j) d e h = mark-at w us p j d (omega arith) (omega arith)

-- no more become pending than there are units
pub newly-le : (w : Write) (us : List Unit) (p : List Bool) → newly w us p ≤ length us
newly-le w [] p = omega arith
newly-le w (u ∷ us) [] = omega arith
newly-le w (u ∷ us) (b ∷ p) = go (touches w u && not b) (newly-le w us p)
  where
    go : (t : Bool) → newly w us p ≤ length us → cond t 1 0 + newly w us p ≤ suc (length us)
    go true h = omega arith
    go false h = omega arith

-- ---- pending

pub All-pending : (P : Unit → Type 0) (us : List Unit) (p : List Bool) → All P us → All P (pending us p)
All-pending P [] p h = tt
All-pending P (u ∷ us) [] h = tt
All-pending P (u ∷ us) (true ∷ p) h = (h.0, All-pending P us p h.1)
All-pending P (u ∷ us) (false ∷ p) h = All-pending P us p h.1

-- units that share a byte are one
pub Apart-at : (us : List Unit) → Apart us → (m n : ℕ) (u v : Unit) → slice_get us m ≡ Some u → slice_get us n ≡ Some v → (x : ℕ) → In x u → In x v → m ≡ n
Apart-at [] h m n u v e f x i j = absurd (none-some e)
  where
    none-some : {A : Type 0} {a : A} → None ≡ Some a → ⊥
    none-some q = let z : ◌≡◌ {A = ℕ} 0 1 = cc in absurd (omega arith)
Apart-at (w ∷ us) h zero zero u v e f x i j = refl
Apart-at (w ∷ us) h zero (suc n) u v e f x i j = absurd (All-at (Free w) us n v h.0 f x (subst (In x) (sym (some_inj e)) i) j)
Apart-at (w ∷ us) h (suc m) zero u v e f x i j = absurd (All-at (Free w) us m u h.0 e x (subst (In x) (sym (some_inj f)) j) i)
Apart-at (w ∷ us) h (suc m) (suc n) u v e f x i j = ap suc (Apart-at us h.1 m n u v e f x i j)

pub Apart-pending : (us : List Unit) (p : List Bool) → Apart us → Apart (pending us p)
Apart-pending [] p h = tt
Apart-pending (u ∷ us) [] h = tt
Apart-pending (u ∷ us) (true ∷ p) h = (All-pending (Free u) us p h.0, Apart-pending us p h.1)
Apart-pending (u ∷ us) (false ∷ p) h = Apart-pending us p h.1
