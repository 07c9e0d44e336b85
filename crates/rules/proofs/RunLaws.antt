-- Laws of runs and reports: runs are longest rows, in order; the descriptors of the first runs list exactly those runs' units; what a report leaves.
-- Assumes nothing.
use mathlib.Core.Path.{◌≡◌, refl, sym, ap, subst, ◌∙◌}
use mathlib.Core.Bool.{Bool, true, false, ◌&&◌, not, cond}
use mathlib.Core.List.{List, [], ◌∷◌, ◌++◌, map}
use Prim.Native.Nat.{ℕ, zero, suc, ◌+◌, ◌*◌, ◌≤◌, ◌<◌}
use native.Mathlib.Omega.{arith}
use native.Mathlib.Nat.{zero-mul, suc-mul}
use native.Mathlib.Decide.{dec_lt}
use lib.Dec.{leb, ltb, eqb}
use lib.ListN.{length, take, drop}
use borrow.Author.Tests.{leb-true, ltb-true, eqb-true, le-leb, lt-ltb}
use Rattle.rules.specs.Lists.{any, join, non_empty}
use Rattle.rules.specs.Settings.{unit_size}
use Rattle.rules.specs.Units.{Unit, end_of, pending}
use Rattle.rules.specs.Report.{follows, with_first, runs, Descriptor, range_of, descriptor, reported_runs, later_runs, report_on, clear_first, marks_left}
use Rattle.rules.specs.History.{lists}
use Rattle.rules.proofs.ListLaws.{All, All-map, All-append, All-left, All-right, All-take, All-drop, join-take-drop, take-join, drop-join, and_left, and_right, and_intro, or-intro-left, or-intro-right, or-neither, false-intro}
use Rattle.rules.proofs.UnitLaws.{In, Free, Apart, Sized, Chain, chain-within, unit_size-pos, All-pending, Apart-pending}

-- ---- runs: all units, in their order

with_first-join : (u : Unit) (rs : List (List Unit)) → join (with_first u rs) ≡ u ∷ join rs
with_first-join u [] = refl
with_first-join u ([] ∷ rs) = refl
with_first-join u ((v ∷ vs) ∷ rs) = go (follows u v)
  where
    go : (b : Bool) → join (cond b ((u ∷ v ∷ vs) ∷ rs) ((u ∷ []) ∷ (v ∷ vs) ∷ rs)) ≡ u ∷ join ((v ∷ vs) ∷ rs)
    go true = refl
    go false = refl

pub runs-join : (us : List Unit) → join (runs us) ≡ us
runs-join [] = refl
runs-join (u ∷ us) = with_first-join u (runs us) ∙ ap (λ l. u ∷ l) (runs-join us)

-- ---- there are no more runs than pending units, and no more of these than units

with_first-length : (u : Unit) (rs : List (List Unit)) → length (with_first u rs) ≤ suc (length rs)
with_first-length u [] = omega arith
with_first-length u ([] ∷ rs) = omega arith
with_first-length u ((v ∷ vs) ∷ rs) = go (follows u v)
  where
    go : (b : Bool) → length (cond b ((u ∷ v ∷ vs) ∷ rs) ((u ∷ []) ∷ (v ∷ vs) ∷ rs)) ≤ suc (suc (length rs))
    go true = omega arith
    go false = omega arith

pub runs-length-le : (us : List Unit) → length (runs us) ≤ length us
runs-length-le [] = omega arith
runs-length-le (u ∷ us) = omega (arith, with_first-length u (runs us), runs-length-le us)

pub pending-length-le : (us : List Unit) (p : List Bool) → length (pending us p) ≤ length us
pending-length-le [] p = omega arith
pending-length-le (u ∷ us) [] = omega arith
pending-length-le (u ∷ us) (true ∷ p) = omega (arith, pending-length-le us p)
pending-length-le (u ∷ us) (false ∷ p) = omega (arith, pending-length-le us p)

-- ---- a run is a chain of one size and is not empty

abbrev pub Run : ℕ → List Unit → Type 0
Run s [] = ⊥
Run s (u ∷ us) = Chain s u.address (u ∷ us)

with_first-run : (s : ℕ) (u : Unit) (rs : List (List Unit)) → u.size ≡ s → All (Run s) rs → All (Run s) (with_first u rs)
with_first-run s u [] e h = ((refl, e, tt), tt)
with_first-run s u ([] ∷ rs) e h = absurd h.0
with_first-run s u ((v ∷ vs) ∷ rs) e h = go (follows u v) refl
  where
    go : (b : Bool) → follows u v ≡ b → All (Run s) (cond b ((u ∷ v ∷ vs) ∷ rs) ((u ∷ []) ∷ (v ∷ vs) ∷ rs))
    go true j =
        let f : u.address + u.size ≡ v.address = eqb-true (u.address + u.size) v.address (and_right (eqb u.row v.row) (eqb (u.address + u.size) v.address) j) in
        ((refl, e, (sym f ∙ ap (λ z. u.address + z) e, h.0.1, subst (λ z. Chain s (z + s) vs) (sym f ∙ ap (λ z. u.address + z) e) h.0.2)), h.1)
    go false j = ((refl, e, tt), h)

pub runs-run : (s : ℕ) (us : List Unit) → Sized s us → All (Run s) (runs us)
runs-run s [] h = tt
runs-run s (u ∷ us) h = with_first-run s u (runs us) h.0 (runs-run s us h.1)

-- ---- no run is empty

abbrev pub Full : List Unit → Type 0
Full [] = ⊥
Full (u ∷ us) = Prim.Unit {0}

with_first-full : (u : Unit) (rs : List (List Unit)) → All Full rs → All Full (with_first u rs)
with_first-full u [] h = (tt, tt)
with_first-full u ([] ∷ rs) h = absurd h.0
with_first-full u ((v ∷ vs) ∷ rs) h = go (follows u v)
  where
    go : (b : Bool) → All Full (cond b ((u ∷ v ∷ vs) ∷ rs) ((u ∷ []) ∷ (v ∷ vs) ∷ rs))
    go true = (tt, h.1)
    go false = (tt, h)

pub runs-full : (us : List Unit) → All Full (runs us)
runs-full [] = tt
runs-full (u ∷ us) = with_first-full u (runs us) (runs-full us)

non_empty-join : (rs : List (List Unit)) → All Full rs → non_empty rs ≡ non_empty (join rs)
non_empty-join [] h = refl
non_empty-join ([] ∷ rs) h = absurd h.0
non_empty-join ((u ∷ us) ∷ rs) h = refl

-- ---- what descriptors list

abbrev pub listed : ℕ → List (List Unit) → Unit → Bool
listed g rs u = any (λ (d : Descriptor). lists g d u) (map descriptor rs)

lists-intro : (g : ℕ) (d : Descriptor) (u : Unit) → d.address ≤ u.address → u.address < end_of (unit_size g) (range_of d) → lists g d u ≡ true
lists-intro g d u h k = and_intro (leb d.address u.address) (ltb u.address (end_of (unit_size g) (range_of d))) (le-leb _ _ h) (lt-ltb _ _ k)

lists-elim : (g : ℕ) (d : Descriptor) (u : Unit) → lists g d u ≡ true → (d.address ≤ u.address) × (u.address < end_of (unit_size g) (range_of d))
lists-elim g d u e = (
  leb-true _ _ (and_left (leb d.address u.address) (ltb u.address (end_of (unit_size g) (range_of d))) e),
  ltb-true _ _ (and_right (leb d.address u.address) (ltb u.address (end_of (unit_size g) (range_of d))) e),
)

-- a byte of a chain lies in one of its units
chain-outside : (s a x : ℕ) (us : List Unit) → Chain s a us → All (λ u. In x u → ⊥) us → a ≤ x → x < a + length us * s → ⊥
chain-outside s a x [] h f l m = omega (arith, zero-mul s)
chain-outside s a x (u ∷ us) h f l m = go (dec_lt x (a + s)) (chain-outside s (a + s) x us h.2 f.1)
  where
    go : Dec (x < a + s) → (a + s ≤ x → x < a + s + length us * s → ⊥) → ⊥
    go (yes y) ih = f.0 (omega (arith, h.0), omega (arith, h.0, h.1))
    go (no n) ih = ih (omega arith) (omega (arith, suc-mul (length us) s))

-- a run's descriptor lists its units, and no unit that is free of them
run-listed : (g : ℕ) (r : List Unit) → Run (unit_size g) r → All (λ u. lists g (descriptor r) u ≡ true) r
run-listed g [] h = tt
run-listed g (u ∷ us) h =
    All-map (λ v w. lists-intro g (descriptor (u ∷ us)) v w.0 (omega (arith, w.1, w.2, unit_size-pos g))) (u ∷ us)
    (chain-within (unit_size g) u.address u.address (u.address + suc (length us) * unit_size g) (u ∷ us) h (omega arith) (omega arith))

run-unlisted : (g : ℕ) (r : List Unit) (v : Unit) → 0 < v.size → Run (unit_size g) r → All (λ u. Free u v) r → lists g (descriptor r) v ≡ false
run-unlisted g [] v z h f = absurd h
run-unlisted g (u ∷ us) v z h f =
    false-intro (lists g (descriptor (u ∷ us)) v) (λ e.
    let k = lists-elim g (descriptor (u ∷ us)) v e in
    chain-outside (unit_size g) u.address v.address (u ∷ us) h (All-map (λ w free i. free v.address i (omega arith, omega arith)) (u ∷ us) f) k.0 k.1)

runs-listed : (g : ℕ) (rs : List (List Unit)) → All (Run (unit_size g)) rs → All (λ u. listed g rs u ≡ true) (join rs)
runs-listed g [] h = tt
runs-listed g (r ∷ rs) h =
    All-append (λ u. listed g (r ∷ rs) u ≡ true) r (join rs)
    (All-map (λ u e. or-intro-left (lists g (descriptor r) u) (listed g rs u) e) r (run-listed g r h.0))
    (All-map (λ u e. or-intro-right (lists g (descriptor r) u) (listed g rs u) e) (join rs) (runs-listed g rs h.1))

pub runs-unlisted : (g : ℕ) (rs : List (List Unit)) (v : Unit) → 0 < v.size → All (Run (unit_size g)) rs → All (λ u. Free u v) (join rs) → listed g rs v ≡ false
runs-unlisted g [] v z h f = refl
runs-unlisted g (r ∷ rs) v z h f =
    or-neither (lists g (descriptor r) v) (listed g rs v)
    (run-unlisted g r v z h.0 (All-left (λ u. Free u v) r (join rs) f))
    (runs-unlisted g rs v z h.1 (All-right (λ u. Free u v) r (join rs) f))

-- of two parts of units that share no byte, each unit of the second is free of all of the first
Apart-parts : (xs ys : List Unit) → Apart (xs ++ ys) → All (λ v. All (λ u. Free u v) xs) ys
Apart-parts [] [] h = tt
Apart-parts [] (y ∷ ys) h = (tt, Apart-parts [] ys h.1)
Apart-parts (x ∷ xs) ys h = both ys (All-right (Free x) xs ys h.0) (Apart-parts xs ys h.1)
  where
    both : (ys : List Unit) → All (Free x) ys → All (λ v. All (λ u. Free u v) xs) ys → All (λ v. All (λ u. Free u v) (x ∷ xs)) ys
    both [] p q = tt
    both (y ∷ ys) p q = ((p.0, q.0), both ys p.1 q.1)

-- the descriptors of the first k runs of some units list exactly those runs' units
module _ (g : ℕ) (us : List Unit) (sized : Sized (unit_size g) us) (separate : Apart us) (k : ℕ) where
  pub first_runs : All (Run (unit_size g)) (take k (runs us))
  first_runs = All-take (Run (unit_size g)) k (runs us) (runs-run (unit_size g) us sized)

  split : join (take k (runs us)) ++ join (drop k (runs us)) ≡ us
  split = join-take-drop k (runs us) ∙ runs-join us

  pub first-listed : All (λ u. listed g (take k (runs us)) u ≡ true) (take (length (join (take k (runs us)))) us)
  first-listed =
      subst (λ l. All (λ u. listed g (take k (runs us)) u ≡ true) (take (length (join (take k (runs us)))) l)) (runs-join us)
      (subst (λ l. All (λ u. listed g (take k (runs us)) u ≡ true) l) (sym (take-join k (runs us)))
      (runs-listed g (take k (runs us)) first_runs))

  pub rest-unlisted : All (λ u. listed g (take k (runs us)) u ≡ false) (drop (length (join (take k (runs us)))) us)
  rest-unlisted =
      subst (λ l. All (λ u. listed g (take k (runs us)) u ≡ false) (drop (length (join (take k (runs us)))) l)) (runs-join us)
      (subst (λ l. All (λ u. listed g (take k (runs us)) u ≡ false) l) (sym (drop-join k (runs us)))
      (both (join (drop k (runs us))) (Apart-parts (join (take k (runs us))) (join (drop k (runs us))) (subst Apart (sym split) separate))
      (All-right (λ u. u.size ≡ unit_size g) (join (take k (runs us))) (join (drop k (runs us))) (subst (Sized (unit_size g)) (sym split) sized))))
    where
      both : (vs : List Unit) → All (λ v. All (λ u. Free u v) (join (take k (runs us)))) vs → Sized (unit_size g) vs → All (λ u. listed g (take k (runs us)) u ≡ false) vs
      both [] p q = tt
      both (v ∷ vs) p q = (
        runs-unlisted g (take k (runs us)) v (omega (arith, q.0, unit_size-pos g)) first_runs p.0,
        both vs p.1 q.1,
      )

-- ---- what a report clears

-- the first m pending units are those of which c is true: they are made clear, and no other
pub clear_first-map : (f c : Unit → Bool) (us : List Unit) (m : ℕ)
    → All (λ u. c u ≡ true) (take m (pending us (map f us)))
    → All (λ u. c u ≡ false) (drop m (pending us (map f us)))
    → clear_first m (map f us) ≡ map (λ u. f u && not (c u)) us
clear_first-map f c [] zero = λ p q. refl
clear_first-map f c [] (suc m) = λ p q. refl
clear_first-map f c (u ∷ us) m = go m (f u) refl (clear_first-map f c us)
  where
    go : (m : ℕ) (b : Bool) → f u ≡ b
        → ((m : ℕ) → All (λ u. c u ≡ true) (take m (pending us (map f us))) → All (λ u. c u ≡ false) (drop m (pending us (map f us))) → clear_first m (map f us) ≡ map (λ u. f u && not (c u)) us)
        → All (λ u. c u ≡ true) (take m (pending (u ∷ us) (f u ∷ map f us)))
        → All (λ u. c u ≡ false) (drop m (pending (u ∷ us) (f u ∷ map f us)))
        → clear_first m (f u ∷ map f us) ≡ (f u && not (c u)) ∷ map (λ u. f u && not (c u)) us
    go zero true e ih = rw e λ p q. rw q.0 (ap (λ l. true ∷ l) (ih zero tt q.1))
    go zero false e ih = rw e λ p q. ap (λ l. false ∷ l) (ih zero tt q)
    go (suc m) true e ih = rw e λ p q. rw p.0 (ap (λ l. false ∷ l) (ih m p.1 q))
    go (suc m) false e ih = rw e λ p q. ap (λ l. false ∷ l) (ih (suc m) p q)

clear_first-pending : (us : List Unit) (m : ℕ) (p : List Bool) → pending us (clear_first m p) ≡ drop m (pending us p)
clear_first-pending us zero p = refl
clear_first-pending [] (suc m) p = refl
clear_first-pending (u ∷ us) (suc m) [] = refl
clear_first-pending (u ∷ us) (suc m) (true ∷ p) = clear_first-pending us m p
clear_first-pending (u ∷ us) (suc m) (false ∷ p) = clear_first-pending us (suc m) p

pub clear_first-length : (m : ℕ) (p : List Bool) → length (clear_first m p) ≡ length p
clear_first-length zero p = refl
clear_first-length (suc m) [] = refl
clear_first-length (suc m) (true ∷ p) = ap suc (clear_first-length m p)
clear_first-length (suc m) (false ∷ p) = ap suc (clear_first-length (suc m) p)

-- what stays pending are the later runs' units, in order and no others
pub marks_left-pending : (k : ℕ) (us : List Unit) (p : List Bool) → pending us (marks_left k us p) ≡ join (later_runs k us p)
marks_left-pending k us p =
    clear_first-pending us (length (join (reported_runs k us p))) p
    ∙ ap (drop (length (join (reported_runs k us p)))) (sym (runs-join (pending us p)))
    ∙ drop-join k (runs (pending us p))

-- More To Report is set exactly if something stays pending
pub more-exactly : (b : Bool) (g k : ℕ) (us : List Unit) (p : List Bool) → (report_on b g k us p).more ≡ non_empty (pending us (marks_left k us p))
more-exactly b g k us p =
    non_empty-join (later_runs k us p) (All-drop Full k (runs (pending us p)) (runs-full (pending us p))) ∙ ap non_empty (sym (marks_left-pending k us p))

-- marks that are a function of the unit, after a report: those that it lists are clear, all others as they were
pub marks_left-map : (f : Unit → Bool) (g k : ℕ) (us : List Unit) → Sized (unit_size g) us → Apart us
    → marks_left k us (map f us) ≡ map (λ u. f u && not (listed g (reported_runs k us (map f us)) u)) us
marks_left-map f g k us sized separate =
    clear_first-map f (listed g (reported_runs k us (map f us))) us (length (join (reported_runs k us (map f us))))
    (first-listed g (pending us (map f us)) sized' separate' k)
    (rest-unlisted g (pending us (map f us)) sized' separate' k)
  where
    sized' : Sized (unit_size g) (pending us (map f us))
    sized' = All-pending (λ u. u.size ≡ unit_size g) us (map f us) sized

    separate' : Apart (pending us (map f us))
    separate' = Apart-pending us (map f us) separate
