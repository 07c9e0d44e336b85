-- Laws of tables: what every refusal has, and what is done where all tests are passed. Assumes nothing.
use mathlib.Core.Path.{◌≡◌, refl, sym, ap, ◌∙◌}
use mathlib.Core.Logic.{◌≢◌}
use mathlib.Core.Bool.{Bool, true, false, ◌&&◌, cond, true≢false}
use mathlib.Core.List.{List, [], ◌∷◌, ◌++◌}
use Prim.Native.Nat.{ℕ, ◌≤◌}
use native.Mathlib.Omega.{arith}
use lib.Dec.{eqb}
use borrow.Author.Tests.{ne_eqb}
use Rattle.rules.specs.Refusals.{Test, verdict, refusal, place_in, refusal_at, passes, number_of}
use Rattle.std.specs.declared.result.Result.{Result}
use Rattle.std.specs.declared.result.Result.TheVariants.{Ok, Err}
use Rattle.std.specs.Result.{IsErrAnd}
use Rattle.rules.specs.declared.Refusal.{Refusal}
use Rattle.rules.specs.declared.Refusal.TheVariants.{Unsound, Unknown, Tracked, Suspended, Untracked, Version, Granularity, Short, Empty, Power, Units, Limit, Running, PastEnd, Kind, Settings, Descriptor, Ranges, NoUnits, Unaligned, RangeEnd, Records, Others, Offset, Data, Order, State, Area, NoQueue, Stopped, Mark, FileVersion, Index, Shelf, FileLength}
use Rattle.rules.proofs.ListLaws.{All, All-left, All-right, All-all, and_left, and_right}

-- all tests of a table are passed
abbrev pub Passed : List Test → Type 0
Passed ts = All (λ (t : Test). t.ok ≡ true) ts

module _ {A : Type 0} (P : A → Type 0) (refuse : ℕ → ℕ → A) where
  -- a fact that every refusal has, and that what is done has if all tests are passed
  pub verdict-has : ((n i : ℕ) → P (refuse n i)) → (ts : List Test) (done : A) → (Passed ts → P done) → P (verdict ts done refuse)
  verdict-has bad [] done f = f tt
  verdict-has bad (t ∷ ts) done f = go t.ok refl (verdict-has bad ts done)
    where
      go : (b : Bool) → t.ok ≡ b → ((Passed ts → P done) → P (verdict ts done refuse)) → P (cond b (verdict ts done refuse) (refuse t.number t.place))
      go true e ih = ih (λ h. f (e, h))
      go false e ih = bad t.number t.place

-- what two verdicts make of each test's refusal is related
abbrev pub Both : {A B : Type 0} → (A → B → Type 0) → (ℕ → ℕ → A) → (ℕ → ℕ → B) → List Test → Type 0
Both R f g ts = All (λ (t : Test). R (f t.number t.place) (g t.number t.place)) ts

-- so are the verdicts, where their ends are
pub verdict-both : {A B : Type 0} (R : A → B → Type 0) (ts : List Test) (a : A) (b : B) (f : ℕ → ℕ → A) (g : ℕ → ℕ → B)
    → Both R f g ts → (Passed ts → R a b) → R (verdict ts a f) (verdict ts b g)
verdict-both R [] a b f g h p = p tt
verdict-both R (t ∷ ts) a b f g h p = go t.ok refl (verdict-both R ts a b f g h.1)
  where
    go : (c : Bool) → t.ok ≡ c → ((Passed ts → R a b) → R (verdict ts a f) (verdict ts b g))
        → R (cond c (verdict ts a f) (f t.number t.place)) (cond c (verdict ts b g) (g t.number t.place))
    go true e ih = ih (λ q. p (e, q))
    go false e ih = h.0

-- and where a test of a first part is not passed, whatever follows
pub verdict-front : {A B : Type 0} (R : A → B → Type 0) (ts us : List Test) (a : A) (b : B) (f : ℕ → ℕ → A) (g : ℕ → ℕ → B)
    → Both R f g ts → passes ts ≡ false → R (verdict (ts ++ us) a f) (verdict (ts ++ us) b g)
verdict-front R [] us a b f g h e = absurd (true≢false e)
verdict-front R (t ∷ ts) us a b f g h e = go t.ok (verdict-front R ts us a b f g h.1) e
  where
    go : (c : Bool) → (passes ts ≡ false → R (verdict (ts ++ us) a f) (verdict (ts ++ us) b g)) → (c && passes ts) ≡ false
        → R (cond c (verdict (ts ++ us) a f) (f t.number t.place)) (cond c (verdict (ts ++ us) b g) (g t.number t.place))
    go true ih e = ih e
    go false ih e = h.0

-- one table after another
pub verdict-append : {A : Type 0} (ts us : List Test) (done : A) (refuse : ℕ → ℕ → A) → verdict (ts ++ us) done refuse ≡ verdict ts (verdict us done refuse) refuse
verdict-append [] us done refuse = refl
verdict-append (t ∷ ts) us done refuse = ap (λ x. cond t.ok x (refuse t.number t.place)) (verdict-append ts us done refuse)

-- what is made of the answer is made of each
pub verdict-map : {A B : Type 0} (f : A → B) (ts : List Test) (done : A) (refuse : ℕ → ℕ → A) → f (verdict ts done refuse) ≡ verdict ts (f done) (λ n i. f (refuse n i))
verdict-map f [] done refuse = refl
verdict-map f (t ∷ ts) done refuse = go t.ok (verdict-map f ts done refuse)
  where
    go : (b : Bool) → f (verdict ts done refuse) ≡ verdict ts (f done) (λ n i. f (refuse n i))
        → f (cond b (verdict ts done refuse) (refuse t.number t.place)) ≡ cond b (verdict ts (f done) (λ n i. f (refuse n i))) (f (refuse t.number t.place))
    go true ih = ih
    go false ih = refl

-- where all tests are passed, it is done
pub verdict-passed : {A : Type 0} (ts : List Test) (done : A) (refuse : ℕ → ℕ → A) → Passed ts → verdict ts done refuse ≡ done
verdict-passed [] done refuse h = refl
verdict-passed (t ∷ ts) done refuse h = rw h.0 (verdict-passed ts done refuse h.1)

-- a verdict whose number is 0, where no test has that number, is what is done, and all tests are passed
pub verdict-done : {A : Type 0} (number : A → ℕ) (ts : List Test) (done : A) (refuse : ℕ → ℕ → A) → ((n i : ℕ) → number (refuse n i) ≡ n) → All (λ (t : Test). 1 ≤ t.number) ts
    → number (verdict ts done refuse) ≡ 0 → (verdict ts done refuse ≡ done) × Passed ts
verdict-done number [] done refuse f h e = (refl, tt)
verdict-done number (t ∷ ts) done refuse f h e = go t.ok refl (verdict-done number ts done refuse f h.1) e
  where
    go : (b : Bool) → t.ok ≡ b → (number (verdict ts done refuse) ≡ 0 → (verdict ts done refuse ≡ done) × Passed ts)
        → number (cond b (verdict ts done refuse) (refuse t.number t.place)) ≡ 0
        → (cond b (verdict ts done refuse) (refuse t.number t.place) ≡ done) × ((t.ok ≡ true) × Passed ts)
    go true q ih e = let r = ih e in (r.0, (q, r.1))
    go false q ih e = absurd (omega (arith, h.0, f t.number t.place, e))

-- two ends of which the second is the first where that has a certain property: so are the verdicts
pub verdict-same : {A : Type 0} (P : A → Type 0) (ts : List Test) (k l : A) (refuse : ℕ → ℕ → A) → (P k → l ≡ k) → P (verdict ts k refuse) → verdict ts l refuse ≡ verdict ts k refuse
verdict-same P [] k l refuse f = f
verdict-same P (t ∷ ts) k l refuse f = go t.ok (verdict-same P ts k l refuse f)
  where
    go : (b : Bool) → (P (verdict ts k refuse) → verdict ts l refuse ≡ verdict ts k refuse)
        → P (cond b (verdict ts k refuse) (refuse t.number t.place))
        → cond b (verdict ts l refuse) (refuse t.number t.place) ≡ cond b (verdict ts k refuse) (refuse t.number t.place)
    go true ih n = ih n
    go false ih n = refl

pub passes-all : (ts : List Test) → Passed ts → passes ts ≡ true
passes-all ts h = All-all (λ (t : Test). t.ok) ts h

pub passes-Passed : (ts : List Test) → passes ts ≡ true → Passed ts
passes-Passed [] e = tt
passes-Passed (t ∷ ts) e = (and_left t.ok (passes ts) e, passes-Passed ts (and_right t.ok (passes ts) e))

pub passes_append : (ts us : List Test) → passes (ts ++ us) ≡ (passes ts && passes us)
passes_append [] us = refl
passes_append (t ∷ ts) us = go t.ok (passes_append ts us)
  where
    go : (b : Bool) → passes (ts ++ us) ≡ (passes ts && passes us) → (b && passes (ts ++ us)) ≡ ((b && passes ts) && passes us)
    go true e = e
    go false e = refl

pub Passed-left : (ts us : List Test) → Passed (ts ++ us) → Passed ts
Passed-left ts us h = All-left (λ (t : Test). t.ok ≡ true) ts us h

pub Passed-right : (ts us : List Test) → Passed (ts ++ us) → Passed us
Passed-right ts us h = All-right (λ (t : Test). t.ok ≡ true) ts us h

-- ---- refusal

-- where no test has the number 0, that answer says that all are passed
pub refusal-none : (ts : List Test) → All (λ (t : Test). 1 ≤ t.number) ts → eqb (refusal ts) 0 ≡ passes ts
refusal-none [] h = refl
refusal-none (t ∷ ts) h = go t.ok (refusal-none ts h.1)
  where
    go : (b : Bool) → eqb (refusal ts) 0 ≡ passes ts → eqb (cond b (refusal ts) t.number) 0 ≡ (b && passes ts)
    go true e = e
    go false e = ne_eqb t.number 0 (λ z. absurd (omega (arith, h.0)))

-- a table that answers a number refuses with it, at its place
pub verdict-refused : {A : Type 0} (ts : List Test) (done : A) (refuse : ℕ → ℕ → A) → refusal ts ≢ 0 → verdict ts done refuse ≡ refuse (refusal ts) (place_in ts)
verdict-refused [] done refuse h = absurd (h refl)
verdict-refused (t ∷ ts) done refuse h = go t.ok (verdict-refused ts done refuse) h
  where
    go : (b : Bool) → (refusal ts ≢ 0 → verdict ts done refuse ≡ refuse (refusal ts) (place_in ts)) → cond b (refusal ts) t.number ≢ 0
        → cond b (verdict ts done refuse) (refuse t.number t.place) ≡ refuse (cond b (refusal ts) t.number) (cond b (place_in ts) t.place)
    go true ih h = ih h
    go false ih h = refl

pub refusal_at-is : (ts : List Test) → refusal_at ts ≡ record { number = refusal ts; row = place_in ts }
refusal_at-is [] = refl
refusal_at-is (t ∷ ts) = go t.ok (refusal_at-is ts)
  where
    go : (b : Bool) → refusal_at ts ≡ record { number = refusal ts; row = place_in ts }
        → cond b (refusal_at ts) (record { number = t.number; row = t.place }) ≡ record { number = cond b (refusal ts) t.number; row = cond b (place_in ts) t.place }
    go true e = e
    go false e = refl

-- ---- tables one after another

-- where the first part refuses, the whole answers the same
pub verdict-first : {A : Type 0} (ts us : List Test) (done end : A) (refuse : ℕ → ℕ → A) → refusal ts ≢ 0 → verdict (ts ++ us) done refuse ≡ verdict ts end refuse
verdict-first ts us done end refuse h = verdict-append ts us done refuse ∙ verdict-refused ts (verdict us done refuse) refuse h ∙ sym (verdict-refused ts end refuse h)

-- where it is passed, the rest answers
pub verdict-rest : {A : Type 0} (ts us : List Test) (done : A) (refuse : ℕ → ℕ → A) → passes ts ≡ true → verdict (ts ++ us) done refuse ≡ verdict us done refuse
verdict-rest ts us done refuse e = verdict-append ts us done refuse ∙ verdict-passed ts (verdict us done refuse) refuse (passes-Passed ts e)

-- ---- the numbers of refusals

-- no refusal has the number of what is done
pub number_of-pos : (r : Refusal) → number_of r ≢ 0
number_of-pos r e = let z = go r in omega (arith, z)
  where
    go : (r : Refusal) → 1 ≤ number_of r
    go Unsound = omega arith
    go Unknown = omega arith
    go Tracked = omega arith
    go Suspended = omega arith
    go Untracked = omega arith
    go Version = omega arith
    go Granularity = omega arith
    go Short = omega arith
    go Empty = omega arith
    go Power = omega arith
    go Units = omega arith
    go Limit = omega arith
    go Running = omega arith
    go PastEnd = omega arith
    go Kind = omega arith
    go Settings = omega arith
    go Descriptor = omega arith
    go Ranges = omega arith
    go NoUnits = omega arith
    go Unaligned = omega arith
    go RangeEnd = omega arith
    go Records = omega arith
    go Others = omega arith
    go Offset = omega arith
    go Data = omega arith
    go Order = omega arith
    go State = omega arith
    go Area = omega arith
    go NoQueue = omega arith
    go Stopped = omega arith
    go Mark = omega arith
    go FileVersion = omega arith
    go Index = omega arith
    go Shelf = omega arith
    go FileLength = omega arith

-- what `?` hands on is the error that it met
pub handed_on : {A E : Type 0} (r : Result A E) (x : E) → IsErrAnd r (λ e. e ≡ x) → r ≡ Err x
handed_on (Ok v) x h = absurd h
handed_on (Err e) x h = ap Err h
