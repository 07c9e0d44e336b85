-- W10: laws of the groups that a report examines. Assumes nothing.
use mathlib.Core.Path.{◌≡◌, refl, sym, ap, ◌∙◌}
use mathlib.Core.Logic.{◌↔◌}
use mathlib.Core.Bool.{Bool, true, false, cond, true≢false}
use mathlib.Core.List.{List, [], ◌∷◌, ◌++◌}
use Rattle.std.specs.declared.option.Option.TheVariants.{None, Some}
use Prim.Native.Nat.{ℕ, zero, suc, ◌+◌, ◌*◌, ◌/◌, ◌≤◌, ◌<◌}
use native.Mathlib.Omega.{arith}
use lib.ListN.{length, take, drop, length-append}
use Rattle.std.specs.List.{slice_get}
use lib.Seq.{take_all, drop_at}
use Rattle.rules.specs.Lists.{join, non_empty}
use Rattle.rules.specs.Units.{Unit, pending}
use Rattle.rules.specs.Report.{follows, with_first, runs, reported_runs, later_runs, report_on, pending_at, groups_on}
use Rattle.rules.proofs.ListLaws.{All, All-at, All-drop, some_inj, join-take-drop}
use Rattle.rules.proofs.UnitLaws.{Apart, Apart-at}
use Rattle.rules.proofs.ScanLaws.{pending-split}
use Rattle.rules.proofs.RunLaws.{Full, runs-full, runs-join}

-- no unit is set in none, nor is a clear one
none-set : (n : ℕ) → slice_get {X = Bool} [] n ≡ Some true → ⊥
none-set n z = let y : ◌≡◌ {A = ℕ} 0 1 = cc in absurd (omega arith)

clear-set : Some false ≡ Some true → ⊥
clear-set z = true≢false (sym (some_inj z))

none_first : {A : Type 0} {x : A} {xs : List A} → [] ≡ x ∷ xs → ⊥
none_first e = let z : ◌≡◌ {A = ℕ} 0 1 = cc in absurd (omega arith)

-- ---- the run with a number

pub run-there : {A : Type 0} (k : ℕ) (rs : List A) (r : A) → slice_get rs k ≡ Some r → drop k rs ≡ r ∷ drop (suc k) rs
run-there k [] r e = let z : ◌≡◌ {A = ℕ} 0 1 = cc in absurd (omega arith)
run-there zero (x ∷ rs) r e = ap (λ (y : _). y ∷ rs) (some_inj e)
run-there (suc k) (x ∷ rs) r e = run-there k rs r e

-- there is none exactly if nothing is left from there on
pub run_none : {A : Type 0} (k : ℕ) (rs : List A) → (non_empty (drop k rs) ≡ false) ↔ (slice_get rs k ≡ None)
run_none zero [] = ((λ e. refl), (λ e. refl))
run_none (suc k) [] = ((λ e. refl), (λ e. refl))
run_none zero (x ∷ rs) = ((λ e. absurd (true≢false e)), (λ e. absurd (let z : ◌≡◌ {A = ℕ} 0 1 = cc in omega arith)))
run_none (suc k) (x ∷ rs) = run_none k rs

-- ---- the unit with a number of pending ones before it

-- the pending unit before which m are pending
pub pending_at-is : (us : List Unit) (p : List Bool) (m n : ℕ) → length p ≡ length us → slice_get p n ≡ Some true → length (pending (take n us) (take n p)) ≡ m → pending_at m p ≡ n
pending_at-is [] [] m n l e c = absurd (none-set n e)
pending_at-is [] (b ∷ p) m n l e c = absurd (omega arith)
pending_at-is (u ∷ us) [] m n l e c = absurd (omega arith)
pending_at-is (u ∷ us) (true ∷ p) zero zero l e c = refl
pending_at-is (u ∷ us) (true ∷ p) (suc m) zero l e c = absurd (omega (arith, c))
pending_at-is (u ∷ us) (false ∷ p) m zero l e c = absurd (clear-set e)
pending_at-is (u ∷ us) (true ∷ p) zero (suc n) l e c = absurd (omega (arith, c))
pending_at-is (u ∷ us) (true ∷ p) (suc m) (suc n) l e c = ap suc (pending_at-is us p m n (omega arith) e (omega (arith, c)))
pending_at-is (u ∷ us) (false ∷ p) m (suc n) l e c = ap suc (pending_at-is us p m n (omega arith) e c)

-- which unit it is
pub pending_at-unit : (us : List Unit) (p : List Bool) (m : ℕ) (u : Unit) (vs : List Unit) → drop m (pending us p) ≡ u ∷ vs → slice_get us (pending_at m p) ≡ Some u
pending_at-unit [] p zero u vs e = absurd (none_first e)
pending_at-unit [] p (suc m) u vs e = absurd (none_first e)
pending_at-unit (w ∷ us) [] zero u vs e = absurd (none_first e)
pending_at-unit (w ∷ us) [] (suc m) u vs e = absurd (none_first e)
pending_at-unit (w ∷ us) (true ∷ p) zero u vs e = ap Some (let q : w ≡ u = cc in q)
pending_at-unit (w ∷ us) (true ∷ p) (suc m) u vs e = pending_at-unit us p m u vs e
pending_at-unit (w ∷ us) (false ∷ p) m u vs e = pending_at-unit us p m u vs e

-- it is one of the units, or past them
pub pending_at-within : (m : ℕ) (p : List Bool) → pending_at m p ≤ length p
pending_at-within m [] = omega arith
pending_at-within m (false ∷ p) = let h = pending_at-within m p in omega arith
pending_at-within zero (true ∷ p) = omega arith
pending_at-within (suc m) (true ∷ p) = let h = pending_at-within m p in omega arith

-- one of the units, where more are pending
pub pending_at-below : (us : List Unit) (p : List Bool) (m : ℕ) → length p ≡ length us → m < length (pending us p) → pending_at m p < length us
pending_at-below [] p m l h = absurd (omega (arith, h))
pending_at-below (u ∷ us) [] m l h = absurd (omega (arith, h))
pending_at-below (u ∷ us) (false ∷ p) m l h = let i = pending_at-below us p m (omega arith) h in omega arith
pending_at-below (u ∷ us) (true ∷ p) zero l h = omega arith
pending_at-below (u ∷ us) (true ∷ p) (suc m) l h = let i = pending_at-below us p m (omega arith) (omega (arith, h)) in omega arith

-- where a run stays, more units are pending than are reported
later_more : (k : ℕ) (us : List Unit) (p : List Bool) → non_empty (later_runs k us p) ≡ true → length (join (reported_runs k us p)) < length (pending us p)
later_more k us p more =
    let rs = runs (pending us p) in
    let Some = join-some (later_runs k us p) (All-drop Full k rs (runs-full (pending us p))) more in
    omega (arith, Some, length-append (join (take k rs)) (join (drop k rs)), ap length (join-take-drop k rs), ap length (runs-join (pending us p)))
  where
    join-some : (rs : List (List Unit)) → All Full rs → non_empty rs ≡ true → 1 ≤ length (join rs)
    join-some [] f e = absurd (true≢false (sym e))
    join-some ([] ∷ rs) f e = absurd f.0
    join-some ((u ∷ r) ∷ rs) f e = omega arith

module _ (k : ℕ) (us : List Unit) (p : List Bool) where
  -- a run stays: the group of its first unit, n
  pub groups-to : (n : ℕ) → length p ≡ length us → non_empty (later_runs k us p) ≡ true → slice_get p n ≡ Some true
      → length (pending (take n us) (take n p)) ≡ length (join (reported_runs k us p)) → groups_on k us p ≡ n / 64 + 1
  groups-to n l more e c = rw (more, pending_at-is us p (length (join (reported_runs k us p))) n l e c)

  -- which is that run's first
  pub groups-run : Apart us → All (λ (u : Unit). 0 < u.size) us → (n : ℕ) (u : Unit) (vs : List Unit) → slice_get (runs (pending us p)) k ≡ Some (u ∷ vs) → slice_get us n ≡ Some u
      → groups_on k us p ≡ n / 64 + 1
  groups-run apart sized n u vs e f =
      let rs = runs (pending us p) in
      let d : drop k rs ≡ (u ∷ vs) ∷ drop (suc k) rs = run-there k rs (u ∷ vs) e in
      let m = length (join (take k rs)) in
      let behind : drop m (pending us p) ≡ u ∷ (vs ++ join (drop (suc k) rs)) = ap (drop m) (sym (runs-join (pending us p)) ∙ sym (join-take-drop k rs)) ∙ drop_at (join (take k rs)) (join (drop k rs)) m refl ∙ ap join d in
      let at : slice_get us (pending_at m p) ≡ Some u = pending_at-unit us p m u (vs ++ join (drop (suc k) rs)) behind in
      let same : pending_at m p ≡ n = Apart-at us apart (pending_at m p) n u u at f u.address (omega arith, omega (arith, All-at (λ (v : Unit). 0 < v.size) us n u sized f)) (omega arith, omega (arith, All-at (λ (v : Unit). 0 < v.size) us n u sized f)) in
      rw (ap non_empty d, same)

  -- none stays: all groups
  pub groups-all : non_empty (later_runs k us p) ≡ false → groups_on k us p ≡ (length us + 63) / 64
  groups-all e = rw e

  -- no more than the units have, so of 16,384 at most 256
  pub groups-most : length p ≡ length us → length us ≤ 16384 → groups_on k us p ≤ 256
  groups-most l h = go (non_empty (later_runs k us p)) refl
    where
      go : (b : Bool) → non_empty (later_runs k us p) ≡ b → groups_on k us p ≤ 256
      go true e = let i = pending_at-below us p (length (join (reported_runs k us p))) l (later_more k us p e) in rw e (omega (arith, i, h))
      go false e = rw e (omega (arith, h))

-- ---- a report is told by the groups that it examined

-- the first k runs of two lists are the same, and the second has one more
abbrev Told : ℕ → List (List Unit) → List (List Unit) → Type 0
Told k rs ss = (take k ss ≡ take k rs) × (non_empty (drop k ss) ≡ true)

-- with a first unit there is a run that begins with it
first-is : (v : Unit) (xs : List (List Unit)) → (r : List Unit) × (rs : List (List Unit)) × (with_first v xs ≡ (v ∷ r) ∷ rs)
first-is v [] = ([], [], refl)
first-is v ([] ∷ rs) = ([], rs, refl)
first-is v ((w ∷ ws) ∷ rs) = go (follows v w) refl
  where
    go : (b : Bool) → follows v w ≡ b → (r : List Unit) × (ss : List (List Unit)) × (with_first v ((w ∷ ws) ∷ rs) ≡ (v ∷ r) ∷ ss)
    go true e = (w ∷ ws, rs, rw e)
    go false e = ([], (w ∷ ws) ∷ rs, rw e)

abbrev lengthen : Unit → List (List Unit) → List (List Unit)
lengthen u [] = []
lengthen u (r ∷ rs) = (u ∷ r) ∷ rs

with-told : (u v : Unit) (r s : List Unit) (rs ss : List (List Unit)) (k n : ℕ)
    → ((j : ℕ) → length (join (take j ((v ∷ r) ∷ rs))) < n → Told j ((v ∷ r) ∷ rs) ((v ∷ s) ∷ ss))
    → length (join (take k (with_first u ((v ∷ r) ∷ rs)))) < suc n → Told k (with_first u ((v ∷ r) ∷ rs)) (with_first u ((v ∷ s) ∷ ss))
with-told u v r s rs ss k n ih h = go (follows u v) k h
  where
    go : (b : Bool) (k : ℕ) → length (join (take k (cond b ((u ∷ v ∷ r) ∷ rs) ((u ∷ []) ∷ (v ∷ r) ∷ rs)))) < suc n
        → Told k (cond b ((u ∷ v ∷ r) ∷ rs) ((u ∷ []) ∷ (v ∷ r) ∷ rs)) (cond b ((u ∷ v ∷ s) ∷ ss) ((u ∷ []) ∷ (v ∷ s) ∷ ss))
    go true zero l = (refl, refl)
    go true (suc k) l = let t = ih (suc k) (omega (arith, l)) in (ap (lengthen u) t.0, t.1)
    go false zero l = (refl, refl)
    go false (suc k) l = let t = ih k (omega (arith, l)) in (ap (λ q. (u ∷ []) ∷ q) t.0, t.1)

-- the first k runs of a list, where run k + 1 begins in its first part, are told by that part
told : (ws ps qs : List Unit) (k : ℕ) → length (join (take k (runs (ws ++ ps)))) < length ws → Told k (runs (ws ++ ps)) (runs (ws ++ qs))
told [] ps qs k h = absurd (omega (arith, h))
told (u ∷ []) ps qs k h = go k h
  where
    go : (k : ℕ) → length (join (take k (with_first u (runs ps)))) < 1 → Told k (with_first u (runs ps)) (with_first u (runs qs))
    go zero l = (refl, ap non_empty (first-is u (runs qs)).2)
    go (suc k) l =
        let f = first-is u (runs ps) in
        let e : length (join (take (suc k) (with_first u (runs ps)))) ≡ length (join (take (suc k) ((u ∷ f.0) ∷ f.1))) = ap (λ xs. length (join (take (suc k) xs))) f.2 in
        absurd (omega (arith, l, e))
told (u ∷ v ∷ ws) ps qs k h =
    let f = first-is v (runs (ws ++ ps)) in
    let g = first-is v (runs (ws ++ qs)) in
    let ih : (j : ℕ) → length (join (take j ((v ∷ f.0) ∷ f.1))) < suc (length ws) → Told j ((v ∷ f.0) ∷ f.1) ((v ∷ g.0) ∷ g.1) =
    λ j l. rw (f.2, g.2) at (told (v ∷ ws) ps qs j (rw f.2 l)) in
    let last : length (join (take k (with_first u ((v ∷ f.0) ∷ f.1)))) < suc (suc (length ws)) = rw f.2 at h in
    rw (f.2, g.2) (with-told u v f.0 g.0 f.1 g.1 k (suc (length ws)) ih last)

-- a unit before the end of a part, and so many pending before it, are told by that part
pending_at-same : (p q : List Bool) (m n : ℕ) → length q ≡ length p → take n q ≡ take n p → pending_at m p < n → pending_at m q ≡ pending_at m p
pending_at-same [] [] m n l e h = refl
pending_at-same [] (c ∷ q) m n l e h = absurd (omega (arith, l))
pending_at-same (b ∷ p) [] m n l e h = absurd (omega (arith, l))
pending_at-same (b ∷ p) (c ∷ q) m zero l e h = absurd (omega (arith, h))
pending_at-same (b ∷ p) (c ∷ q) m (suc n) l e h =
    let s : c ≡ b = cc in
    let r : take n q ≡ take n p = cc in
    rw s (go b m h (λ m k. pending_at-same p q m n (omega (arith, l)) r k))
  where
    go : (b : Bool) (m : ℕ) → pending_at m (b ∷ p) < suc n → ((m : ℕ) → pending_at m p < n → pending_at m q ≡ pending_at m p) → pending_at m (b ∷ q) ≡ pending_at m (b ∷ p)
    go true zero k ih = refl
    go true (suc m) k ih = ap suc (ih m (omega (arith, k)))
    go false m k ih = ap suc (ih m (omega (arith, k)))

pending-passed : (us : List Unit) (p : List Bool) (m n : ℕ) → length p ≡ length us → pending_at m p < n → m < length (pending us p) → m < length (pending (take n us) (take n p))
pending-passed [] p m n l h k = absurd (omega (arith, k))
pending-passed (u ∷ us) [] m n l h k = absurd (omega (arith, k))
pending-passed (u ∷ us) (b ∷ p) m zero l h k = absurd (omega (arith, h))
pending-passed (u ∷ us) (true ∷ p) zero (suc n) l h k = omega arith
pending-passed (u ∷ us) (true ∷ p) (suc m) (suc n) l h k = let i = pending-passed us p m n (omega (arith, l)) (omega (arith, h)) (omega (arith, k)) in omega (arith, i)
pending-passed (u ∷ us) (false ∷ p) m (suc n) l h k = pending-passed us p m n (omega (arith, l)) (omega (arith, h)) k

-- so a report is the same for marks that are the same up to where run k + 1 begins
same-to : (b : Bool) (g k : ℕ) (us : List Unit) (p q : List Bool) (n : ℕ) → length p ≡ length us → length q ≡ length p → non_empty (later_runs k us p) ≡ true
    → pending_at (length (join (reported_runs k us p))) p < n → take n q ≡ take n p → report_on b g k us q ≡ report_on b g k us p
same-to b g k us p q n l l' more inside e =
    let ws = pending (take n us) (take n p) in
    let ps = pending (drop n us) (drop n p) in
    let qs = pending (drop n us) (drop n q) in
    let split-p : pending us p ≡ ws ++ ps = pending-split n us p in
    let split-q : pending us q ≡ ws ++ qs = pending-split n us q ∙ ap (λ x. pending (take n us) x ++ qs) e in
    let few : length (join (take k (runs (ws ++ ps)))) < length ws =
    omega (arith, ap (λ x. length (join (take k (runs x)))) split-p, pending-passed us p (length (join (reported_runs k us p))) n l inside (later_more k us p more)) in
    let t = told ws ps qs k few in
    let reported : reported_runs k us q ≡ reported_runs k us p = ap (λ x. take k (runs x)) split-q ∙ t.0 ∙ sym (ap (λ x. take k (runs x)) split-p) in
    let stays : non_empty (later_runs k us q) ≡ true = ap (λ x. non_empty (drop k (runs x))) split-q ∙ t.1 in
    rw (reported, stays, more, pending_at-same p q (length (join (reported_runs k us p))) n l' e inside)

pub no_further : (b : Bool) (g k : ℕ) (us : List Unit) (p q : List Bool) → length p ≡ length us → length q ≡ length p
    → take (64 * groups_on k us p) q ≡ take (64 * groups_on k us p) p → report_on b g k us q ≡ report_on b g k us p
no_further b g k us p q l l' e = go (non_empty (later_runs k us p)) refl
  where
    go : (c : Bool) → non_empty (later_runs k us p) ≡ c → report_on b g k us q ≡ report_on b g k us p
    go false e' =
        let long : length p ≤ 64 * groups_on k us p = omega (arith, groups-all k us p e', l) in
        ap (report_on b g k us) (sym (take_all (64 * groups_on k us p) q (omega (arith, long, l'))) ∙ e ∙ take_all (64 * groups_on k us p) p long)
    go true more =
        let is : groups_on k us p ≡ pending_at (length (join (reported_runs k us p))) p / 64 + 1 = rw more in
        same-to b g k us p q (64 * groups_on k us p) l l' more (omega (arith, is)) e
