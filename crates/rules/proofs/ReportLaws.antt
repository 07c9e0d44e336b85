-- What a report lists, clears and leaves, unit by unit; and the count of a write. Assumes nothing.
use mathlib.Core.Path.{◌≡◌, refl, sym, ap, subst, ◌∙◌}
use mathlib.Core.Logic.{◌↔◌}
use mathlib.Core.Bool.{Bool, true, false, ◌&&◌, not, cond, and-true, and-false, true≢false}
use mathlib.Core.List.{List, [], ◌∷◌, map}
use Rattle.std.specs.declared.option.Option.TheVariants.{Some}
use Prim.Native.Nat.{ℕ, zero, suc, ◌+◌, ◌≤◌, ◌<◌}
use native.Mathlib.Omega.{arith}
use lib.Dec.{eqb}
use borrow.Author.Tests.{eqb-true, eq-eqb}
use lib.ListN.{length, take, drop, length-map}
use Rattle.std.specs.List.{slice_get}
use Rattle.rules.specs.Lists.{all, join, non_empty}
use Rattle.rules.specs.Settings.{unit_size}
use Rattle.rules.specs.Units.{Unit, Write, touches, mark, newly, pending}
use Rattle.rules.specs.Report.{follows, with_first, runs, reported_runs, marks_left}
use Rattle.rules.specs.Demands.{is_row, are_cut, becomes, set_in, Runs, Reports, Writes}
use Rattle.rules.proofs.ListLaws.{All, All-map, All-left, All-at, map_at, join-take-drop, and_left, and_right, and_intro, not-intro}
use Rattle.rules.proofs.UnitLaws.{Free, Apart, Sized, All-pending, Apart-pending, newly-is, unit_size-pos}
use Rattle.rules.proofs.GroupLaws.{run_none, groups-run, groups-all, groups-most, no_further}
use Rattle.rules.proofs.RunLaws.{listed, runs-join, runs-unlisted, first_runs, marks_left-map, more-exactly}

-- ---- runs are cut where the next unit does not follow, and nowhere else

abbrev Cut : List (List Unit) → Type 0
Cut rs = (all is_row rs ≡ true) × (are_cut rs ≡ true)

with_first-cut : (u : Unit) (rs : List (List Unit)) → Cut rs → Cut (with_first u rs)
with_first-cut u [] h = (refl, refl)
with_first-cut u ([] ∷ rs) h = absurd (true≢false (sym h.0))
with_first-cut u ((v ∷ vs) ∷ rs) h = go (follows u v) refl rs h
  where
    longer : (rs : List (List Unit)) → are_cut ((v ∷ vs) ∷ rs) ≡ are_cut ((u ∷ v ∷ vs) ∷ rs)
    longer [] = refl
    longer ([] ∷ rs) = refl
    longer ((w ∷ ws) ∷ rs) = refl

    go : (b : Bool) → follows u v ≡ b → (rs : List (List Unit)) → Cut ((v ∷ vs) ∷ rs) → Cut (cond b ((u ∷ v ∷ vs) ∷ rs) ((u ∷ []) ∷ (v ∷ vs) ∷ rs))
    go true e rs h = (rw e h.0, sym (longer rs) ∙ h.1)
    go false e rs h = (h.0, and_intro (not (follows u v)) (are_cut ((v ∷ vs) ∷ rs)) (not-intro (follows u v) e) h.1)

runs-cut : (us : List Unit) → Cut (runs us)
runs-cut [] = (refl, refl)
runs-cut (u ∷ us) = with_first-cut u (runs us) (runs-cut us)

-- ---- a unit that is not pending shares no byte with one that is, so it is not listed

free-sym : (u v : Unit) → Free u v → Free v u
free-sym u v f x i j = f x j i

pending-free : (f : Unit → Bool) (us : List Unit) → Apart us → All (λ u. f u ≡ false → All (λ v. Free v u) (pending us (map f us))) us
pending-free f [] h = tt
pending-free f (u ∷ us) h = go (f u) refl (pending-free f us h.1)
  where
    beside : All (λ v. Free v u) (pending us (map f us))
    beside = All-pending (λ v. Free v u) us (map f us) (All-map (λ v. free-sym u v) us h.0)

    with-u : (ws : List Unit) → All (Free u) ws → All (λ w. f w ≡ false → All (λ v. Free v w) (pending us (map f us))) ws
        → All (λ w. f w ≡ false → All (λ v. Free v w) (u ∷ pending us (map f us))) ws
    with-u [] a b = tt
    with-u (w ∷ ws) a b = ((λ e. (a.0, b.0 e)), with-u ws a.1 b.1)

    go : (b : Bool) → f u ≡ b → All (λ w. f w ≡ false → All (λ v. Free v w) (pending us (map f us))) us
        → All (λ w. f w ≡ false → All (λ v. Free v w) (pending (u ∷ us) (b ∷ map f us))) (u ∷ us)
    go true e ih = ((λ q. absurd (true≢false (sym e ∙ q))), with-u us h.0 ih)
    go false e ih = ((λ q. beside), ih)

module _ (f : Unit → Bool) (g k : ℕ) (us : List Unit) (sized : Sized (unit_size g) us) (separate : Apart us) (n : ℕ) (u : Unit) (at : slice_get us n ≡ Some u) where
  unlisted : f u ≡ false → listed g (reported_runs k us (map f us)) u ≡ false
  unlisted e =
      runs-unlisted g (reported_runs k us (map f us)) u
      (subst (λ s. 0 < s) (sym (All-at (λ v. v.size ≡ unit_size g) us n u sized at)) (unit_size-pos g))
      (first_runs g (pending us (map f us)) (All-pending (λ v. v.size ≡ unit_size g) us (map f us) sized) (Apart-pending us (map f us) separate) k)
      (All-left (λ v. Free v u) (join (reported_runs k us (map f us))) (join (drop k (runs (pending us (map f us)))))
      (subst (All (λ v. Free v u)) (sym (join-take-drop k (runs (pending us (map f us))) ∙ runs-join (pending us (map f us))))
      (All-at (λ v. f v ≡ false → All (λ w. Free w v) (pending us (map f us))) us n u (pending-free f us separate) at e)))

  pub listed-pending : listed g (reported_runs k us (map f us)) u ≡ true → slice_get (map f us) n ≡ Some true
  listed-pending e = map_at f us n u at ∙ ap Some (go (f u) refl)
    where
      go : (b : Bool) → f u ≡ b → b ≡ true
      go true q = refl
      go false q = absurd (true≢false (sym e ∙ unlisted q))

  left_at : slice_get (marks_left k us (map f us)) n ≡ Some (f u && not (listed g (reported_runs k us (map f us)) u))
  left_at =
      ap (λ l. slice_get l n) (marks_left-map f g k us sized separate)
      ∙ map_at (λ v. f v && not (listed g (reported_runs k us (map f us)) v)) us n u at

  pub listed-clear : listed g (reported_runs k us (map f us)) u ≡ true → slice_get (marks_left k us (map f us)) n ≡ Some false
  listed-clear e = left_at ∙ rw e (ap Some (and-false (f u)))

  pub unlisted-same : listed g (reported_runs k us (map f us)) u ≡ false → slice_get (marks_left k us (map f us)) n ≡ slice_get (map f us) n
  unlisted-same e = left_at ∙ rw e (ap Some (and-true (f u))) ∙ sym (map_at f us n u at)

-- ---- pending units, in order

pending-each : (us : List Unit) (p : List Bool) (n : ℕ) (u : Unit) → slice_get us n ≡ Some u → slice_get p n ≡ Some true → slice_get (pending us p) (set_in (take n p)) ≡ Some u
pending-each [] p n u e f = let z : ◌≡◌ {A = ℕ} 0 1 = cc in absurd (omega arith)
pending-each (v ∷ us) [] n u e f = let z : ◌≡◌ {A = ℕ} 0 1 = cc in absurd (omega arith)
pending-each (v ∷ us) (true ∷ p) zero u e f = e
pending-each (v ∷ us) (true ∷ p) (suc n) u e f = pending-each us p n u e f
pending-each (v ∷ us) (false ∷ p) zero u e f = let z : ◌≡◌ {A = ℕ} 0 1 = cc in absurd (omega arith)
pending-each (v ∷ us) (false ∷ p) (suc n) u e f = pending-each us p n u e f

pending-no-more : (us : List Unit) (p : List Bool) → length (pending us p) ≤ set_in p
pending-no-more [] p = omega arith
pending-no-more (u ∷ us) [] = omega arith
pending-no-more (u ∷ us) (true ∷ p) = omega (arith, pending-no-more us p)
pending-no-more (u ∷ us) (false ∷ p) = pending-no-more us p

-- when a unit follows another, and what tells of a run
pub runs-are : Runs
runs-are =
    record {
      follows = λ u v. (
        (λ e. (
          eqb-true u.row v.row (and_left (eqb u.row v.row) (eqb (u.address + u.size) v.address) e),
          eqb-true (u.address + u.size) v.address (and_right (eqb u.row v.row) (eqb (u.address + u.size) v.address) e),
        )),
        (λ h. and_intro (eqb u.row v.row) (eqb (u.address + u.size) v.address) (eq-eqb u.row v.row h.0) (eq-eqb (u.address + u.size) v.address h.1)),
      );
      descriptor = λ u us. refl;
    }

non_empty-not : (us : List Unit) → (non_empty us ≡ false) ↔ (us ≡ [])
non_empty-not [] = ((λ e. refl), (λ e. refl))
non_empty-not (u ∷ us) = ((λ e. absurd (true≢false e)), (λ e. ap non_empty e))

-- a unit has a byte
sized-some : (g : ℕ) (us : List Unit) → Sized (unit_size g) us → All (λ (u : Unit). 0 < u.size) us
sized-some g [] h = tt
sized-some g (u ∷ us) h = (omega (arith, h.0, unit_size-pos g), sized-some g us h.1)

-- marks that are a function of the unit, as a session leaves them
pub reports-map : (b : Bool) (f : Unit → Bool) (g k : ℕ) (us : List Unit) → Sized (unit_size g) us → Apart us → Reports b g k us (map f us)
reports-map b f g k us sized separate =
    record {
      are_pending = record { each = pending-each us (map f us); no_more = pending-no-more us (map f us) };
      in_order = runs-join (pending us (map f us));
      rows = (runs-cut (pending us (map f us))).0;
      longest = (runs-cut (pending us (map f us))).1;
      earliest = refl;
      was_pending = λ n u at e. listed-pending f g k us sized separate n u at e;
      clear_afterwards = λ n u at e. listed-clear f g k us sized separate n u at e;
      else_unchanged = λ n u at e. unlisted-same f g k us sized separate n u at e;
      more = (
        (λ e. (non_empty-not (pending us (marks_left k us (map f us)))).0 (sym (more-exactly b g k us (map f us)) ∙ e)),
        (λ e. more-exactly b g k us (map f us) ∙ (non_empty-not (pending us (marks_left k us (map f us)))).1 e),
      );
      examined = λ n u vs e h. groups-run k us (map f us) separate (sized-some g us sized) n u vs e h;
      examined_all = λ e. groups-all k us (map f us) ((run_none k (runs (pending us (map f us)))).1 e);
      stays = run_none k (runs (pending us (map f us)));
      examined_most = λ few. groups-most k us (map f us) (length-map us f) few;
      no_further = λ q l e. no_further b g k us (map f us) q (length-map us f) l e;
    }

-- ---- the count of a write

newly-becomes : (w : Write) (us : List Unit) (p : List Bool) → newly w us p ≡ becomes p (mark w us p)
newly-becomes w [] [] = refl
newly-becomes w [] (true ∷ p) = refl
newly-becomes w [] (false ∷ p) = refl
newly-becomes w (u ∷ us) [] = refl
newly-becomes w (u ∷ us) (true ∷ p) = go (touches w u) (newly-becomes w us p)
  where
    go : (t : Bool) → newly w us p ≡ becomes p (mark w us p) → cond (t && false) 1 0 + newly w us p ≡ becomes p (mark w us p)
    go true e = omega arith
    go false e = omega arith
newly-becomes w (u ∷ us) (false ∷ p) = go (touches w u) (newly-becomes w us p)
  where
    go : (t : Bool) → newly w us p ≡ becomes p (mark w us p) → cond (t && true) 1 0 + newly w us p ≡ becomes (false ∷ p) (t ∷ mark w us p)
    go true e = omega arith
    go false e = omega arith

pub writes-always : (w : Write) (us : List Unit) (p : List Bool) → Writes w us p
writes-always w us p = record { count = newly-becomes w us p; grows = newly-is w us p }
