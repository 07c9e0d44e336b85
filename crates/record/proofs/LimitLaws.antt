-- Laws of the weights and the limits: where each controller holds what it may the weights are the counts, the first manager's are its counts, and the rest are the
-- second one's (W12). All of it is the library's interface. Assumes nothing.
use Prim.Native.Nat.{ℕ, ◌+◌, ◌-◌, ◌≤◌}
use mathlib.Core.Path.{◌≡◌, refl, ap, sym, subst, ◌∙◌}
use mathlib.Core.Bool.{Bool, true, false, ◌&&◌, ◌||◌, cond, and-true, and-false, true≢false}
use mathlib.Core.List.{List, [], ◌∷◌, ◌++◌, map}
use Rattle.std.specs.declared.option.Option.{Option}
use Rattle.std.specs.declared.option.Option.TheVariants.{None, Some}
use native.Mathlib.Omega.{arith}
use lib.Dec.{leb, eqb}
use borrow.Author.Tests.{eqb-true, eq-eqb, ne_eqb}
use Rattle.rules.specs.Lists.{all, every, sum, member}
use Rattle.rules.specs.Settings.{settings_ok, seconds, managers_of, is_manager, second_limit, limit_of}
use Rattle.rules.specs.Device.{Held, held_count, held_count_by, held_in, held_of, held_ok, counts_by, is_within}
use Rattle.rules.specs.declared.Range.{Range}
use Rattle.rules.specs.declared.Tracking.{Tracking}
use Rattle.rules.specs.declared.Tracking.TheVariants.{Off, On}
use Rattle.rules.specs.declared.Second.{Second}
use Rattle.rules.specs.declared.Controller.{Controller}
use Rattle.rules.specs.declared.Settings.{Settings}
use Rattle.rules.proofs.ListLaws.{and_left, and_right, or_cases}
use Rattle.settings.proofs.SettingsLaws.{settings_ok-other}
use Rattle.record.specs.Record.{weight_of, first_weight_of}
use Rattle.record.specs.Inner.{within_limits}

-- ---- the weights

-- where each controller holds what it may they are the counts, and else more than every limit
pub weights-counts : (s : Settings) (cs : List Controller) → all (λ c. held_ok s (held_of c)) cs ≡ true → sum (map (weight_of s) cs) ≡ sum (map held_count (map held_of cs))
weights-counts s [] e = refl
weights-counts s (c ∷ cs) e =
    rw (and_left (held_ok s (held_of c)) (all (λ c. held_ok s (held_of c)) cs) e, weights-counts s cs (and_right (held_ok s (held_of c)) (all (λ c. held_ok s (held_of c)) cs) e))

pub weights-heavy : (s : Settings) (cs : List Controller) → all (λ c. held_ok s (held_of c)) cs ≡ false → 65536 ≤ sum (map (weight_of s) cs)
weights-heavy s [] e = absurd (true≢false e)
weights-heavy s (c ∷ cs) e = go (held_ok s (held_of c)) (weights-heavy s cs) e
  where
    go : (b : Bool) → (all (λ c. held_ok s (held_of c)) cs ≡ false → 65536 ≤ sum (map (weight_of s) cs)) → (b && all (λ c. held_ok s (held_of c)) cs) ≡ false
        → 65536 ≤ cond b (held_count (held_of c)) 65536 + sum (map (weight_of s) cs)
    go true ih f = omega (arith, ih f)
    go false ih f = omega arith

-- so where they are within a limit each holds what it may
pub weights-held : (s : Settings) (cs : List Controller) → sum (map (weight_of s) cs) ≤ 128 → all (λ c. held_ok s (held_of c)) cs ≡ true
weights-held s cs h = go (all (λ c. held_ok s (held_of c)) cs) refl
  where
    go : (b : Bool) → all (λ c. held_ok s (held_of c)) cs ≡ b → b ≡ true
    go true e = refl
    go false e = absurd (omega (arith, weights-heavy s cs e))

-- ---- W12: whose they are

-- the counts for the second manager, if there is one
abbrev second_count : Option Second → Option Held → ℕ
second_count None h = 0
second_count (Some two) h = held_count_by two.id h

abbrev second_counts : Option Second → List (Option Held) → ℕ
second_counts x hs = sum (map (second_count x) hs)

module _ (s : Settings) where
  -- of one controller: what counts for the first manager
  first_count : (m : ℕ) (t : Tracking) (rs : List Range) → held_ok s (held_in t m rs) ≡ true
      → cond (eqb m s.manager) (cond (held_ok s (held_in t m rs)) (held_count (held_in t m rs)) 65536) 0 ≡ held_count_by s.manager (held_in t m rs)
  first_count m Off rs e = rw e (go (eqb m s.manager))
    where
      go : (b : Bool) → ◌≡◌ {A = ℕ} (cond b 0 0) 0
      go true = refl
      go false = refl
  first_count m (On g n) rs e = rw e

  pub firsts-counts : (cs : List Controller) → all (λ c. held_ok s (held_of c)) cs ≡ true → sum (map (first_weight_of s) cs) ≡ counts_by s.manager (map held_of cs)
  firsts-counts [] e = refl
  firsts-counts (c ∷ cs) e =
      let rest = all (λ c. held_ok s (held_of c)) cs in
      omega (arith, first_count c.manager c.tracking c.ranges (and_left (held_ok s (held_of c)) rest e), firsts-counts cs (and_right (held_ok s (held_of c)) rest e))

  module _ (ok : settings_ok s ≡ true) where
    -- a manager is the first one or the second
    one_of : (m : ℕ) → is_manager s m ≡ true → (x : Option Second) → s.second ≡ x → (n : ℕ) → n ≡ cond (eqb m s.manager) n 0 + second_count x (Some (record { manager = m; granularity = 0; count = n; ranges = [] }))
    unfolding is_manager
    one_of m k None q n =
        or_cases (eqb s.manager m) false (n ≡ cond (eqb m s.manager) n 0 + 0) (subst (λ y. (eqb s.manager m || member m (seconds y)) ≡ true) q k)
        (λ p. rw (eq-eqb m s.manager (sym (eqb-true s.manager m p))) (omega arith))
        (λ p. absurd (true≢false (sym p)))
    one_of m k (Some two) q n =
        let other = (settings_ok-other s two ok q).0 in
        or_cases (eqb s.manager m) (eqb two.id m || false) (n ≡ cond (eqb m s.manager) n 0 + cond (eqb m two.id) n 0) (subst (λ y. (eqb s.manager m || member m (seconds y)) ≡ true) q k)
        (λ p.
        let z = eqb-true s.manager m p in
        rw (eq-eqb m s.manager (sym z), ne_eqb m two.id (λ w. other (sym (z ∙ w)))) (omega arith))
        (λ p.
        let z = or_cases (eqb two.id m) false (two.id ≡ m) p (λ w. eqb-true two.id m w) (λ w. absurd (true≢false (sym w))) in
        rw (ne_eqb m s.manager (λ w. other (z ∙ w)), eq-eqb m two.id (sym z)) (omega arith))

    both-count : (m : ℕ) (t : Tracking) (rs : List Range) → held_ok s (held_in t m rs) ≡ true
        → held_count (held_in t m rs) ≡ held_count_by s.manager (held_in t m rs) + second_count s.second (held_in t m rs)
    unfolding held_ok
    both-count m Off rs e = omega (arith, go s.second)
      where
        go : (x : Option Second) → ◌≡◌ {A = ℕ} 0 (second_count x None)
        go None = refl
        go (Some two) = refl
    both-count m (On g n) rs e = go s.second refl (one_of m (and_left (is_manager s m) _ e))
      where
        go : (x : Option Second) → s.second ≡ x
            → ((y : Option Second) → s.second ≡ y → (n : ℕ) → n ≡ cond (eqb m s.manager) n 0 + second_count y (Some (record { manager = m; granularity = 0; count = n; ranges = [] })))
            → n ≡ cond (eqb m s.manager) n 0 + second_count x (held_in (On g n) m rs)
        go None q f = f None q n
        go (Some two) q f = f (Some (record { id = two.id; limit = two.limit })) q n

    both-counts : (cs : List Controller) → all (λ c. held_ok s (held_of c)) cs ≡ true
        → sum (map held_count (map held_of cs)) ≡ counts_by s.manager (map held_of cs) + second_counts s.second (map held_of cs)
    both-counts [] e = refl
    both-counts (c ∷ cs) e =
        let rest = all (λ c. held_ok s (held_of c)) cs in
        omega (arith, both-count c.manager c.tracking c.ranges (and_left (held_ok s (held_of c)) rest e), both-counts cs (and_right (held_ok s (held_of c)) rest e))

    module _ (cs : List Controller) (e : all (λ c. held_ok s (held_of c)) cs ≡ true) where
      -- the weights that are not the first manager's
      rest-counts : sum (map (weight_of s) cs) - sum (map (first_weight_of s) cs) ≡ second_counts s.second (map held_of cs)
      rest-counts = omega (arith, weights-counts s cs e, firsts-counts cs e, both-counts cs e)

      pub rest-managed : (m : ℕ) → is_manager s m ≡ true → (m ≡ s.manager → ⊥) → sum (map (weight_of s) cs) - sum (map (first_weight_of s) cs) ≡ counts_by m (map held_of cs)
      unfolding is_manager
      rest-managed m k f = rest-counts ∙ go s.second k
        where
          go : (x : Option Second) → (eqb s.manager m || member m (seconds x)) ≡ true → second_counts x (map held_of cs) ≡ counts_by m (map held_of cs)
          go None k = or_cases (eqb s.manager m) false _ k (λ p. absurd (f (sym (eqb-true s.manager m p)))) (λ p. absurd (true≢false (sym p)))
          go (Some two) k =
              or_cases (eqb s.manager m) (eqb two.id m || false) _ k (λ p. absurd (f (sym (eqb-true s.manager m p))))
              (λ p. or_cases (eqb two.id m) false _ p (λ w. ap (λ i. counts_by i (map held_of cs)) (eqb-true two.id m w)) (λ w. absurd (true≢false (sym w))))

      -- so the tests of the weights are the rules of the counts
      none-counts : (hs : List (Option Held)) → second_counts None hs ≡ 0
      none-counts [] = refl
      none-counts (h ∷ hs) = omega (arith, none-counts hs)

      within-are : (x : Option Second) → s.second ≡ x → (hs : List (Option Held))
          → all (is_within s hs) (s.manager ∷ seconds x) ≡ (leb (counts_by s.manager hs) s.limit && leb (second_counts x hs) (second_limit x))
      unfolding limit_of
      within-are None q hs = rw (eq-eqb s.manager s.manager refl, none-counts hs)
      within-are (Some two) q hs =
          rw (eq-eqb s.manager s.manager refl, ne_eqb two.id s.manager (settings_ok-other s two ok q).0, q)
          (ap (λ b. leb (counts_by s.manager hs) s.limit && b) (and-true (leb (counts_by two.id hs) two.limit)))

      pub limits-are : within_limits s (sum (map (first_weight_of s) cs)) (sum (map (weight_of s) cs)) ≡ (all (is_within s (map held_of cs)) (managers_of s) && leb (sum (map held_count (map held_of cs))) s.shelf)
      limits-are =
          rw (rest-counts, firsts-counts cs e, weights-counts s cs e)
          (and-swap (leb (sum (map held_count (map held_of cs))) s.shelf) _ ∙ ap (λ b. b && leb (sum (map held_count (map held_of cs))) s.shelf) (sym (within-are s.second refl (map held_of cs))))
        where
          and-swap : (a b : Bool) → (a && b) ≡ (b && a)
          and-swap true b = sym (and-true b)
          and-swap false b = sym (and-false b)

-- two rules one after another, of which both together are broken
pub every-both : (front : List Bool) (a b : Bool) (rest : List Bool) → (a && b) ≡ false → every (front ++ a ∷ b ∷ rest) ≡ false
every-both [] true b rest e = rw e
every-both [] false b rest e = refl
every-both (true ∷ front) a b rest e = every-both front a b rest e
every-both (false ∷ front) a b rest e = refl
