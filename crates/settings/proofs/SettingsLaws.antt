-- Laws of the settings: what settings that pass 16 are known by, and that one broken rule is enough. All of it is the library's interface.
-- Assumes nothing.
use Prim.Native.Nat.{ℕ, ◌+◌, ◌<◌, ◌≤◌}
use mathlib.Core.Path.{◌≡◌, refl, sym, ap, subst, ◌∙◌}
use mathlib.Core.Bool.{Bool, true, false, not, true≢false}
use mathlib.Core.List.{List, [], ◌∷◌, ◌++◌}
use lib.Dec.{leb, eqb}
use lib.ListN.{length, get_or, take, drop}
use borrow.Author.Tests.{leb-true, eq-eqb, not-true}
use Rattle.rules.specs.Lists.{every, member, different}
use Rattle.rules.specs.Settings.{identifiers_of, second_rules, settings_rules, settings_ok, granularity_ok}
use Rattle.std.specs.declared.option.Option.TheVariants.{Some}
use Rattle.rules.specs.declared.Second.{Second}
use Rattle.rules.specs.declared.Settings.{Settings}
use Rattle.rules.proofs.ListLaws.{every-at, member-not, and_right}
use Rattle.rules.proofs.LoopLaws.{pairs-miss, pairs_next}

-- ---- all different: a loop over the first n, at i

module _ (xs : List ℕ) (n i : ℕ) (h : i < n) (k : i < length xs) where
  pub different-miss : member (get_or xs i 0) (drop (i + 1) (take n xs)) ≡ true → different (drop i (take n xs)) ≡ false
  different-miss e = pairs-miss (λ x y. not (eqb x y)) xs n i 0 h k (member-not (get_or xs i 0) (drop (i + 1) (take n xs)) ∙ ap not e)

  pub different-next : member (get_or xs i 0) (drop (i + 1) (take n xs)) ≡ false → different (drop i (take n xs)) ≡ different (drop (i + 1) (take n xs))
  different-next e = pairs_next (λ x y. not (eqb x y)) xs n i 0 h k (member-not (get_or xs i 0) (drop (i + 1) (take n xs)) ∙ ap not e)

-- ---- 16

-- the rule at a place, where all hold; and where it is broken
pub settings_ok-at : (s : Settings) (k : ℕ) → settings_ok s ≡ true → get_or (settings_rules s) k true ≡ true
unfolding settings_ok
settings_ok-at s k e = every-at (settings_rules s) k e

-- a second manager that breaks a rule of its own is enough
pub settings_ok-second : (s : Settings) → every (second_rules s s.second) ≡ false → settings_ok s ≡ false
unfolding settings_ok
settings_ok-second s e = every-behind (take 8 (settings_rules s)) (second_rules s s.second) e
  where
    every-behind : (bs cs : List Bool) → every cs ≡ false → every (bs ++ cs) ≡ false
    every-behind [] cs e = e
    every-behind (true ∷ bs) cs e = every-behind bs cs e
    every-behind (false ∷ bs) cs e = refl

pub settings_ok-behind : (s : Settings) → settings_ok s ≡ true → every (second_rules s s.second) ≡ true
settings_ok-behind s e = go (every (second_rules s s.second)) refl
  where
    go : (b : Bool) → every (second_rules s s.second) ≡ b → b ≡ true
    go true q = refl
    go false q = absurd (true≢false (sym e ∙ settings_ok-second s q))

pub settings_ok-some : (s : Settings) → settings_ok s ≡ true → 1 ≤ s.count
settings_ok-some s e = leb-true 1 s.count (settings_ok-at s 0 e)

pub settings_ok-count : (s : Settings) → settings_ok s ≡ true → s.count ≤ 8
settings_ok-count s e = leb-true s.count 8 (settings_ok-at s 1 e)

pub settings_ok-greatest : (s : Settings) → settings_ok s ≡ true → s.greatest ≤ 20
settings_ok-greatest s e = leb-true s.greatest 20 (settings_ok-at s 5 e)

pub settings_ok-limit : (s : Settings) → settings_ok s ≡ true → s.limit ≤ 128
settings_ok-limit s e = leb-true s.limit 128 (settings_ok-at s 6 e)

pub settings_ok-shelf : (s : Settings) → settings_ok s ≡ true → s.shelf ≤ 128
settings_ok-shelf s e = leb-true s.shelf 128 (settings_ok-at s 7 e)

-- a second manager is another than the first, no controller, and has a limit of 0 to 128
pub settings_ok-other : (s : Settings) (two : Second) → settings_ok s ≡ true → s.second ≡ Some two → (two.id ≡ s.manager → ⊥) × (member two.id (identifiers_of s) ≡ false) × (two.limit ≤ 128)
settings_ok-other s two e q =
    let rule : (k : ℕ) → get_or (second_rules s (Some two)) k true ≡ true = λ k. every-at (second_rules s (Some two)) k (subst (λ x. every (second_rules s x) ≡ true) q (settings_ok-behind s e)) in (
      (λ z. true≢false (sym (rule 0) ∙ ap not (eq-eqb two.id s.manager z))),
      not-true _ (rule 1),
      leb-true two.limit 128 (rule 2),
    )

-- ---- 7

pub granularity_ok-greatest : (s : Settings) (g : ℕ) → granularity_ok s g ≡ true → g ≤ s.greatest
unfolding granularity_ok
granularity_ok-greatest s g e = leb-true g s.greatest (and_right (leb s.least g) (leb g s.greatest) e)
