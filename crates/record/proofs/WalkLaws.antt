-- Laws of the walk over the controllers: its weights, and that shares which lie one behind the other by as many units as they have at most do so by their units. All of
-- it is the library's interface. Assumes nothing.
use Prim.Native.Nat.{ℕ, zero, suc, ◌+◌, ◌*◌, ◌<◌, ◌≤◌}
use mathlib.Core.Path.{◌≡◌, refl, sym, ap, ◌∙◌}
use mathlib.Core.Logic.{◌≢◌}
use mathlib.Core.Bool.{Bool, true, false, ◌&&◌, cond, and-true, and_assoc}
use mathlib.Core.List.{List, [], ◌∷◌, ◌++◌, map}
use Rattle.std.specs.declared.option.Option.{Option}
use Rattle.std.specs.declared.option.Option.TheVariants.{None, Some}
use native.Mathlib.Omega.{arith}
use lib.Dec.{ltb, eqb}
use lib.ListN.{length, get_or, take}
use borrow.Author.Tests.{eqb-true, ltb-false, ne_eqb, lt-ltb, le-ltb}
use Rattle.rules.specs.Lists.{all, sum}
use Rattle.rules.specs.Settings.{most_units}
use Rattle.rules.specs.Queue.{queue_ok}
use Rattle.rules.specs.Device.{Held, held_count, held_of, held_ok, no_share, share_in, share_of, controllers_of, queues_ok}
use Rattle.rules.specs.declared.Share.{Share}
use Rattle.rules.specs.declared.Controller.{Controller}
use Rattle.rules.specs.declared.Settings.{Settings}
use Rattle.rules.specs.declared.Device.{Device}
use Rattle.rules.proofs.ListLaws.{and_left, and_right}
use Rattle.rules.specs.declared.Units.{Units}
use Rattle.std.specs.Option.{is_some}
use Rattle.ranges.specs.Kept.{most_of, most_in, kept_by}
use Rattle.ranges.proofs.RangeLaws.{units-most}
use Rattle.record.specs.Record.{no_controller, weight_of, first_weight_of, first_of, weights_of}
use Rattle.record.specs.Inner.{held_most, kept_in, end_after, walked_by, walk_from, nothing_walked, walk_of}
use Rattle.record.specs.declared.Walked.{Walked}
use Rattle.record.proofs.ShareLaws.{Lined, Lined-empty, Lined-more}

-- ---- how far it has come

-- units are kept exactly where the rules are
kept-some : (b : Bool) (n : ℕ) → is_some (kept_by b n) ≡ b
kept-some true n = refl
kept-some false n = refl

-- one controller more, by what it is found to hold
pub walked_by-is : (s : Settings) (w : Walked) (c : Controller) (k : Option Units) (own first end : ℕ) (queues : Bool) → k ≡ kept_in s (held_of c) → own ≡ cond (is_some k) (held_count (held_of c)) 65536
    → first ≡ cond (eqb c.manager s.manager) own 0 → end ≡ end_after w.end c.base (most_in k) → queues ≡ (w.queues && queue_ok c.queue) → record { weight = w.weight + own; first = w.first + first; end = end; queues = queues } ≡ walked_by s w c
unfolding walked_by
walked_by-is s w c k own first end queues e f i g q = rw (i, f, g, e, q, kept-some (held_ok s (held_of c)) (held_most (held_of c)))

-- a walk over the first k controllers; none of them weighs more than 65,536
pub record Reached (d : Device) (k : ℕ) (w : Walked) : Type 0 where
  pub walked : w ≡ walk_from d.settings nothing_walked (take k d.controllers)
  pub light : w.weight ≤ 65536 * k
  pub part : w.first ≤ w.weight

walk_from-more : (s : Settings) (w : Walked) (cs : List Controller) (k : ℕ) (c : Controller) → k < length cs
    → walk_from s w (take (suc k) cs) ≡ walked_by s (walk_from s w (take k cs)) (get_or cs k c)
walk_from-more s w [] k c h = absurd (omega arith)
walk_from-more s w (x ∷ cs) zero c h = refl
walk_from-more s w (x ∷ cs) (suc k) c h = walk_from-more s (walked_by s w x) cs k c (omega arith)

pub reached-none : (d : Device) → Reached d 0 nothing_walked
reached-none d = record { walked = refl; light = omega arith; part = omega arith }

pub reached-next : (d : Device) (k : ℕ) (w v : Walked) → length d.controllers ≡ 8 → k < 8 → Reached d k w
    → (v ≡ walked_by d.settings w (get_or d.controllers k no_controller)) × (v.weight ≤ w.weight + 65536) × (v.first ≤ v.weight) → Reached d (suc k) v
reached-next d k w v l h r e =
    record {
      walked =
          e.0 ∙ ap (λ (x : Walked). walked_by d.settings x (get_or d.controllers k no_controller)) r.walked
          ∙ sym (walk_from-more d.settings nothing_walked d.controllers k no_controller (omega arith));
      light = omega (arith, r.light, e.1);
      part = e.2;
    }

pub reached-all : (d : Device) (k : ℕ) (w : Walked) → d.settings.count ≡ k → Reached d k w → (w ≡ walk_of d) × (w.first ≤ w.weight)
reached-all d k w e r = (r.walked ∙ ap (λ n. walk_from d.settings nothing_walked (take n d.controllers)) (sym e), r.part)

-- ---- its weights

walk_from-weight : (s : Settings) (w : Walked) (cs : List Controller) → (walk_from s w cs).weight ≡ w.weight + sum (map (weight_of s) cs)
unfolding walked_by
walk_from-weight s w [] = omega arith
walk_from-weight s w (c ∷ cs) = omega (arith, walk_from-weight s (walked_by s w c) cs)

pub walk_of-weight : (d : Device) → (walk_of d).weight ≡ weights_of d
walk_of-weight d = omega (arith, walk_from-weight d.settings nothing_walked (controllers_of d))

walk_from-first : (s : Settings) (w : Walked) (cs : List Controller) → (walk_from s w cs).first ≡ w.first + sum (map (first_weight_of s) cs)
unfolding walked_by
walk_from-first s w [] = omega arith
walk_from-first s w (c ∷ cs) = omega (arith, walk_from-first s (walked_by s w c) cs)

pub walk_of-first : (d : Device) → (walk_of d).first ≡ first_of d
walk_of-first d = omega (arith, walk_from-first d.settings nothing_walked (controllers_of d))

-- ---- its queues

walk_from-queues : (s : Settings) (w : Walked) (cs : List Controller) → (walk_from s w cs).queues ≡ (w.queues && all (λ (c : Controller). queue_ok c.queue) cs)
unfolding walked_by
walk_from-queues s w [] = sym (and-true w.queues)
walk_from-queues s w (c ∷ cs) = walk_from-queues s (walked_by s w c) cs ∙ and_assoc w.queues (queue_ok c.queue) (all (λ (c : Controller). queue_ok c.queue) cs)

pub walk_of-queues : (d : Device) → (walk_of d).queues ≡ queues_ok d
walk_of-queues d = walk_from-queues d.settings nothing_walked (controllers_of d)

-- ---- where shares end

module _ (end base size : ℕ) where
  pub end_after-none : size ≡ 0 → end_after end base size ≡ end
  end_after-none e = rw e

  pub end_after-early : size ≢ 0 → base < end → end_after end base size ≡ 131072
  end_after-early z h = rw (ne_eqb size 0 z, lt-ltb base end h)

  pub end_after-behind : size ≢ 0 → end ≤ base → end_after end base size ≡ base + size
  end_after-behind z h = rw (ne_eqb size 0 z, le-ltb base end h)

-- a share with so many bits at most, before others that lie from the end behind it on
lined-after : (end to most : ℕ) (a : Share) (xs : List Share) → to ≤ most_units → a.size ≤ most → Lined (end_after end a.base most) to xs → Lined end to (a ∷ xs)
lined-after end to most a xs h k = go (eqb most 0) refl (ltb a.base end) refl
  where
    go : (x : Bool) → eqb most 0 ≡ x → (y : Bool) → ltb a.base end ≡ y → Lined (cond x end (cond y 131072 (a.base + most))) to xs → Lined end to (a ∷ xs)
    go true e y f l = let z = eqb-true most 0 e in Lined-empty end to a xs (omega (arith, z)) l
    go false e true f l = absurd (omega (arith, l.rising))
    go false e false f l = Lined-more end to a xs most h (ltb-false a.base end f) k l

-- so does that of a controller, which has no more units than that
lined-held : (end to base : ℕ) (h : Option Held) (xs : List Share) → to ≤ most_units → Lined (end_after end base (held_most h)) to xs → Lined end to (share_in base h ∷ xs)
lined-held end to base None xs l k = Lined-empty end to no_share xs refl k
lined-held end to base (Some h) xs l k = lined-after end to (most_of h.granularity h.ranges) (share_in base (Some h)) xs l (units-most h.granularity h.ranges) k

-- where all hold what they may and the end is within the pool, they lie one behind the other
pub walk_from-lined : (s : Settings) (w : Walked) (cs : List Controller) (rest : List Share) (to : ℕ) → all (λ c. held_ok s (held_of c)) cs ≡ true → to ≤ most_units
    → Lined (walk_from s w cs).end to rest → Lined w.end to (map share_of cs ++ rest)
unfolding walked_by
walk_from-lined s w [] rest to e h l = l
walk_from-lined s w (c ∷ cs) rest to e h l =
    lined-held w.end to c.base (held_of c) (map share_of cs ++ rest) h
    (rw (and_left (held_ok s (held_of c)) (all (λ c. held_ok s (held_of c)) cs) e) at
    (walk_from-lined s (walked_by s w c) cs rest to (and_right (held_ok s (held_of c)) (all (λ c. held_ok s (held_of c)) cs) e) h l))
