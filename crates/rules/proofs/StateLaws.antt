-- Laws of the device: a call changes its own controller's slot as the rules for a slot say, and leaves every other slot and the settings.
-- Assumes nothing.
use mathlib.Core.Path.{◌≡◌, refl, sym, ap, ◌∙◌}
use mathlib.Core.Logic.{◌≢◌}
use mathlib.Core.Bool.{Bool, true, false, cond}
use mathlib.Core.List.{List, [], ◌∷◌, ◌++◌, map}
use Rattle.std.specs.declared.option.Option.{Option}
use Rattle.std.specs.declared.option.Option.TheVariants.{None, Some}
use Prim.Native.Nat.{ℕ, zero, suc, ◌-◌, ◌<◌}
use native.Mathlib.Omega.{arith}
use lib.ListN.{length, take, get_or, length-set, length-map, replicate}
use lib.Seq.{get_or-set_same, get_or-set_other}
use Rattle.rules.specs.Lists.{place_from}
use Rattle.rules.specs.Settings.{is_manager, identifiers_of, place_of}
use Rattle.rules.specs.Order.{Op, start, stop, write, receive, suspend, resume, part, queue, Seen, Arriving, fresh_order, order}
use Rattle.rules.specs.Device.{cleaned, closed_settings}
use Rattle.rules.specs.Machine.{Answer, refused, Slot, fresh_slot, slot_step, State, closed, opened, fresh, slot_at, with_slot, slot_of, seen_at, arriving_at, step_at, Call, step, after}
use Rattle.rules.specs.declared.Settings.{Settings}
use Rattle.rules.proofs.ListLaws.{place_from-is}
use Rattle.rules.proofs.RefusalLaws.{verdict-has}

-- ---- where a controller stands

-- a place is one of a list's; nowhere is, too
abbrev pub Fits : {A : Type 0} → Option ℕ → List A → Type 0
Fits None xs = Prim.Unit {0}
Fits (Some i) xs = i < length xs

-- there is a slot for each identifier
abbrev pub Sized : State → Type 0
Sized st = length st.slots ≡ length (identifiers_of st.settings)

pub place_of-is : (s : Settings) (a i : ℕ) → place_of s a ≡ Some i → (i < length (identifiers_of s)) × (get_or (identifiers_of s) i 0 ≡ a)
unfolding place_of
place_of-is s a i e =
    let r = place_from-is (identifiers_of s) 0 a i e in
    let q : i ≡ r.0 = omega (arith, r.1) in
    (omega (arith, r.2), ap (λ m. get_or (identifiers_of s) m 0) q ∙ r.3)

-- two controllers of the settings stand apart
pub place_of-apart : (s : Settings) (a b i j : ℕ) → place_of s a ≡ Some i → place_of s b ≡ Some j → (a ≡ b → ⊥) → i ≢ j
place_of-apart s a b i j p q f e = f (sym (place_of-is s a i p).1 ∙ ap (λ m. get_or (identifiers_of s) m 0) e ∙ (place_of-is s b j q).1)

pub place_of-fits : (st : State) → Sized st → (a : ℕ) → Fits (place_of st.settings a) st.slots
place_of-fits st z a = go (place_of st.settings a) refl
  where
    go : (p : Option ℕ) → place_of st.settings a ≡ p → Fits p st.slots
    go None e = tt
    go (Some i) e = omega (arith, (place_of-is st.settings a i e).0)

-- ---- a call to a controller that the settings lack

pub slot_step-unknown : (s : Settings) (v : Seen) (a : Arriving) (c : Slot) (o : Op) → v.known ≡ false → a.area ≡ true → slot_step s v a c o ≡ (refused (cond v.sound 2 1) 0, c)
unfolding order
slot_step-unknown s v a c o e r = go o v.sound
  where
    -- 2 either way, for the manager or for the controller
    both : (b : Bool) → cond {A = Answer × Slot} b (refused 2 0, c) (refused 2 0, c) ≡ (refused 2 0, c)
    both true = refl
    both false = refl

    go : (o : Op) (b : Bool) → slot_step s (record { sound = b; known = v.known; suspended = v.suspended; tracker = v.tracker; places = v.places; stopped = v.stopped; managed = v.managed; counts = v.counts; units = v.units }) a c o ≡ (refused (cond b 2 1) 0, c)
    go (start m x) true = rw e (both (is_manager s m))
    go (start m x) false = refl
    go (stop m) true = rw e (both (is_manager s m))
    go (stop m) false = refl
    go (write w) true = rw e
    go (write w) false = refl
    go (receive m x) true = rw e (both (is_manager s m))
    go (receive m x) false = refl
    go (suspend m kind) true = rw e (both (is_manager s m))
    go (suspend m kind) false = refl
    go (resume m) true = rw e (both (is_manager s m))
    go (resume m) false = refl
    go (part m p) true = rw (r, e) (both (is_manager s m))
    go (part m p) false = refl
    go (queue bytes k) true = rw e
    go (queue bytes k) false = refl

-- ---- one call

-- what a controller's call does to its slot
abbrev pub own_step : State → ℕ → Op → Answer × Slot
own_step st a o = slot_step st.settings (seen_at st (place_of st.settings a)) (arriving_at st (place_of st.settings a)) (slot_of st a) o

pub step-settings : (st : State) (k : Call) → (step st k).1.settings ≡ st.settings
unfolding step
step-settings st k = go (place_of st.settings k.id)
  where
    go : (p : Option ℕ) → (step_at st p k.op).1.settings ≡ st.settings
    go None = refl
    go (Some i) = refl

pub after-settings : (ks : List Call) (st : State) → (after st ks).settings ≡ st.settings
after-settings [] st = refl
after-settings (k ∷ ks) st = after-settings ks (step st k).1 ∙ step-settings st k

pub step-sized : (st : State) (k : Call) → Sized st → Sized (step st k).1
unfolding step
step-sized st k z = go (place_of st.settings k.id)
  where
    go : (p : Option ℕ) → Sized (step_at st p k.op).1
    go None = z
    go (Some i) = length-set st.slots i _ ∙ z

pub step-own-answer : (st : State) (k : Call) (a : ℕ) → k.id ≡ a → (step st k).0 ≡ (own_step st a k.op).0
unfolding step
step-own-answer st k a e = rw e

with_slot-same : (st : State) (p : Option ℕ) (c : Slot) → Fits p st.slots → (p ≡ None → c ≡ fresh_slot) → slot_at (with_slot st p c) p ≡ c
with_slot-same st None c h f = sym (f refl)
with_slot-same st (Some i) c h f = get_or-set_same st.slots i c fresh_slot h

pub step-own : (st : State) (k : Call) (a : ℕ) → Sized st → k.id ≡ a → slot_of (step st k).1 a ≡ (own_step st a k.op).1
unfolding step
step-own st k a z e =
    ap (λ s. slot_at (step st k).1 (place_of s a)) (step-settings st k)
    ∙ rw e (with_slot-same st (place_of st.settings a) (own_step st a k.op).1 (place_of-fits st z a) unknown)
  where
    unknown : place_of st.settings a ≡ None → (own_step st a k.op).1 ≡ fresh_slot
    unknown q = rw q (ap (λ (r : Answer × Slot). r.1) (slot_step-unknown st.settings (seen_at st None) (arriving_at st None) fresh_slot k.op refl refl))

pub step_other : (st : State) (k : Call) (a : ℕ) → (k.id ≡ a → ⊥) → slot_of (step st k).1 a ≡ slot_of st a
unfolding step
step_other st k a f =
    ap (λ s. slot_at (step st k).1 (place_of s a)) (step-settings st k)
    ∙ go (place_of st.settings k.id) refl (place_of st.settings a) refl
  where
    go : (q : Option ℕ) → place_of st.settings k.id ≡ q → (p : Option ℕ) → place_of st.settings a ≡ p
        → slot_at (step_at st q k.op).1 p ≡ slot_at st p
    go None e None e' = refl
    go None e (Some i) e' = refl
    go (Some j) e None e' = refl
    go (Some j) e (Some i) e' =
        get_or-set_other st.slots j i _ fresh_slot (place_of-apart st.settings a k.id i j e' e (λ q. f (sym q)))

-- ---- a fresh device

cleaned-take : (n : ℕ) (l : List ℕ) → take n (take n l ++ replicate (length l - n) 0) ≡ take n l
cleaned-take zero l = refl
cleaned-take (suc n) [] = let e : 0 - suc n ≡ 0 = omega arith in rw e
cleaned-take (suc n) (x ∷ l) =
    let e : suc (length l) - suc n ≡ length l - n = omega arith in
    rw e (ap (λ r. x ∷ r) (cleaned-take n l))

pub cleaned-identifiers : (s : Settings) → identifiers_of (cleaned s) ≡ identifiers_of s
cleaned-identifiers s = cleaned-take s.count s.identifiers

-- the same identifiers stand in the same places
pub cleaned-place : (s : Settings) (a : ℕ) → place_of (cleaned s) a ≡ place_of s a
unfolding place_of
cleaned-place s a = ap (λ l. place_from 0 l a) (cleaned-identifiers s)

-- fresh is what it opens, or closed
pub fresh-has : (P : State → Type 0) (s : Settings) (words : ℕ) → P (opened s) → P closed → P (fresh s words)
unfolding fresh
fresh-has P s words o c = verdict-has P (λ n i. closed) (λ n i. c) (fresh_order s words) (opened s) (λ h. o)

pub fresh-sized : (s : Settings) (words : ℕ) → Sized (fresh s words)
fresh-sized s words = fresh-has Sized s words (length-map (identifiers_of s) (λ (i : ℕ). fresh_slot) ∙ ap length (sym (cleaned-identifiers s))) refl

fresh-slots : (xs : List ℕ) (p : Option ℕ) (s : Settings) → slot_at (record { settings = s; slots = map (λ (i : ℕ). fresh_slot) xs; amiss = false }) p ≡ fresh_slot
fresh-slots xs None s = refl
fresh-slots [] (Some i) s = refl
fresh-slots (x ∷ xs) (Some zero) s = refl
fresh-slots (x ∷ xs) (Some (suc i)) s = fresh-slots xs (Some i) s

pub fresh-slot : (s : Settings) (words a : ℕ) → slot_of (fresh s words) a ≡ fresh_slot
fresh-slot s words a =
    fresh-has (λ st. slot_of st a ≡ fresh_slot) s words (fresh-slots (identifiers_of s) (place_of (cleaned s) a) (cleaned s)) (fresh-slots [] (place_of closed_settings a) closed_settings)
