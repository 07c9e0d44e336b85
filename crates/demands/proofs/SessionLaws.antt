-- A session of the calls is a session of the rules: every answer, every byte that was lent, and the device that is left. Assumes nothing.
use mathlib.Core.Path.{◌≡◌, refl, sym, ap, ap₂, ◌∙◌}
use mathlib.Core.Bool.{Bool, true, false, ◌&&◌, not, cond}
use mathlib.Core.List.{List, [], ◌∷◌, ◌++◌, map}
use Rattle.std.specs.declared.option.Option.TheVariants.{None}
use Prim.Native.Nat.{ℕ, zero, suc, ◌-◌, ◌≤◌}
use native.Mathlib.Omega.{arith}
use lib.Dec.{eqb}
use lib.ListN.{length, take, replicate, length-append, length-replicate}
use lib.Seq.{length-take-le}
use borrow.Author.Tests.{eq-eqb, eqb-true}
use Rattle.rules.specs.Settings.{mark_words, settings_ok, identifiers_of}
use Rattle.rules.specs.Queue.{queue_ok}
use Rattle.rules.specs.Device.{cleaned, fresh_controller, no_share, are_apart, share_of, shares_ok, fresh_of}
use Rattle.rules.specs.Lists.{all}
use Rattle.rules.specs.declared.Share.{Share}
use Rattle.rules.specs.Machine.{Answer, fresh_slot, State, opened, Call, Event, step, after, events, lent, stored}
use Rattle.rules.specs.History.{history_of}
use Rattle.rules.specs.Demands.{lent_bytes}
use Rattle.rules.specs.declared.Controller.{Controller}
use Rattle.rules.specs.declared.Settings.{Settings}
use Rattle.rules.proofs.ListLaws.{All, and_intro}
use Rattle.settings.proofs.SettingsLaws.{settings_ok-count}
use Rattle.calls.specs.Calls.{Engine, in_words, fresh_by, fresh_change}
use Rattle.demands.specs.View.{slots_from, view, run}
use Rattle.demands.specs.Sessions.{Left, Given, Sized, begun, outcome, next, left_after, answers_to, bytes_to}
use Rattle.demands.proofs.ViewLaws.{Listed, Totalled, Fits}
use Rattle.demands.proofs.StepLaws.{Like, call_step}

-- ---- fresh

slots-fresh : (ws : List ℕ) (qs : ℕ → List ℕ) (xs : List ℕ) (k n : ℕ) → length xs ≡ n → slots_from in_words ws (λ i. None) qs k (replicate n fresh_controller) ≡ map (λ (i : ℕ). fresh_slot) xs
slots-fresh ws qs [] k n e = rw (sym e)
slots-fresh ws qs (x ∷ xs) k zero e = absurd (omega (arith, e))
slots-fresh ws qs (x ∷ xs) k (suc n) e = ap (λ l. fresh_slot ∷ l) (slots-fresh ws qs xs (suc k) n (omega (arith, e)))

take-replicate : {A : Type 0} (m n : ℕ) (x : A) → m ≤ n → take m (replicate n x) ≡ replicate m x
take-replicate zero n x h = refl
take-replicate (suc m) zero x h = absurd (omega arith)
take-replicate (suc m) (suc n) x h = ap (λ l. x ∷ l) (take-replicate m n x (omega arith))

off-listed : (n : ℕ) → All Listed (replicate n fresh_controller)
off-listed zero = tt
off-listed (suc n) = ((λ g m e. let z : ◌≡◌ {A = ℕ} 0 1 = cc in absurd (omega arith)), off-listed n)

off-totalled : (n : ℕ) → All Totalled (replicate n fresh_controller)
off-totalled zero = tt
off-totalled (suc n) = ((λ r e. let z : ◌≡◌ {A = ℕ} 0 1 = cc in absurd (omega arith)), off-totalled n)

-- nobody has a queue
no-queues : (n : ℕ) → all (λ (c : Controller). queue_ok c.queue) (replicate n fresh_controller) ≡ true
unfolding queue_ok
no-queues zero = refl
no-queues (suc n) = no-queues n

-- nobody has a share
apart_none : (xs : List Share) → all (are_apart no_share) xs ≡ true
apart_none [] = refl
apart_none (x ∷ xs) = apart_none xs

none-ok : (n m : ℕ) → shares_ok (map share_of (replicate n fresh_controller) ++ replicate m no_share) ≡ true
unfolding shares_ok
none-ok zero zero = refl
none-ok zero (suc m) = and_intro (all (are_apart no_share) (replicate m no_share)) _ (apart_none (replicate m no_share)) (none-ok zero m)
none-ok (suc n) m = and_intro (all (are_apart no_share) (map share_of (replicate n fresh_controller) ++ replicate m no_share)) _ (apart_none (map share_of (replicate n fresh_controller) ++ replicate m no_share)) (none-ok n m)

-- what an accepted fresh leaves is the rules' fresh device
pub record Begins (s : Settings) (l : Left) : Type 0 where
  pub state : view in_words l.device l.marks l.area l.queues ≡ opened s
  pub fits : Fits l.device l.marks l.area

pub begins : (s : Settings) (m : Given) → Sized s m → settings_ok s ≡ true → length m.marks ≡ mark_words → Begins s (begun in_words s m)
unfolding fresh_by fresh_of
begins s m sized e whole =
    let few : s.count ≤ length s.identifiers = omega (arith, sized.places, settings_ok-count s e) in
    rw (e, eq-eqb (length m.marks) mark_words whole, whole)
    (record {
      state =
          ap₂ (λ l b. record { settings = cleaned s; slots = l; amiss = b })
          (ap (slots_from in_words (replicate mark_words 0) (λ i. None) m.queues 0) (take-replicate s.count 8 fresh_controller (settings_ok-count s e))
          ∙ slots-fresh (replicate mark_words 0) m.queues (identifiers_of s) 0 s.count (length-take-le s.count s.identifiers few))
          (ap not (ap (λ cs. shares_ok (map share_of cs ++ replicate (8 - s.count) no_share) && all (λ (c : Controller). queue_ok c.queue) cs) (take-replicate s.count 8 fresh_controller (settings_ok-count s e))
          ∙ and_intro (shares_ok (map share_of (replicate s.count fresh_controller) ++ replicate (8 - s.count) no_share)) _ (none-ok s.count (8 - s.count)) (no-queues s.count)));
      fits =
          record {
            controllers = length-replicate 8 fresh_controller;
            identifiers =
                length-append (identifiers_of s) (replicate (length s.identifiers - s.count) 0)
                ∙ omega (arith, length-take-le s.count s.identifiers few, length-replicate {A = ℕ} (length s.identifiers - s.count) 0, sized.places, few);
            listed = off-listed 8;
            totals = off-totalled 8;
            words = length-replicate {A = ℕ} mark_words 0;
            bytes = sized.area;
          };
    })

-- ---- the calls

-- what a session leaves and what it tells, against a session of the rules
pub record Same (l : Left) (st : State) (ks : List Call) : Type 0 where
  pub state : view in_words (left_after in_words l ks).device (left_after in_words l ks).marks (left_after in_words l ks).area (left_after in_words l ks).queues ≡ after st ks
  pub told : answers_to in_words l ks ≡ events st ks
  pub bytes : (a : ℕ) → bytes_to in_words a l ks ≡ lent_bytes a (history_of a (answers_to in_words l ks))

-- one call, and then the others
pub same_next : (k : Call) (ks : List Call) (l : Left) (st : State) → (outcome in_words l k).answer ≡ (step st k).0 → (outcome in_words l k).bytes ≡ stored k.id (lent k.op) (outcome in_words l k).answer
    → Same (next in_words l k) (step st k).1 ks → Same l st (k ∷ ks)
same_next k ks l st answer bytes r =
    record {
      state = r.state;
      told = ap₂ (λ (a : Answer) (es : List Event). record { call = k; answer = a } ∷ es) answer r.told;
      bytes = λ a. bytes-of a (eqb k.id a) refl bytes (r.bytes a);
    }
  where
    bytes-of : (a : ℕ) (b : Bool) → eqb k.id a ≡ b → (outcome in_words l k).bytes ≡ stored k.id (lent k.op) (outcome in_words l k).answer
        → bytes_to in_words a (next in_words l k) ks ≡ lent_bytes a (history_of a (answers_to in_words (next in_words l k) ks))
        → cond b ((outcome in_words l k).bytes ∷ bytes_to in_words a (next in_words l k) ks) (bytes_to in_words a (next in_words l k) ks)
        ≡ lent_bytes a (cond b (record { op = k.op; answer = (outcome in_words l k).answer } ∷ history_of a (answers_to in_words (next in_words l k) ks)) (history_of a (answers_to in_words (next in_words l k) ks)))
    bytes-of a true q p ih = ap₂ (λ (x : List ℕ) (xs : List (List ℕ)). x ∷ xs) (p ∙ rw (eqb-true k.id a q)) ih
    bytes-of a false q p ih = ih

pub same : (ks : List Call) (l : Left) (st : State) → view in_words l.device l.marks l.area l.queues ≡ st → Fits l.device l.marks l.area → Same l st ks
same [] l st e h = record { state = e; told = refl; bytes = λ a. refl }
same (k ∷ ks) l st e h =
    let w : Like k.id (lent k.op) (run in_words l.device l.marks l.area l.queues k) (step st k).0 (step st k).1 = rw e at (call_step l.device l.marks l.area l.queues h k) in
    same_next k ks l st w.answer w.bytes (same ks (next in_words l k) (step st k).1 w.state w.fits)

-- what each call leaves fits the next
pub fits_after : (ks : List Call) (l : Left) → Fits l.device l.marks l.area → Fits (left_after in_words l ks).device (left_after in_words l ks).marks (left_after in_words l ks).area
fits_after [] l h = h
fits_after (k ∷ ks) l h = fits_after ks (next in_words l k) (call_step l.device l.marks l.area l.queues h k).fits

-- ---- calls after others

pub left-append : (en : Engine) (ks js : List Call) (l : Left) → left_after en l (ks ++ js) ≡ left_after en (left_after en l ks) js
left-append en [] js l = refl
left-append en (k ∷ ks) js l = left-append en ks js (next en l k)

pub after-append : (ks js : List Call) (st : State) → after st (ks ++ js) ≡ after (after st ks) js
after-append [] js st = refl
after-append (k ∷ ks) js st = after-append ks js (step st k).1
