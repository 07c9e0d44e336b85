-- Sessions: what each controller's slot holds is told by the history of its own calls (demand 2), whatever the others are called with.
-- Assumes nothing.
use mathlib.Core.Path.{◌≡◌, refl, ap}
use mathlib.Core.Bool.{Bool, true, false, cond}
use mathlib.Core.List.{List, [], ◌∷◌, ◌++◌, append_assoc, append-nil}
use Prim.Native.Nat.{ℕ}
use lib.Dec.{eqb}
use borrow.Author.Tests.{eqb-true, eqb-false}
use Rattle.rules.specs.Machine.{slot_of, State, fresh, Call, Event, step, after, events, seen_at, arriving_at}
use Rattle.rules.specs.Settings.{place_of}
use Rattle.rules.specs.History.{Did, history_of, slot_by}
use Rattle.rules.specs.declared.Settings.{Settings}
use Rattle.rules.proofs.SlotHistory.{did, Known, known_is, known-fresh, known_step}
use Rattle.rules.proofs.StateLaws.{Sized, step-sized, step-own-answer, step-own, step_other, fresh-sized, fresh-slot}

-- whatever the others do, what is known of a controller's slot stays known
pub known-run : (a : ℕ) (ks : List Call) (st : State) → Sized st → (h : List Did) → Known h (slot_of st a)
    → Known (h ++ history_of a (events st ks)) (slot_of (after st ks) a)
known-run a [] st z h t = rw append-nil t
known-run a (k ∷ ks) st z h t = go (eqb k.id a) refl (known-run a ks (step st k).1 (step-sized st k z))
  where
    st' : State
    st' = (step st k).1

    es : List Event
    es = events st' ks

    d : Did
    d = did k.op (step st k).0

    go : (b : Bool) → eqb k.id a ≡ b → ((h : List Did) → Known h (slot_of st' a) → Known (h ++ history_of a es) (slot_of (after st' ks) a))
        → Known (h ++ cond b (d ∷ history_of a es) (history_of a es)) (slot_of (after st' ks) a)
    go true q ih =
        let own : k.id ≡ a = eqb-true k.id a q in
        rw append_assoc at (ih (h ++ d ∷ [])
        (rw (step-own st k a z own, step-own-answer st k a own) (known_step st.settings (seen_at st (place_of st.settings a)) (arriving_at st (place_of st.settings a)) h (slot_of st a) k.op refl refl refl t)))
    go false q ih = ih h (rw (step_other st k a (eqb-false k.id a q)) t)

pub known-session : (s : Settings) (words a : ℕ) (ks : List Call) → Known (history_of a (events (fresh s words) ks)) (slot_of (after (fresh s words) ks) a)
known-session s words a ks = known-run a ks (fresh s words) (fresh-sized s words) [] (rw (fresh-slot s words a) known-fresh)

-- a session that goes on has a history that goes on
pub history-append : (a : ℕ) (ks ks' : List Call) (st : State) → history_of a (events st (ks ++ ks')) ≡ history_of a (events st ks) ++ history_of a (events (after st ks) ks')
history-append a [] ks' st = refl
history-append a (k ∷ ks) ks' st = go (eqb k.id a) (history_of a (events st' ks)) (history_of a (events (after st' ks) ks')) (history-append a ks ks' st')
  where
    st' : State
    st' = (step st k).1

    d : Did
    d = did k.op (step st k).0

    go : (b : Bool) {x : List Did} (y z : List Did) → x ≡ y ++ z → cond b (d ∷ x) x ≡ cond b (d ∷ y) y ++ z
    go true y z e = ap (λ l. d ∷ l) e
    go false y z e = e

-- after any calls from a fresh device a controller's slot is what the history of its own calls and answers tells
pub slot-told : (s : Settings) (words a : ℕ) (ks : List Call) → slot_of (after (fresh s words) ks) a ≡ slot_by (history_of a (events (fresh s words) ks))
slot-told s words a ks = known_is (history_of a (events (fresh s words) ks)) (slot_of (after (fresh s words) ks) a) (known-session s words a ks)
