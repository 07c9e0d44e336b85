-- Demand 3, proved of the calls: a session of theirs is one of the rules, of which it is proved. Assumes nothing.
use mathlib.Core.Path.{◌≡◌, refl, sym, subst, ◌∙◌}
use mathlib.Core.Bool.{true, false, not, ◌||◌, true≢false}
use mathlib.Core.List.{List, [], ◌∷◌}
use Rattle.std.specs.declared.option.Option.TheVariants.{Some}
use Prim.Native.Nat.{ℕ, suc}
use lib.Dec.{eqb}
use lib.ListN.{length}
use Rattle.std.specs.List.{slice_get}
use borrow.Author.Tests.{eqb-true}
use Rattle.rules.specs.Lists.{member}
use Rattle.rules.specs.Order.{Op, start, stop, write, receive, suspend, resume, part, queue}
use Rattle.rules.specs.Machine.{Call, number_of}
use Rattle.rules.specs.History.{Did, only}
use Rattle.rules.specs.Demands.{shared_refusals, unhindered}
use Rattle.rules.proofs.ListLaws.{and_intro, or_cases, not-intro, false-intro}
use Rattle.rules.specs.declared.Settings.{Settings}
use Rattle.rules.proofs.Theorems as rules
use Rattle.calls.specs.Calls.{in_words}
use Rattle.demands.specs.Sessions.{Given, Sized, history_in}
use Rattle.demands.specs.Demand2.{Equals}
use Rattle.demands.specs.Demand3.{Agree, Shared, pool, limit, shelf, sequence, Demand3}
use Rattle.demands.proofs.ClosedLaws.{history-same, equals}

-- two sessions that equal one of the rules agree
agree : (s : Settings) (a : ℕ) (m m' : Given) (ks ks' js js' : List Call) → length m.marks ≡ length m'.marks → js ≡ js' → Equals in_words s a m ks js → Equals in_words s a m' ks' js'
    → Agree in_words s a m m' ks ks'
agree s a m m' ks ks' js js' e j l r =
    record {
      answers = l.answers ∙ rw (e, j) (sym r.answers);
      bytes = l.bytes ∙ rw (e, j) (sym r.bytes);
      units = l.units ∙ rw (e, j) (sym r.units);
      queued = l.queued ∙ rw (e, j) (sym r.queued);
    }

is-alone : (s : Settings) (a : ℕ) (m : Given) (ks : List Call) → Sized s m → unhindered (history_in in_words s m ks a) ≡ true → Equals in_words s a m ks (only a ks)
is-alone s a m ks sized f =
    equals s m ks sized a (only a ks) ((rules.demand-3).alone s (length m.marks) a ks (rw (history-same s m ks sized a) at f))

-- an answer that is not refused for what controllers share
free : (o : Op) (n : ℕ) → (Shared o n → ⊥) → member n (shared_refusals o) ≡ false
free (start m x) n f =
    false-intro _ (λ e.
    or_cases (eqb 11 n) (eqb 12 n || (eqb 34 n || false)) ⊥ e (λ q. f (subst (Shared (start m x)) (eqb-true 11 n q) (pool m x)))
    (λ r.
    or_cases (eqb 12 n) (eqb 34 n || false) ⊥ r (λ q. f (subst (Shared (start m x)) (eqb-true 12 n q) (limit m x)))
    (λ t. or_cases (eqb 34 n) false ⊥ t (λ q. f (subst (Shared (start m x)) (eqb-true 34 n q) (shelf m x))) (λ z. true≢false (sym z)))))
free (stop m) n f = refl
free (write w) n f = refl
free (receive m x) n f = refl
free (suspend m kind) n f = refl
free (resume m) n f = refl
free (part m p) n f = false-intro _ (λ e. or_cases (eqb 23 n) false ⊥ e (λ q. f (subst (Shared (part m p)) (eqb-true 23 n q) (sequence m p))) (λ z. true≢false (sym z)))
free (queue bytes k) n f = refl

premise : (h : List Did) → ((i : ℕ) (d : Did) → slice_get h i ≡ Some d → Shared d.op (number_of d.answer) → ⊥) → unhindered h ≡ true
premise [] f = refl
premise (d ∷ h) f =
    and_intro (not (member (number_of d.answer) (shared_refusals d.op))) (unhindered h)
    (not-intro (member (number_of d.answer) (shared_refusals d.op)) (free d.op (number_of d.answer) (f 0 d refl)))
    (premise h (λ i. f (suc i)))

pub demand-3 : Demand3 in_words
demand-3 =
    record {
      premise = premise;
      alone = is-alone;
      together = λ s a m m' ks ks' sized sized' e j f f'.
          agree s a m m' ks ks' (only a ks) (only a ks') e j (is-alone s a m ks sized f) (is-alone s a m' ks' sized' f');
    }
