-- The closed device of a refused fresh answers 1 to every call, and no call changes it; so any session, closed or not, is one of the rules. Assumes nothing.
use mathlib.Core.Path.{◌≡◌, refl, sym, ap, subst, ◌∙◌}
use mathlib.Core.Logic.{◌≢◌}
use mathlib.Core.Bool.{Bool, true, false, cond}
use mathlib.Core.List.{List, [], ◌∷◌}
use Prim.Native.Nat.{ℕ}
use native.Mathlib.Omega.{arith}
use lib.Dec.{eqb}
use lib.ListN.{length}
use borrow.Author.Tests.{eqb-true, eqb-false}
use Rattle.rules.specs.Settings.{mark_words, settings_ok}
use Rattle.rules.specs.Order as order
use Rattle.rules.specs.Order.{Op, start, stop, write, receive, suspend, resume, part, queue, make, post}
use Rattle.rules.specs.Device.{shares_ok, closed_device, sound}
use Rattle.rules.specs.Machine.{Answer, refused, pending_in, entries_in, Slot, State, closed, opened, fresh, slot_of, Call, step, lent, stored}
use Rattle.rules.specs.History.{history_of}
use Rattle.rules.specs.Demands.{session_end, session_history, lent_bytes}
use Rattle.rules.specs.Demands as rules-demands
use Rattle.rules.specs.declared.Settings.{Settings}
use Rattle.record.specs.Record.{sound_with}
use Rattle.calls.specs.Calls.{Engine, in_words, receive_by, start_by, stop_by, write_by, fresh_change, start_change, stop_change, write_note, receive_receipt, suspend_change, resume_change, part_change, make_change, post_change, take_change}
use Rattle.demands.specs.View.{view, Outcome, run_as, run}
use Rattle.demands.specs.Sessions.{Left, Given, Sized, begun, outcome, left_after, end_of, history_in, bytes_in}
use Rattle.demands.specs.Demand2.{Equals}
use Rattle.rules.proofs.Isolation.{step-unsound}
use Rattle.rules.proofs.SoundLaws.{closed-unsound as closed-state, fresh-opens, fresh-closed}
use Rattle.demands.proofs.SessionLaws.{Same, begins, same, same_next}
use Rattle.demands.proofs.AnswerLaws.{fresh-answers}

-- fresh is done where the settings pass and the marks have their words
pub fresh-done : (s : Settings) (ws : List ℕ) → (fresh_change s ws).answer.number ≡ 0 → (settings_ok s ≡ true) × (length ws ≡ mark_words)
fresh-done s ws e = go (settings_ok s) (eqb (length ws) mark_words) refl refl (sym (fresh-answers in_words s ws).first ∙ e)
  where
    go : (a b : Bool) → settings_ok s ≡ a → eqb (length ws) mark_words ≡ b → ◌≡◌ {A = ℕ} (cond a (cond b 0 1) 16) 0 → (settings_ok s ≡ true) × (length ws ≡ mark_words)
    go true true p q e = (p, eqb-true (length ws) mark_words q)
    go true false p q e = absurd (omega (arith, e))
    go false b p q e = absurd (omega (arith, e))

pub closed-unsound : (words : ℕ) → sound_with closed_device words ≡ false
unfolding sound_with sound settings_ok
closed-unsound words = refl

closed_run : (en : Engine) (ws area : List ℕ) (qs : ℕ → List ℕ) (id : ℕ) (o : Op)
    → run_as en closed_device ws area qs id o ≡ record { answer = refused 1 0; device = closed_device; marks = ws; area = area; queues = qs; bytes = lent o }
unfolding start_by stop_by write_by receive_by suspend_change resume_change part_change make_change post_change take_change
closed_run en ws area qs id (start m x) = rw (closed-unsound (en.words ws))
closed_run en ws area qs id (stop m) = rw (closed-unsound (en.words ws))
closed_run en ws area qs id (write w) = rw (closed-unsound (en.words ws))
closed_run en ws area qs id (receive m x) = rw (closed-unsound (en.words ws))
closed_run en ws area qs id (suspend m kind) = rw (closed-unsound (en.words ws))
closed_run en ws area qs id (resume m) = rw (closed-unsound (en.words ws))
closed_run en ws area qs id (part m p) = rw (closed-unsound (en.words ws))
closed_run en ws area qs id (queue bytes make) = rw (closed-unsound (en.words ws))
closed_run en ws area qs id (queue bytes (post e)) = rw (closed-unsound (en.words ws))
closed_run en ws area qs id (queue bytes (order.take asked x)) = rw (closed-unsound (en.words ws))

abbrev pub shut : Given → Left
shut m = record { device = closed_device; marks = m.marks; area = m.area; queues = m.queues }

pub closed-outcome : (en : Engine) (m : Given) (k : Call) → outcome en (shut m) k ≡ record { answer = refused 1 0; device = closed_device; marks = m.marks; area = m.area; queues = m.queues; bytes = lent k.op }
unfolding run
closed-outcome en m k = closed_run en m.marks m.area m.queues k.id k.op

pub closed-answer : (en : Engine) (m : Given) (k : Call) → ((outcome en (shut m) k).answer ≡ refused 1 0) × ((outcome en (shut m) k).bytes ≡ lent k.op)
closed-answer en m k = (ap (λ (o : Outcome). o.answer) (closed-outcome en m k), ap (λ (o : Outcome). o.bytes) (closed-outcome en m k))

pub closed-stays : (en : Engine) (ks : List Call) (m : Given) → left_after en (shut m) ks ≡ shut m
closed-stays en [] m = refl
closed-stays en (k ∷ ks) m =
    ap (λ (o : Outcome). left_after en (record { device = o.device; marks = o.marks; area = o.area; queues = o.queues }) ks) (closed-outcome en m k) ∙ closed-stays en ks m

pub closed-session : (s : Settings) (m : Given) (ks : List Call) → (fresh_change s m.marks).answer.number ≢ 0 → end_of in_words s m ks ≡ shut m
closed-session s m ks e = let z = (fresh-answers in_words s m.marks).refused e in rw (z.0, z.1) (closed-stays in_words ks m)

-- ---- any session is one of the rules

-- a session of the closed device
closed_same : (ks : List Call) (m : Given) → Same (shut m) closed ks
unfolding shares_ok
closed_same [] m = record { state = refl; told = refl; bytes = λ a. refl }
closed_same (k ∷ ks) m =
    let o = closed-outcome in_words m k in
    let t = step-unsound closed k closed-state in
    same_next k ks (shut m) closed (ap (λ (x : Outcome). x.answer) o ∙ sym (ap (λ (x : Answer × State). x.0) t))
    (ap (λ (x : Outcome). x.bytes) o ∙ sym (ap (λ (x : Outcome). stored k.id (lent k.op) x.answer) o))
    (subst (λ (x : Outcome). Same (record { device = x.device; marks = x.marks; area = x.area; queues = x.queues }) (step closed k).1 ks) (sym o)
    (subst (λ (x : Answer × State). Same (shut m) x.1 ks) (sym t) (closed_same ks m)))

module _ (s : Settings) (m : Given) (ks : List Call) (sized : Sized s m) where
  pub session : Same (begun in_words s m) (fresh s (length m.marks)) ks
  session = go (eqb (fresh_change s ws).answer.number 0) refl
    where
      ws : List ℕ
      ws = m.marks

      go : (b : Bool) → eqb (fresh_change s ws).answer.number 0 ≡ b → Same (begun in_words s m) (fresh s (length ws)) ks
      go true q =
          let e = eqb-true (fresh_change s ws).answer.number 0 q in
          let f = fresh-done s ws e in
          let b = begins s m sized f.0 f.1 in
          rw (fresh-opens s (length ws) (sym (fresh-answers in_words s ws).first ∙ e)).0 (same ks (begun in_words s m) (opened s) b.state b.fits)
      go false q =
          let e = eqb-false (fresh_change s ws).answer.number 0 q in
          let z = (fresh-answers in_words s ws).refused e in
          rw (fresh-closed s (length ws) (λ r. e ((fresh-answers in_words s ws).first ∙ r)), z.0, z.1) (closed_same ks m)

  module _ (a : ℕ) where
    pub history-same : history_in in_words s m ks a ≡ session_history s (length m.marks) ks a
    history-same = ap (history_of a) session.told

    pub slot_same : slot_of (view in_words (end_of in_words s m ks).device (end_of in_words s m ks).marks (end_of in_words s m ks).area (end_of in_words s m ks).queues) a ≡ slot_of (session_end s (length m.marks) ks) a
    slot_same = ap (λ (st : State). slot_of st a) session.state

    pub bytes_same : bytes_in in_words s m ks a ≡ lent_bytes a (session_history s (length m.marks) ks a)
    bytes_same = session.bytes a ∙ ap (lent_bytes a) history-same

    -- what the rules give for other calls that agree with these
    pub equals : (ks' : List Call) → rules-demands.Agree s (length m.marks) a ks ks' → Equals in_words s a m ks ks'
    equals ks' w = record { answers = history-same ∙ w.answers; bytes = bytes_same ∙ w.bytes; units = ap pending_in slot_same ∙ w.units; queued = ap (λ (c : Slot). entries_in c.queue) slot_same ∙ w.queued }
