-- W13: laws of a session that is logged, for any engine: what one call more makes of a log, and that a batch is logged as its tried notes are. Assumes nothing.
use mathlib.Core.Path.{◌≡◌, refl, sym, ap, subst, ◌∙◌}
use mathlib.Core.Logic.{◌≢◌}
use mathlib.Core.Bool.{Bool, true, false, ◌&&◌, cond, and-false}
use mathlib.Core.List.{List, [], ◌∷◌, ◌++◌}
use Rattle.std.specs.declared.option.Option.{Option}
use Rattle.std.specs.declared.option.Option.TheVariants.{None, Some}
use Prim.Native.Nat.{ℕ, zero, suc, ◌+◌, ◌<◌}
use native.Mathlib.Omega.{arith}
use lib.Dec.{eqb}
use lib.ListN.{length, get_or, take}
use lib.Seq.{get_or-take}
use borrow.Author.Tests.{eqb-true}
use Rattle.rules.specs.Settings.{place_of}
use Rattle.rules.specs.Order.{Op, start, stop, write, receive, suspend, resume, part, queue, make, post}
use Rattle.rules.specs.Order as order
use Rattle.rules.specs.Report.{Report}
use Rattle.rules.specs.Machine.{Answer, refused, done, wrote, reported, assembled, posted, taken, Call, Slot, fresh_slot, newly_of, report_of, number_of, pending_in, pending_on}
use Rattle.rules.specs.History.{Did, history_of, is_accepted}
use Rattle.rules.specs.Totals.{units_marked, units_reported, units_dropped, report_units, stops, units_pending, dropped_by, shown_of, shown_by}
use Rattle.rules.specs.declared.Controller.{Controller}
use Rattle.rules.specs.declared.Range.{Range}
use Rattle.rules.specs.declared.Tracking.{Tracking}
use Rattle.rules.specs.declared.Tracking.TheVariants.{Off, On}
use Rattle.rules.proofs.TotalLaws.{units_marked-snoc, units_reported-snoc, units_dropped-snoc}
use Rattle.log_numbers.specs.declared.Log.{Log}
use Rattle.log_numbers.specs.Log.{showing, added_to, totals_at}
use Rattle.log_numbers.proofs.LogLaws.{added_to-showing, booked_at-length, booked_at-own, booked_at-other}
use Rattle.record.specs.Record.{no_controller, controller_at}
use Rattle.ring.specs.Ring.{queued}
use Rattle.calls.specs.declared.WriteRecord.{WriteRecord}
use Rattle.calls.specs.Calls.{Engine, start_by, write_by, write_in, batch_by, receive_by, stop_by, suspend_change, resume_change, part_change, make_change, post_change, take_change}
use Rattle.booking.specs.Booking.{booked_in, booked_by, notes_log, batch_log, pending_with, units_held}
use Rattle.demands.specs.View.{marks_of, slots_from, front_at, answered, yields, lent_at, run_as, run}
use Rattle.demands.specs.Sessions.{Left, Step, one, batch, outcome, next, left_after, answers_to, stepped, note_of, tried, calls_of, expand}
use Rattle.demands.specs.Demand2.{pending_of}
use Rattle.demands.specs.Batches.{IsNotes}
use Rattle.demands.specs.MigrationLog.{logged_as, logged_by, log_after}
use Rattle.demands.proofs.ViewLaws.{place_of-used}

-- ---- what is booked, seen at a place

module _ (g : Log) (i number x y z : ℕ) where
  booked-length : (p : Option ℕ) → length (booked_by g p number x y z).accounts ≡ length g.accounts
  unfolding booked_by
  booked-length p = go (eqb number 0) p
    where
      go : (b : Bool) (p : Option ℕ) → length (cond b (booked_in g p x y z) g).accounts ≡ length g.accounts
      go false p = refl
      go true None = refl
      go true (Some j) = booked_at-length g j x y z

  -- at another place
  booked-other : (p : Option ℕ) → (p ≡ Some i → ⊥) → totals_at (booked_by g p number x y z) i ≡ totals_at g i
  unfolding booked_by
  booked-other p n = go (eqb number 0) p n
    where
      go : (b : Bool) (p : Option ℕ) → (p ≡ Some i → ⊥) → totals_at (cond b (booked_in g p x y z) g) i ≡ totals_at g i
      go false p n = refl
      go true None n = refl
      go true (Some j) n = booked_at-other g j x y z i (λ e. n (ap Some (sym e)))

  booked-refused : (p : Option ℕ) → number ≢ 0 → booked_by g p number x y z ≡ g
  unfolding booked_by
  booked-refused p n = go (eqb number 0) refl
    where
      go : (b : Bool) → eqb number 0 ≡ b → cond b (booked_in g p x y z) g ≡ g
      go true e = absurd (n (eqb-true number 0 e))
      go false e = refl

-- ---- the totals at a place are those of a history

abbrev pub Told : Log → ℕ → List Did → Type 0
Told g i h = totals_at g i ≡ showing (shown_by h)

shows_same : (m m' r r' d d' : ℕ) → m ≡ m' → r ≡ r' → d ≡ d' → showing (shown_of m r d) ≡ showing (shown_of m' r' d')
shows_same m m' r r' d d' e f q = rw (e, f, q)

-- and those of one call more, where as much was booked as that adds
module _ (g : Log) (i : ℕ) (h : List Did) (d : Did) (there : i < length g.accounts) (told : Told g i h) where
  shows_more : (x y z : ℕ) → newly_of d.answer ≡ x → report_units (report_of d.answer) ≡ y → dropped_by h d ≡ z
      → showing (shown_of (units_marked h + x) (units_reported h + y) (units_dropped h + z)) ≡ showing (shown_by (h ++ d ∷ []))
  shows_more x y z u v w =
      let h' = h ++ d ∷ [] in
      shows_same (units_marked h + x) (units_marked h') (units_reported h + y) (units_reported h') (units_dropped h + z) (units_dropped h')
      (omega (arith, units_marked-snoc h d, u)) (omega (arith, units_reported-snoc h d, v)) (omega (arith, units_dropped-snoc h d, w))

  told-idle : newly_of d.answer ≡ 0 → report_units (report_of d.answer) ≡ 0 → dropped_by h d ≡ 0 → Told g i (h ++ d ∷ [])
  told-idle u v w =
      told ∙ shows_same (units_marked h) (units_marked h + 0) (units_reported h) (units_reported h + 0) (units_dropped h) (units_dropped h + 0) (omega arith) (omega arith) (omega arith)
      ∙ shows_more 0 0 0 u v w

  told-booked : (number x y z : ℕ) (p : Option ℕ) → p ≡ Some i → newly_of d.answer ≡ cond (eqb number 0) x 0
      → report_units (report_of d.answer) ≡ cond (eqb number 0) y 0 → dropped_by h d ≡ cond (eqb number 0) z 0
      → Told (booked_by g p number x y z) i (h ++ d ∷ [])
  unfolding booked_by
  told-booked number x y z p e = rw e (go (eqb number 0))
    where
      go : (b : Bool) → newly_of d.answer ≡ cond b x 0 → report_units (report_of d.answer) ≡ cond b y 0 → dropped_by h d ≡ cond b z 0
          → Told (cond b (booked_in g (Some i) x y z) g) i (h ++ d ∷ [])
      go true u v w =
          booked_at-own g i x y z there ∙ ap (λ t. added_to t x y z) told ∙ added_to-showing (units_marked h) (units_reported h) (units_dropped h) x y z ∙ shows_more x y z u v w
      go false u v w = told-idle u v w

-- ---- what an answer adds

abbrev did : Op → Answer → Did
did o a = record { op = o; answer = a }

-- a call that is no stop drops nothing
none_dropped : (h : List Did) (o : Op) (a : Answer) → stops o ≡ false → dropped_by h (did o a) ≡ 0
none_dropped h o a e = rw (e, and-false (is_accepted a))

none-either : (b : Bool) → ◌≡◌ {A = ℕ} 0 (cond b 0 0)
none-either true = refl
none-either false = refl

-- an answer with a number, of which 0 is done
module _ (n row : ℕ) where
  newly-answered : (a : Answer) (b : Bool) → newly_of (cond b a (refused n row)) ≡ cond b (newly_of a) 0
  newly-answered a true = refl
  newly-answered a false = refl

  report-answered : (a : Answer) (b : Bool) → report_units (report_of (cond b a (refused n row))) ≡ cond b (report_units (report_of a)) 0
  report-answered a true = refl
  report-answered a false = refl

  idle-newly : (a : Answer) → newly_of a ≡ 0 → newly_of (answered n row a) ≡ 0
  idle-newly a e = newly-answered a (eqb n 0) ∙ ap (λ k. cond (eqb n 0) k 0) e ∙ sym (none-either (eqb n 0))

  idle-report : (a : Answer) → report_units (report_of a) ≡ 0 → report_units (report_of (answered n row a)) ≡ 0
  idle-report a e = report-answered a (eqb n 0) ∙ ap (λ k. cond (eqb n 0) k 0) e ∙ sym (none-either (eqb n 0))

  stop-answered : (h : List Did) (m : ℕ) (b : Bool) → dropped_by h (did (stop m) (cond b done (refused n row))) ≡ cond b (units_pending h) 0
  stop-answered h m true = refl
  stop-answered h m false = refl

  accepted-answered : (c : ℕ) (b : Bool) → is_accepted (cond b (wrote c) (refused n row)) ≡ b
  accepted-answered c true = refl
  accepted-answered c false = refl

-- a call that marks, reports and drops nothing
told-answered : (g : Log) (i : ℕ) (h : List Did) → i < length g.accounts → Told g i h → (n row : ℕ) (a : Answer) (o : Op) → newly_of a ≡ 0 → report_units (report_of a) ≡ 0 → stops o ≡ false
    → Told g i (h ++ did o (answered n row a) ∷ [])
told-answered g i h there t n row a o u v w =
    told-idle g i h (did o (answered n row a)) there t (idle-newly n row a u) (idle-report n row a v) (none_dropped h o (answered n row a) w)

yields-newly : (whole : ℕ) (area : List ℕ) → newly_of (yields whole area) ≡ 0
yields-newly whole area = go (eqb whole 0)
  where
    go : (b : Bool) → newly_of (cond b done (assembled (take whole area))) ≡ 0
    go true = refl
    go false = refl

yields-report : (whole : ℕ) (area : List ℕ) → report_units (report_of (yields whole area)) ≡ 0
yields-report whole area = go (eqb whole 0)
  where
    go : (b : Bool) → report_units (report_of (cond b done (assembled (take whole area)))) ≡ 0
    go true = refl
    go false = refl

-- ---- a call

module _ (en : Engine) (l : Left) (g : Log) where
  -- to another controller
  pub logged-other : (id i : ℕ) (o : Op) → (place_of l.device.settings id ≡ Some i → ⊥) → totals_at (logged_as en l g id o) i ≡ totals_at g i
  logged-other id i (stop m) n = booked-other g i _ _ _ _ (place_of l.device.settings id) n
  logged-other id i (write w) n = booked-other g i _ _ _ _ (place_of l.device.settings id) n
  logged-other id i (receive m x) n = booked-other g i _ _ _ _ (place_of l.device.settings id) n
  logged-other id i (start m x) n = refl
  logged-other id i (suspend m kind) n = refl
  logged-other id i (resume m) n = refl
  logged-other id i (part m p) n = refl
  logged-other id i (queue bytes k) n = refl

  pub logged-length : (id : ℕ) (o : Op) → length (logged_as en l g id o).accounts ≡ length g.accounts
  logged-length id (stop m) = booked-length g 0 _ _ _ _ (place_of l.device.settings id)
  logged-length id (write w) = booked-length g 0 _ _ _ _ (place_of l.device.settings id)
  logged-length id (receive m x) = booked-length g 0 _ _ _ _ (place_of l.device.settings id)
  logged-length id (start m x) = refl
  logged-length id (suspend m kind) = refl
  logged-length id (resume m) = refl
  logged-length id (part m p) = refl
  logged-length id (queue bytes k) = refl

  -- to the controller itself: its totals are those of its history with this call
  pub told-step : (id i : ℕ) (h : List Did) → i < length g.accounts → place_of l.device.settings id ≡ Some i → units_pending h ≡ units_held en l.device l.marks id → Told g i h
      → (o : Op) → Told (logged_as en l g id o) i (h ++ did o (run_as en l.device l.marks l.area l.queues id o).answer ∷ [])
  told-step id i h there at held t (write w) =
      let n = (write_by en l.device l.marks id w).answer in
      let a = answered n.number 0 (wrote n.count) in
      told-booked g i h (did (write w) a) there t n.number n.count 0 0 (place_of l.device.settings id) at (newly-answered n.number 0 (wrote n.count) (eqb n.number 0))
      (report-answered n.number 0 (wrote n.count) (eqb n.number 0)) (none_dropped h (write w) a refl ∙ none-either (eqb n.number 0))
  told-step id i h there at held t (receive m x) =
      let r = receive_by en l.device l.marks m id x in
      let n = r.answer.number in
      let a = answered n 0 (reported r.report) in
      told-booked g i h (did (receive m x) a) there t n 0 (report_units r.report) 0 (place_of l.device.settings id) at (newly-answered n 0 (reported r.report) (eqb n 0))
      (report-answered n 0 (reported r.report) (eqb n 0)) (none_dropped h (receive m x) a refl ∙ none-either (eqb n 0))
  told-step id i h there at held t (stop m) =
      let n = (stop_by en l.device l.marks m id).answer.number in
      let a = answered n 0 done in
      told-booked g i h (did (stop m) a) there t n 0 0 (units_held en l.device l.marks id) (place_of l.device.settings id) at (newly-answered n 0 done (eqb n 0))
      (report-answered n 0 done (eqb n 0)) (stop-answered n 0 h m (eqb n 0) ∙ ap (λ k. cond (eqb n 0) k 0) held)
  told-step id i h there at held t (start m x) =
      let c = (start_by en l.device l.marks m id x).answer in
      told-answered g i h there t c.number c.row done (start m x) refl refl refl
  told-step id i h there at held t (suspend m kind) =
      told-answered g i h there t (suspend_change l.device (en.words l.marks) m id kind).number 0 done (suspend m kind) refl refl refl
  told-step id i h there at held t (resume m) =
      told-answered g i h there t (resume_change l.device (en.words l.marks) m id).number 0 done (resume m) refl refl refl
  told-step id i h there at held t (part m p) =
      let c = part_change l.device (en.words l.marks) l.area m id p in
      told-answered g i h there t c.answer.number 0 (yields c.answer.whole c.area) (part m p) (yields-newly c.answer.whole c.area) (yields-report c.answer.whole c.area) refl
  told-step id i h there at held t (queue bytes make) =
      told-answered g i h there t (make_change l.device (en.words l.marks) id bytes).number 0 done (queue bytes make) refl refl refl
  told-step id i h there at held t (queue bytes (post e)) =
      let c = (post_change l.device (en.words l.marks) (lent_at l.queues (place_of l.device.settings id) bytes) id e).answer in
      told-answered g i h there t c.number 0 (posted c.stopped) (queue bytes (post e)) refl refl refl
  told-step id i h there at held t (queue bytes (order.take n x)) =
      let c = take_change l.device (en.words l.marks) (lent_at l.queues (place_of l.device.settings id) bytes) id n x in
      told-answered g i h there t c.answer.number 0 (taken (queued c.buffer c.answer.count 0 c.answer.count) c.answer.closing) (queue bytes (order.take n x)) refl refl refl

  -- a refused call books nothing
  pub refused_none : (k : Call) → number_of (outcome en l k).answer ≢ 0 → logged_as en l g k.id k.op ≡ g
  unfolding run
  refused_none k = go k.id k.op
    where
      number_is : (n : ℕ) (a : Answer) → number_of a ≡ 0 → number_of (answered n 0 a) ≢ 0 → n ≢ 0
      number_is n a z u e = u (rw e z)

      go : (id : ℕ) (o : Op) → number_of (run_as en l.device l.marks l.area l.queues id o).answer ≢ 0 → logged_as en l g id o ≡ g
      go id (stop m) u = booked-refused g 0 _ _ _ _ _ (number_is _ done refl u)
      go id (write w) u = booked-refused g 0 _ _ _ _ _ (number_is _ (wrote _) refl u)
      go id (receive m x) u = booked-refused g 0 _ _ _ _ _ (number_is _ (reported _) refl u)
      go id (start m x) u = refl
      go id (suspend m kind) u = refl
      go id (resume m) u = refl
      go id (part m p) u = refl
      go id (queue bytes k) u = refl

-- ---- the units that a stop counts are the pending ones

on-count : (en : Engine) (ws : List ℕ) (base : ℕ) (t : Tracking) (rs : List Range) → pending_with en ws base t rs ≡ length (pending_on (marks_of en ws base t rs))
on-count en ws base Off rs = refl
on-count en ws base (On g n) rs = refl

slots-pending : (en : Engine) (ws : List ℕ) (f : ℕ → Option (List ℕ)) (qs : ℕ → List ℕ) (cs : List Controller) (k i : ℕ)
    → let c = get_or cs i no_controller in
    pending_on (marks_of en ws c.base c.tracking c.ranges) ≡ pending_in (get_or (slots_from en ws f qs k cs) i fresh_slot)
slots-pending en ws f qs [] k i = refl
slots-pending en ws f qs (c ∷ cs) k zero = refl
slots-pending en ws f qs (c ∷ cs) k (suc i) = slots-pending en ws f qs cs (suc k) i

pub held-pending : (en : Engine) (l : Left) (a : ℕ) → units_held en l.device l.marks a ≡ length (pending_of en l a)
unfolding units_held
held-pending en l a = go (place_of l.device.settings a) refl
  where
    go : (p : Option ℕ) → place_of l.device.settings a ≡ p → units_held en l.device l.marks a ≡ length (pending_of en l a)
    go None e = rw e
    go (Some i) e =
        let c = controller_at l.device (Some i) in
        let same : get_or (take l.device.settings.count l.device.controllers) i no_controller ≡ c = get_or-take l.device.settings.count l.device.controllers i no_controller (place_of-used l.device a i e) in
        rw e
        (on-count en l.marks c.base c.tracking c.ranges
        ∙ ap (λ (d : Controller). length (pending_on (marks_of en l.marks d.base d.tracking d.ranges))) (sym same)
        ∙ ap length (slots-pending en l.marks (front_at l.device.settings l.device.sequence l.area) l.queues (take l.device.settings.count l.device.controllers) 0 i))

-- ---- calls one after another

abbrev pub call_log : Engine → Left → Log → List Call → Log
call_log en l g [] = g
call_log en l g (k ∷ ks) = call_log en (next en l k) (logged_as en l g k.id k.op) ks

one-note : (en : Engine) (r : WriteRecord) (rs : List WriteRecord) (l : Left) (g : Log)
    → ((l : Left) (g : Log) → notes_log en g l.device l.marks rs ≡ call_log en l g (tried en l rs))
    → notes_log en g l.device l.marks (r ∷ rs) ≡ call_log en l g (tried en l (r ∷ rs))
unfolding run
one-note en r rs l g ih =
    let n = write_by en l.device l.marks r.id (write_in r) in
    rw (accepted-answered n.answer.number 0 n.answer.count (eqb n.answer.number 0)) (go (eqb n.answer.number 0))
  where
    after : Left
    after = next en l (note_of r)

    later : Log
    later = logged_as en l g r.id (note_of r).op

    go : (b : Bool) → cond b (notes_log en later after.device after.marks rs) later ≡ call_log en after later (cond b (tried en after rs) [])
    go true = ih after later
    go false = refl

module _ (en : Engine) where
  call-append : (ks js : List Call) (l : Left) (g : Log) → call_log en l g (ks ++ js) ≡ call_log en (left_after en l ks) (call_log en l g ks) js
  call-append [] js l g = refl
  call-append (k ∷ ks) js l g = call-append ks js (next en l k) (logged_as en l g k.id k.op)

  pub history-append : (a : ℕ) (ks js : List Call) (l : Left)
      → history_of a (answers_to en l (ks ++ js)) ≡ history_of a (answers_to en l ks) ++ history_of a (answers_to en (left_after en l ks) js)
  history-append a [] js l = refl
  history-append a (k ∷ ks) js l = go (eqb k.id a) (history_of a (answers_to en (next en l k) ks)) (history_of a (answers_to en (left_after en (next en l k) ks) js)) (history-append a ks js (next en l k))
    where
      d : Did
      d = did k.op (outcome en l k).answer

      go : (b : Bool) {x : List Did} (y z : List Did) → x ≡ y ++ z → cond b (d ∷ x) x ≡ cond b (d ∷ y) y ++ z
      go true y z e = ap (λ q. d ∷ q) e
      go false y z e = e

  -- a batch is logged as its tried notes are
  notes-log : (rs : List WriteRecord) (l : Left) (g : Log) → notes_log en g l.device l.marks rs ≡ call_log en l g (tried en l rs)
  notes-log [] l g = refl
  notes-log (r ∷ rs) l g = one-note en r rs l g (notes-log rs)

  module _ (step_left : (l : Left) (x : Step) → stepped en l x ≡ left_after en l (calls_of en l x)) (notes : (l : Left) (rs : List WriteRecord) → IsNotes en l rs) where
    step-log : (x : Step) (l : Left) (g : Log) → logged_by en l g x ≡ call_log en l g (calls_of en l x)
    unfolding batch_log
    step-log (one k) l g = refl
    step-log (batch rs) l g = rw (← (notes l rs).answers.first) (go (eqb (batch_by en l.device l.marks rs).answer.number 0))
      where
        go : (b : Bool) → cond b (notes_log en g l.device l.marks rs) g ≡ call_log en l g (cond b (tried en l rs) [])
        go true = notes-log rs l g
        go false = refl

    pub steps-log : (xs : List Step) (l : Left) (g : Log) → log_after en l g xs ≡ call_log en l g (expand en l xs)
    steps-log [] l g = refl
    steps-log (x ∷ xs) l g =
        steps-log xs (stepped en l x) (logged_by en l g x)
        ∙ ap (λ (e : Log). call_log en (stepped en l x) e (expand en (stepped en l x) xs)) (step-log x l g)
        ∙ ap (λ (q : Left). call_log en q (call_log en l g (calls_of en l x)) (expand en (stepped en l x) xs)) (step_left l x)
        ∙ sym (call-append (calls_of en l x) (expand en (stepped en l x) xs) l g)
