-- Demand 2 for one slot: what a slot holds is what the history of its controller's calls and answers tells. A refused call tells nothing; each
-- accepted one is taken in turn. Assumes nothing.
use mathlib.Core.Path.{◌≡◌, refl, sym, ap, ap₂, subst, ◌∙◌}
use mathlib.Core.Logic.{◌↔◌}
use mathlib.Core.Bool.{Bool, true, false, ◌&&◌, ◌||◌, not, cond, or-false, and-true, and-false, or-true, and_assoc, true≢false}
use mathlib.Core.List.{List, [], ◌∷◌, ◌++◌, map}
use Rattle.std.specs.declared.option.Option.{Option}
use Rattle.std.specs.declared.option.Option.TheVariants.{None, Some}
use Prim.Native.Nat.{ℕ}
use lib.Dec.{eqb}
use lib.ListN.{length}
use Rattle.rules.specs.Lists.{is_some}
use Rattle.rules.specs.Settings.{unit_size}
use Rattle.rules.specs.Units.{Unit, Write, units, touches, clear, mark, newly}
use Rattle.rules.specs.StartData.{granularity_of, count_of, ranges_of}
use Rattle.rules.specs.Report.{room, report_on, marks_left}
use Rattle.rules.specs.Order.{Op, start, stop, write, receive, suspend, resume, part, queue, QueueCall, make, post, take, Part, offset_of, is_first, is_last, follows_on, follows, so_far, joined_with, Seen, Arriving, order}
use Rattle.rules.specs.Machine.{Answer, refused, done, wrote, reported, assembled, Marks, off, on, Slot, fresh_slot, tracker_in, pending_on, places_in, wrote_in, reported_in, queue_in, accepted, slot_step}
use Rattle.rules.specs.Queue.{Queued}
use Rattle.rules.specs.History.{Did, is_accepted, touched_by, started_by, reported_by, quiet_since, pending_by, PendingBy, told_by, tracks_after, tracks_by, suspends_after, suspended_by, manages_after, manager_by, opens_after, open_by, joins_with, joins_after, joined_by, front_by, marks_by, slot_by}
use Rattle.rules.specs.Totals.{units_pending}
use Rattle.rules.specs.declared.Range.{Range}
use Rattle.rules.specs.declared.Settings.{Settings}
use Rattle.rules.proofs.ListLaws.{map_same}
use Rattle.rules.proofs.RefusalLaws.{Passed, verdict-has}
use Rattle.rules.proofs.OrderLaws.{start_order-passed, list_tests-aligned, part_order-passed}
use Rattle.rules.proofs.QueueHistory.{Logged, Ready, logged-is, logged-fresh, logged-refused, logged-idle, logged-queue, queue-ready}
use Rattle.rules.proofs.TotalLaws.{Accounts, pending_among-is, accounts-idle, accounts-start, accounts-stop, accounts-write, accounts-receive, accounts-part, accounts-queue}
use Rattle.rules.proofs.UnitLaws.{Apart, unit_size-pos, units_from-apart, units_from-sized, mark-map}
use Rattle.rules.proofs.RunLaws.{marks_left-map}

-- ---- pending_by: as a statement, and with one event more

pub pending_by-iff : (h : List Did) (u : Unit) → (pending_by h u ≡ true) ↔ PendingBy h u
pending_by-iff h u = (to h, λ r. subst (λ l. pending_by l u ≡ true) (sym r.is) (fro r.before r.last r.later r.touched r.quiet))
  where
    later : (d : Did) (h : List Did) → PendingBy h u → PendingBy (d ∷ h) u
    later d h r = record { before = d ∷ r.before; last = r.last; later = r.later; is = ap (λ l. d ∷ l) r.is; touched = r.touched; quiet = r.quiet }

    to : (h : List Did) → pending_by h u ≡ true → PendingBy h u
    to [] = λ e. absurd (true≢false (sym e))
    to (d ∷ h) = go (touched_by d u) refl (quiet_since h u) refl (to h)
      where
        go : (t : Bool) → touched_by d u ≡ t → (q : Bool) → quiet_since h u ≡ q → (pending_by h u ≡ true → PendingBy h u)
            → (t && q || pending_by h u) ≡ true → PendingBy (d ∷ h) u
        go true t true q ih = λ e. record { before = []; last = d; later = h; is = refl; touched = t; quiet = q }
        go true t false q ih = λ e. later d h (ih e)
        go false t q' q ih = λ e. later d h (ih e)

    fro : (b : List Did) (d : Did) (l : List Did) → touched_by d u ≡ true → quiet_since l u ≡ true → pending_by (b ++ d ∷ l) u ≡ true
    fro [] d l w q = rw (w, q)
    fro (x ∷ b) d l w q = rw (fro b d l w q) (or-true (touched_by x u && quiet_since (b ++ d ∷ l) u))

-- tracking started, or the unit was reported
abbrev ends : Did → Unit → Bool
ends d u = started_by d || reported_by d u

quiet_since-snoc : (h : List Did) (d : Did) (u : Unit) → quiet_since (h ++ d ∷ []) u ≡ (quiet_since h u && not (ends d u))
quiet_since-snoc [] d u = and-true (not (ends d u))
quiet_since-snoc (x ∷ h) d u = ap (λ b. not (ends x u) && b) (quiet_since-snoc h d u) ∙ sym (and_assoc (not (ends x u)) (quiet_since h u) (not (ends d u)))

regroup : (t q n p w : Bool) → (t && (q && n) || (p && n || w)) ≡ ((t && q || p) && n || w)
regroup true true true p w = refl
regroup true true false true w = refl
regroup true true false false w = refl
regroup true false n p w = refl
regroup false q n p w = refl

pub pending_by-snoc : (h : List Did) (d : Did) (u : Unit) → pending_by (h ++ d ∷ []) u ≡ (pending_by h u && not (ends d u) || touched_by d u)
pending_by-snoc [] d u = or-false (touched_by d u && true) ∙ and-true (touched_by d u)
pending_by-snoc (x ∷ h) d u =
    ap₂ (λ a b. touched_by x u && a || b) (quiet_since-snoc h d u) (pending_by-snoc h d u)
    ∙ regroup (touched_by x u) (quiet_since h u) (not (ends d u)) (pending_by h u) (touched_by d u)

pub told_by-snoc : {A : Type 0} (f : A → Op → A) (h : List Did) (d : Did) (x : A) → told_by f x (h ++ d ∷ []) ≡ cond (is_accepted d.answer) (f (told_by f x h) d.op) (told_by f x h)
told_by-snoc f [] d x = refl
told_by-snoc f (e ∷ h) d x = told_by-snoc f h d (cond (is_accepted e.answer) (f x e.op) x)

-- ---- the invariant

-- its marks are the history's, and its units share no byte
abbrev pub Told : List Did → Marks → Type 0
Told h off = Prim.Unit {0}
Told h (on g rs p) = (p ≡ map (pending_by h) (units g rs)) × Apart (units g rs)

-- with what it is tracked
abbrev pub tracking : Marks → Option (ℕ × List Range)
tracking off = None
tracking (on g rs p) = Some (g, rs)

pub record Known (h : List Did) (c : Slot) : Type 0 where
  pub marks : Told h c.marks
  pub tracked : tracking c.marks ≡ tracks_by None h
  pub manager : c.manager ≡ manager_by h
  pub suspended : c.suspended ≡ suspended_by false h
  pub front : c.front ≡ front_by h
  pub queue : Logged h c.queue
  pub accounts : Accounts h c.marks

-- it says what the slot is
told_is : (h : List Did) (t : Marks) → Told h t → t ≡ marks_by h (tracking t)
told_is h off k = refl
told_is h (on g rs p) k = ap (on g rs) k.0

marks_are : (h : List Did) (c : Slot) → Known h c → c.marks ≡ marks_by h (tracks_by None h)
marks_are h c k = told_is h c.marks k.marks ∙ ap (marks_by h) k.tracked

pub known_is : (h : List Did) (c : Slot) → Known h c → c ≡ slot_by h
known_is h c k =
    ap₂ (λ b t. record { suspended = b; manager = c.manager; marks = t; front = c.front; queue = c.queue }) k.suspended (marks_are h c k)
    ∙ ap (λ m. record { suspended = suspended_by false h; manager = m; marks = marks_by h (tracks_by None h); front = c.front; queue = c.queue }) k.manager
    ∙ ap₂ (λ (f : Option (List ℕ)) (q : Option Queued). record { suspended = suspended_by false h; manager = manager_by h; marks = marks_by h (tracks_by None h); front = f; queue = q }) k.front (logged-is h c.queue k.queue)

-- W13: as many units are pending by the history as in the slot
pub known-pending : (h : List Did) (c : Slot) → Known h c → units_pending h ≡ length (pending_on c.marks)
known-pending h c k = sym (ap (λ t. length (pending_on t)) (marks_are h c k) ∙ pending_among-is h (tracks_by None h))

pub known-fresh : Known [] fresh_slot
known-fresh = record { marks = tt; tracked = refl; manager = refl; suspended = refl; front = refl; queue = logged-fresh; accounts = refl }

abbrev pub did : Op → Answer → Did
did o a = record { op = o; answer = a }

-- ---- one call more

-- marks stay as they were where nothing starts, is reported or is touched
told-idle : (h : List Did) (d : Did) (t : Marks) → ((u : Unit) → ends d u ≡ false) → ((u : Unit) → touched_by d u ≡ false) → Told h t → Told (h ++ d ∷ []) t
told-idle h d off e w k = tt
told-idle h d (on g rs p) e w k = (k.0 ∙ map_same same (units g rs), k.1)
  where
    same : (u : Unit) → pending_by h u ≡ pending_by (h ++ d ∷ []) u
    same u = sym (pending_by-snoc h d u ∙ ap₂ (λ a b. pending_by h u && not a || b) (e u) (w u) ∙ or-false (pending_by h u && true) ∙ and-true (pending_by h u))

-- a refused call
known-refused : (h : List Did) (o : Op) (n i : ℕ) (c : Slot) → Known h c → Known (h ++ did o (refused n i) ∷ []) c
known-refused h o n i c k =
    record {
      marks = told-idle h d c.marks (λ u. refl) (λ u. refl) k.marks;
      tracked = k.tracked ∙ sym (told_by-snoc tracks_after h d None);
      manager = k.manager ∙ sym (told_by-snoc manages_after h d 0);
      suspended = k.suspended ∙ sym (told_by-snoc suspends_after h d false);
      front = k.front ∙ ap₂ (λ b x. cond b (Some x) None) (sym (told_by-snoc opens_after h d false)) (sym (told_by-snoc joins_after h d []));
      queue = logged-refused h o n i c.queue k.queue;
      accounts = accounts-idle h d c.marks refl refl refl k.accounts;
    }
  where
    d : Did
    d = did o (refused n i)

-- the marks after each accepted call
told-start : (h : List Did) (m : ℕ) (x : List ℕ) → Apart (units (granularity_of x) (ranges_of x))
    → Told (h ++ did (start m x) done ∷ []) (on (granularity_of x) (ranges_of x) (clear (units (granularity_of x) (ranges_of x))))
told-start h m x free = (map_same none-pending (units (granularity_of x) (ranges_of x)), free)
  where
    none-pending : (u : Unit) → false ≡ pending_by (h ++ did (start m x) done ∷ []) u
    none-pending u = sym (pending_by-snoc h (did (start m x) done) u ∙ or-false (pending_by h u && false) ∙ and-false (pending_by h u))

told-write : (h : List Did) (w : Write) (t : Marks) → Told h t → Told (h ++ did (write w) (wrote_in w t).0 ∷ []) (wrote_in w t).1
told-write h w off i = tt
told-write h w (on g rs p) i = (ap (mark w (units g rs)) i.0 ∙ mark-map w (pending_by h) (units g rs) ∙ map_same more (units g rs), i.1)
  where
    d : Did
    d = did (write w) (wrote (newly w (units g rs) p))

    more : (u : Unit) → (pending_by h u || touches w u) ≡ pending_by (h ++ d ∷ []) u
    more u = sym (pending_by-snoc h d u ∙ ap (λ z. z || touches w u) (and-true (pending_by h u)))

told-receive : (h : List Did) (m : ℕ) (x : List ℕ) (b : Bool) (t : Marks) → Told h t
    → Told (h ++ did (receive m x) (reported_in b (length x) t).0 ∷ []) (reported_in b (length x) t).1
told-receive h m x b off i = tt
told-receive h m x b (on g rs p) i = (left ∙ map_same same us, i.1)
  where
    k : ℕ
    k = room (length x)

    us : List Unit
    us = units g rs

    d : Did
    d = did (receive m x) (reported (report_on b g k us p))

    left : marks_left k us p ≡ map (λ u. pending_by h u && not (reported_by d u)) us
    left =
        subst (λ (q : List Bool). marks_left k us q ≡ map (λ u. pending_by h u && not (reported_by (did (receive m x) (reported (report_on b g k us q))) u)) us) (sym i.0)
        (marks_left-map (pending_by h) g k us (units_from-sized (unit_size g) 0 [] rs) i.1)

    same : (u : Unit) → (pending_by h u && not (reported_by d u)) ≡ pending_by (h ++ d ∷ []) u
    same u = sym (pending_by-snoc h d u ∙ or-false (pending_by h u && not (reported_by d u)))

-- what the tests of a call give its slot: the units of a start are apart and it was not tracked, a part follows, and a post or a take has a queue
abbrev Allowed : Slot → Op → Type 0
Allowed c (start m x) = Apart (units (granularity_of x) (ranges_of x)) × (not (is_some (tracker_in c)) ≡ true)
Allowed c (stop m) = Prim.Unit {0}
Allowed c (write w) = Prim.Unit {0}
Allowed c (receive m x) = Prim.Unit {0}
Allowed c (suspend m kind) = Prim.Unit {0}
Allowed c (resume m) = Prim.Unit {0}
Allowed c (part m p) = follows c.front p ≡ true
Allowed c (queue bytes k) = Ready bytes k c.queue

allowed : (s : Settings) (v : Seen) (a : Arriving) (c : Slot) (o : Op) → a.front ≡ c.front → v.places ≡ places_in c.queue → v.tracker ≡ tracker_in c → Passed (order s v a o) → Allowed c o
unfolding order
allowed s v a c (start m x) e f t h =
    let r = start_order-passed s m v x h in (
      units_from-apart (unit_size (granularity_of x)) 0 [] (ranges_of x) (unit_size-pos (granularity_of x)) (list_tests-aligned s (granularity_of x) (count_of x) (ranges_of x) r.list),
      subst (λ y. not (is_some y) ≡ true) t r.untracked,
    )
allowed s v a c (stop m) e f t h = tt
allowed s v a c (write w) e f t h = tt
allowed s v a c (receive m x) e f t h = tt
allowed s v a c (suspend m kind) e f t h = tt
allowed s v a c (resume m) e f t h = tt
allowed s v a c (part m p) e f t h = subst (λ y. follows y p ≡ true) e (part_order-passed s m v a p h).follow
allowed s v a c (queue bytes k) e f t h = queue-ready v bytes k c.queue f h

-- an accepted call: its answer, and what becomes of its ranges, its flag and its marks
pub accepted-done : (c : Slot) (o : Op) → is_accepted (accepted c o).0 ≡ true
accepted-done c (start m x) = refl
accepted-done c (stop m) = refl
accepted-done c (write w) = go c.marks
  where
    go : (t : Marks) → is_accepted (wrote_in w t).0 ≡ true
    go off = refl
    go (on g rs p) = refl
accepted-done c (receive m x) = go c.marks
  where
    go : (t : Marks) → is_accepted (reported_in c.suspended (length x) t).0 ≡ true
    go off = refl
    go (on g rs p) = refl
accepted-done c (suspend m kind) = refl
accepted-done c (resume m) = refl
accepted-done c (part m p) = go (is_last p)
  where
    go : (b : Bool) → is_accepted (cond {A = Answer × Option (List ℕ)} b (assembled (joined_with c.front p), None) (done, Some (joined_with c.front p))).0 ≡ true
    go true = refl
    go false = refl
accepted-done c (queue bytes k) = go k c.queue
  where
    go : (k : QueueCall) (q : Option Queued) → is_accepted (queue_in bytes k q).0 ≡ true
    go make q = refl
    go (post e) None = refl
    go (post e) (Some q) = refl
    go (take asked x) None = refl
    go (take asked x) (Some q) = refl

accepted-tracks : (c : Slot) (o : Op) → tracking (accepted c o).1.marks ≡ tracks_after (tracking c.marks) o
accepted-tracks c (start m x) = refl
accepted-tracks c (stop m) = refl
accepted-tracks c (write w) = go c.marks
  where
    go : (t : Marks) → tracking (wrote_in w t).1 ≡ tracking t
    go off = refl
    go (on g rs p) = refl
accepted-tracks c (receive m x) = go c.marks
  where
    go : (t : Marks) → tracking (reported_in c.suspended (length x) t).1 ≡ tracking t
    go off = refl
    go (on g rs p) = refl
accepted-tracks c (suspend m kind) = refl
accepted-tracks c (resume m) = refl
accepted-tracks c (part m p) = refl
accepted-tracks c (queue bytes k) = refl

accepted-manages : (c : Slot) (o : Op) → (accepted c o).1.manager ≡ manages_after c.manager o
accepted-manages c (start m x) = refl
accepted-manages c (stop m) = refl
accepted-manages c (write w) = refl
accepted-manages c (receive m x) = refl
accepted-manages c (suspend m kind) = refl
accepted-manages c (resume m) = refl
accepted-manages c (part m p) = refl
accepted-manages c (queue bytes k) = refl

accepted-suspends : (c : Slot) (o : Op) → (accepted c o).1.suspended ≡ suspends_after c.suspended o
accepted-suspends c (start m x) = refl
accepted-suspends c (stop m) = refl
accepted-suspends c (write w) = refl
accepted-suspends c (receive m x) = refl
accepted-suspends c (suspend m kind) = refl
accepted-suspends c (resume m) = refl
accepted-suspends c (part m p) = refl
accepted-suspends c (queue bytes k) = refl

-- what a part that follows makes of the bytes so far is what the history tells
pub joined_with-told : (h : List Did) (p : Part) (y : Option (List ℕ)) → y ≡ front_by h → follows y p ≡ true → joined_with y p ≡ joins_with (joined_by h) p
joined_with-told h p y e o = go (is_first p) (open_by h) e o
  where
    go : (f b : Bool) → y ≡ cond b (Some (joined_by h)) None → cond f (eqb (offset_of p) 0) (follows_on y p) ≡ true
        → cond f p.bytes (so_far y ++ p.bytes) ≡ cond f p.bytes (joined_by h ++ p.bytes)
    go true b e o = refl
    go false true e o = rw e
    go false false e o = absurd (true≢false (sym o ∙ ap (λ z. follows_on z p) e))

accepted-front : (h : List Did) (c : Slot) (o : Op) → Allowed c o → c.front ≡ front_by h
    → (accepted c o).1.front ≡ cond (opens_after (open_by h) o) (Some (joins_after (joined_by h) o)) None
accepted-front h c (start m x) free k = k
accepted-front h c (stop m) free k = k
accepted-front h c (write w) free k = k
accepted-front h c (receive m x) free k = k
accepted-front h c (suspend m kind) free k = k
accepted-front h c (resume m) free k = refl
accepted-front h c (queue bytes j) free k = k
accepted-front h c (part m p) free k = go (is_last p) (joined_with-told h p c.front k free)
  where
    go : (l : Bool) {x : List ℕ} → joined_with c.front p ≡ x
        → (cond {A = Answer × Option (List ℕ)} l (assembled (joined_with c.front p), None) (done, Some (joined_with c.front p))).1 ≡ cond (not l) (Some x) None
    go true e = refl
    go false e = ap Some e

accepted-told : (h : List Did) (c : Slot) (o : Op) → Allowed c o → Told h c.marks → Told (h ++ did o (accepted c o).0 ∷ []) (accepted c o).1.marks
accepted-told h c (start m x) free i = told-start h m x free.0
accepted-told h c (stop m) free i = tt
accepted-told h c (write w) free i = told-write h w c.marks i
accepted-told h c (receive m x) free i = told-receive h m x c.suspended c.marks i
accepted-told h c (suspend m kind) free i = told-idle h (did (suspend m kind) done) c.marks (λ u. refl) (λ u. refl) i
accepted-told h c (resume m) free i = told-idle h (did (resume m) done) c.marks (λ u. refl) (λ u. refl) i
accepted-told h c (part m p) free i = go (is_last p)
  where
    go : (b : Bool) → Told (h ++ did (part m p) (cond {A = Answer × Option (List ℕ)} b (assembled (joined_with c.front p), None) (done, Some (joined_with c.front p))).0 ∷ []) c.marks
    go true = told-idle h (did (part m p) (assembled (joined_with c.front p))) c.marks (λ u. refl) (λ u. refl) i
    go false = told-idle h (did (part m p) done) c.marks (λ u. refl) (λ u. refl) i
accepted-told h c (queue bytes k) free i = go k c.queue
  where
    go : (k : QueueCall) (q : Option Queued) → Told (h ++ did (queue bytes k) (queue_in bytes k q).0 ∷ []) c.marks
    go make q = told-idle h _ c.marks (λ u. refl) (λ u. refl) i
    go (post e) None = told-idle h _ c.marks (λ u. refl) (λ u. refl) i
    go (post e) (Some q) = told-idle h _ c.marks (λ u. refl) (λ u. refl) i
    go (take asked x) None = told-idle h _ c.marks (λ u. refl) (λ u. refl) i
    go (take asked x) (Some q) = told-idle h _ c.marks (λ u. refl) (λ u. refl) i

accepted-logged : (h : List Did) (c : Slot) (o : Op) → Allowed c o → Logged h c.queue → Logged (h ++ did o (accepted c o).0 ∷ []) (accepted c o).1.queue
accepted-logged h c (start m x) free k = logged-idle h _ c.queue (λ A f y. refl) k
accepted-logged h c (stop m) free k = logged-idle h _ c.queue (λ A f y. refl) k
accepted-logged h c (write w) free k = logged-idle h _ c.queue (λ A f y. refl) k
accepted-logged h c (receive m x) free k = logged-idle h _ c.queue (λ A f y. refl) k
accepted-logged h c (suspend m kind) free k = logged-idle h _ c.queue (λ A f y. refl) k
accepted-logged h c (resume m) free k = logged-idle h _ c.queue (λ A f y. refl) k
accepted-logged h c (part m p) free k = logged-idle h _ c.queue (λ A f y. refl) k
accepted-logged h c (queue bytes j) free k = logged-queue h bytes j c.queue free k

accepted-accounts : (h : List Did) (c : Slot) (o : Op) → Allowed c o → units_pending h ≡ length (pending_on c.marks) → Accounts h c.marks
    → Accounts (h ++ did o (accepted c o).0 ∷ []) (accepted c o).1.marks
accepted-accounts h c (start m x) free e k = accounts-start h m x c.manager c.marks free.1 k
accepted-accounts h c (stop m) free e k = accounts-stop h m c.marks e k
accepted-accounts h c (write w) free e k = accounts-write h w c.marks k
accepted-accounts h c (receive m x) free e k = accounts-receive h m x c.suspended c.marks k
accepted-accounts h c (suspend m kind) free e k = accounts-idle h (did (suspend m kind) done) c.marks refl refl refl k
accepted-accounts h c (resume m) free e k = accounts-idle h (did (resume m) done) c.marks refl refl refl k
accepted-accounts h c (part m p) free e k = accounts-part h m p c.front c.marks k
accepted-accounts h c (queue bytes j) free e k = accounts-queue h bytes j c.queue c.marks k

known-accepted : (h : List Did) (c : Slot) (o : Op) → Allowed c o → Known h c → Known (h ++ did o (accepted c o).0 ∷ []) (accepted c o).1
known-accepted h c o free k =
    record {
      marks = accepted-told h c o free k.marks;
      tracked = accepted-tracks c o ∙ ap (λ x. tracks_after x o) k.tracked ∙ sym (told tracks_after None);
      manager = accepted-manages c o ∙ ap (λ x. manages_after x o) k.manager ∙ sym (told manages_after 0);
      suspended = accepted-suspends c o ∙ ap (λ x. suspends_after x o) k.suspended ∙ sym (told suspends_after false);
      front = accepted-front h c o free k.front ∙ ap₂ (λ b x. cond b (Some x) None) (sym (told opens_after false)) (sym (told joins_after []));
      queue = accepted-logged h c o free k.queue;
      accounts = accepted-accounts h c o free (known-pending h c k) k.accounts;
    }
  where
    d : Did
    d = did o (accepted c o).0

    told : {A : Type 0} (f : A → Op → A) (x : A) → told_by f x (h ++ d ∷ []) ≡ f (told_by f x h) o
    told f x = told_by-snoc f h d x ∙ ap (λ b. cond b (f (told_by f x h) o) (told_by f x h)) (accepted-done c o)

-- any call
pub known_step : (s : Settings) (v : Seen) (a : Arriving) (h : List Did) (c : Slot) (o : Op) → a.front ≡ c.front → v.places ≡ places_in c.queue → v.tracker ≡ tracker_in c → Known h c
    → Known (h ++ did o (slot_step s v a c o).0 ∷ []) (slot_step s v a c o).1
known_step s v a h c o e f t k =
    verdict-has (λ (r : Answer × Slot). Known (h ++ did o r.0 ∷ []) r.1) (λ n i. (refused n i, c))
    (λ n i. known-refused h o n i c k) (order s v a o) (accepted c o)
    (λ p. known-accepted h c o (allowed s v a c o e f t p) k)
