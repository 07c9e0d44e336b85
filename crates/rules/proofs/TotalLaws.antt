-- W13: laws of the numbers for the log. What one call more adds to each, that they never fall, and that they account for the pending units after each kind of call.
-- Assumes nothing.
use mathlib.Core.Path.{◌≡◌, refl, sym, ap, ap₂, ◌∙◌}
use mathlib.Core.Logic.{inl, inr}
use mathlib.Core.Bool.{Bool, true, false, ◌&&◌, not, cond, and-false, true≢false}
use mathlib.Core.List.{List, [], ◌∷◌, ◌++◌, map, append_assoc, append-nil}
use Rattle.std.specs.declared.option.Option.{Option}
use Rattle.std.specs.declared.option.Option.TheVariants.{None, Some}
use Prim.Native.Nat.{ℕ, ◌+◌, ◌^◌, ◌≤◌, ◌<◌}
use native.Mathlib.Omega.{arith}
use native.Mathlib.Nat.{add_assoc}
use lib.ListN.{length, take, drop, length-append}
use borrow.Author.Tests.{ltb-false, lt-ltb, le-ltb}
use Rattle.rules.specs.Lists.{keep, sum, join, is_some}
use Rattle.rules.specs.Units.{Unit, Write, units, clear, mark, newly, pending}
use Rattle.rules.specs.StartData.{granularity_of, ranges_of}
use Rattle.rules.specs.Report.{Descriptor, descriptor, runs, room, report_on, marks_left}
use Rattle.rules.specs.Order.{Op, start, stop, write, receive, part, queue, QueueCall, make, post, Part, is_last, joined_with}
use Rattle.rules.specs.Order as order
use Rattle.rules.specs.Machine.{Answer, done, wrote, reported, assembled, newly_of, report_of, Marks, off, on, tracker_on, pending_on, wrote_in, reported_in, arrived_in, queue_in}
use Rattle.rules.specs.Queue.{Queued}
use Rattle.rules.specs.History.{Did, pending_by, marks_by}
use Rattle.rules.specs.Totals.{units_marked, report_units, units_reported, pending_among, dropped_by, dropped_from, units_dropped, units_pending, is_counted, known, unknown, shown_of, shown_by}
use Rattle.rules.specs.Demands.{Passes}
use Rattle.rules.specs.declared.Range.{Range}
use Rattle.rules.proofs.ListLaws.{and_intro, join-take-drop}
use Rattle.rules.proofs.UnitLaws.{newly-is}
use Rattle.rules.proofs.RunLaws.{runs-join, marks_left-pending}

-- ---- with more calls

sum-append : {A : Type 0} (f : A → ℕ) (xs ys : List A) → sum (map f (xs ++ ys)) ≡ sum (map f xs) + sum (map f ys)
sum-append f [] ys = omega arith
sum-append f (x ∷ xs) ys = omega (arith, sum-append f xs ys)

pub units_marked-append : (h h' : List Did) → units_marked (h ++ h') ≡ units_marked h + units_marked h'
units_marked-append h h' = sum-append (λ (d : Did). newly_of d.answer) h h'

pub units_reported-append : (h h' : List Did) → units_reported (h ++ h') ≡ units_reported h + units_reported h'
units_reported-append h h' = sum-append (λ (d : Did). report_units (report_of d.answer)) h h'

dropped_from-append : (b h h' : List Did) → dropped_from b (h ++ h') ≡ dropped_from b h + dropped_from (b ++ h) h'
dropped_from-append b [] h' = rw (append-nil b) (omega arith)
dropped_from-append b (d ∷ h) h' =
    ap (λ n. dropped_by b d + n) (dropped_from-append (b ++ d ∷ []) h h' ∙ ap (λ l. dropped_from (b ++ d ∷ []) h + dropped_from l h') (append_assoc b (d ∷ []) h))
    ∙ sym (add_assoc (dropped_by b d) (dropped_from (b ++ d ∷ []) h) (dropped_from (b ++ d ∷ h) h'))

-- they never fall
pub units_marked-grows : (h h' : List Did) → units_marked h ≤ units_marked (h ++ h')
units_marked-grows h h' = omega (arith, units_marked-append h h')

pub units_reported-grows : (h h' : List Did) → units_reported h ≤ units_reported (h ++ h')
units_reported-grows h h' = omega (arith, units_reported-append h h')

pub units_dropped-grows : (h h' : List Did) → units_dropped h ≤ units_dropped (h ++ h')
units_dropped-grows h h' = omega (arith, dropped_from-append [] h h')

-- what one call more adds
pub units_marked-snoc : (h : List Did) (d : Did) → units_marked (h ++ d ∷ []) ≡ units_marked h + newly_of d.answer
units_marked-snoc h d = omega (arith, units_marked-append h (d ∷ []))

pub units_reported-snoc : (h : List Did) (d : Did) → units_reported (h ++ d ∷ []) ≡ units_reported h + report_units (report_of d.answer)
units_reported-snoc h d = omega (arith, units_reported-append h (d ∷ []))

pub units_dropped-snoc : (h : List Did) (d : Did) → units_dropped (h ++ d ∷ []) ≡ units_dropped h + dropped_by h d
units_dropped-snoc h d = omega (arith, dropped_from-append [] h (d ∷ []))

-- ---- pending units, counted by the history

pending-keep : (f : Unit → Bool) (us : List Unit) → pending us (map f us) ≡ keep f us
pending-keep f [] = refl
pending-keep f (u ∷ us) = go (f u) (pending-keep f us)
  where
    go : (b : Bool) → pending us (map f us) ≡ keep f us → pending (u ∷ us) (b ∷ map f us) ≡ cond b (u ∷ keep f us) (keep f us)
    go true e = ap (λ l. u ∷ l) e
    go false e = e

pub pending_among-is : (h : List Did) (t : Option (ℕ × List Range)) → length (pending_on (marks_by h t)) ≡ pending_among h t
pending_among-is h None = refl
pending_among-is h (Some t) = ap length (pending-keep (pending_by h) (units t.0 t.1))

pending-clear : (us : List Unit) → length (pending us (clear us)) ≡ 0
pending-clear [] = refl
pending-clear (u ∷ us) = pending-clear us

-- ---- the lengths of reported runs are the units cleared

descriptors-units : (rs : List (List Unit)) → sum (map (λ (x : Descriptor). x.length) (map descriptor rs)) ≡ length (join rs)
descriptors-units [] = refl
descriptors-units ([] ∷ rs) = omega (arith, descriptors-units rs)
descriptors-units ((u ∷ us) ∷ rs) = omega (arith, descriptors-units rs, length-append us (join rs))

pub report_units-cleared : (b : Bool) (g k : ℕ) (us : List Unit) (p : List Bool)
    → report_units (report_on b g k us p) + length (pending us (marks_left k us p)) ≡ length (pending us p)
report_units-cleared b g k us p =
    let rs : List (List Unit) = runs (pending us p) in
    ap₂ (λ m n. m + n) (descriptors-units (take k rs)) (ap length (marks_left-pending k us p))
    ∙ sym (length-append (join (take k rs)) (join (drop k rs)))
    ∙ ap length (join-take-drop k rs ∙ runs-join (pending us p))

-- ---- marked is reported plus dropped plus pending

abbrev pub Accounts : List Did → Marks → Type 0
Accounts h t = units_marked h ≡ (units_reported h + units_dropped h) + length (pending_on t)

abbrev did : Op → Answer → Did
did o a = record { op = o; answer = a }

-- a call that marks, reports and drops so many units, and leaves so many pending
accounts-step : (h : List Did) (d : Did) (t t' : Marks)
    → newly_of d.answer + length (pending_on t) ≡ (report_units (report_of d.answer) + dropped_by h d) + length (pending_on t')
    → Accounts h t → Accounts (h ++ d ∷ []) t'
accounts-step h d t t' e k = omega (arith, units_marked-snoc h d, units_reported-snoc h d, units_dropped-snoc h d, e, k)

-- a call that does none of it
pub accounts-idle : (h : List Did) (d : Did) (t : Marks) → newly_of d.answer ≡ 0 → report_units (report_of d.answer) ≡ 0 → dropped_by h d ≡ 0
    → Accounts h t → Accounts (h ++ d ∷ []) t
accounts-idle h d t m r q = accounts-step h d t t (omega (arith, m, r, q))

pub accounts-start : (h : List Did) (m : ℕ) (x : List ℕ) (n : ℕ) (t : Marks) → not (is_some (tracker_on n t)) ≡ true → Accounts h t
    → Accounts (h ++ did (start m x) done ∷ []) (on (granularity_of x) (ranges_of x) (clear (units (granularity_of x) (ranges_of x))))
accounts-start h m x n off u = accounts-step h (did (start m x) done) off (on g rs (clear (units g rs))) (omega (arith, pending-clear (units g rs)))
  where
    g : ℕ
    g = granularity_of x

    rs : List Range
    rs = ranges_of x
accounts-start h m x n (on g rs p) u = absurd (true≢false (sym u))

pub accounts-stop : (h : List Did) (m : ℕ) (t : Marks) → units_pending h ≡ length (pending_on t) → Accounts h t → Accounts (h ++ did (stop m) done ∷ []) off
accounts-stop h m t e = accounts-step h (did (stop m) done) t off (omega (arith, e))

pub accounts-write : (h : List Did) (w : Write) (t : Marks) → Accounts h t → Accounts (h ++ did (write w) (wrote_in w t).0 ∷ []) (wrote_in w t).1
accounts-write h w off = accounts-idle h (did (write w) (wrote 0)) off refl refl refl
accounts-write h w (on g rs p) =
    accounts-step h (did (write w) (wrote (newly w (units g rs) p))) (on g rs p) (on g rs (mark w (units g rs) p)) (omega (arith, newly-is w (units g rs) p))

pub accounts-receive : (h : List Did) (m : ℕ) (x : List ℕ) (b : Bool) (t : Marks) → Accounts h t
    → Accounts (h ++ did (receive m x) (reported_in b (length x) t).0 ∷ []) (reported_in b (length x) t).1
accounts-receive h m x b off = accounts-idle h (did (receive m x) done) off refl refl refl
accounts-receive h m x b (on g rs p) =
    accounts-step h (did (receive m x) (reported (report_on b g k us p))) (on g rs p) (on g rs (marks_left k us p)) (omega (arith, report_units-cleared b g k us p))
  where
    k : ℕ
    k = room (length x)

    us : List Unit
    us = units g rs

pub accounts-part : (h : List Did) (m : ℕ) (p : Part) (f : Option (List ℕ)) (t : Marks) → Accounts h t → Accounts (h ++ did (part m p) (arrived_in p f).0 ∷ []) t
accounts-part h m p f t k = go (is_last p)
  where
    go : (b : Bool) → Accounts (h ++ did (part m p) (cond {A = Answer × Option (List ℕ)} b (assembled (joined_with f p), None) (done, Some (joined_with f p))).0 ∷ []) t
    go true = accounts-idle h (did (part m p) (assembled (joined_with f p))) t refl refl refl k
    go false = accounts-idle h (did (part m p) done) t refl refl refl k

pub accounts-queue : (h : List Did) (bytes : ℕ) (j : QueueCall) (q : Option Queued) (t : Marks) → Accounts h t
    → Accounts (h ++ did (queue bytes j) (queue_in bytes j q).0 ∷ []) t
accounts-queue h bytes make q t = accounts-idle h (did (queue bytes make) (queue_in bytes make q).0) t refl refl refl
accounts-queue h bytes (post e) None t = accounts-idle h (did (queue bytes (post e)) (queue_in bytes (post e) None).0) t refl refl refl
accounts-queue h bytes (post e) (Some q) t = accounts-idle h (did (queue bytes (post e)) (queue_in bytes (post e) (Some q)).0) t refl refl refl
accounts-queue h bytes (order.take n x) None t = accounts-idle h (did (queue bytes (order.take n x)) (queue_in bytes (order.take n x) None).0) t refl refl refl
accounts-queue h bytes (order.take n x) (Some q) t = accounts-idle h (did (queue bytes (order.take n x)) (queue_in bytes (order.take n x) (Some q)).0) t refl refl refl

-- ---- what a log shows

pub shown_of-known : (m r d : ℕ) → m < 2 ^ 64 → r < 2 ^ 64 → d < 2 ^ 64 → shown_of m r d ≡ known m r d
shown_of-known m r d x y z =
    ap (λ b. cond b (known m r d) unknown)
    (and_intro (is_counted m) (is_counted r && is_counted d) (lt-ltb m (2 ^ 64) x) (and_intro (is_counted r) (is_counted d) (lt-ltb r (2 ^ 64) y) (lt-ltb d (2 ^ 64) z)))

pub shown_of-passed : (m r d : ℕ) → shown_of m r d ≡ unknown → Passes m r d
shown_of-passed m r d = go (is_counted m) refl (is_counted r) refl (is_counted d) refl
  where
    go : (x : Bool) → is_counted m ≡ x → (y : Bool) → is_counted r ≡ y → (z : Bool) → is_counted d ≡ z → cond (x && (y && z)) (known m r d) unknown ≡ unknown → Passes m r d
    go false e y f z g q = inl (ltb-false m (2 ^ 64) e)
    go true e false f z g q = inr (inl (ltb-false r (2 ^ 64) f))
    go true e true f false g q = inr (inr (ltb-false d (2 ^ 64) g))
    go true e true f true g q = let n : ◌≡◌ {A = ℕ} 0 1 = cc in absurd (omega arith)

pub shown_of-unknown : (m r d : ℕ) → Passes m r d → shown_of m r d ≡ unknown
shown_of-unknown m r d (inl h) = ap (λ b. cond (b && (is_counted r && is_counted d)) (known m r d) unknown) (le-ltb m (2 ^ 64) h)
shown_of-unknown m r d (inr (inl h)) =
    ap (λ b. cond (is_counted m && (b && is_counted d)) (known m r d) unknown) (le-ltb r (2 ^ 64) h) ∙ ap (λ b. cond b (known m r d) unknown) (and-false (is_counted m))
shown_of-unknown m r d (inr (inr h)) =
    ap (λ b. cond (is_counted m && (is_counted r && b)) (known m r d) unknown) (le-ltb d (2 ^ 64) h)
    ∙ ap (λ b. cond (is_counted m && b) (known m r d) unknown) (and-false (is_counted r))
    ∙ ap (λ b. cond b (known m r d) unknown) (and-false (is_counted m))

pub shown_by-stays : (h h' : List Did) → shown_by h ≡ unknown → shown_by (h ++ h') ≡ unknown
shown_by-stays h h' e =
    shown_of-unknown (units_marked (h ++ h')) (units_reported (h ++ h')) (units_dropped (h ++ h')) (go (shown_of-passed (units_marked h) (units_reported h) (units_dropped h) e))
  where
    go : Passes (units_marked h) (units_reported h) (units_dropped h) → Passes (units_marked (h ++ h')) (units_reported (h ++ h')) (units_dropped (h ++ h'))
    go (inl x) = inl (omega (arith, x, units_marked-grows h h'))
    go (inr (inl x)) = inr (inl (omega (arith, x, units_reported-grows h h')))
    go (inr (inr x)) = inr (inr (omega (arith, x, units_dropped-grows h h')))
