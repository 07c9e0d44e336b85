-- Demand 2 for a controller's queue (W8): what was taken and what is queued now are, in order, the entries that the history of its calls and answers tells. Assumes
-- nothing.
use mathlib.Core.Path.{◌≡◌, refl, sym, ap, ap₂, ◌∙◌}
use mathlib.Core.Bool.{Bool, true, false, cond, true≢false}
use mathlib.Core.List.{List, [], ◌∷◌, ◌++◌, append_assoc}
use Rattle.std.specs.declared.option.Option.{Option}
use Rattle.std.specs.declared.option.Option.TheVariants.{None, Some}
use Prim.Native.Nat.{ℕ, ◌/◌, ◌%◌, ◌≤◌}
use native.Mathlib.Omega.{arith}
use lib.Dec.{leb, eqb}
use lib.ListN.{length, take, drop, take-append-drop}
use borrow.Author.Tests.{leb-true}
use Rattle.rules.specs.Lists.{is_some}
use Rattle.rules.specs.Queue.{entry_bytes, places_ok, Queued, closing_entry, closes_at, taken_of}
use Rattle.rules.specs.Order.{QueueCall, make, post, Op, start, stop, write, receive, suspend, resume, part, queue, Seen, queue_order}
use Rattle.rules.specs.Order as order
use Rattle.rules.specs.Machine.{Answer, refused, places_in, entries_in, stopped_in, queue_in}
use Rattle.rules.specs.History.{Did, is_accepted, on_queue, logged_by, size_after, size_by, stores_after, stored_by, takes_after, taken_by, stops_after, stopped_by, queued_by, queue_by}
use Rattle.rules.proofs.ListLaws.{and_left, and_right, some_inj, take-take}
use Rattle.rules.proofs.RefusalLaws.{Passed}

-- ---- logged_by: with one event more

pub logged_by-snoc : {A : Type 0} (f : A → ℕ → QueueCall → Answer → A) (h : List Did) (d : Did) (x : A)
    → logged_by f x (h ++ d ∷ []) ≡ cond (is_accepted d.answer) (on_queue f (logged_by f x h) d.op d.answer) (logged_by f x h)
logged_by-snoc f [] d x = refl
logged_by-snoc f (e ∷ h) d x = logged_by-snoc f h d (cond (is_accepted e.answer) (on_queue f x e.op e.answer) x)

-- ---- the invariant

-- the history tells its places, of which there are 2 to 1,024, what was taken and what is queued, together, and whether it has stopped
pub record Logged (h : List Did) (q : Option Queued) : Type 0 where
  pub size : places_in q ≡ size_by h
  pub places : (n : ℕ) → places_in q ≡ Some n → (2 ≤ n) × (n ≤ 1024)
  pub entries : taken_by h ++ entries_in q ≡ stored_by h
  pub stopped : stopped_in q ≡ stopped_by h

drop-front : {A : Type 0} (xs ys : List A) → drop (length xs) (xs ++ ys) ≡ ys
drop-front [] ys = refl
drop-front (x ∷ xs) ys = drop-front xs ys

-- it says what the queue is
pub logged-is : (h : List Did) (q : Option Queued) → Logged h q → q ≡ queue_by h
logged-is h None k = ap (queued_by h) k.size
logged-is h (Some q) k =
    let es : q.entries ≡ drop (length (taken_by h)) (stored_by h) = sym (drop-front (taken_by h) q.entries) ∙ ap (drop (length (taken_by h))) k.entries in
    ap₂ (λ es b. Some (record { size = q.size; entries = es; stopped = b })) es k.stopped ∙ ap (queued_by h) k.size

pub logged-fresh : Logged [] None
logged-fresh = record { size = refl; places = λ n e. let z : ◌≡◌ {A = ℕ} 0 1 = cc in absurd (omega arith); entries = refl; stopped = refl }

-- ---- one call more

-- a call that tells nothing of the queue
logged-same : (h : List Did) (d : Did) (q : Option Queued) → ((A : Type 0) (f : A → ℕ → QueueCall → Answer → A) (x : A) → logged_by f x (h ++ d ∷ []) ≡ logged_by f x h)
    → Logged h q → Logged (h ++ d ∷ []) q
logged-same h d q same k =
    record {
      size = k.size ∙ sym (same _ size_after None);
      places = k.places;
      entries = ap (λ l. l ++ entries_in q) (same _ takes_after []) ∙ k.entries ∙ sym (same _ stores_after []);
      stopped = k.stopped ∙ sym (same _ stops_after false);
    }

pub logged-refused : (h : List Did) (o : Op) (n i : ℕ) (q : Option Queued) → Logged h q → Logged (h ++ record { op = o; answer = refused n i } ∷ []) q
logged-refused h o n i q k = logged-same h (record { op = o; answer = refused n i }) q (λ A f x. logged_by-snoc f h _ x) k

cond_same : {A : Type 0} (b : Bool) (x : A) → cond b x x ≡ x
cond_same true x = refl
cond_same false x = refl

-- a call to no queue
pub logged-idle : (h : List Did) (d : Did) (q : Option Queued) → ((A : Type 0) (f : A → ℕ → QueueCall → Answer → A) (x : A) → on_queue f x d.op d.answer ≡ x) → Logged h q
    → Logged (h ++ d ∷ []) q
logged-idle h d q idle k =
    logged-same h d q
    (λ A f x. logged_by-snoc f h d x ∙ ap (λ y. cond (is_accepted d.answer) y (logged_by f x h)) (idle A f (logged_by f x h)) ∙ cond_same (is_accepted d.answer) (logged_by f x h))
    k

-- what the tests of a call to a queue give: the area of a make is of places, and a post and a take have one
abbrev pub Ready : ℕ → QueueCall → Option Queued → Type 0
Ready bytes make q = places_ok bytes ≡ true
Ready bytes (post e) q = is_some q ≡ true
Ready bytes (order.take asked x) q = is_some q ≡ true

places_in-some : (q : Option Queued) → is_some (places_in q) ≡ true → is_some q ≡ true
places_in-some None e = e
places_in-some (Some q) e = refl

pub queue-ready : (v : Seen) (bytes : ℕ) (c : QueueCall) (q : Option Queued) → v.places ≡ places_in q → Passed (queue_order v bytes c) → Ready bytes c q
queue-ready v bytes make q e h = h.1.1.0
queue-ready v bytes (post x) q e h = places_in-some q (ap is_some (sym e) ∙ h.1.1.1.0)
queue-ready v bytes (order.take asked x) q e h = places_in-some q (ap is_some (sym e) ∙ h.1.1.1.0)

-- what is taken is the front of what was queued
taken-front : {A : Type 0} (n m : ℕ) (l : List A) → take n (take m l) ++ drop (length (take n (take m l))) l ≡ l
taken-front n m l = ap (λ r. r ++ drop (length (take n (take m l))) l) (take-take n m l) ∙ take-append-drop (length (take n (take m l))) l

pub places_ok-true : (bytes : ℕ) → places_ok bytes ≡ true → (2 ≤ bytes / 32) × (bytes / 32 ≤ 1024)
places_ok-true bytes e =
    let r = and_right (eqb (bytes % 32) 0) _ e in
    (leb-true 2 (bytes / 32) (and_left (leb 2 (bytes / 32)) _ r), leb-true (bytes / 32) 1024 (and_right (leb 2 (bytes / 32)) _ r))

pub logged-queue : (h : List Did) (bytes : ℕ) (c : QueueCall) (q : Option Queued) → Ready bytes c q → Logged h q
    → Logged (h ++ record { op = queue bytes c; answer = (queue_in bytes c q).0 } ∷ []) (queue_in bytes c q).1
logged-queue h bytes make q r k =
    record {
      size = sym (logged_by-snoc size_after h _ None);
      places = λ n e. let z = some_inj e in let p = places_ok-true bytes r in (omega (arith, z, p.0), omega (arith, z, p.1));
      entries = ap (λ l. l ++ []) (logged_by-snoc takes_after h _ []) ∙ sym (logged_by-snoc stores_after h _ []);
      stopped = sym (logged_by-snoc stops_after h _ false);
    }
logged-queue h bytes (post e) None r k = absurd (true≢false (sym r))
logged-queue h bytes (post e) (Some q) r k =
    let last = closes_at q.size (length q.entries) in
    let x : List ℕ = cond last closing_entry e in
    record {
      size = k.size ∙ sym (logged_by-snoc size_after h _ None);
      places = k.places;
      entries =
          ap (λ l. l ++ (q.entries ++ x ∷ [])) (logged_by-snoc takes_after h _ []) ∙ sym (append_assoc (taken_by h) q.entries (x ∷ []))
          ∙ ap (λ l. l ++ x ∷ []) k.entries
          ∙ sym (logged_by-snoc stores_after h _ []);
      stopped = sym (logged_by-snoc stops_after h _ false);
    }
logged-queue h bytes (order.take asked x) None r k = absurd (true≢false (sym r))
logged-queue h bytes (order.take asked x) (Some q) r k =
    let es : List (List ℕ) = taken_of asked (length x) q.entries in
    record {
      size = k.size ∙ sym (logged_by-snoc size_after h _ None);
      places = k.places;
      entries =
          ap (λ l. l ++ drop (length es) q.entries) (logged_by-snoc takes_after h _ []) ∙ append_assoc (taken_by h) es (drop (length es) q.entries)
          ∙ ap (λ l. taken_by h ++ l) (taken-front asked (length x / entry_bytes) q.entries)
          ∙ k.entries
          ∙ sym (logged_by-snoc stores_after h _ []);
      stopped = k.stopped ∙ sym (logged_by-snoc stops_after h _ false);
    }

-- ---- the closing entry is the last one stored, as long as the queue has stopped

abbrev pub Closed : List (List ℕ) → Bool → Type 0
Closed es b = b ≡ true → (xs : List (List ℕ)) × (es ≡ xs ++ closing_entry ∷ [])

closed-by : (h : List Did) (es : List (List ℕ)) (b : Bool) → Closed es b → Closed (logged_by stores_after es h) (logged_by stops_after b h)
closed-by [] es b k = k
closed-by (d ∷ h) es b k = go (is_accepted d.answer) (λ es b. closed-by h es b)
  where
    told : (es : List (List ℕ)) (b : Bool) (o : Op) (a : Answer) → Closed es b → Closed (on_queue stores_after es o a) (on_queue stops_after b o a)
    told es b (start m y) a k = k
    told es b (stop m) a k = k
    told es b (write w) a k = k
    told es b (receive m y) a k = k
    told es b (suspend m kind) a k = k
    told es b (resume m) a k = k
    told es b (part m p) a k = k
    told es b (queue bytes make) a k = λ e. absurd (true≢false (sym e))
    told es b (queue bytes (post x)) a k = λ e. (es, ap (λ c. es ++ cond c closing_entry x ∷ []) e)
    told es b (queue bytes (order.take asked x)) a k = k

    go : (c : Bool) → ((es : List (List ℕ)) (b : Bool) → Closed es b → Closed (logged_by stores_after es h) (logged_by stops_after b h))
        → Closed (logged_by stores_after (cond c (on_queue stores_after es d.op d.answer) es) h) (logged_by stops_after (cond c (on_queue stops_after b d.op d.answer) b) h)
    go true ih = ih _ _ (told es b d.op d.answer k)
    go false ih = ih es b k

pub stored_last : (h : List Did) → stopped_by h ≡ true → (xs : List (List ℕ)) × (stored_by h ≡ xs ++ closing_entry ∷ [])
stored_last h = closed-by h [] false (λ e. absurd (true≢false (sym e)))
