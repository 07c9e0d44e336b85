-- A controller's queue, seen as the rules see it (W8): as it is made, with an entry more, and with entries taken. Assumes nothing.
use mathlib.Core.Path.{◌≡◌, refl, sym, ap, ap₂, ◌∙◌}
use mathlib.Core.Bool.{Bool, true, false, ◌&&◌, ◌||◌, cond, or-true, true≢false}
use mathlib.Core.List.{List, [], ◌∷◌, ◌++◌}
use Rattle.std.specs.declared.option.Option.{Option}
use Rattle.std.specs.declared.option.Option.TheVariants.{None, Some}
use Prim.Native.Nat.{ℕ, zero, suc, ◌+◌, ◌-◌, ◌*◌, ◌/◌, ◌^◌, ◌≤◌, ◌<◌}
use native.Mathlib.Omega.{arith}
use lib.Dec.{leb, ltb, eqb}
use lib.ListN.{length, take, drop, replicate, length-append}
use lib.Seq.{take_at}
use borrow.Author.Tests.{leb-true, le-leb, ltb-true, lt-ltb, le-ltb, ltb-false, leb-false, eq-eqb}
use Rattle.little.specs.Little.{put}
use Rattle.little.proofs.Put.{put-length}
use Rattle.rules.specs.Queue.{entry_bytes, closing_entry, joined, total_after, fill_of, queue_ok, Queued, made_of, closes_at, posted_to, taken_of, closes_with, taken_from}
use Rattle.rules.specs.declared.Ring.{Ring}
use Rattle.rules.proofs.ListLaws.{take-take}
use Rattle.ring.specs.Ring.{place_after, queued}
use Rattle.ring.proofs.Entries.{queued-nil, queued-length, queued-take, queued-taken, closing_entry-length}
use Rattle.ring.proofs.Totals.{total_after-lt, fill_of-lt, fill_of-same, fill_of-post, fill_of-take}
use Rattle.ring.proofs.Places.{place_after-lt}
use Rattle.ring.proofs.Steps.{post-queued, take-queued}
use Rattle.record.specs.Record.{front_of}
use Rattle.record.proofs.RecordLaws.{front_of-length}
use Rattle.record.proofs.QueueLaws.{RingFacts, ring-intro, ring-room}
use Rattle.calls.specs.Calls.{made_ring, fill_in, queued_in, ring_posted, ring_taken}
use Rattle.demands.specs.View.{queue_of}

-- the bytes of an area that begins with some
pub front_of-own : (x y : List ℕ) (n : ℕ) → length x ≡ n → front_of n (x ++ y) ≡ x
unfolding front_of
front_of-own x y n e = ap (λ (l : List ℕ). take n l) (append-is x y (replicate n 0)) ∙ take_at x (y ++ replicate n 0) n e
  where
    append-is : (x y z : List ℕ) → (x ++ y) ++ z ≡ x ++ (y ++ z)
    append-is [] y z = refl
    append-is (a ∷ x) y z = ap (λ l. a ∷ l) (append-is x y z)

-- no more is taken than is asked for, than fits, and than there is
pub taken-least : {A : Type 0} (n m : ℕ) (l : List A)
    → (length (take n (take m l)) ≤ n) × (length (take n (take m l)) ≤ m) × (length (take n (take m l)) ≤ length l)
taken-least zero m l = (omega arith, omega arith, omega arith)
taken-least (suc n) zero l = (omega arith, omega arith, omega arith)
taken-least (suc n) (suc m) [] = (omega arith, omega arith, omega arith)
taken-least (suc n) (suc m) (x ∷ l) = let r = taken-least n m l in (omega (arith, r.0), omega (arith, r.1), omega (arith, r.2))

-- ---- as it is made

pub made_ok : (bytes : ℕ) → 2 ≤ bytes / 32 → queue_ok (Some (made_ring bytes)) ≡ true
made_ok bytes h =
    let z = fill_of-same 0 in
    ring-intro (made_ring bytes) (omega (arith, z, h)) (omega (arith, h)) (ap (λ b. b || false) (lt-ltb (fill_of 0 0) (bytes / 32) (omega (arith, z, h))))

pub made-queue : (x : List ℕ) (bytes : ℕ) → queue_of x (Some (made_ring bytes)) ≡ Some (made_of bytes)
made-queue x bytes =
    let area = front_of (entry_bytes * (bytes / entry_bytes)) x in
    ap (λ es. Some (record { size = bytes / entry_bytes; entries = es; stopped = false })) (ap (λ n. queued area (bytes / entry_bytes) 0 n) (fill_of-same 0) ∙ queued-nil area (bytes / entry_bytes) 0)

-- ---- with an entry more

-- a ring with totals of 32 bits
pub record Counted (r : Ring) : Type 0 where
  pub posted : r.posted < 2 ^ 32
  pub taken : r.taken < 2 ^ 32

-- a ring, in the lent bytes of its area
module _ (r : Ring) (area : List ℕ) (facts : RingFacts r) (counted : Counted r) (small : r.size ≤ 1024) (whole : length area ≡ entry_bytes * r.size) where
  abbrev entries : List (List ℕ)
  entries = queued_in area r

  entries-length : length entries ≡ fill_in r
  entries-length = queued-length area r.size r.place (fill_in r)

  abbrev behind : ℕ
  behind = entry_bytes * place_after r.size r.place (fill_in r)

  module _ (e : List ℕ) (long : length e ≡ 32) (running : r.stopped ≡ false) where
    abbrev last : Bool
    last = closes_at r.size (fill_in r)

    abbrev stored : List ℕ
    stored = cond last closing_entry e

    abbrev posted-ring : Ring
    posted-ring = ring_posted r last

    abbrev posted-area : List ℕ
    posted-area = put area behind stored

    room : fill_in r < r.size
    room = ring-room r facts running

    stored-length : length stored ≡ 32
    stored-length = go last
      where
        go : (b : Bool) → length (cond b closing_entry e) ≡ 32
        go true = closing_entry-length
        go false = long

    more : fill_in posted-ring ≡ fill_in r + 1
    more = fill_of-post r.posted r.taken counted.posted counted.taken (omega (arith, room, small))

    pub posted-ok : queue_ok (Some posted-ring) ≡ true
    posted-ok = ring-intro posted-ring (omega (arith, more, room)) facts.place (go last refl)
      where
        go : (b : Bool) → leb r.size (fill_in r + 1) ≡ b → (ltb (fill_in posted-ring) r.size || b) ≡ true
        go true q = or-true (ltb (fill_in posted-ring) r.size)
        go false q = let h = leb-false r.size (fill_in r + 1) q in ap (λ b. b || false) (lt-ltb (fill_in posted-ring) r.size (omega (arith, more, h)))

    pub posted-counted : Counted posted-ring
    posted-counted = record { posted = total_after-lt r.posted 1; taken = counted.taken }

    pub posted-queue : (rest : List ℕ) → queue_of (posted-area ++ rest) (Some posted-ring) ≡ Some (posted_to e (record { size = r.size; entries = entries; stopped = r.stopped }))
    posted-queue rest =
        let own : front_of (entry_bytes * r.size) (posted-area ++ rest) ≡ posted-area = front_of-own posted-area rest (entry_bytes * r.size) (put-length area behind stored ∙ whole) in
        let are : queued_in posted-area posted-ring ≡ entries ++ stored ∷ [] =
        post-queued area posted-area stored r.size r.place r.posted r.taken (fill_in r) (total_after r.posted 1) refl refl refl room stored-length whole small facts.place
        counted.posted counted.taken in
        ap (λ es. Some (record { size = r.size; entries = es; stopped = last })) (ap (λ x. queued_in x posted-ring) own ∙ are)
        ∙ ap (λ n. Some (record { size = r.size; entries = entries ++ cond (closes_at r.size n) closing_entry e ∷ []; stopped = closes_at r.size n })) (sym entries-length)

    pub posted-answer : last ≡ closes_at r.size (length entries)
    posted-answer = ap (closes_at r.size) (sym entries-length)

  -- ---- with entries taken

  module _ (asked : ℕ) (x : List ℕ) where
    abbrev es : List (List ℕ)
    es = taken_of asked (length x) entries

    abbrev taken-ring : Ring
    taken-ring = ring_taken r (length es)

    few : length es ≤ fill_in r
    few = omega (arith, (taken-least asked (length x / entry_bytes) entries).2, entries-length)

    pub taken-ok : queue_ok (Some taken-ring) ≡ true
    taken-ok =
        let less = fill_of-take r.posted r.taken (length es) counted.posted counted.taken few in
        ring-intro taken-ring (omega (arith, less, facts.fill)) (place_after-lt r.size r.place facts.place (length es)) (go (ltb (fill_in taken-ring) r.size) refl less)
      where
        go : (b : Bool) → ltb (fill_in taken-ring) r.size ≡ b → fill_in taken-ring ≡ fill_in r - length es → (b || r.stopped) ≡ true
        go true q less = refl
        go false q less =
            let h : r.size ≤ fill_in taken-ring = ltb-false (fill_in taken-ring) r.size q in
            facts.full (omega (arith, h, less, facts.fill))

    pub taken-counted : Counted taken-ring
    taken-counted = record { posted = counted.posted; taken = total_after-lt r.taken (length es) }

    pub taken-queue : (y : List ℕ) → area ≡ front_of (entry_bytes * r.size) y
        → queue_of y (Some taken-ring) ≡ Some (taken_from (length es) (record { size = r.size; entries = entries; stopped = r.stopped }))
    taken-queue y e =
        ap (λ a. Some (record { size = r.size; entries = queued_in a taken-ring; stopped = r.stopped })) (sym e)
        ∙ ap (λ es. Some (record { size = r.size; entries = es; stopped = r.stopped }))
        (take-queued area r.size r.place r.posted r.taken (length es) (place_after r.size r.place (length es)) (total_after r.taken (length es)) counted.posted counted.taken few refl refl)

    -- those taken are the oldest so many
    taken-are : es ≡ queued area r.size r.place (length es)
    taken-are = take-take asked (length x / entry_bytes) entries ∙ queued-take area r.size r.place (fill_in r) (length es) few

    pub taken-entries : queued (put x 0 (joined es)) (length es) 0 (length es) ≡ es
    taken-entries =
        ap (λ l. queued (put x 0 (joined l)) (length es) 0 (length es)) taken-are
        ∙ queued-taken area r.size r.place whole facts.place x (length es) (omega (arith, (taken-least asked (length x / entry_bytes) entries).1))
        ∙ sym taken-are

    pub taken-closing : closes_with r.stopped (length es) (fill_in r) ≡ closes_with r.stopped (length es) (length entries)
    taken-closing = ap (closes_with r.stopped (length es)) (sym entries-length)
