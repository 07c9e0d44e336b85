-- W13: after any session the log shows the numbers that each controller's calls and answers tell, on either engine. Assumes nothing.
use mathlib.Core.Path.{◌≡◌, refl, sym, ap, ap₂, subst, ◌∙◌}
use mathlib.Core.Logic.{◌≢◌}
use mathlib.Core.Bool.{Bool, true, false, cond, and-false}
use mathlib.Core.List.{List, [], ◌∷◌, ◌++◌, map, append_assoc, append-nil}
use Rattle.std.specs.declared.option.Option.{Option}
use Rattle.std.specs.declared.option.Option.TheVariants.{None, Some}
use Prim.Native.Nat.{ℕ, zero, suc, ◌+◌, ◌^◌, ◌<◌, ◌≤◌}
use native.Mathlib.Omega.{arith}
use lib.Dec.{eqb, ltb}
use lib.ListN.{length, get_or, replicate, length-take}
use borrow.Author.Tests.{eq-eqb, ne_eqb, eqb-true, eqb-false}
use Rattle.rules.specs.Lists.{all, sum}
use Rattle.rules.specs.Settings.{place_of}
use Rattle.rules.specs.Machine.{done, Call, number_of, pending_in, slot_of}
use Rattle.rules.specs.Order.{stop}
use Rattle.rules.specs.History.{Did, history_of, only}
use Rattle.rules.specs.Totals.{Shown, known, unknown, units_marked, units_reported, units_dropped, units_pending, shown_by}
use Rattle.rules.specs.Demands.{Passes, session_end, session_history, unhindered}
use Rattle.rules.specs.declared.Settings.{Settings}
use Rattle.rules.proofs.StateLaws.{place_of-is, place_of-apart}
use Rattle.rules.proofs.TotalLaws.{units_dropped-snoc, shown_of-known, shown_of-unknown, shown_by-stays}
use Rattle.rules.proofs.Theorems.{totals}
use Rattle.log_numbers.specs.declared.Log.{Log}
use Rattle.log_numbers.specs.declared.Account.{Account}
use Rattle.log_numbers.specs.declared.Totals.{Totals}
use Rattle.log_numbers.specs.Log.{showing, empty_account, empty_log, totals_at}
use Rattle.log_numbers.specs.declared.Sums.{Sums}
use Rattle.log_numbers.specs.Sums.{no_sums}
use Rattle.log_numbers.proofs.LogLaws.{shown, shown-showing}
use Rattle.log_numbers.proofs.SumLaws.{is_known, marked_in, reported_in, dropped_in, sum_over, sums_over, summed-none, summed-snoc}
use Rattle.record.specs.Record.{sound_with, place_at, where_is}
use Rattle.calls.specs.declared.WriteRecord.{WriteRecord}
use Rattle.calls.specs.declared.Batched.{Batched}
use Rattle.calls.specs.Calls.{Engine, in_words, Change, fresh_by, write_by, batch_by}
use Rattle.booking.specs.declared.Reading.{Reading}
use Rattle.booking.specs.Booking.{begun_by, fresh_log, batch_log, units_held, reading_at}
use Rattle.booking.proofs.BookLaws.{begun-refused, begun-done}
use Rattle.plain.specs.Bytes.{words_for, in_bytes}
use Rattle.demands.specs.View.{run}
use Rattle.demands.specs.Sessions.{Left, Given, Sized, Step, one, batch, begun, outcome, left_after, answers_to, stepped, left_by, calls_of, expand, end_of, end_by, calls_in, history_in}
use Rattle.demands.specs.Demand2.{pending_of, Equals}
use Rattle.demands.specs.Demand3.{Demand3}
use Rattle.demands.specs.Batches.{Batches}
use Rattle.demands.specs.MigrationLog.{logged_as, logged_by, log_after, log_in, read_on, read_in, Shows, MigrationLog, MigrationLogs, Adding, sums_in, Summing}
use Rattle.demands.proofs.SessionLaws.{left-append}
use Rattle.demands.proofs.AnswerLaws.{fresh-answers}
use Rattle.demands.proofs.ClosedLaws.{shut, closed-answer}
use Rattle.demands.proofs.Demand2.{demand-2}
use Rattle.demands.proofs.Demand2 as in_words_lem
use Rattle.demands.proofs.Demand3.{demand-3}
use Rattle.demands.proofs.Batches.{step_left, words-kept, batches}
use Rattle.demands.proofs.PlainSessions.{closed-batch, closed-step}
use Rattle.demands.proofs.Plain.{plain-demands}
use Rattle.demands.proofs.Plain as plain_bytes
use Rattle.demands.proofs.ByteLaws.{write_bytes}
use Rattle.demands.proofs.LogLaws.{Told, logged-other, logged-length, told-step, refused_none, held-pending, call_log, history-append, steps-log}

-- ---- an empty log

empty-at : (i n : ℕ) → get_or (replicate n empty_account) i empty_account ≡ empty_account
empty-at i zero = refl
empty-at zero (suc n) = refl
empty-at (suc i) (suc n) = empty-at i n

empty-told : (i : ℕ) → Told empty_log i []
empty-told i = ap (λ (c : Account). c.totals) (empty-at i 8)

-- totals that show unknown are of a history that does
showing-unknown : (t : Shown) → showing t ≡ None → t ≡ unknown
showing-unknown t e = sym (shown-showing t) ∙ ap shown e

-- ---- sessions of an engine that comes to what the rules give, and keeps its settings and a sound record

module _ (en : Engine) (keeps : (d : _) (ws : List ℕ) (id : ℕ) (w : _) → en.words (write_by en d ws id w).marks ≡ en.words ws) (groups : Batches en) (apart : Demand3 en)
    (place : (s : Settings) (m : Given) (ks : List Call) → Sized s m → (fresh_by en s m.marks).answer.number ≡ 0 → (a : ℕ) → place_of (end_of en s m ks).device.settings a ≡ place_of s a)
    (sound : (s : Settings) (m : Given) (ks : List Call) → Sized s m → (fresh_by en s m.marks).answer.number ≡ 0 → sound_with (end_of en s m ks).device (en.words (end_of en s m ks).marks) ≡ true)
    (rules : (s : Settings) (a : ℕ) (m : Given) (ks : List Call) → Sized s m → Equals en s a m ks ks) where
  -- ---- calls

  module _ (s : Settings) (m : Given) (sized : Sized s m) where
    abbrev words : ℕ
    words = en.words m.marks

    abbrev hist : List Call → ℕ → List Did
    hist ks a = history_in en s m ks a

    -- what is pending by its history is what the record and the marks hold
    held : (ks : List Call) (a : ℕ) → units_pending (hist ks a) ≡ units_held en (end_of en s m ks).device (end_of en s m ks).marks a
    held ks a =
        let e = rules s a m ks sized in
        let h = session_history s words ks a in
        let pending-then : units_pending h ≡ length (pending_in (slot_of (session_end s words ks) a)) = omega (arith, totals.drops s words ks a 0, units_dropped-snoc h (record { op = stop 0; answer = done })) in
        ap units_pending e.answers ∙ pending-then ∙ ap length (sym e.units) ∙ sym (held-pending en (end_of en s m ks) a)

    account : (ks : List Call) (a : ℕ) → let h = hist ks a in units_marked h ≡ (units_reported h + units_dropped h) + length (pending_of en (end_of en s m ks) a)
    account ks a =
        let e = rules s a m ks sized in
        rw (e.answers, e.units) (totals.account s words ks a)

    module _ (made : (fresh_by en s m.marks).answer.number ≡ 0) where
      record All-told (g : Log) (ks : List Call) : Type 0 where
        pub eight : length g.accounts ≡ 8
        pub told : (a i : ℕ) → place_of s a ≡ Some i → Told g i (hist ks a)

      -- one call more
      module _ (g : Log) (ks : List Call) (t : All-told g ks) (k : Call) where
        abbrev l : Left
        l = end_of en s m ks

        abbrev g' : Log
        g' = logged_as en l g k.id k.op

        more : (a : ℕ) → hist (ks ++ k ∷ []) a ≡ hist ks a ++ cond (eqb k.id a) (record { op = k.op; answer = (outcome en l k).answer } ∷ []) []
        more a = history-append en a ks (k ∷ []) (begun en s m)

        below : (a i : ℕ) → place_of s a ≡ Some i → i < length g.accounts
        below a i e = omega (arith, t.eight, (place_of-is s a i e).0, length-take s.count s.identifiers, sized.places)

        own : (i : ℕ) → place_of s k.id ≡ Some i → Told g' i (hist (ks ++ k ∷ []) k.id)
        unfolding run
        own i e =
            subst (Told g' i) (sym (more k.id ∙ ap (λ b. hist ks k.id ++ cond b (record { op = k.op; answer = (outcome en l k).answer } ∷ []) []) (eq-eqb k.id k.id refl)))
            (told-step en l g k.id i (hist ks k.id) (below k.id i e) (place s m ks sized made k.id ∙ e) (held ks k.id) (t.told k.id i e) k.op)

        other : (a i : ℕ) → place_of s a ≡ Some i → k.id ≢ a → Told g' i (hist (ks ++ k ∷ []) a)
        other a i e n =
            subst (Told g' i) (sym (more a ∙ ap (λ b. hist ks a ++ cond b (record { op = k.op; answer = (outcome en l k).answer } ∷ []) []) (ne_eqb k.id a n) ∙ append-nil (hist ks a)))
            (logged-other en l g k.id i k.op (λ f. place_of-apart s k.id a i i (sym (place s m ks sized made k.id) ∙ f) e n refl) ∙ t.told a i e)

        one_more : All-told g' (ks ++ k ∷ [])
        one_more = record { eight = logged-length en l g k.id k.op ∙ t.eight; told = λ a i e. go a i e (eqb k.id a) refl }
          where
            go : (a i : ℕ) → place_of s a ≡ Some i → (b : Bool) → eqb k.id a ≡ b → Told g' i (hist (ks ++ k ∷ []) a)
            go a i e true q = subst (λ b. place_of s b ≡ Some i → Told g' i (hist (ks ++ k ∷ []) b)) (eqb-true k.id a q) (own i) e
            go a i e false q = other a i e (eqb-false k.id a q)

      all_told : (js ks : List Call) (g : Log) → All-told g ks → All-told (call_log en (end_of en s m ks) g js) (ks ++ js)
      all_told [] ks g t = subst (All-told g) (sym (append-nil ks)) t
      all_told (k ∷ js) ks g t =
          let l = end_of en s m ks in
          let g' = logged_as en l g k.id k.op in
          subst (λ (q : Left). All-told (call_log en q g' js) (ks ++ k ∷ js)) (left-append en ks (k ∷ []) (begun en s m))
          (subst (All-told (call_log en (end_of en s m (ks ++ k ∷ [])) g' js)) (append_assoc ks (k ∷ []) js) (all_told js (ks ++ k ∷ []) g' (one_more g ks t k)))

      -- ---- steps

      module _ (g : Log) (xs : List Step) where
        abbrev ks : List Call
        ks = calls_in en s m xs

        begins : fresh_log en g s m.marks ≡ empty_log
        begins = sym (begun-done g (fresh_by en s m.marks).answer.number made)

        log_is : log_in en s m g xs ≡ call_log en (begun en s m) empty_log ks
        log_is = ap (λ (e : Log). log_after en (begun en s m) e xs) begins ∙ steps-log en (step_left en keeps) groups.notes xs (begun en s m) empty_log

        is-told : All-told (log_in en s m g xs) ks
        is-told = subst (λ (e : Log). All-told e ks) (sym log_is) (all_told ks [] empty_log (record { eight = refl; told = λ a i e. empty-told i }))

        abbrev end : Left
        end = end_by en s m xs

        end-place : (a : ℕ) → place_of end.device.settings a ≡ place_of s a
        end-place a = ap (λ (q : Left). place_of q.device.settings a) (groups.session s m xs) ∙ place s m ks sized made a

        end-sound : sound_with end.device (en.words end.marks) ≡ true
        end-sound = ap (λ (q : Left). sound_with q.device (en.words q.marks)) (groups.session s m xs) ∙ sound s m ks sized made

        module _ (a : ℕ) where
          abbrev h : List Did
          h = history_in en s m (calls_in en s m xs) a

          placed_is : (p : Option ℕ) → place_of s a ≡ p → where_is end.device (en.words end.marks) a ≡ place_at p
          unfolding where_is
          placed_is p e = rw (end-sound, end-place a, e)

          read_is : (i : ℕ) → place_of s a ≡ Some i → read_in en s m g xs a ≡ record { number = 0; totals = showing (shown_by h) }
          read_is i e = ap (reading_at (log_in en s m g xs)) (placed_is (Some i) e) ∙ ap (λ (t : Option Totals). record { number = 0; totals = t }) (is-told.told a i e)

          read-nobody : place_of s a ≡ None → read_in en s m g xs a ≡ record { number = 2; totals = Some (record { marked = 0; reported = 0; dropped = 0 }) }
          read-nobody e = ap (reading_at (log_in en s m g xs)) (placed_is None e)

      -- ---- what they show

      -- the calls of a session that goes on
      calls-more : (xs ys : List Step) (l : Left) → expand en l (xs ++ ys) ≡ expand en l xs ++ expand en (left_by en l xs) ys
      calls-more [] ys l = refl
      calls-more (x ∷ xs) ys l = ap (λ (q : List Call). calls_of en l x ++ q) (calls-more xs ys (stepped en l x)) ∙ sym (append_assoc (calls_of en l x) (expand en (stepped en l x) xs) (expand en (left_by en (stepped en l x) xs) ys))

      stays : (g : Log) (xs ys : List Step) (a : ℕ) → read_in en s m g xs a ≡ record { number = 0; totals = None } → read_in en s m g (xs ++ ys) a ≡ record { number = 0; totals = None }
      stays g xs ys a r = go (place_of s a) refl
        where
          b : Left
          b = begun en s m

          js : List Call
          js = expand en (left_by en b xs) ys

          after : List Did
          after = history_of a (answers_to en (left_after en b (ks g xs)) js)

          go : (p : Option ℕ) → place_of s a ≡ p → read_in en s m g (xs ++ ys) a ≡ record { number = 0; totals = None }
          go None e = let z : ◌≡◌ {A = ℕ} 2 0 = ap (λ (q : Reading). q.number) (sym (read-nobody g xs a e) ∙ r) in absurd (omega (arith, z))
          go (Some i) e =
              let u : shown_by (h g xs a) ≡ unknown = showing-unknown (shown_by (h g xs a)) (ap (λ (q : Reading). q.totals) (sym (read_is g xs a i e) ∙ r)) in
              let longer : h g (xs ++ ys) a ≡ h g xs a ++ after = ap (λ ks. hist ks a) (calls-more xs ys b) ∙ history-append en a (ks g xs) js b in
              read_is g (xs ++ ys) a i e ∙ ap (λ (t : Shown). record { number = 0; totals = showing t }) (ap shown_by longer ∙ shown_by-stays (h g xs a) after u)

      is-shown : (g : Log) (xs : List Step) (a : ℕ) → Shows en s m g xs a
      is-shown g xs a =
          record {
            account = subst (λ (q : Left). units_marked (h g xs a) ≡ (units_reported (h g xs a) + units_dropped (h g xs a)) + length (pending_of en q a)) (sym (groups.session s m xs)) (account (ks g xs) a);
            known = λ i e x y z. read_is g xs a i e ∙ ap (λ (t : Shown). record { number = 0; totals = showing t }) (shown_of-known (units_marked (h g xs a)) (units_reported (h g xs a)) (units_dropped (h g xs a)) x y z);
            unknown = λ i e p. read_is g xs a i e ∙ ap (λ (t : Shown). record { number = 0; totals = showing t }) (shown_of-unknown (units_marked (h g xs a)) (units_reported (h g xs a)) (units_dropped (h g xs a)) p);
            rules = λ i e. read_is g xs a i e ∙ ap (λ (y : List Did). record { number = 0; totals = showing (shown_by y) }) (rules s a m (ks g xs) sized).answers;
            place = λ i e. (is-told g xs).told a i e ∙ ap (λ (q : Reading). q.totals) (sym (read_is g xs a i e));
            nobody = read-nobody g xs a;
            from_then_on = λ ys r. stays g xs ys a r;
          }

  -- ---- refused batches

  refused_batch : (l : Left) (g : Log) (rs : List WriteRecord) → (batch_by en l.device l.marks rs).answer.number ≢ 0 → batch_log en g l.device l.marks rs ≡ g
  unfolding batch_log
  refused_batch l g rs n = rw (ne_eqb _ 0 (λ e. n ((groups.notes l rs).answers.first ∙ e)))

  -- ---- a refused fresh

  closed-log : (xs : List Step) (m : Given) (g : Log) → log_after en (shut m) g xs ≡ g
  closed-log [] m g = refl
  closed-log (x ∷ xs) m g =
      ap₂ (λ (q : Left) (e : Log). log_after en q e xs) (closed-step en m x) (idle x) ∙ closed-log xs m g
    where
      idle : (x : Step) → logged_by en (shut m) g x ≡ g
      idle (one k) = refused_none en (shut m) g k (λ z. absurd (omega (arith, z, ap number_of (closed-answer en m k).0)))
      idle (batch rs) = refused_batch (shut m) g rs (λ z. absurd (omega (arith, z, ap (λ (c : Change Batched). c.answer.number) (closed-batch en m rs))))

  is-closed : (s : Settings) (m : Given) (g : Log) (xs : List Step) → (fresh_by en s m.marks).answer.number ≢ 0 → log_in en s m g xs ≡ g
  is-closed s m g xs e =
      let z = (fresh-answers en s m.marks).refused e in
      ap (λ (q : Log). log_after en (begun en s m) q xs) (sym (begun-refused g (fresh_by en s m.marks).answer.number e)) ∙ rw (z.0, z.1) (closed-log xs m g)

  unsound-read : (l : Left) (g : Log) (a : ℕ) → sound_with l.device (en.words l.marks) ≡ false
      → read_on en l g a ≡ record { number = 1; totals = Some (record { marked = 0; reported = 0; dropped = 0 }) }
  unfolding where_is
  unsound-read l g a e = rw e

  threaded : (xs : List Step) (x : Step) (l : Left) (g : Log) → log_after en l g (xs ++ x ∷ []) ≡ logged_by en (left_by en l xs) (log_after en l g xs) x
  threaded [] x l g = refl
  threaded (y ∷ xs) x l g = threaded xs x (stepped en l y) (logged_by en l g y)

  pub log-of : MigrationLog en
  log-of =
      record {
        shows = λ s m g xs sized made a. is-shown s m sized made g xs a;
        reads = λ s m g xs a. refl;
        threads = λ s m g xs x. threaded xs x (begun en s m) (fresh_log en g s m.marks);
        unsound = unsound-read;
        closed = is-closed;
        refused = λ l g k n. refused_none en l g k n;
        refused_batch = refused_batch;
        apart = λ s a i m m' g g' xs xs' sized sized' same made made' at e f f'.
            let w = groups.together s a m m' xs xs' sized sized' same e f f' in
            read_is s m sized made g xs a i at ∙ ap (λ (y : List Did). record { number = 0; totals = showing (shown_by y) }) w.answers ∙ sym (read_is s m' sized' made' g' xs' a i at);
      }

in-words-log : MigrationLog in_words
in-words-log = log-of in_words words-kept batches demand-3 (λ s m ks sized made a. in_words_lem.place-of s m ks sized made a) (λ s m ks sized made. in_words_lem.sure s m ks sized made) demand-2.rules

in-bytes-log : MigrationLog in_bytes
in-bytes-log =
    log-of in_bytes (λ d bs id w. ap words_for (write_bytes d bs id w)) plain-demands.batches plain-demands.apart (λ s m ks sized made a. plain_bytes.place-of s m ks sized made a) (λ s m ks sized made. plain_bytes.sure s m ks sized made)
    plain-demands.rules

pub migration-logs : MigrationLogs
migration-logs = (in-words-log, in-bytes-log)

-- ---- sums

sums-from : (us ts : List (Option Totals)) → sums_in (sums_over ts) us ≡ sums_over (ts ++ us)
sums-from [] ts = ap sums_over (sym (append-nil ts))
sums-from (u ∷ us) ts = ap (λ (r : Sums). sums_in r us) (summed-snoc ts u) ∙ sums-from us (ts ++ u ∷ []) ∙ ap sums_over (append_assoc ts (u ∷ []) us)

sums-are : (ts : List (Option Totals)) → sums_in no_sums ts ≡ sums_over ts
sums-are ts = ap (λ (r : Sums). sums_in r ts) summed-none ∙ sums-from ts []

holds-unknown : (ts us : List (Option Totals)) → all is_known (ts ++ None ∷ us) ≡ false
holds-unknown [] us = refl
holds-unknown (t ∷ ts) us = rw (holds-unknown ts us) (and-false (is_known t))

abbrev triple : ℕ × ℕ × ℕ → Option Totals
triple x = Some (record { marked = x.0; reported = x.1; dropped = x.2 })

all-triples : (xs : List (ℕ × ℕ × ℕ)) → all is_known (map triple xs) ≡ true
all-triples [] = refl
all-triples (x ∷ xs) = all-triples xs

sum-triples : (f : Option Totals → ℕ) (xs : List (ℕ × ℕ × ℕ)) → sum (map f (map triple xs)) ≡ sum (map (λ (x : ℕ × ℕ × ℕ). f (triple x)) xs)
sum-triples f [] = refl
sum-triples f (x ∷ xs) = omega (arith, sum-triples f xs)

exact_one : (f : Option Totals → ℕ) (xs : List (ℕ × ℕ × ℕ)) → let n = sum (map (λ (x : ℕ × ℕ × ℕ). f (triple x)) xs) in sum_over f (map triple xs) ≡ cond (ltb n (2 ^ 64)) (Some n) None
exact_one f xs = rw (all-triples xs, sum-triples f xs)

pub adding : Adding
adding =
    record {
      known = λ m r d a b c x y z. ap showing (shown_of-known (m + a) (r + b) (d + c) x y z);
      passed = λ m r d a b c p. ap showing (shown_of-unknown (m + a) (r + b) (d + c) p);
      unknown = λ a b c. refl;
    }

pub summing : Summing
summing =
    record {
      exact = λ xs. rw (sums-are (map triple xs)) (exact_one marked_in xs, exact_one reported_in xs, exact_one dropped_in xs);
      unknown = λ ts us. sums-are (ts ++ None ∷ us) ∙ rw (holds-unknown ts us);
      worked = refl;
    }
