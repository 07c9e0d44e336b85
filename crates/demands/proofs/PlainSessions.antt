-- W9: a session of both engines. Each call and each batch finds one record and marks that are alike, so they answer the same, to the end. Assumes nothing.
use mathlib.Core.Path.{◌≡◌, refl, sym, ap, ap₂, subst, ◌∙◌}
use mathlib.Core.Logic.{◌≢◌, ◌↔◌}
use mathlib.Core.Bool.{Bool, true, false, cond, true≢false}
use mathlib.Core.List.{List, [], ◌∷◌, map}
use Rattle.std.specs.declared.option.Option.{Option}
use Prim.Native.Nat.{ℕ, suc, ◌*◌}
use native.Mathlib.Omega.{arith}
use lib.Dec.{eqb}
use lib.ListN.{length, get_or, take, replicate, length-map, length-replicate}
use lib.Seq.{ext_get_or}
use borrow.Author.Tests.{eqb-true, eqb-false}
use Rattle.bits.specs.Flat.{flat}
use Rattle.bits.proofs.Flat.{flat-length, flat-zeros}
use Rattle.rules.specs.Refusals.{verdict, refusal}
use Rattle.rules.specs.Settings.{mark_words, most_units, settings_ok}
use Rattle.rules.specs.Units.{units}
use Rattle.rules.specs.Order.{fresh_order}
use Rattle.rules.specs.Device.{controllers_of, fresh_device, closed_device, fresh_of}
use Rattle.rules.specs.Machine.{Marks, on, Slot, Answer, refused, State, Call, Event, lent}
use Rattle.rules.specs.declared.Range.{Range}
use Rattle.rules.specs.declared.Tracking.{Tracking}
use Rattle.rules.specs.declared.Tracking.TheVariants.{Off, On}
use Rattle.rules.specs.declared.Settings.{Settings}
use Rattle.rules.specs.declared.Controller.{Controller}
use Rattle.rules.specs.declared.Device.{Device}
use Rattle.rules.proofs.ListLaws.{bool-ext}
use Rattle.rules.proofs.RefusalLaws.{verdict-map}
use Rattle.record.specs.Record.{sound_with}
use Rattle.fresh.proofs.FreshLaws as fresh
use Rattle.calls.specs.declared.Changed.{Changed}
use Rattle.calls.specs.declared.WriteRecord.{WriteRecord}
use Rattle.calls.specs.declared.Batched.{Batched}
use Rattle.calls.specs.Calls.{Engine, in_words, Change, changed, batched, fresh_by, batch_by}
use Rattle.calls.proofs.PoolLaws.{get_d_map}
use Rattle.plain_marks.specs.Plain.{mark_of}
use Rattle.plain_marks.proofs.ListLaws.{mark_set}
use Rattle.plain.specs.Bytes.{in_bytes}
use Rattle.plain.proofs.AreaLaws.{area-whole}
use Rattle.demands.specs.View.{marks_of, slot_of, slots_from, front_at, view, Outcome}
use Rattle.demands.specs.Sessions.{Left, Given, Sized, Step, one, batch, begun, outcome, next, left_after, answers_to, bytes_to, stepped, left_by, calls_of, end_of}
use Rattle.demands.specs.Plain.{Said, to_call, to_batch, said_of, lent_of, said_by, lent_by, lending, holding}
use Rattle.demands.specs.Plain as plain
use Rattle.demands.proofs.AlikeLaws.{Alike, map-replicate, same-marks}
use Rattle.demands.proofs.ViewLaws.{Fits}
use Rattle.demands.proofs.StepLaws.{call_step}
use Rattle.demands.proofs.Twins.{Twins, Paired, twins, batch-paired}
use Rattle.demands.proofs.SessionLaws.{begins, fits_after}
use Rattle.demands.proofs.AnswerLaws.{fresh-answers}
use Rattle.demands.proofs.ClosedLaws.{fresh-done, shut, closed-unsound, closed-outcome, closed-stays}
use Rattle.demands.proofs.Batches.{words-kept, step_left}

-- ---- alike, as it is stated

mark-at : (ws bs : List ℕ) → Alike ws bs → (i : ℕ) → get_or (flat ws) i false ≡ mark_of (get_or bs i 0)
mark-at ws bs a i = ap (λ l. get_or l i false) a ∙ get_d_map mark_of bs i 0 false refl

pub alike-said : (ws bs : List ℕ) → Alike ws bs → plain.Alike ws bs
alike-said ws bs a i = (
  (λ h. mark-at ws bs a i ∙ mark_set (get_or bs i 0) h),
  λ h z. true≢false (sym h ∙ mark-at ws bs a i ∙ ap mark_of z),
)

pub alike_from : (ws bs : List ℕ) → length ws ≡ 256 → length bs ≡ 16384 → plain.Alike ws bs → Alike ws bs
alike_from ws bs e f a =
    ext_get_or false (flat ws) (map mark_of bs) (flat-length ws ∙ sym (length-map bs mark_of ∙ omega (arith, e, f)))
    (λ i h. bool-ext (get_or (flat ws) i false) (get_or (map mark_of bs) i false) (λ z. at i ∙ mark_set (get_or bs i 0) ((a i).1 z)) (λ z. (a i).0 (λ y. true≢false (sym z ∙ at i ∙ ap mark_of y))))
  where
    at : (i : ℕ) → get_or (map mark_of bs) i false ≡ mark_of (get_or bs i 0)
    at i = get_d_map mark_of bs i 0 false refl

zeros-alike : (n m : ℕ) → m ≡ 64 * n → Alike (replicate n 0) (replicate m 0)
zeros-alike n m e = flat-zeros n ∙ ap (λ k. replicate k false) (sym e) ∙ sym (map-replicate mark_of m 0)

-- ---- what is seen in record and marks

module _ (ws bs : List ℕ) (alike : Alike ws bs) where
  marks-same : (base : ℕ) (t : Tracking) (rs : List Range) → marks_of in_words ws base t rs ≡ marks_of in_bytes bs base t rs
  marks-same base Off rs = refl
  marks-same base (On g n) rs = ap (on g (take n rs)) (same-marks ws bs alike base (length (units g (take n rs))))

  slots_same : (f : ℕ → Option (List ℕ)) (qs : ℕ → List ℕ) (i : ℕ) (cs : List Controller) → slots_from in_words ws f qs i cs ≡ slots_from in_bytes bs f qs i cs
  slots_same f qs i [] = refl
  slots_same f qs i (c ∷ cs) =
      ap₂ {A = Marks} (λ m l. record { suspended = c.suspended; manager = (slot_of in_words ws c (f i) (qs i)).manager; marks = m; front = f i; queue = (slot_of in_words ws c (f i) (qs i)).queue } ∷ l) (marks-same c.base c.tracking c.ranges) (slots_same f qs (suc i) cs)

  pub view-same : (d : Device) (area : List ℕ) (qs : ℕ → List ℕ) → view in_words d ws area qs ≡ view in_bytes d bs area qs
  view-same d area qs =
      ap (λ l. record { settings = d.settings; slots = l; amiss = (view in_words d ws area qs).amiss }) (slots_same (front_at d.settings d.sequence area) qs 0 (controllers_of d))

-- ---- one after another

-- what is left, where all but the marks is known
pub left_is : (l : Left) (d : Device) (a : List ℕ) (q : ℕ → List ℕ) → d ≡ l.device → a ≡ l.area → q ≡ l.queues → l ≡ record { device = d; marks = l.marks; area = a; queues = q }
left_is l d a q e f g = rw (e, f, g)

next-holding : (l : Left) (bs : List ℕ) (k : Call) → Twins (outcome in_words l k) (outcome in_bytes (holding l bs) k) → next in_bytes (holding l bs) k ≡ holding (next in_words l k) (outcome in_bytes (holding l bs) k).marks
next-holding l bs k t = left_is (next in_bytes (holding l bs) k) (outcome in_words l k).device (outcome in_words l k).area (outcome in_words l k).queues t.device t.area t.queues

-- calls
pub record Calls (l : Left) (bs : List ℕ) (ks : List Call) : Type 0 where
  pub told : answers_to in_words l ks ≡ answers_to in_bytes (holding l bs) ks
  pub bytes : (a : ℕ) → bytes_to in_words a l ks ≡ bytes_to in_bytes a (holding l bs) ks
  pub end : List ℕ
  pub left : left_after in_bytes (holding l bs) ks ≡ holding (left_after in_words l ks) end
  pub marks : Alike (left_after in_words l ks).marks end

calls_same : (ks : List Call) (l : Left) (bs : List ℕ) → Fits l.device l.marks l.area → Alike l.marks bs → Calls l bs ks
calls_same [] l bs f a = record { told = refl; bytes = λ a. refl; end = bs; left = refl; marks = a }
calls_same (k ∷ ks) l bs f a =
    let t : Twins (outcome in_words l k) (outcome in_bytes (holding l bs) k) = twins l.device l.marks bs l.area f a l.queues k in
    let e = next-holding l bs k t in
    let r = calls_same ks (next in_words l k) (outcome in_bytes (holding l bs) k).marks (call_step l.device l.marks l.area l.queues f k).fits t.marks in
    record {
      told = ap₂ (λ (x : Answer) (es : List Event). record { call = k; answer = x } ∷ es) t.answer (r.told ∙ ap (λ (q : Left). answers_to in_bytes q ks) (sym e));
      bytes = λ b. ap₂ (λ (x : List ℕ) (xs : List (List ℕ)). cond (eqb k.id b) (x ∷ xs) xs) t.bytes (r.bytes b ∙ ap (λ (q : Left). bytes_to in_bytes b q ks) (sym e));
      end = r.end;
      left = ap (λ (q : Left). left_after in_bytes q ks) e ∙ r.left;
      marks = r.marks;
    }

-- steps
pub record OneStep (l : Left) (bs : List ℕ) (x : Step) : Type 0 where
  pub said : said_of in_words l x ≡ said_of in_bytes (holding l bs) x
  pub lent : lent_of in_words l x ≡ lent_of in_bytes (holding l bs) x
  pub end : List ℕ
  pub left : stepped in_bytes (holding l bs) x ≡ holding (stepped in_words l x) end
  pub marks : Alike (stepped in_words l x).marks end

pub step_same : (x : Step) (l : Left) (bs : List ℕ) → Fits l.device l.marks l.area → Alike l.marks bs → OneStep l bs x
step_same (one k) l bs f a =
    let t : Twins (outcome in_words l k) (outcome in_bytes (holding l bs) k) = twins l.device l.marks bs l.area f a l.queues k in
    record { said = ap to_call t.answer; lent = t.bytes; end = (outcome in_bytes (holding l bs) k).marks; left = next-holding l bs k t; marks = t.marks }
step_same (batch rs) l bs f a =
    let p = batch-paired l.device l.area rs l.marks bs f a in
    record { said = ap to_batch p.answer; lent = refl; end = (batch_by in_bytes l.device bs rs).marks; left = refl; marks = p.marks }

step_fits : (x : Step) (l : Left) → Fits l.device l.marks l.area → Fits (stepped in_words l x).device (stepped in_words l x).marks (stepped in_words l x).area
step_fits (one k) l f = (call_step l.device l.marks l.area l.queues f k).fits
step_fits (batch rs) l f =
    subst (λ (q : Left). Fits q.device q.marks q.area) (sym (step_left in_words words-kept l (batch rs))) (fits_after (calls_of in_words l (batch rs)) l f)

pub record Steps (l : Left) (bs : List ℕ) (xs : List Step) : Type 0 where
  pub said : said_by in_words l xs ≡ said_by in_bytes (holding l bs) xs
  pub lent : lent_by in_words l xs ≡ lent_by in_bytes (holding l bs) xs
  pub end : List ℕ
  pub left : left_by in_bytes (holding l bs) xs ≡ holding (left_by in_words l xs) end
  pub marks : Alike (left_by in_words l xs).marks end

steps-same : (xs : List Step) (l : Left) (bs : List ℕ) → Fits l.device l.marks l.area → Alike l.marks bs → Steps l bs xs
steps-same [] l bs f a = record { said = refl; lent = refl; end = bs; left = refl; marks = a }
steps-same (x ∷ xs) l bs f a =
    let t = step_same x l bs f a in
    let r = steps-same xs (stepped in_words l x) t.end (step_fits x l f) t.marks in
    record {
      said = ap₂ (λ (y : Said) (ys : List Said). y ∷ ys) t.said (r.said ∙ ap (λ (q : Left). said_by in_bytes q xs) (sym t.left));
      lent = ap₂ (λ (y : List ℕ) (ys : List (List ℕ)). y ∷ ys) t.lent (r.lent ∙ ap (λ (q : Left). lent_by in_bytes q xs) (sym t.left));
      end = r.end;
      left = ap (λ (q : Left). left_by in_bytes q xs) t.left ∙ r.left;
      marks = r.marks;
    }

-- ---- fresh

fresh-is : (en : Engine) (s : Settings) (ws : List ℕ) → (fresh_by en s ws).answer ≡ fresh.answer_of s (en.words ws)
unfolding fresh_by
fresh-is en s ws =
    let ts = fresh_order s (en.words ws) in
    let d = fresh_of s (en.words ws) in
    verdict-map (λ (c : Change Changed). c.answer) ts (changed 0 d (en.emptied ws)) (λ n i. changed n d ws)
    ∙ sym (verdict-map (λ (n : ℕ). record { number = n; device = d }) ts 0 (λ n i. n))

pub fresh-same : (s : Settings) (ws bs : List ℕ) → length ws ≡ in_bytes.words bs → (fresh_by in_words s ws).answer ≡ (fresh_by in_bytes s bs).answer
fresh-same s ws bs e = fresh-is in_words s ws ∙ ap (fresh.answer_of s) e ∙ sym (fresh-is in_bytes s bs)

-- ---- a refused fresh: both answer 1 to all that follows

-- what a closed device says to a step, and what it leaves of the bytes that were lent with it
abbrev one-said : Step → Said
one-said (one k) = to_call (refused 1 0)
one-said (batch rs) = to_batch (record { number = 1; done = 0; count = 0; refusal = 0 })

abbrev one_lent : Step → List ℕ
one_lent (one k) = lent k.op
one_lent (batch rs) = []

abbrev bytes_of : ℕ → List Call → List (List ℕ)
bytes_of a [] = []
bytes_of a (k ∷ ks) = cond (eqb k.id a) (lent k.op ∷ bytes_of a ks) (bytes_of a ks)

module _ (en : Engine) (m : Given) where
  closed-next : (k : Call) → next en (shut m) k ≡ shut m
  closed-next k = ap (λ (o : Outcome). record { device = o.device; marks = o.marks; area = o.area; queues = o.queues }) (closed-outcome en m k)

  pub closed-batch : (rs : List WriteRecord) → batch_by en closed_device m.marks rs ≡ batched 1 0 0 0 m.marks
  unfolding batch_by
  closed-batch rs = rw (closed-unsound (en.words m.marks))

  closed-told : (ks : List Call) → answers_to en (shut m) ks ≡ map (λ (k : Call). record { call = k; answer = refused 1 0 }) ks
  closed-told [] = refl
  closed-told (k ∷ ks) =
      ap₂ (λ (x : Answer) (es : List Event). record { call = k; answer = x } ∷ es) (ap (λ (o : Outcome). o.answer) (closed-outcome en m k))
      (ap (λ (q : Left). answers_to en q ks) (closed-next k) ∙ closed-told ks)

  closed-bytes : (a : ℕ) (ks : List Call) → bytes_to en a (shut m) ks ≡ bytes_of a ks
  closed-bytes a [] = refl
  closed-bytes a (k ∷ ks) =
      ap₂ (λ (x : List ℕ) (xs : List (List ℕ)). cond (eqb k.id a) (x ∷ xs) xs) (ap (λ (o : Outcome). o.bytes) (closed-outcome en m k))
      (ap (λ (q : Left). bytes_to en a q ks) (closed-next k) ∙ closed-bytes a ks)

  pub closed-step : (x : Step) → stepped en (shut m) x ≡ shut m
  closed-step (one k) = closed-next k
  closed-step (batch rs) = ap (λ (c : Change Batched). record { device = closed_device; marks = c.marks; area = m.area; queues = m.queues }) (closed-batch rs)

  closed_said : (x : Step) → said_of en (shut m) x ≡ one-said x
  closed_said (one k) = ap (λ (o : Outcome). to_call o.answer) (closed-outcome en m k)
  closed_said (batch rs) = ap (λ (c : Change Batched). to_batch c.answer) (closed-batch rs)

  closed-lent : (x : Step) → lent_of en (shut m) x ≡ one_lent x
  closed-lent (one k) = ap (λ (o : Outcome). o.bytes) (closed-outcome en m k)
  closed-lent (batch rs) = refl

  closed-all-said : (xs : List Step) → said_by en (shut m) xs ≡ map one-said xs
  closed-all-said [] = refl
  closed-all-said (x ∷ xs) = ap₂ (λ (y : Said) (ys : List Said). y ∷ ys) (closed_said x) (ap (λ (q : Left). said_by en q xs) (closed-step x) ∙ closed-all-said xs)

  closed-all-lent : (xs : List Step) → lent_by en (shut m) xs ≡ map one_lent xs
  closed-all-lent [] = refl
  closed-all-lent (x ∷ xs) = ap₂ (λ (y : List ℕ) (ys : List (List ℕ)). y ∷ ys) (closed-lent x) (ap (λ (q : Left). lent_by en q xs) (closed-step x) ∙ closed-all-lent xs)

-- ---- from fresh

-- what is the same in a session of both
pub record Together (s : Settings) (m : Given) (bs : List ℕ) (ks : List Call) (xs : List Step) : Type 0 where
  pub told : answers_to in_words (begun in_words s m) ks ≡ answers_to in_bytes (begun in_bytes s (lending m bs)) ks
  pub bytes : (a : ℕ) → bytes_to in_words a (begun in_words s m) ks ≡ bytes_to in_bytes a (begun in_bytes s (lending m bs)) ks
  pub seen : let l = end_of in_words s m ks in
      let l' = end_of in_bytes s (lending m bs) ks in
      view in_words l.device l.marks l.area l.queues ≡ view in_bytes l'.device l'.marks l'.area l'.queues
  pub said : said_by in_words (begun in_words s m) xs ≡ said_by in_bytes (begun in_bytes s (lending m bs)) xs
  pub lent : lent_by in_words (begun in_words s m) xs ≡ lent_by in_bytes (begun in_bytes s (lending m bs)) xs

module _ (s : Settings) (m : Given) (bs : List ℕ) (sized : Sized s m) (words : length m.marks ≡ in_bytes.words bs) where
  number_same : (fresh_by in_words s m.marks).answer.number ≡ (fresh_by in_bytes s bs).answer.number
  number_same = ap (λ (c : Changed). c.number) (fresh-same s m.marks bs words)

  -- ---- a done one

  module _ (e : (fresh_by in_words s m.marks).answer.number ≡ 0) where
    whole : length m.marks ≡ mark_words
    whole = (fresh-done s m.marks e).1

    long : length bs ≡ most_units
    long = area-whole (length bs) (sym words ∙ whole)

    abbrev zeros : List ℕ
    zeros = replicate (length bs) 0

    zero : (fresh.answer_of s (length m.marks)).number ≡ 0
    zero = sym (ap (λ (c : Changed). c.number) (fresh-is in_words s m.marks)) ∙ e

    begun-words : begun in_words s m ≡ record { device = fresh_of s (length m.marks); marks = replicate (length m.marks) 0; area = m.area; queues = m.queues }
    begun-words = ap (λ (c : Change Changed). record { device = c.answer.device; marks = c.marks; area = m.area; queues = m.queues }) (fresh.fresh-done in_words s m.marks zero)

    begun-bytes : begun in_bytes s (lending m bs) ≡ holding (begun in_words s m) zeros
    begun-bytes =
        ap (λ (c : Change Changed). record { device = c.answer.device; marks = c.marks; area = m.area; queues = m.queues })
        (fresh.fresh-done in_bytes s bs (ap (λ n. (fresh.answer_of s n).number) (sym words) ∙ zero))
        ∙ ap (λ n. record { device = fresh_of s n; marks = zeros; area = m.area; queues = m.queues }) (sym words)
        ∙ ap (λ (l : Left). holding l zeros) (sym begun-words)

    begun-alike : Alike (begun in_words s m).marks zeros
    begun-alike = subst (λ (l : Left). Alike l.marks zeros) (sym begun-words) (zeros-alike (length m.marks) (length bs) (omega (arith, whole, long)))

    begun-fits : Fits (begun in_words s m).device (begun in_words s m).marks (begun in_words s m).area
    begun-fits = (begins s m sized (fresh-done s m.marks e).0 whole).fits

    pub done-calls : (ks : List Call) → Calls (begun in_words s m) zeros ks
    done-calls ks = calls_same ks (begun in_words s m) zeros begun-fits begun-alike

    pub done-steps : (xs : List Step) → Steps (begun in_words s m) zeros xs
    done-steps xs = steps-same xs (begun in_words s m) zeros begun-fits begun-alike

    -- what both are left with
    pub calls-end : (ks : List Call) → end_of in_bytes s (lending m bs) ks ≡ holding (end_of in_words s m ks) (done-calls ks).end
    calls-end ks = ap (λ (l : Left). left_after in_bytes l ks) begun-bytes ∙ (done-calls ks).left

    pub steps-end : (xs : List Step) → left_by in_bytes (begun in_bytes s (lending m bs)) xs ≡ holding (left_by in_words (begun in_words s m) xs) (done-steps xs).end
    steps-end xs = ap (λ (l : Left). left_by in_bytes l xs) begun-bytes ∙ (done-steps xs).left

    done-together : (ks : List Call) (xs : List Step) → Together s m bs ks xs
    done-together ks xs =
        let c = done-calls ks in
        let t = done-steps xs in
        let l = end_of in_words s m ks in
        record {
          told = c.told ∙ ap (λ (q : Left). answers_to in_bytes q ks) (sym begun-bytes);
          bytes = λ a. c.bytes a ∙ ap (λ (q : Left). bytes_to in_bytes a q ks) (sym begun-bytes);
          seen = view-same l.marks c.end c.marks l.device l.area l.queues ∙ ap (λ (q : Left). view in_bytes q.device q.marks q.area q.queues) (sym (calls-end ks));
          said = t.said ∙ ap (λ (q : Left). said_by in_bytes q xs) (sym begun-bytes);
          lent = t.lent ∙ ap (λ (q : Left). lent_by in_bytes q xs) (sym begun-bytes);
        }

  -- ---- a refused one

  closed-together : (fresh_by in_words s m.marks).answer.number ≢ 0 → (ks : List Call) (xs : List Step) → Together s m bs ks xs
  closed-together h ks xs =
      record {
        told =
            ap (λ (q : Left). answers_to in_words q ks) words-shut ∙ closed-told in_words m ks ∙ sym (ap (λ (q : Left). answers_to in_bytes q ks) bytes-shut ∙ closed-told in_bytes (lending m bs) ks);
        bytes = λ a.
            ap (λ (q : Left). bytes_to in_words a q ks) words-shut ∙ closed-bytes in_words m a ks
            ∙ sym (ap (λ (q : Left). bytes_to in_bytes a q ks) bytes-shut ∙ closed-bytes in_bytes (lending m bs) a ks);
        seen =
            ap (λ (q : Left). view in_words q.device q.marks q.area q.queues) (ap (λ (q : Left). left_after in_words q ks) words-shut ∙ closed-stays in_words ks m)
            ∙ sym (ap (λ (q : Left). view in_bytes q.device q.marks q.area q.queues) (ap (λ (q : Left). left_after in_bytes q ks) bytes-shut ∙ closed-stays in_bytes ks (lending m bs)));
        said =
            ap (λ (q : Left). said_by in_words q xs) words-shut ∙ closed-all-said in_words m xs ∙ sym (ap (λ (q : Left). said_by in_bytes q xs) bytes-shut ∙ closed-all-said in_bytes (lending m bs) xs);
        lent =
            ap (λ (q : Left). lent_by in_words q xs) words-shut ∙ closed-all-lent in_words m xs ∙ sym (ap (λ (q : Left). lent_by in_bytes q xs) bytes-shut ∙ closed-all-lent in_bytes (lending m bs) xs);
      }
    where
      words-shut : begun in_words s m ≡ shut m
      words-shut = let z = (fresh-answers in_words s m.marks).refused h in rw (z.0, z.1)

      bytes-shut : begun in_bytes s (lending m bs) ≡ shut (lending m bs)
      bytes-shut = let z = (fresh-answers in_bytes s bs).refused (λ y. h (number_same ∙ y)) in rw (z.0, z.1)

  pub together : (ks : List Call) (xs : List Step) → Together s m bs ks xs
  together ks xs = go (eqb (fresh_by in_words s m.marks).answer.number 0) refl
    where
      go : (b : Bool) → eqb (fresh_by in_words s m.marks).answer.number 0 ≡ b → Together s m bs ks xs
      go true e = done-together (eqb-true (fresh_by in_words s m.marks).answer.number 0 e) ks xs
      go false e = closed-together (eqb-false (fresh_by in_words s m.marks).answer.number 0 e) ks xs
