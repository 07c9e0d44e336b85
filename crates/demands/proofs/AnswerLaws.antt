-- What a call answers, by its table: the number of the first test that is not passed, and refused all is as it was. Assumes nothing.
use mathlib.Core.Path.{◌≡◌, refl, ap, ap₂, ◌∙◌}
use mathlib.Core.Logic.{◌≢◌}
use mathlib.Core.Bool.{Bool, true, false, cond}
use mathlib.Core.List.{List, [], ◌∷◌}
use Rattle.std.specs.declared.option.Option.{Option}
use Rattle.rules.specs.declared.Ring.{Ring}
use Rattle.std.specs.declared.option.Option.TheVariants.{None, Some}
use Prim.Native.Nat.{ℕ}
use lib.Dec.{eqb}
use lib.ListN.{length}
use Rattle.little.specs.Little.{put}
use Rattle.rules.specs.Refusals.{Test, verdict, refusal, place_in}
use Rattle.rules.specs.Settings.{mark_words, settings_ok, place_of}
use Rattle.rules.specs.Units.{Write}
use Rattle.rules.specs.Machine.{no_report}
use Rattle.rules.specs.Order.{fresh_order, start_order, receive_order, Part, offset_of, is_last, joined_with}
use Rattle.rules.specs.Device.{closed_device, fresh_of}
use Rattle.rules.specs.declared.Settings.{Settings}
use Rattle.rules.specs.declared.Device.{Device}
use Rattle.rules.specs.declared.Range.{Range}
use Rattle.rules.specs.declared.Tracking.{Tracking}
use Rattle.rules.specs.declared.Tracking.TheVariants.{Off, On}
use Rattle.rules.proofs.RefusalLaws.{verdict-has, verdict-map}
use Rattle.record.specs.Record.{controller_at, with_sequence, seen_in, front_in}
use Rattle.calls.specs.declared.Started.{Started}
use Rattle.calls.specs.Calls.{fresh_by, Engine, start_by, fresh_change, Change, started_with, start_done, start_change, stop_done, flag_done, resume_done, note_in, write_done, Receipt, received, receive_in, receive_done, receive_by, arrival, part_done, make_done, post_in, post_done, take_in, take_done}
use Rattle.demands.specs.Demand1.{Answers}

-- what a table's call answers: the first test's number, and refused what is had of every refusal
pub answers : (A : Type 0) (number : A → ℕ) (was : A → Type 0) (ts : List Test) (end : A) (refuse : ℕ → ℕ → A)
    → number end ≡ 0 → ((n i : ℕ) → number (refuse n i) ≡ n) → ((n i : ℕ) → was (refuse n i))
    → Answers (number (verdict ts end refuse)) ts (was (verdict ts end refuse))
answers A number was ts end refuse z e w =
    record {
      first = verdict-map number ts end refuse ∙ same ts;
      refused = verdict-has (λ (r : A). number r ≢ 0 → was r) refuse (λ n i h. w n i) ts end (λ p h. absurd (h z));
    }
  where
    same : (us : List Test) → verdict us (number end) (λ n i. number (refuse n i)) ≡ refusal us
    same [] = z
    same (t ∷ us) = ap₂ (λ (a b : ℕ). cond t.ok a b) (same us) (e t.number t.place)

-- a done start has zeros in number and row
pub start-zero : (en : Engine) (d : Device) (ws : List ℕ) (m : ℕ) (x : List ℕ) (p : Option ℕ) → (start_done en d ws m x p).answer.number ≡ 0
start-zero en d ws m x None = refl
start-zero en d ws m x (Some i) = refl

start-row : (en : Engine) (d : Device) (ws : List ℕ) (m : ℕ) (x : List ℕ) (p : Option ℕ) → (start_done en d ws m x p).answer.row ≡ 0
start-row en d ws m x None = refl
start-row en d ws m x (Some i) = refl

-- a start's row is its table's
pub row_is : (en : Engine) (d : Device) (ws : List ℕ) (m id : ℕ) (x : List ℕ)
    → (start_by en d ws m id x).answer.row ≡ place_in (start_order d.settings m (seen_in d (en.words ws) (place_of d.settings id)) x)
unfolding start_by
row_is en d ws m id x =
    let p = place_of d.settings id in
    let ts = start_order d.settings m (seen_in d (en.words ws) p) x in
    verdict-map (λ (c : Change Started). c.answer.row) ts (start_done en d ws m x p) (λ n i. started_with n i d ws)
    ∙ ap (λ k. verdict ts k (λ n i. i)) (start-row en d ws m x p)

pub stop-zero : (en : Engine) (d : Device) (ws : List ℕ) (p : Option ℕ) → (stop_done en d ws p).answer.number ≡ 0
stop-zero en d ws None = refl
stop-zero en d ws (Some i) = refl

pub flag-zero : (d : Device) (p : Option ℕ) (b : Bool) → (flag_done d p b).number ≡ 0
flag-zero d None b = refl
flag-zero d (Some i) b = refl

pub resume-zero : (d : Device) (id : ℕ) (p : Option ℕ) → (resume_done d id p).number ≡ 0
resume-zero d id None = refl
resume-zero d id (Some i) = refl

pub part-zero : (d : Device) (area : List ℕ) (id : ℕ) (p : Part) → (part_done d area id p).answer.number ≡ 0
part-zero d area id p = go (is_last p) (length (joined_with (front_in id d.sequence area) p)) (put area (offset_of p) p.bytes)
  where
    go : (b : Bool) (n : ℕ) (x : List ℕ) → (cond b (arrival 0 n (with_sequence d None) x) (arrival 0 0 (with_sequence d (Some (record { owner = id; end = n }))) x)).answer.number ≡ 0
    go true n x = refl
    go false n x = refl

-- W8: so has a done call to a queue
pub make-zero : (d : Device) (bytes : ℕ) (p : Option ℕ) → (make_done d bytes p).number ≡ 0
make-zero d bytes None = refl
make-zero d bytes (Some i) = refl

pub post-zero : (d : Device) (area e : List ℕ) (p : Option ℕ) → (post_done d area e p).answer.number ≡ 0
post-zero d area e None = refl
post-zero d area e (Some i) = go (controller_at d (Some i)).queue
  where
    go : (q : Option Ring) → (post_in d i area e q).answer.number ≡ 0
    go None = refl
    go (Some r) = refl

pub take-zero : (d : Device) (area : List ℕ) (asked : ℕ) (x : List ℕ) (p : Option ℕ) → (take_done d area asked x p).answer.number ≡ 0
take-zero d area asked x None = refl
take-zero d area asked x (Some i) = go (controller_at d (Some i)).queue
  where
    go : (q : Option Ring) → (take_in d i area asked x q).answer.number ≡ 0
    go None = refl
    go (Some r) = refl

note-zero : (en : Engine) (ws : List ℕ) (base : ℕ) (t : Tracking) (rs : List Range) (w : Write) → (note_in en ws base t rs w).answer.number ≡ 0
note-zero en ws base Off rs w = refl
note-zero en ws base (On g n) rs w = refl

pub write-zero : (en : Engine) (d : Device) (ws : List ℕ) (w : Write) (p : Option ℕ) → (write_done en d ws w p).answer.number ≡ 0
write-zero en d ws w None = refl
write-zero en d ws w (Some i) = note-zero en ws (controller_at d (Some i)).base (controller_at d (Some i)).tracking (controller_at d (Some i)).ranges w

abbrev SaidBy : Receipt → Type 0
SaidBy r =
    r.answer
    ≡ record { number = r.answer.number; suspended = r.report.suspended; more = r.report.more; granularity = r.report.granularity; runs = length r.report.descriptors; groups = r.report.groups }

pub receive-says : (en : Engine) (d : Device) (ws : List ℕ) (m id : ℕ) (x : List ℕ) → SaidBy (receive_by en d ws m id x)
unfolding receive_by
receive-says en d ws m id x =
    verdict-has SaidBy (λ n j. received n no_report ws x) (λ n j. refl) (receive_order d.settings m (seen_in d (en.words ws) (place_of d.settings id)) x) (receive_done en d ws id x (place_of d.settings id)) (λ p. done (place_of d.settings id))
  where
    go : (base : ℕ) (b : Bool) (t : Tracking) (rs : List Range) → SaidBy (receive_in en ws base id b t rs x)
    go base b Off rs = refl
    go base b (On g n) rs = refl

    done : (p : Option ℕ) → SaidBy (receive_done en d ws id x p)
    done None = refl
    done (Some i) = go (controller_at d (Some i)).base (controller_at d (Some i)).suspended (controller_at d (Some i)).tracking (controller_at d (Some i)).ranges

report-zero : (en : Engine) (ws : List ℕ) (base id : ℕ) (b : Bool) (t : Tracking) (rs : List Range) (x : List ℕ) → (receive_in en ws base id b t rs x).answer.number ≡ 0
report-zero en ws base id b Off rs x = refl
report-zero en ws base id b (On g n) rs x = refl

pub receive-zero : (en : Engine) (d : Device) (ws : List ℕ) (id : ℕ) (x : List ℕ) (p : Option ℕ) → (receive_done en d ws id x p).answer.number ≡ 0
receive-zero en d ws id x None = refl
receive-zero en d ws id x (Some i) = report-zero en ws (controller_at d (Some i)).base id (controller_at d (Some i)).suspended (controller_at d (Some i)).tracking (controller_at d (Some i)).ranges x

-- a refused fresh makes the closed device
pub fresh-answers : (en : Engine) (s : Settings) (ws : List ℕ)
    → Answers (fresh_by en s ws).answer.number (fresh_order s (en.words ws)) (((fresh_by en s ws).answer.device ≡ closed_device) × ((fresh_by en s ws).marks ≡ ws))
unfolding fresh_by fresh_of
fresh-answers en s ws = go (settings_ok s) (eqb (en.words ws) mark_words) refl refl
  where
    go : (a b : Bool) → settings_ok s ≡ a → eqb (en.words ws) mark_words ≡ b
        → Answers (fresh_by en s ws).answer.number (fresh_order s (en.words ws)) (((fresh_by en s ws).answer.device ≡ closed_device) × ((fresh_by en s ws).marks ≡ ws))
    go true true e f = rw (e, f) (record { first = refl; refused = λ h. absurd (h refl) })
    go true false e f = rw (e, f) (record { first = refl; refused = λ h. (refl, refl) })
    go false b e f = rw e (record { first = refl; refused = λ h. (refl, refl) })
