-- What a receive answers, case by case of its table; what its loop lists and its header say together is the report. Assumes nothing.
use mathlib.Core.Path.{◌≡◌, sym, ap, ap₂, ◌∙◌}
use mathlib.Core.Bool.{Bool, true}
use mathlib.Core.List.{List, map}
use Prim.Native.Nat.{ℕ, ◌≤◌, ◌<◌}
use native.Mathlib.Omega.{arith}
use lib.ListN.{length, get_or, take, drop, length-take, length-map}
use borrow.Author.Tests.{le-leb, lt-leb}
use Rattle.bits.specs.Flat.{flat, Words}
use Rattle.bits.specs.Share.{get_share, put_share}
use Rattle.bits.proofs.Pack.{pack-only}
use Rattle.little.specs.Little.{put, records}
use Rattle.report_data.proofs.Blocks.{report-done}
use Rattle.rules.specs.Lists.{non_empty}
use Rattle.rules.specs.Settings.{is_manager, place_of}
use Rattle.rules.specs.Units.{Unit, units, pending}
use Rattle.rules.specs.Report.{runs, Report, descriptor, descriptor_bytes, room, report_on, report_header, reported_runs, later_runs, groups_on, marks_left}
use Rattle.rules.specs.Order.{is_tracker, receive_order}
use Rattle.rules.specs.Machine.{no_report}
use Rattle.rules.specs.Refusals.{number_of}
use Rattle.rules.specs.declared.Controller.{Controller}
use Rattle.rules.specs.declared.Device.{Device}
use Rattle.rules.specs.declared.Range.{Range}
use Rattle.rules.specs.declared.Refusal.{Refusal}
use Rattle.rules.specs.declared.Tracking.{Tracking}
use Rattle.rules.specs.declared.Tracking.TheVariants.{Off, On}
use Rattle.rules.proofs.RunLaws.{runs-length-le, pending-length-le}
use Rattle.record.specs.Record.{no_controller, tracker_of, where_by, seen_in}
use Rattle.std.specs.declared.result.Result.{Result}
use Rattle.std.specs.declared.result.Result.TheVariants.{Err, Ok}
use Rattle.record.proofs.RecordLaws.{Located, where_is-at, where_by-tests, where_by-at}
use Rattle.calls.specs.Inner.{tracking_by, received_by}
use Rattle.calls.specs.Calls.{Engine, in_words, with_marks, Receipt, received, report_in, receive_done, receive_by}
use Rattle.calls.specs.declared.Received.{Received}
use Rattle.calls.proofs.PlaceLaws.{tracking_by-on, tracking_by-off}
use Rattle.scan.specs.Scan.{Lists}

-- ---- a promise met

abbrev pub Receives : Receipt → Received → List ℕ → List ℕ → Type 0
Receives c r ws x = (r ≡ c.answer) × (ws ≡ c.marks) × (x ≡ c.buffer)

pub receives-nothing : (c : Receipt) (r : Refusal) (ws x : List ℕ) (o : Result Received Refusal) → c ≡ received (number_of r) no_report ws x → o ≡ Err r → Receives c (received_by o) ws x
receives-nothing c r ws x o e f = (ap received_by f ∙ sym (ap (λ (y : Receipt). y.answer) e), sym (ap (λ (y : Receipt). y.marks) e), sym (ap (λ (y : Receipt). y.buffer) e))

-- no more runs are listed than there are units
pub reported-few : (room : ℕ) (us : List Unit) (p : List Bool) (count : ℕ) → count ≡ length (reported_runs room us p) → count ≤ length us
reported-few room us p count e = omega (arith, length-take room (runs (pending us p)), runs-length-le (pending us p), pending-length-le us p)

pub lists-few : (g : ℕ) (rs : List Range) (l : List Bool) (base : ℕ) (x : List ℕ) (room count : ℕ) (more : Bool) (groups : ℕ) (l' : List Bool) (x' : List ℕ)
    → Lists g rs l base x room count more groups l' x' → count ≤ length (units g rs)
lists-few g rs l base x room count more groups l' x' s = reported-few room (units g rs) (get_share l base (length (units g rs))) count s.count_is

-- ---- the cases

module _ (en : Engine) (d : Device) (ws : List ℕ) (m id : ℕ) (x : List ℕ) where
  pub receive-refused : (r : Refusal) → where_by d (en.words ws) m id ≡ Err r → receive_by en d ws m id x ≡ received (number_of r) no_report ws x
  unfolding receive_by
  receive-refused n e =
      where_by-tests d (en.words ws) m id n e (drop 3 (receive_order d.settings m (seen_in d (en.words ws) (place_of d.settings id)) x)) (receive_done en d ws id x (place_of d.settings id)) (λ n i. received n no_report ws x)

  module _ (i : ℕ) (e : where_by d (en.words ws) m id ≡ Ok i) where
    l : Located d (en.words ws) id i
    l = where_is-at d (en.words ws) id i (where_by-at d (en.words ws) m id i e).1

    by : is_manager d.settings m ≡ true
    by = (where_by-at d (en.words ws) m id i e).0

    abbrev it : Controller
    it = get_or d.controllers i no_controller

    -- how the manager finds it tracked
    abbrev found : Tracking
    found = tracking_by m it.tracking it.manager

    pub receive-off : found ≡ Off → receive_by en d ws m id x ≡ received 5 no_report ws x
    unfolding receive_by
    receive-off t = rw (l.place, l.seen, by, tracking_by-off m it.tracking it.manager t)

    module _ (g n : ℕ) (t : found ≡ On g n) where
      tracked : it.tracking ≡ On g n
      tracked = (tracking_by-on m it.tracking it.manager g n t).0

      own : is_tracker m (tracker_of it) ≡ true
      own = (tracking_by-on m it.tracking it.manager g n t).1

      pub receive-short : length x < 32 → receive_by en d ws m id x ≡ received 8 no_report ws x
      unfolding receive_by
      receive-short h = rw (l.place, l.seen, by, own, lt-leb 32 (length x) h)

      abbrev us : List Unit
      us = units g (take n it.ranges)

      abbrev p : List Bool
      p = en.marks ws it.base (length us)

      abbrev b : Bool
      b = it.suspended

      abbrev k : ℕ
      k = room (length x)

      receive-on : 32 ≤ length x → receive_by en d ws m id x ≡ report_in en ws it.base id b g us x
      unfolding receive_by
      receive-on h = rw (l.place, l.seen, by, own, tracked, le-leb 32 (length x) h)

      -- what is listed, with the header, is the report
      pub receive-done : 32 ≤ length x → (ws' x' x'' : List ℕ) (runs : ℕ) (more : Bool) (groups : ℕ)
          → runs ≡ length (reported_runs k us p) → more ≡ non_empty (later_runs k us p) → groups ≡ groups_on k us p → ws' ≡ en.reported ws it.base k us
          → x' ≡ put x 16 (records descriptor_bytes (map descriptor (reported_runs k us p))) → x'' ≡ put x' 0 (report_header id b more runs g)
          → Receives (receive_by en d ws m id x) (record { number = 0; suspended = b; more = more; granularity = g; runs = runs; groups = groups }) ws' x''
      receive-done h ws' x' x'' runs more groups count_is more_is groups-are marks_are bytes_are q =
          let r : Report = report_on b g k us p in
          let c : runs ≡ length r.descriptors = count_is ∙ sym (length-map (reported_runs k us p) descriptor) in (
            ap₂ (λ a z. record { number = 0; suspended = b; more = a; granularity = g; runs = z; groups = groups }) more_is c
                ∙ ap (λ n. record { number = 0; suspended = b; more = r.more; granularity = g; runs = length r.descriptors; groups = n }) groups-are ∙ sym (ap (λ (y : Receipt). y.answer) (receive-on h)),
            marks_are ∙ sym (ap (λ (y : Receipt). y.marks) (receive-on h)),
            report-done id r x x' x'' runs c bytes_are (q ∙ ap (λ a. put x' 0 (report_header id b a runs g)) more_is) ∙ sym (ap (λ (y : Receipt). y.buffer) (receive-on h)),
          )

-- ---- in words

pub lists-words : (g : ℕ) (rs : List Range) (ws : List ℕ) (base : ℕ) (x : List ℕ) (room count : ℕ) (more : Bool) (groups : ℕ) (ws' x' : List ℕ)
    → Lists g rs (flat ws) base x room count more groups (flat ws') x' → Words ws' → length ws' ≡ length ws → ws' ≡ in_words.reported ws base room (units g rs)
unfolding with_marks
lists-words g rs ws base x room count more groups ws' x' s f m =
    pack-only (length ws) ws' (put_share (flat ws) base (marks_left room (units g rs) (get_share (flat ws) base (length (units g rs))))) m f s.bits_are
