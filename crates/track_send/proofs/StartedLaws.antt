-- What a start answers, case by case of its table. Assumes nothing.
use mathlib.Core.Path.{◌≡◌, refl, sym, ap, ◌∙◌}
use mathlib.Core.Logic.{◌≢◌}
use mathlib.Core.Bool.{true, false, cond}
use mathlib.Core.List.{List, [], ◌∷◌, ◌++◌}
use Rattle.std.specs.declared.option.Option.TheVariants.{Some}
use Prim.Native.Nat.{ℕ, ◌+◌, ◌*◌, ◌≤◌, ◌<◌}
use native.Mathlib.Omega.{arith}
use lib.Dec.{leb, eqb}
use lib.ListN.{length, get_or, take, drop, replicate}
use borrow.Author.Tests.{le-leb, lt-leb, leb-true, eq-eqb}
use Rattle.little.specs.Little.{records_at}
use Rattle.little.proofs.Put.{put-take-front}
use Rattle.little.proofs.Records.{records_at-length}
use Rattle.rules.specs.Refusals.{Test, Refused, ◌else◌, verdict, number_of, refusal, place_in, refusal_at, refused_at, passes}
use Rattle.rules.specs.Settings.{most_units, is_manager, limit_of, place_of, granularity_ok}
use Rattle.rules.specs.Units.{units}
use Rattle.rules.specs.Ranges.{rows_ok, rows_tests, range_tests, list_tests}
use Rattle.rules.specs.StartData.{granularity_of, count_of, ranges_of, range_at, start_size, header_of, no_range, placed}
use Rattle.rules.specs.Order.{start_listed, start_shared, start_order}
use Rattle.rules.specs.Device.{sound_device}
use Rattle.rules.specs.declared.Device.{Device}
use Rattle.rules.specs.declared.Refusal.{Refusal}
use Rattle.rules.specs.declared.RowRefusal.{RowRefusal}
use Rattle.rules.specs.declared.Settings.{Settings}
use Rattle.rules.specs.declared.Tracking.TheVariants.{Off, On}
use Rattle.rules.specs.declared.Header.TheVariants as header
use Rattle.rules.proofs.ListLaws.{All, All-append}
use Rattle.rules.proofs.RefusalLaws.{number_of-pos, Passed, Passed-left, Passed-right, passes-all, passes-Passed, refusal-none, refusal_at-is, verdict-first, verdict-rest, verdict-passed, verdict-refused}
use Rattle.rules.proofs.RowLaws.{rows_tests-passes}
use Rattle.record.specs.Record.{no_controller, where_by, seen_in, managed_of, counts_of, units_of}
use Rattle.std.specs.declared.result.Result.{Result}
use Rattle.std.specs.declared.result.Result.TheVariants.{Err, Ok}
use Rattle.record.proofs.RecordLaws.{Located, where_is-at, where_by-at, where_by-tests, sound_device-facts}
use Rattle.settings.proofs.SettingsLaws.{granularity_ok-greatest}
use Rattle.ranges.proofs.RangeLaws.{list_tests-numbers}
use Rattle.start_data.proofs.Answers.{header_of-is, HeaderIs, header_of-refused, HeaderRefused, no_header, other_version}
use Rattle.calls.specs.Calls.{Engine, start_by, started_with, bases_of, sizes_of, packed_device, start_done}
use Rattle.track_send.specs.declared.Admitted.{Admitted}
use Rattle.track_send.specs.Inner.{tracking, Starts, Admission, Admits}

-- a header is refused with 6 or with 8
pub refused-name : (x : List ℕ) (k at : ℕ) → header_of x ≡ header.Refused k at → cond (eqb k 6) 6 8 ≡ k
refused-name x k at q = go k at (header_of-refused x k at q)
  where
    go : (k at : ℕ) → HeaderRefused x k at → cond (eqb k 6) 6 8 ≡ k
    go k at (no_header t) = refl
    go k at (other_version t v) = refl

-- the tests of a start by a manager after those of its header: 7, 8 (listed ranges), 18 to 21, 10, 11, 12 and 34
abbrev pub listed_tests : Settings → ℕ → ℕ → ℕ → ℕ → List ℕ → List Test
listed_tests s m held managed counts x = start_listed s x ++ start_shared s m held managed counts x

-- the last three, of so many units, counts of that manager's and counts of all, each with the new ones
abbrev pub shared_tests : Settings → ℕ → ℕ → ℕ → ℕ → List Test
shared_tests s m pool own shelf =
    (leb pool most_units else 11)
    ∷ (leb own (limit_of s m) else 12)
    ∷ (leb shelf s.shelf else 34)
    ∷ []

module _ (s : Settings) (m pool own shelf : ℕ) where
  pub shared-pool : most_units < pool → refusal_at (shared_tests s m pool own shelf) ≡ record { number = 11; row = 0 }
  shared-pool l = rw (lt-leb pool most_units l)

  module _ (room : pool ≤ most_units) where
    pub shared_limit : limit_of s m < own → refusal_at (shared_tests s m pool own shelf) ≡ record { number = 12; row = 0 }
    shared_limit l = rw (le-leb pool most_units room, lt-leb own (limit_of s m) l)

    module _ (few : own ≤ limit_of s m) where
      pub shared-shelf : s.shelf < shelf → refusal_at (shared_tests s m pool own shelf) ≡ record { number = 34; row = 0 }
      shared-shelf l = rw (le-leb pool most_units room, le-leb own (limit_of s m) few, lt-leb shelf s.shelf l)

      pub shared-passed : shelf ≤ s.shelf → refusal_at (shared_tests s m pool own shelf) ≡ record { number = 0; row = 0 }
      shared-passed l = rw (le-leb pool most_units room, le-leb own (limit_of s m) few, le-leb shelf s.shelf l)

-- ---- 7 and what follows it

module _ (s : Settings) (m held managed counts : ℕ) (x : List ℕ) (g n : ℕ) (e : header_of x ≡ header.Is g n) where
  h : HeaderIs x g n
  h = header_of-is x g n e

  pub listed-granularity : granularity_ok s g ≡ false → refusal_at (listed_tests s m held managed counts x) ≡ record { number = 7; row = 0 }
  listed-granularity f = rw (h.granularity, f)

  module _ (f : granularity_ok s g ≡ true) where
    pub listed-short : length x < 8 + 12 * n → refusal_at (listed_tests s m held managed counts x) ≡ record { number = 8; row = 0 }
    listed-short l = rw (h.granularity, f, h.count, lt-leb (start_size n) (length x) l)

    module _ (there : start_size n ≤ length x) where
      abbrev last : ℕ → List Test
      last u = shared_tests s m (u + held) (n + managed) (n + counts)

      rest : refusal_at (listed_tests s m held managed counts x) ≡ refusal_at (list_tests s g n (ranges_of x) ++ last (length (units g (ranges_of x))))
      rest = rw (h.granularity, f, h.count, le-leb (start_size n) (length x) there)

      pub listed-many : 16 < n → refusal_at (listed_tests s m held managed counts x) ≡ record { number = 18; row = 0 }
      unfolding range_tests
      listed-many l = rest ∙ rw (le-leb 1 n (omega arith), lt-leb n 16 l)

      module _ (few : n ≤ 16) where
        -- the ranges that were read are the listed ones
        pub ranges-read : take n (placed (records_at range_at 12 x 8 n)) ≡ ranges_of x
        unfolding ranges_of
        ranges-read =
            rw h.count (put-take-front (replicate 16 no_range) n (records_at range_at 12 x 8 n) (records_at-length range_at 12 x 8 n) few)

        module _ (r : Refused) (q : r ≡ refusal_at (list_tests s g n (take n (placed (records_at range_at 12 x 8 n))))) where
          of-list : r ≡ refusal_at (list_tests s g n (ranges_of x))
          of-list = q ∙ ap (λ rs. refusal_at (list_tests s g n rs)) ranges-read

          number-of-list : r.number ≡ refusal (list_tests s g n (ranges_of x))
          number-of-list = ap (λ (z : Refused). z.number) (of-list ∙ refusal_at-is (list_tests s g n (ranges_of x)))

          pub listed-rules : r.number ≢ 0 → r ≡ refusal_at (listed_tests s m held managed counts x)
          listed-rules k = of-list ∙ sym (rest ∙ verdict-first (list_tests s g n (ranges_of x)) (last (length (units g (ranges_of x)))) _ _ _ (λ z. k (number-of-list ∙ z)))

          module _ (k : r.number ≡ 0) where
            pass : passes (list_tests s g n (ranges_of x)) ≡ true
            pass =
                sym (refusal-none (list_tests s g n (ranges_of x)) (list_tests-numbers s g n (ranges_of x)))
                ∙ eq-eqb (refusal (list_tests s g n (ranges_of x))) 0 (sym number-of-list ∙ k)

            -- their rows break no rule
            pub listed-rows : rows_ok g (take n (placed (records_at range_at 12 x 8 n))) ≡ true
            unfolding range_tests
            listed-rows =
                let p = passes-Passed (list_tests s g n (ranges_of x)) pass in
                let rows = Passed-left (range_tests g n (ranges_of x)) _ p in
                rw ranges-read (sym (rows_tests-passes g 0 (ranges_of x)) ∙ passes-all (rows_tests g 0 (ranges_of x)) rows.1.1)

            -- and those that controllers share are left
            pub listed-shared : (u : ℕ) → u ≡ length (units g (take n (placed (records_at range_at 12 x 8 n)))) → refusal_at (listed_tests s m held managed counts x) ≡ refusal_at (last u)
            listed-shared u are =
                rest ∙ verdict-rest (list_tests s g n (ranges_of x)) (last (length (units g (ranges_of x)))) _ _ pass
                ∙ ap (λ k. refusal_at (last k)) (sym (are ∙ ap (λ rs. length (units g rs)) ranges-read))

  -- where all are passed
  pub listed-all : (r : Refused) → r ≡ refusal_at (listed_tests s m held managed counts x) → r.number ≡ 0 → Passed (listed_tests s m held managed counts x)
  listed-all r q k =
      passes-Passed (listed_tests s m held managed counts x)
      (sym (refusal-none (listed_tests s m held managed counts x) numbers)
      ∙ eq-eqb (refusal (listed_tests s m held managed counts x)) 0 (sym (ap (λ (z : Refused). z.number) (q ∙ refusal_at-is (listed_tests s m held managed counts x))) ∙ k))
    where
      numbers : All (λ (t : Test). 1 ≤ t.number) (listed_tests s m held managed counts x)
      numbers = (
        omega arith,
        (
          omega arith,
          All-append (λ (t : Test). 1 ≤ t.number) (list_tests s (granularity_of x) (count_of x) (ranges_of x)) (start_shared s m held managed counts x)
              (list_tests-numbers s (granularity_of x) (count_of x) (ranges_of x)) (omega arith, (omega arith, (omega arith, tt))),
        ),
      )

  -- what is known of the ranges then
  pub record Listed : Type 0 where
    pub allowed : granularity_ok s g ≡ true
    pub few : n ≤ 16
    pub there : start_size n ≤ length x
    pub rows : rows_ok g (ranges_of x) ≡ true
    pub room : length (units g (ranges_of x)) + held ≤ most_units

  pub listed-known : (r : Refused) → r ≡ refusal_at (listed_tests s m held managed counts x) → r.number ≡ 0 → Listed
  unfolding range_tests
  listed-known r q k =
      let p = listed-all r q k in
      let c = h.count in
      let tests = list_tests s (granularity_of x) (count_of x) (ranges_of x) in
      let list = Passed-left tests (start_shared s m held managed counts x) p.1.1 in
      let rows = Passed-left (range_tests (granularity_of x) (count_of x) (ranges_of x)) _ list in
      record {
        allowed = rw (sym h.granularity) p.0;
        few = rw c at (leb-true (count_of x) 16 rows.1.0);
        there = rw c at (leb-true (start_size (count_of x)) (length x) p.1.0);
        rows = rw (sym h.granularity) (sym (rows_tests-passes (granularity_of x) 0 (ranges_of x)) ∙ passes-all (rows_tests (granularity_of x) 0 (ranges_of x)) rows.1.1);
        room = rw (sym h.granularity) (leb-true _ most_units (Passed-right tests (start_shared s m held managed counts x) p.1.1).0);
      }

-- and of the record: a sound one, in which the controller at a place in use is off
pub start-known : (d : Device) (m : ℕ) (x : List ℕ) (s : Admitted) → sound_device d ≡ true → s.place < d.settings.count → (get_or d.controllers s.place no_controller).tracking ≡ Off
    → (q : header_of x ≡ header.Is s.granularity s.count) → s.ranges ≡ placed (records_at range_at 12 x 8 s.count)
    → Listed d.settings m (units_of d) (managed_of d m) (counts_of d) x s.granularity s.count q → Starts d s
start-known d m x s sure used off q read k =
    let same = ap (take s.count) read ∙ ranges-read d.settings m (units_of d) (managed_of d m) (counts_of d) x s.granularity s.count q k.allowed k.there k.few in
    record {
      sound = sure;
      used = used;
      off = off;
      small = omega (arith, granularity_ok-greatest d.settings s.granularity k.allowed, (sound_device-facts d sure).greatest);
      few = k.few;
      rows = rw same k.rows;
      room = rw same k.room;
    }

-- ---- the table

-- what a start's table answers
abbrev pub table : Device → ℕ → ℕ → ℕ → List ℕ → List Test
table d words m id x = start_order d.settings m (seen_in d words (place_of d.settings id)) x

module _ (d : Device) (words m id : ℕ) (x : List ℕ) where
  pub start-refused : (r : Refusal) → where_by d words m id ≡ Err r → refusal_at (table d words m id x) ≡ record { number = number_of r; row = 0 }
  start-refused r e = where_by-tests d words m id r e (drop 3 (table d words m id x)) (record { number = 0; row = 0 }) (λ n i. record { number = n; row = i })

  module _ (i : ℕ) (e : where_by d words m id ≡ Ok i) where
    by : is_manager d.settings m ≡ true
    by = (where_by-at d words m id i e).0

    l : Located d words id i
    l = where_is-at d words id i (where_by-at d words m id i e).1

    pub start-suspended : (get_or d.controllers i no_controller).suspended ≡ true → refusal_at (table d words m id x) ≡ record { number = 4; row = 0 }
    start-suspended f = rw (l.place, l.seen, by, f)

    module _ (f : (get_or d.controllers i no_controller).suspended ≡ false) where
      pub start-tracked : (g n : ℕ) → (get_or d.controllers i no_controller).tracking ≡ On g n → refusal_at (table d words m id x) ≡ record { number = 3; row = 0 }
      start-tracked g n t = rw (l.place, l.seen, by, f, t)

      module _ (t : (get_or d.controllers i no_controller).tracking ≡ Off) where
        pub start-header : (k at : ℕ) → header_of x ≡ header.Refused k at → refusal_at (table d words m id x) ≡ record { number = k; row = 0 }
        start-header k at q = go k at (header_of-refused x k at q)
          where
            go : (k at : ℕ) → HeaderRefused x k at → refusal_at (table d words m id x) ≡ record { number = k; row = 0 }
            go k at (no_header a) = rw (l.place, l.seen, by, f, t, a)
            go k at (other_version a b) = rw (l.place, l.seen, by, f, t, a, b)

        pub start-listed : (g n : ℕ) → header_of x ≡ header.Is g n
            → refusal_at (table d words m id x) ≡ refusal_at (listed_tests d.settings m (units_of d) (managed_of d m) (counts_of d) x)
        start-listed g n q = let p = header_of-is x g n q in rw (l.place, l.seen, by, f, t, p.there, p.version)

-- ---- the start, by what was admitted

module _ (en : Engine) (d : Device) (ws : List ℕ) (m id : ℕ) (x : List ℕ) (o : Result Admitted RowRefusal) (e : refused_at o ≡ refusal_at (table d (en.words ws) m id x)) where
  pub start-refuses : (r : RowRefusal) → o ≡ Err r → start_by en d ws m id x ≡ started_with (number_of r.refusal) r.row d ws
  unfolding start_by
  start-refuses r f =
      let tests = table d (en.words ws) m id x in
      let is : record { number = number_of r.refusal; row = r.row } ≡ record { number = refusal tests; row = place_in tests } = sym (ap refused_at f) ∙ e ∙ refusal_at-is tests in
      let n : number_of r.refusal ≡ refusal tests = ap (λ (z : Refused). z.number) is in
      verdict-refused tests (start_done en d ws m x (place_of d.settings id)) (λ k j. started_with k j d ws) (λ z. number_of-pos r.refusal (n ∙ z))
      ∙ ap (λ (z : Refused). started_with z.number z.row d ws) (sym is)

  pub start-done : (s : Admitted) → o ≡ Ok s → Admits d (en.words ws) m id x o
      → start_by en d ws m id x ≡ started_with 0 0 (packed_device (tracking d m s)) (en.packed ws (bases_of d) (sizes_of (tracking d m s)) s.place)
  unfolding start_by ranges_of
  start-done s f = rw f (go s)
    where
      go : (s : Admitted) → Admission d (en.words ws) m id x s
          → start_by en d ws m id x ≡ started_with 0 0 (packed_device (tracking d m s)) (en.packed ws (bases_of d) (sizes_of (tracking d m s)) s.place)
      go s a =
          let tests = listed_tests d.settings m (units_of d) (managed_of d m) (counts_of d) x in
          let p = header_of-is x s.granularity s.count a.header in
          let by = where_by-at d (en.words ws) m id s.place a.found in
          let l = where_is-at d (en.words ws) id s.place by.1 in
          let z = listed-all d.settings m (units_of d) (managed_of d m) (counts_of d) x s.granularity s.count a.header (refusal_at tests) refl (ap (λ (z : Refused). z.number) a.passed) in
          let to-list : start_by en d ws m id x ≡ verdict tests (start_done en d ws m x (Some s.place)) (λ k j. started_with k j d ws) =
          rw (l.place, l.seen, by.0, a.awake, a.starts.off, p.there, p.version) in
          to-list ∙ verdict-passed tests (start_done en d ws m x (Some s.place)) (λ k j. started_with k j d ws) z ∙ rw (a.awake, p.granularity, p.count, a.read)
