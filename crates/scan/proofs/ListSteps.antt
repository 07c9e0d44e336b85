-- Laws of the loop that lists runs: what was listed are the first runs, what was passed is clear, and what is left are the later runs.
-- Assumes nothing.
use mathlib.Core.Path.{◌≡◌, refl, sym, ap, ap₂, ◌∙◌}
use mathlib.Core.Bool.{Bool, true, false, true≢false}
use mathlib.Core.List.{List, [], ◌∷◌, ◌++◌, map}
use Rattle.std.specs.declared.option.Option.TheVariants.{Some}
use Prim.Native.Nat.{ℕ, zero, suc, ◌+◌, ◌-◌, ◌*◌, ◌/◌, ◌≤◌, ◌<◌}
use native.Mathlib.Numerals.{add-one}
use native.Mathlib.Omega.{arith}
use native.Mathlib.Decide.{dec_lt}
use lib.ListN.{length, get_or, take, drop, length-append, length-take, length-drop, length-map, get_or-append, drop_of_length-le}
use Rattle.std.specs.Int.{div_ceil}
use Rattle.std.specs.List.{slice_get}
use lib.Seq.{ext_get_or, get_or-append-add, get_or-drop, drop_at, take_all, drop-drop}
use Rattle.bits.specs.Span.{fill}
use Rattle.bits.specs.Share.{get_share, put_share}
use Rattle.bits.proofs.Span.{fill-length, fill-at-below, fill-at-in, fill-at-above}
use Rattle.bits.proofs.Share.{get_share-length, put_share-length, get_share-put_share, put_share-get_share, put_share-put_share, fill-share}
use Rattle.little.specs.Little.{put, records}
use Rattle.little.proofs.Put.{put-nil}
use Rattle.little.proofs.Records.{records-nil, records-snoc-again}
use Rattle.report_data.proofs.Blocks.{descriptor_bytes-length}
use Rattle.rules.specs.Lists.{join, non_empty}
use Rattle.rules.specs.Settings.{unit_size}
use Rattle.rules.specs.Units.{Unit, units_of_row, units, pending}
use Rattle.rules.specs.Report.{runs, descriptor, descriptor_bytes, later_runs, marks_left}
use Rattle.rules.specs.declared.Range.{Range}
use Rattle.rules.proofs.ListLaws.{join-take-drop}
use Rattle.rules.proofs.RunLaws.{runs-join}
use Rattle.rules.proofs.GroupLaws.{groups-to, groups-all}
use Rattle.rules.proofs.ScanLaws.{pending-skip, pending-split, clear_before, clear_first-clear_before, descriptor-row}
use Rattle.scan.specs.Scan.{Stands, Lists}
use Rattle.scan.specs.declared.Run.{Run}
use Rattle.scan.proofs.ScanSteps.{RunFound, stands-start}

-- ---- the marks with all before a place clear

clears-map : (p : List Bool) (i : ℕ) → get_or (map (λ (b : Bool). false) p) i false ≡ false
clears-map [] i = refl
clears-map (b ∷ p) zero = refl
clears-map (b ∷ p) (suc i) = clears-map p i

module _ (n : ℕ) (p : List Bool) (h : n ≤ length p) where
  front_length : length (map (λ (b : Bool). false) (take n p)) ≡ n
  front_length = length-map (take n p) (λ (b : Bool). false) ∙ omega (arith, length-take n p)

  clear_before-length : length (clear_before n p) ≡ length p
  clear_before-length = length-append (map (λ (b : Bool). false) (take n p)) (drop n p) ∙ omega (arith, front_length, length-drop n p)

  clear_before-drop : drop n (clear_before n p) ≡ drop n p
  clear_before-drop = drop_at (map (λ (b : Bool). false) (take n p)) (drop n p) n front_length

  clear_before-below : (i : ℕ) → i < n → get_or (clear_before n p) i false ≡ false
  clear_before-below i l =
      get_or-append (map (λ (b : Bool). false) (take n p)) (drop n p) false i (omega (arith, front_length)) ∙ clears-map (take n p) i

  clear_before-above : (i : ℕ) → n ≤ i → get_or (clear_before n p) i false ≡ get_or p i false
  clear_before-above i l =
      let e : i ≡ length (map (λ (b : Bool). false) (take n p)) + (i - n) = omega (arith, front_length) in
      let f : n + (i - n) ≡ i = omega arith in
      ap (λ k. get_or (clear_before n p) k false) e ∙ get_or-append-add (map (λ (b : Bool). false) (take n p)) (drop n p) (i - n) false
      ∙ get_or-drop n p (i - n) false ∙ ap (λ k. get_or p k false) f

clear_before-drop-later : (n m : ℕ) (p : List Bool) → n ≤ length p → n ≤ m → drop m (clear_before n p) ≡ drop m p
clear_before-drop-later n m p h k =
    let e : n + (m - n) ≡ m = omega arith in
    ap (λ i. drop i (clear_before n p)) (sym e) ∙ sym (drop-drop (m - n) n (clear_before n p)) ∙ ap (drop (m - n)) (clear_before-drop n p h) ∙ drop-drop (m - n) n p ∙ ap (λ i. drop i p) e

-- a span after clear marks is made clear
clear_before-fill : (n from to : ℕ) (p : List Bool) → n ≤ from → from ≤ to → to ≤ length p → ((i : ℕ) → n ≤ i → i < from → get_or (clear_before n p) i false ≡ false)
    → fill false (clear_before n p) from (to - from) ≡ clear_before to p
clear_before-fill n from to p h k l f =
    ext_get_or false (fill false (clear_before n p) from (to - from)) (clear_before to p)
    (fill-length false (clear_before n p) from (to - from) ∙ clear_before-length n p (omega arith) ∙ sym (clear_before-length to p l))
    (λ i m. let q : i < length p = omega (arith, fill-length false (clear_before n p) from (to - from), clear_before-length n p (omega arith)) in at i q (dec_lt i n) (dec_lt i from) (dec_lt i to))
  where
    at : (i : ℕ) → i < length p → Dec (i < n) → Dec (i < from) → Dec (i < to) → get_or (fill false (clear_before n p) from (to - from)) i false ≡ get_or (clear_before to p) i false
    at i q (yes a) b c =
        fill-at-below false (clear_before n p) from (to - from) i false (omega arith) ∙ clear_before-below n p (omega arith) i a ∙ sym (clear_before-below to p l i (omega arith))
    at i q (no a) (yes b) c =
        fill-at-below false (clear_before n p) from (to - from) i false b ∙ f i (omega arith) b ∙ sym (clear_before-below to p l i (omega arith))
    at i q (no a) (no b) (yes c) =
        fill-at-in false (clear_before n p) from (to - from) i false (omega arith) (omega arith) (omega (arith, clear_before-length n p (omega arith))) ∙ sym (clear_before-below to p l i c)
    at i q (no a) (no b) (no c) =
        fill-at-above false (clear_before n p) from (to - from) i false (omega arith) ∙ clear_before-above n p (omega arith) i (omega arith) ∙ sym (clear_before-above to p l i (omega arith))

-- a set mark
set_at : (p : List Bool) (i : ℕ) → get_or p i false ≡ true → slice_get p i ≡ Some true
set_at [] i e = absurd (true≢false (sym e))
set_at (b ∷ p) zero e = ap Some e
set_at (b ∷ p) (suc i) e = set_at p i e

-- ---- the first element of what is left of a list

drop-first : {A : Type 0} (j : ℕ) (xs : List A) (y : A) (ys : List A) → drop j xs ≡ y ∷ ys
    → (j < length xs) × (take (suc j) xs ≡ take j xs ++ y ∷ []) × (drop (suc j) xs ≡ ys)
drop-first zero [] y ys e = let z : ◌≡◌ {A = ℕ} 0 1 = cc in absurd (omega arith)
drop-first zero (x ∷ xs) y ys e = let p : x ≡ y = cc in let q : xs ≡ ys = cc in (omega arith, ap (λ a. a ∷ []) p, q)
drop-first (suc j) [] y ys e = let z : ◌≡◌ {A = ℕ} 0 1 = cc in absurd (omega arith)
drop-first (suc j) (x ∷ xs) y ys e = let r = drop-first j xs y ys e in (omega (arith, r.0), ap (λ l. x ∷ l) r.1, r.2)

drop-none : {A : Type 0} (j : ℕ) (xs : List A) → drop j xs ≡ [] → length xs ≤ j
drop-none j xs e = let l : length xs - j ≡ 0 = sym (length-drop j xs) ∙ ap length e in omega arith

-- ---- the loop

-- the controller's marks at the start, and the runs of its units
abbrev marks_in : ℕ → List Range → List Bool → ℕ → List Bool
marks_in g rs l base = get_share l base (length (units g rs))

abbrev runs_in : ℕ → List Range → List Bool → ℕ → List (List Unit)
runs_in g rs l base = runs (pending (units g rs) (marks_in g rs l base))

-- j runs are listed, and the scan stands at unit `pos`
pub record Listing (g : ℕ) (rs : List Range) (l : List Bool) (base : ℕ) (x : List ℕ) (room : ℕ) (l' : List Bool) (x' : List ℕ) (j row unit pos : ℕ) : Type 0 where
  pub stands : Stands g rs row unit pos
  pub few : j ≤ room
  pub there : j ≤ length (runs_in g rs l base)
  pub bits : l' ≡ put_share l base (clear_before pos (marks_in g rs l base))
  pub bytes : x' ≡ put x 16 (records descriptor_bytes (map descriptor (take j (runs_in g rs l base))))
  pub later : drop j (runs_in g rs l base) ≡ runs (pending (drop pos (units g rs)) (drop pos (marks_in g rs l base)))

module _ (g : ℕ) (rs : List Range) (l : List Bool) (base : ℕ) (x : List ℕ) (room : ℕ) (fits : base + length (units g rs) ≤ length l) where
  abbrev us : List Unit
  us = units g rs

  abbrev p : List Bool
  p = marks_in g rs l base

  abbrev every : List (List Unit)
  every = runs_in g rs l base

  p-length : length p ≡ length us
  p-length = get_share-length l base (length us) fits

  pub listing_start : Listing g rs l base x room l x 0 0 0 0
  listing_start =
      record {
        stands = stands-start g rs;
        few = omega arith;
        there = omega arith;
        bits = sym (put_share-get_share l base (length us) fits);
        bytes = sym (rw (records-nil, put-nil));
        later = refl;
      }

  module _ (l' : List Bool) (x' : List ℕ) (j row unit pos : ℕ) (s : Listing g rs l base x room l' x' j row unit pos) where
    inside : pos ≤ length p
    inside = omega (arith, s.stands.inside, p-length)

    cleared-fits : base + length (clear_before pos p) ≤ length l
    cleared-fits = omega (arith, clear_before-length pos p inside, p-length)

    -- the marks as they are now
    now-marks : get_share l' base (length us) ≡ clear_before pos p
    now-marks =
        ap₂ (λ b n. get_share b base n) s.bits (sym (clear_before-length pos p inside ∙ p-length))
        ∙ get_share-put_share l base (clear_before pos p) cleared-fits

    now-length : length l' ≡ length l
    now-length = ap length s.bits ∙ put_share-length l base (clear_before pos p) cleared-fits

    -- what the report is to leave
    module _ (count_left : length (join (take room every)) + length (pending (drop pos us) (drop pos p)) ≡ length (pending us p)) where
      left_is : put_share l base (marks_left room us p) ≡ l'
      left_is = ap (put_share l base) (clear_first-clear_before us p pos (length (join (take room every))) p-length count_left) ∙ sym s.bits

    all-units : (k : ℕ) → length (join (take k every)) + length (join (drop k every)) ≡ length (pending us p)
    all-units k = sym (length-append (join (take k every)) (join (drop k every))) ∙ ap length (join-take-drop k every ∙ runs-join (pending us p))

    -- nothing more is pending: all n units were examined
    pub listing-done : (n : ℕ) → (pending (drop pos us) (drop pos (get_share l' base (length us))) ≡ []) × (n ≡ length us)
        → Lists g rs l base x room j false (div_ceil n 64) l' x'
    listing-done n e =
        record {
          count_is = sym (ap length whole ∙ exact);
          more_is = sym none_stays;
          groups_is = up ∙ sym (groups-all room us p none_stays);
          bits_are = sym (left_is (ap₂ (λ a b. length (join a) + length b) whole none ∙ all_first));
          bytes_are = s.bytes ∙ ap (λ r. put x 16 (records descriptor_bytes (map descriptor r))) (first ∙ sym whole);
        }
      where
        none : pending (drop pos us) (drop pos p) ≡ []
        none = sym (ap (pending (drop pos us)) (ap (drop pos) now-marks ∙ clear_before-drop pos p inside)) ∙ e.0

        short : length every ≤ j
        short = drop-none j every (s.later ∙ ap runs none)

        none_stays : non_empty (later_runs room us p) ≡ false
        none_stays = ap non_empty (drop_of_length-le every {i = room} (omega (arith, short, s.few)))

        -- rounded up
        up : div_ceil n 64 ≡ (length us + 63) / 64
        up = omega (arith, e.1)

        first : take j every ≡ every
        first = take_all j every short

        whole : take room every ≡ every
        whole = take_all room every (omega (arith, short, s.few))

        exact : length every ≡ j
        exact = omega (arith, short, s.there)

        all_first : length (join every) + length {A = Unit} [] ≡ length (pending us p)
        all_first = omega (arith, ap length (runs-join (pending us p)))

    -- ---- a run is found

    module _ (r : Run) (f : RunFound g rs (get_share l' base (length us)) pos r) where
      abbrev from : ℕ
      from = r.from

      abbrev to : ℕ
      to = r.to

      abbrev run : List Unit
      run = units_of_row r.row (unit_size g) r.range.start r.range.length

      order : (pos ≤ from) × (from < to) × (to ≤ length us)
      order = (f.past, f.some, f.stands.inside)

      rest-marks : (k : ℕ) → pos ≤ k → drop k (get_share l' base (length us)) ≡ drop k p
      rest-marks k h = ap (drop k) now-marks ∙ clear_before-drop-later pos k p inside h

      found : drop j every ≡ run ∷ runs (pending (drop to us) (drop to p))
      found =
          s.later ∙ sym (ap (λ q. runs (pending (drop pos us) q)) (rest-marks pos (omega arith))) ∙ f.first
          ∙ ap (λ q. run ∷ runs (pending (drop to us) q)) (rest-marks to (omega (arith, order.0, order.1)))

      clear : (i : ℕ) → pos ≤ i → i < from → get_or (clear_before pos p) i false ≡ false
      clear i g k = ap (λ b. get_or b i false) (sym now-marks) ∙ f.clear i g k

      set : get_or p from false ≡ true
      set = sym (clear_before-above pos p inside from order.0) ∙ ap (λ b. get_or b from false) (sym now-marks) ∙ f.set

      -- what is pending from `pos` on is what is pending from it on
      skipped : pending (drop pos us) (drop pos p) ≡ pending (drop from us) (drop from p)
      skipped =
          let e : pos + (from - pos) ≡ from = omega (arith, order.0) in
          pending-skip us p pos (from - pos) (λ i h k. sym (clear_before-above pos p inside i h) ∙ clear i h (omega arith)) ∙ ap (λ n. pending (drop n us) (drop n p)) e

      -- there is no room for it: its first unit is in the last group examined
      pub listing_full : j ≡ room → Lists g rs l base x room j true (from / 64 + 1) l' x'
      listing_full e =
          record {
            count_is = sym (ap (λ k. length (take k every)) (sym e) ∙ omega (arith, length-take j every, s.there));
            more_is = sym stays;
            groups_is = sym (groups-to room us p from p-length stays (set_at p from set) before);
            bits_are = sym (left_is left);
            bytes_are = s.bytes ∙ ap (λ k. put x 16 (records descriptor_bytes (map descriptor (take k every)))) e;
          }
        where
          stays : non_empty (later_runs room us p) ≡ true
          stays = ap non_empty (ap (λ k. drop k every) (sym e) ∙ found)

          left : length (join (take room every)) + length (pending (drop pos us) (drop pos p)) ≡ length (pending us p)
          left =
              ap (λ k. length (join (take k every)) + length (pending (drop pos us) (drop pos p))) (sym e)
              ∙ ap (λ n. length (join (take j every)) + n) (sym (ap length (ap join s.later ∙ runs-join (pending (drop pos us) (drop pos p))))) ∙ all-units j

          -- before it as many are pending as are reported
          before : length (pending (take from us) (take from p)) ≡ length (join (take room every))
          before =
              omega (arith, left, ap length skipped, ap length (pending-split from us p), length-append (pending (take from us) (take from p)) (pending (drop from us) (drop from p)))

      listed-length : length (map descriptor (take j every)) ≡ j
      listed-length = length-map (take j every) descriptor ∙ omega (arith, length-take j every, s.there)

      map_snoc : (xs : List (List Unit)) (y : List Unit) → map descriptor (xs ++ y ∷ []) ≡ map descriptor xs ++ descriptor y ∷ []
      map_snoc [] y = refl
      map_snoc (z ∷ xs) y = ap (λ r. descriptor z ∷ r) (map_snoc xs y)

      described : descriptor run ≡ record { address = r.range.start; length = r.range.length }
      described =
          let e : r.range.length ≡ suc (r.range.length - 1) = omega (arith, f.long, order.1) in
          ap (λ n. descriptor (units_of_row r.row (unit_size g) r.range.start n)) e
          ∙ descriptor-row r.row (unit_size g) r.range.start (r.range.length - 1)
          ∙ ap (λ n. record { address = r.range.start; length = n }) (sym e)

      -- it is listed and made clear
      pub listing-next : (l'' : List Bool) (x'' : List ℕ) → j < room → l'' ≡ fill false l' (base + from) (base + to - (base + from))
          → x'' ≡ put x' (16 + 16 * j) (descriptor_bytes (record { address = r.range.start; length = r.range.length }))
          → Listing g rs l base x room l'' x'' (j + 1) r.row r.next.0 to
      listing-next l'' x'' h e e' =
          record {
            stands = f.stands;
            few = omega arith;
            there = omega (arith, parts.0);
            bits = e ∙ ap (fill false l' (base + from)) span ∙ cleared;
            bytes =
                records-snoc-again descriptor_bytes 16 descriptor_bytes-length (map descriptor (take j every)) (descriptor run) x x' x'' 16 (16 + 16 * j)
                (ap (λ n. 16 + 16 * n) (sym listed-length)) s.bytes
                (e' ∙ ap (λ d. put x' (16 + 16 * j) (descriptor_bytes d)) (sym described))
                ∙ ap (λ r. put x 16 (records descriptor_bytes r)) (sym (map_snoc (take j every) run) ∙ ap (map descriptor) (sym parts.1))
                ∙ ap (λ n. put x 16 (records descriptor_bytes (map descriptor (take n every)))) (sym (add-one j));
            later = ap (λ n. drop n every) (add-one j) ∙ parts.2;
          }
        where
          parts : (j < length every) × (take (suc j) every ≡ take j every ++ run ∷ []) × (drop (suc j) every ≡ runs (pending (drop to us) (drop to p)))
          parts = drop-first j every run (runs (pending (drop to us) (drop to p))) found

          span : base + to - (base + from) ≡ to - from
          span = omega (arith, order.1)

          cleared : fill false l' (base + from) (to - from) ≡ put_share l base (clear_before to p)
          cleared =
              fill-share l' base (length us) (omega (arith, now-length, fits)) false from (to - from) (omega (arith, order.1, order.2))
              ∙ ap (λ b. put_share l' base (fill false b from (to - from))) now-marks
              ∙ ap (put_share l' base) (clear_before-fill pos from to p order.0 (omega (arith, order.1)) (omega (arith, order.2, p-length)) clear)
              ∙ ap (λ b. put_share b base (clear_before to p)) s.bits
              ∙ put_share-put_share l base (clear_before pos p) (clear_before to p) cleared-fits
              (clear_before-length to p (omega (arith, order.2, p-length)) ∙ sym (clear_before-length pos p inside))
