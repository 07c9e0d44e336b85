-- Laws of the scan over a controller's units: where it stands within a piece and after it; what the next set mark and the next clear one make of it.
-- Assumes nothing.
use mathlib.Core.Path.{◌≡◌, sym, ap, ap₂, ◌∙◌}
use mathlib.Core.Bool.{Bool, true, false, true≢false}
use mathlib.Core.List.{List, [], ◌∷◌, ◌++◌}
use Prim.Native.Nat.{ℕ, suc, ◌+◌, ◌-◌, ◌*◌, ◌^◌, ◌≤◌, ◌<◌}
use native.Mathlib.Omega.{arith}
use native.Mathlib.Nat.{add-mul}
use native.Mathlib.Decide.{dec_lt}
use lib.ListN.{length, get_or, drop, length-drop}
use Rattle.bits.specs.Next.{next}
use Rattle.bits.specs.Share.{get_share}
use Rattle.bits.proofs.Next.{next-high, next_low, next-before, next-found}
use Rattle.bits.proofs.Share.{next-share, get_share-at}
use Rattle.rules.specs.Settings.{unit_size}
use Rattle.rules.specs.Ranges.{rows_ok}
use Rattle.rules.specs.Units.{Unit, units_of_row, units, pending}
use Rattle.rules.specs.Report.{runs}
use Rattle.rules.specs.declared.Range.{Range}
use Rattle.rules.proofs.UnitLaws.{unit_size-pos}
use Rattle.rules.proofs.ScanLaws.{Left, left-on, left-length, run-next, pending-skip}
use Rattle.pieces.specs.Pieces.{units_left, PieceFound}
use Rattle.pieces.specs.declared.Piece.{Piece}
use Rattle.pieces.proofs.PieceLaws.{left-all, piece-left, piece-beyond, piece-within}
use Rattle.scan.specs.Scan.{Stands, Scanned, PendingFound, Begins, piece_end, run_of}
use Rattle.scan.specs.declared.Found.{Found}
use Rattle.scan.specs.declared.Run.{Run}

-- the next run from unit `pos` on, of units with marks p
pub record RunFound (g : ℕ) (rs : List Range) (p : List Bool) (pos : ℕ) (r : Run) : Type 0 where
  pub past : pos ≤ r.from
  pub some : r.from < r.to
  pub long : r.range.length ≡ r.to - r.from
  pub clear : (i : ℕ) → pos ≤ i → i < r.from → get_or p i false ≡ false
  pub set : get_or p r.from false ≡ true
  pub first : runs (pending (drop pos (units g rs)) (drop pos p))
      ≡ units_of_row r.row (unit_size g) r.range.start r.range.length ∷ runs (pending (drop r.to (units g rs)) (drop r.to p))
  pub stands : Stands g rs r.row r.next.0 r.to

module _ (g : ℕ) (rs : List Range) where
  abbrev us : List Unit
  us = units g rs

  -- at the start
  pub stands-start : Stands g rs 0 0 0
  stands-start = record { within = omega arith; inside = omega arith; left = left-all (unit_size g) rs }

  -- ---- a scan from unit `pos` on: it stands further on, and all marks passed were clear

  module _ (p : List Bool) (pos : ℕ) where
    pub scanned-start : (row unit : ℕ) → Stands g rs row unit pos → Scanned g rs p pos row unit pos
    scanned-start row unit s = record { stands = s; past = omega arith; clear = λ i h k. absurd (omega arith) }

    -- what is pending from `pos` on is what is pending from there on
    scanned-pending : (row unit at : ℕ) → Scanned g rs p pos row unit at → pending (drop pos us) (drop pos p) ≡ pending (drop at us) (drop at p)
    scanned-pending row unit at c =
        let past = c.past in
        let e : pos + (at - pos) ≡ at = omega arith in
        pending-skip us p pos (at - pos) (λ i h k. c.clear i h (omega arith)) ∙ ap (λ n. pending (drop n us) (drop n p)) e

    -- nothing is pending, and the scan stands past all units
    pub scanned-nothing : (row unit at : ℕ) → units_left (unit_size g) rs row unit ≡ [] → Scanned g rs p pos row unit at
        → (pending (drop pos us) (drop pos p) ≡ []) × (at ≡ length us)
    scanned-nothing row unit at h c =
        (scanned-pending row unit at c ∙ rw (c.stands.left ∙ h), omega (arith, c.stands.inside, length-drop at us, ap length (c.stands.left ∙ h)))

    -- the next piece stands from unit `at` on
    module _ (row unit at : ℕ) (c : Scanned g rs p pos row unit at) (q : Piece) (f : PieceFound (unit_size g) rs row unit q) where
      abbrev n : ℕ
      n = q.range.length

      abbrev tail : List Unit
      tail = units_left (unit_size g) rs q.row q.next.0

      here : Left us at q.row (unit_size g) q.range.start n tail
      here = c.stands.left ∙ piece-left (unit_size g) rs row unit q f

      -- it ends within the units
      pub piece-end : at + n ≤ length us
      piece-end = omega (arith, c.stands.inside, length-drop at us, left-length us q.row (unit_size g) tail at q.range.start n here)

      -- so many of its units on
      mid : (t : ℕ) → at ≤ t → t ≤ at + n → Left us t q.row (unit_size g) (q.range.start + (t - at) * unit_size g) (at + n - t) tail
      mid t h k =
          let e : at + (t - at) ≡ t = omega arith in
          let m : n - (t - at) ≡ at + n - t = omega arith in
          rw (e, m) at (left-on us q.row (unit_size g) tail at q.range.start n (t - at) (omega arith) here)

      stands-mid : (t : ℕ) → at ≤ t → t ≤ at + n → Stands g rs q.row (q.next.0 - (at + n - t)) t
      stands-mid t h k =
          let m : n - (at + n - t) ≡ t - at = omega arith in
          record {
            within = omega (arith, f.inside);
            inside = omega (arith, piece-end);
            left = mid t h k ∙ sym (f.own (at + n - t) (omega arith) ∙ ap (λ d. units_of_row q.row (unit_size g) (q.range.start + d * unit_size g) (at + n - t) ++ tail) m);
          }

      scanned-on : (t : ℕ) → at ≤ t → t ≤ at + n → ((i : ℕ) → at ≤ i → i < t → get_or p i false ≡ false) → Scanned g rs p pos q.row (q.next.0 - (at + n - t)) t
      scanned-on t h k g = record { stands = stands-mid t h k; past = omega (arith, c.past); clear = λ i a b. go i a b (dec_lt i at) }
        where
          go : (i : ℕ) → pos ≤ i → i < t → Dec (i < at) → get_or p i false ≡ false
          go i a b (yes l) = c.clear i a l
          go i a b (no l) = g i (omega arith) b

      module _ (from : ℕ) (e : from ≡ next true p at (at + n)) where
        -- nothing is pending in it
        pub scanned-piece : at + n ≤ from → Scanned g rs p pos q.row q.next.0 (at + n)
        scanned-piece l =
            let z : q.next.0 - (at + n - (at + n)) ≡ q.next.0 = omega arith in
            rw z at (scanned-on (at + n) (omega arith) (omega arith) (λ i a b. next-before true p at (at + n) i a (omega arith)))

        -- the next run
        module _ (to : ℕ) (l : from < at + n) (e' : to ≡ next false p from (at + n)) where
          pub low : at ≤ from
          low = omega (arith, next_low true p at (at + n) (omega arith))

          pub high : to ≤ at + n
          high = omega (arith, next-high false p from (at + n))

          set : get_or p from false ≡ true
          set = rw e (next-found true p at (at + n) (omega arith))

          pub some : from < to
          some = go (dec_lt from to)
            where
              go : Dec (from < to) → from < to
              go (yes k) = k
              go (no k) =
                  let s : next false p from (at + n) ≡ from = omega (arith, next_low false p from (at + n) (omega arith)) in
                  absurd (true≢false (sym set ∙ (rw s at (next-found false p from (at + n) (omega arith)))))

          passed : Scanned g rs p pos q.row (q.next.0 - (at + n - from)) from
          passed = scanned-on from low (omega arith) (λ i a b. next-before true p at (at + n) i a (omega arith))

          end_is : q.range.start + (from - at) * unit_size g + (at + n - from) * unit_size g ≡ q.range.start + n * unit_size g
          end_is =
              let d : n ≡ from - at + (at + n - from) = omega (arith, low) in
              omega (arith, ap (λ k. k * unit_size g) d, add-mul (from - at) (at + n - from) (unit_size g))

          pub scanned-run : RunFound g rs p pos
              (record { row = q.row; next = record { 0 = q.next.0 - (at + n - to) }; range = record { start = q.range.start + (from - at) * unit_size g; length = to - at - (from - at) }; from = from; to = to })
          scanned-run =
              let m : to - at - (from - at) ≡ suc (to - from - 1) = omega (arith, some, low) in
              let t : from + suc (to - from - 1) ≡ to = omega (arith, some) in
              let first =
              run-next us q.row (unit_size g) tail p from (q.range.start + (from - at) * unit_size g) (at + n - from) (to - from - 1) (unit_size-pos g) (omega (arith, high, some)) (omega (arith, piece-end, high, some))
              (mid from low (omega arith)) (rw end_is (piece-beyond (unit_size g) rs row unit q f (unit_size-pos g)))
              (λ i a b. next-before false p from (at + n) i a (omega arith))
              (λ k. rw (t, e') (next-found false p from (at + n) (omega arith))) in
              record {
                past = passed.past;
                some = some;
                long = omega (arith, low);
                clear = passed.clear;
                set = set;
                first =
                    ap runs (scanned-pending q.row (q.next.0 - (at + n - from)) from passed) ∙ first
                    ∙ ap₂ (λ k d. units_of_row q.row (unit_size g) (q.range.start + (from - at) * unit_size g) k ∷ runs (pending (drop d us) (drop d p))) (sym m) t;
                stands = stands-mid to (omega (arith, low, some)) high;
              }

  -- ---- a pending unit that was found, and the run that begins there

  module _ (p : List Bool) (pos : ℕ) (f : Found) (h : PendingFound g rs p pos f) where
    pub run-found : (to : ℕ) → to ≡ next false p f.from (piece_end f) → RunFound g rs p pos (run_of g f to)
    run-found to e = scanned-run p pos h.row h.unit f.at h.scanned f.piece h.piece f.from h.first to h.inside e

    pub found-end : piece_end f ≤ length us
    found-end = piece-end p pos h.row h.unit f.at h.scanned f.piece h.piece

    found-set : get_or p f.from false ≡ true
    found-set = rw h.first (next-found true p f.at (piece_end f) (omega (arith, h.first, h.inside)))

    pub found-begins : (l : List Bool) (base : ℕ) → rows_ok g rs ≡ true → base + length us < 2 ^ 64 → p ≡ get_share l base (length us) → Begins l base g f
    found-begins l base ok small e =
        record {
          within = piece-within g rs h.row h.unit f.piece ok h.piece;
          long = h.piece.long;
          low = omega (arith, h.first, next_low true p f.at (piece_end f) (omega arith));
          high = h.inside;
          small = omega (arith, found-end);
          set = sym (get_share-at l base (length us) f.from false (omega (arith, found-end, h.inside))) ∙ ap (λ q. get_or q f.from false) (sym e) ∙ found-set;
        }

-- ---- bits in which the marks stand from a bit on

-- a run has a unit, and ends with its piece at the latest
pub begins-ends : (l : List Bool) (base g : ℕ) (f : Found) → Begins l base g f → (t : ℕ) → t ≡ next false l (base + f.from) (base + piece_end f)
    → (base + f.from < t) × (t ≤ base + piece_end f)
begins-ends l base g f b t e = (go (dec_lt (base + f.from) t), omega (arith, next-high false l (base + f.from) (base + piece_end f)))
  where
    go : Dec (base + f.from < t) → base + f.from < t
    go (yes k) = k
    go (no k) =
        let s : next false l (base + f.from) (base + piece_end f) ≡ base + f.from = omega (arith, next_low false l (base + f.from) (base + piece_end f) (omega (arith, b.high))) in
        absurd (true≢false (sym b.set ∙ (rw s at (next-found false l (base + f.from) (base + piece_end f) (omega (arith, b.high))))))

pub next-from : (want : Bool) (l : List Bool) (base total at end r : ℕ) → base + total ≤ length l → end ≤ total → r ≡ next want l (base + at) (base + end)
    → (base ≤ r) × (r - base ≡ next want (get_share l base total) at end)
next-from want l base total at end r h k e =
    let q = next-share l base total h want at end k in
    (omega arith, omega arith)
