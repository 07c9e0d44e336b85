-- What a noted write answers, case by case of its table, for any engine; in words, a written range of no bytes leaves every word as it was. Assumes nothing.
use mathlib.Core.Path.{◌≡◌, refl, sym, ap, ap₂, ◌∙◌}
use mathlib.Core.Logic.{◌≢◌}
use mathlib.Core.Bool.{Bool, true, false, cond, or-false, and-true, and-false}
use mathlib.Core.List.{List, [], ◌∷◌}
use Rattle.std.specs.declared.option.Option.{Option}
use Rattle.std.specs.declared.option.Option.TheVariants.{None, Some}
use Prim.Native.Nat.{ℕ, zero, suc, ◌+◌, ◌^◌, ◌≤◌, ◌<◌}
use native.Mathlib.Omega.{arith}
use native.Mathlib.Nat.{zero-add}
use lib.ListN.{length, get_or, take, drop}
use lib.Dec.{leb}
use borrow.Author.Tests.{le-leb, leb-true, eq-eqb, eqb-true, ne_eqb}
use Rattle.bits.specs.Flat.{flat, Words}
use Rattle.bits.specs.Share.{put_share}
use Rattle.bits.specs.Pack.{pack}
use Rattle.bits.proofs.Flat.{flat-length}
use Rattle.bits.proofs.Pack.{pack-only, pack-flat}
use Rattle.bits.proofs.Share.{get_share-length, put_share-get_share}
use Rattle.rules.specs.Settings.{mark_words, place_of}
use Rattle.rules.specs.Refusals.{refusal, number_of, verdict}
use Rattle.rules.specs.Units.{Unit, Write, units, touches, mark, newly}
use Rattle.rules.specs.Order.{write_order}
use Rattle.rules.specs.Device.{sound_device}
use Rattle.rules.specs.StartData.{no_range}
use Rattle.rules.specs.declared.Range.{Range}
use Rattle.rules.specs.declared.Controller.{Controller}
use Rattle.rules.specs.declared.Device.{Device}
use Rattle.rules.specs.declared.Tracking.{Tracking}
use Rattle.rules.specs.declared.Tracking.TheVariants.{Off, On}
use Rattle.rules.proofs.RefusalLaws.{verdict-refused}
use Rattle.record.specs.Record.{no_controller, where_is, seen_in, sound_with, place_at}
use Rattle.std.specs.declared.result.Result.TheVariants.{Err, Ok}
use Rattle.rules.specs.declared.Refusal.{Refusal}
use Rattle.rules.specs.declared.Refusal.TheVariants.{Unknown, Unsound}
use Rattle.record.proofs.RecordLaws.{where_is-at, where_is-refused}
use Rattle.calls.specs.Calls.{Engine, in_words, Note, write_by, with_marks, marks_at, noted, note_in, write_done}
use Rattle.calls.proofs.PlaceLaws.{held_at, share-within}
use Rattle.writes.specs.Inner.{Lies, MayNote, note_tests, note_by, note_on, is_one, alone}

-- ---- the place, on a record that is known to be sound

module _ (d : Device) (words id : ℕ) (s : sound_with d words ≡ true) where
  pub sound-found : (i : ℕ) → place_of d.settings id ≡ Some i → where_is d words id ≡ Ok i
  unfolding where_is
  sound-found i e = rw s (go (place_of d.settings id) e)
    where
      go : (p : Option ℕ) → p ≡ Some i → place_at p ≡ Ok i
      go None e = let z : ◌≡◌ {A = ℕ} 0 1 = cc in absurd (omega arith)
      go (Some j) e = let z : j ≡ i = cc in ap Ok z

  pub sound-nothing : place_of d.settings id ≡ None → where_is d words id ≡ Err Unknown
  unfolding where_is
  sound-nothing e = rw s (go (place_of d.settings id) e)
    where
      go : (p : Option ℕ) → p ≡ None → place_at p ≡ Err Unknown
      go None e = refl
      go (Some j) e = let z : ◌≡◌ {A = ℕ} 0 1 = cc in absurd (omega arith)

-- on one that is not, whoever is named
pub unsound-place : (d : Device) (words id : ℕ) → sound_with d words ≡ false → where_is d words id ≡ Err Unsound
unfolding where_is
unsound-place d words id e = rw e

-- whether it is, by its two parts
pub few-words : (d : Device) (words : ℕ) → words ≢ mark_words → sound_with d words ≡ false
unfolding sound_with
few-words d words h = rw (ne_eqb words mark_words h, and-false (sound_device d))

pub right-words : (d : Device) (words : ℕ) → words ≡ mark_words → sound_with d words ≡ sound_device d
unfolding sound_with
right-words d words h = rw (eq-eqb words mark_words h, and-true (sound_device d))

-- ---- a written range of no bytes

module _ (w : Write) (e : w.bytes ≡ 0) where
  pub touches_none : (u : Unit) → touches w u ≡ false
  touches_none u = rw e

  mark-none : (us : List Unit) (p : List Bool) → length p ≡ length us → mark w us p ≡ p
  mark-none [] [] h = refl
  mark-none [] (b ∷ p) h = absurd (omega arith)
  mark-none (u ∷ us) [] h = absurd (omega arith)
  mark-none (u ∷ us) (b ∷ p) h = ap₂ (λ x l. x ∷ l) (rw (touches_none u) (or-false b)) (mark-none us p (omega arith))

  pub newly-none : (us : List Unit) (p : List Bool) → newly w us p ≡ 0
  newly-none [] p = refl
  newly-none (u ∷ us) [] = refl
  newly-none (u ∷ us) (b ∷ p) = rw (touches_none u) (zero-add (newly w us p) ∙ newly-none us p)

-- ---- the refusals of a note to one controller

module _ (s : Bool) (w : Write) (f : s ≡ false) where
  pub number-none : w.address + w.bytes ≤ 2 ^ 64 → 0 ≡ refusal (note_tests s w)
  number-none h = rw (f, le-leb (w.address + w.bytes) (2 ^ 64) h)

-- where there is none
pub note-passes : (s : Bool) (w : Write) → refusal (note_tests s w) ≡ 0 → (s ≡ false) × (w.address + w.bytes ≤ 2 ^ 64)
note-passes true w e = absurd (omega arith)
note-passes false w e = (refl, go (leb (w.address + w.bytes) (2 ^ 64)) refl e)
  where
    go : (b : Bool) → leb (w.address + w.bytes) (2 ^ 64) ≡ b → ◌≡◌ {A = ℕ} (cond b 0 14) 0 → w.address + w.bytes ≤ 2 ^ 64
    go true t z = leb-true (w.address + w.bytes) (2 ^ 64) t
    go false t z = absurd (omega arith)

-- ---- the cases of a note to one controller

module _ (en : Engine) (c : Controller) (ws : List ℕ) (base : ℕ) (w : Write) (k : ℕ) (e : k ≡ refusal (note_tests c.suspended w)) where
  pub on-refused : k ≢ 0 → note_by en c ws base w ≡ noted k 0 ws
  unfolding note_by
  on-refused h = verdict-refused (note_tests c.suspended w) _ (λ n i. noted n 0 ws) (λ z. h (e ∙ z)) ∙ ap (λ j. noted j 0 ws) (sym e)

  module _ (z : k ≡ 0) where
    f : c.suspended ≡ false
    f = (note-passes c.suspended w (sym e ∙ z)).0

    on-within : w.address + w.bytes ≤ 2 ^ 64
    on-within = (note-passes c.suspended w (sym e ∙ z)).1

    pub on-off : c.tracking ≡ Off → note_by en c ws base w ≡ noted 0 0 ws
    unfolding note_by
    on-off t = rw (f, le-leb (w.address + w.bytes) (2 ^ 64) on-within, t)

    pub on-marks : (g n : ℕ) → c.tracking ≡ On g n
        → let us = units g (take n c.ranges) in note_by en c ws base w ≡ noted 0 (newly w us (en.marks ws base (length us))) (en.marked ws base w us)
    unfolding note_by
    on-marks g n t = rw (f, le-leb (w.address + w.bytes) (2 ^ 64) on-within, t)

-- ---- the same in words

module _ (c : Controller) (ws : List ℕ) (base : ℕ) (w : Write) (k : ℕ) (e : k ≡ refusal (note_tests c.suspended w)) (z : k ≡ 0) where
  module _ (g n : ℕ) (t : c.tracking ≡ On g n) where
    abbrev us : List Unit
    us = units g (take n c.ranges)

    abbrev p : List Bool
    p = marks_at ws base (length us)

    -- what marks the ranges' spans is the note
    pub on-done : (ws' : List ℕ) (count : ℕ) → Words ws' → length ws' ≡ length ws → count ≡ newly w us p → flat ws' ≡ put_share (flat ws) base (mark w us p)
        → note_on c ws base w ≡ noted 0 count ws'
    unfolding with_marks
    on-done ws' count h j q b = on-marks in_words c ws base w k e z g n t ∙ ap₂ (noted 0) (sym q) (sym (pack-only (length ws) ws' (put_share (flat ws) base (mark w us p)) j h b))

    on-empty-marks : Lies g n c.ranges ws base → Words ws → w.bytes ≡ 0 → note_on c ws base w ≡ noted 0 0 ws
    unfolding with_marks
    on-empty-marks l h y =
        let m : base + length us ≤ length (flat ws) = omega (arith, flat-length ws, l.within.within) in
        on-marks in_words c ws base w k e z g n t
        ∙ ap₂ (noted 0) (newly-none w y us p)
        (ap (λ q. pack (length ws) (put_share (flat ws) base q)) (mark-none w y us p (get_share-length (flat ws) base (length us) m))
        ∙ ap (pack (length ws)) (put_share-get_share (flat ws) base (length us) m)
        ∙ pack-flat ws h)

  pub on-empty : ((g n : ℕ) → c.tracking ≡ On g n → Lies g n c.ranges ws base) → Words ws → w.bytes ≡ 0 → note_on c ws base w ≡ noted 0 0 ws
  on-empty l h y = go c.tracking refl
    where
      go : (t : Tracking) → c.tracking ≡ t → note_on c ws base w ≡ noted 0 0 ws
      go Off t = on-off in_words c ws base w k e z t
      go (On g n) t = on-empty-marks g n t (l g n t) h y

-- ---- a controller that has one range or is not tracked: its first range says all that a note asks

module _ (c : Controller) (r : 1 ≤ length c.ranges) (o : is_one c.tracking ≡ true) where
  abbrev first : List Range
  first = get_or c.ranges 0 no_range ∷ []

  front : take 1 first ≡ take 1 c.ranges
  front = go c.ranges r
    where
      go : (rs : List Range) → 1 ≤ length rs → take 1 (get_or rs 0 no_range ∷ []) ≡ take 1 rs
      go [] h = absurd (omega arith)
      go (r ∷ rs) h = refl

  same : (n : ℕ) → n ≡ 1 → take n c.ranges ≡ take n first
  same n z = rw z (sym front)

  pub one-note : (ws : List ℕ) (base : ℕ) (w : Write) → note_on c ws base w ≡ note_on (alone c) ws base w
  unfolding note_by
  one-note ws base w = go c.tracking o
    where
      marked_in : ℕ → List Range → Note
      marked_in g rs =
          noted 0 (newly w (units g rs) (marks_at ws base (length (units g rs)))) (with_marks ws base (mark w (units g rs) (marks_at ws base (length (units g rs)))))

      go : (t : Tracking) → is_one t ≡ true
          → verdict (note_tests c.suspended w) (note_in in_words ws base t c.ranges w) (λ n i. noted n 0 ws)
          ≡ verdict (note_tests c.suspended w) (note_in in_words ws base t first w) (λ n i. noted n 0 ws)
      go Off o = refl
      go (On g n) o = ap (λ (rs : List Range). verdict (note_tests c.suspended w) (marked_in g rs) (λ n i. noted n 0 ws)) (same n (eqb-true n 1 o))

-- ---- the controller of a call

module _ (en : Engine) (d : Device) (ws : List ℕ) (id : ℕ) where
  -- where there is none
  pub write-refused : (w : Write) (r : Refusal) → where_is d (en.words ws) id ≡ Err r → write_by en d ws id w ≡ noted (number_of r) 0 ws
  unfolding write_by
  write-refused w n e =
      where_is-refused d (en.words ws) id n e (drop 2 (write_order (seen_in d (en.words ws) (place_of d.settings id)) w)) (write_done en d ws w (place_of d.settings id)) (λ n i. noted n 0 ws)

  -- where it stands at place i: its note is the call's
  pub write-on : (i : ℕ) → where_is d (en.words ws) id ≡ Ok i → (w : Write)
      → let c = get_or d.controllers i no_controller in write_by en d ws id w ≡ note_by en c ws c.base w
  unfolding write_by note_by
  write-on i e w = let l = where_is-at d (en.words ws) id i e in rw (l.place, l.seen)

-- a place whose controller lists a range is one of the record's
listed-below : (cs : List Controller) (i : ℕ) → 1 ≤ length (get_or cs i no_controller).ranges → i < length cs
listed-below [] i h = absurd (omega (arith, h))
listed-below (c ∷ cs) zero h = omega arith
listed-below (c ∷ cs) (suc i) h = omega (arith, listed-below cs i h)

pub may-note : (d : Device) (ws : List ℕ) (id i : ℕ) → where_is d (length ws) id ≡ Ok i → let c = get_or d.controllers i no_controller in MayNote c ws c.base
may-note d ws id i e listed g n t =
    let l = where_is-at d (length ws) id i e in
    let there : i < length d.controllers = listed-below d.controllers i listed in
    let f = held_at d (length ws) id i e there g n t in
    let fits = share-within d (length ws) id i e there g n t listed in
    record {
      small = f.small;
      few = f.few;
      rows = f.rows;
      within = record { within = omega (arith, fits, l.whole); small = omega (arith, fits) };
    }
