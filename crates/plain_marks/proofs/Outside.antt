-- Bytes of the area that are not those of the controller's units stay as they were, before and after them, and the area keeps its length: for the calls,
-- whose area holds the units of all controllers. Assumes nothing.
use mathlib.Core.Path.{◌≡◌, refl, sym, ap, ◌∙◌}
use mathlib.Core.Bool.{Bool}
use mathlib.Core.List.{List, [], ◌∷◌, ◌++◌, map}
use Prim.Native.Nat.{ℕ, zero, suc, ◌+◌, ◌≤◌}
use native.Mathlib.Omega.{arith}
use lib.ListN.{length, take, drop, length-append, length-drop}
use lib.Seq.{take_at, drop_at, drop-drop, length-take-le}
use Rattle.rules.specs.Lists.{join}
use Rattle.rules.specs.Units.{Unit, Write, pending}
use Rattle.rules.specs.Report.{runs, reported_runs}
use Rattle.rules.proofs.ListLaws.{join-take-drop}
use Rattle.rules.proofs.RunLaws.{runs-join}
use Rattle.plain_marks.specs.Plain.{mark_of, marks_of, mark_bytes, Marked, clear_bytes, Lists}
use Rattle.plain_marks.proofs.ListLaws.{mark_set}

pub mark_bytes-length : (w : Write) (us : List Unit) (bs : List ℕ) → length (mark_bytes w us bs) ≡ length bs
mark_bytes-length w [] bs = refl
mark_bytes-length w (u ∷ us) [] = refl
mark_bytes-length w (u ∷ us) (b ∷ bs) = ap suc (mark_bytes-length w us bs)

mark_bytes-after : (w : Write) (us : List Unit) (bs : List ℕ) → drop (length us) (mark_bytes w us bs) ≡ drop (length us) bs
mark_bytes-after w [] bs = refl
mark_bytes-after w (u ∷ us) [] = refl
mark_bytes-after w (u ∷ us) (b ∷ bs) = mark_bytes-after w us bs

pub clear_bytes-length : (m : ℕ) (bs : List ℕ) → length (clear_bytes m bs) ≡ length bs
clear_bytes-length zero bs = refl
clear_bytes-length (suc m) [] = refl
clear_bytes-length (suc m) (zero ∷ bs) = ap suc (clear_bytes-length (suc m) bs)
clear_bytes-length (suc m) (suc b ∷ bs) = ap suc (clear_bytes-length m bs)

-- where no more are made clear than are pending among the first units
clear_bytes-after : (m : ℕ) (us : List Unit) (bs : List ℕ) → m ≤ length (pending us (map mark_of (take (length us) bs))) → drop (length us) (clear_bytes m bs) ≡ drop (length us) bs
clear_bytes-after zero us bs h = refl
clear_bytes-after (suc m) [] bs h = absurd (omega arith)
clear_bytes-after (suc m) (u ∷ us) [] h = refl
clear_bytes-after (suc m) (u ∷ us) (zero ∷ bs) h = clear_bytes-after (suc m) us bs h
clear_bytes-after (suc m) (u ∷ us) (suc b ∷ bs) h =
    let k : suc m ≤ suc (length (pending us (map mark_of (take (length us) bs)))) = rw (mark_set (suc b) (λ z. absurd (omega arith))) at h in
    clear_bytes-after m us bs (omega arith)

-- ---- a list of which all from `base` on is made anew

module _ (area bs area' : List ℕ) (base : ℕ) (h : base ≤ length area) (e : area' ≡ take base area ++ bs) where
  front : length (take base area) ≡ base
  front = length-take-le base area h

  anew-before : take base area' ≡ take base area
  anew-before = ap (take base) e ∙ take_at (take base area) bs base front

  anew-after : (n : ℕ) → drop n bs ≡ drop n (drop base area) → drop (base + n) area' ≡ drop (base + n) area
  anew-after n f =
      sym (drop-drop n base area') ∙ ap (λ l. drop n (drop base l)) e ∙ ap (drop n) (drop_at (take base area) bs base front) ∙ f ∙ drop-drop n base area

  anew-length : length bs ≡ length (drop base area) → length area' ≡ length area
  anew-length f = ap length e ∙ length-append (take base area) bs ∙ omega (arith, front, f, length-drop base area)

-- ---- a write

module _ (w : Write) (us : List Unit) (area : List ℕ) (base count : ℕ) (area' : List ℕ) (m : Marked w us area base count area') (h : base ≤ length area) where
  pub marked-before : take base area' ≡ take base area
  marked-before = anew-before area (mark_bytes w us (drop base area)) area' base h m.bytes_are

  pub marked-after : drop (base + length us) area' ≡ drop (base + length us) area
  marked-after = anew-after area (mark_bytes w us (drop base area)) area' base h m.bytes_are (length us) (mark_bytes-after w us (drop base area))

  pub marked-length : length area' ≡ length area
  marked-length = anew-length area (mark_bytes w us (drop base area)) area' base h m.bytes_are (mark_bytes-length w us (drop base area))

-- ---- a report

module _ (us : List Unit) (area : List ℕ) (base : ℕ) (x : List ℕ) (room count : ℕ) (more : Bool) (groups : ℕ) (area' x' : List ℕ) (s : Lists us area base x room count more groups area' x') (h : base ≤ length area) where
  abbrev listed : ℕ
  listed = length (join (reported_runs room us (marks_of area base (length us))))

  few : listed ≤ length (pending us (marks_of area base (length us)))
  few =
      let p = pending us (marks_of area base (length us)) in
      omega (arith, length-append (join (take room (runs p))) (join (drop room (runs p))), ap length (join-take-drop room (runs p)), ap length (runs-join p))

  pub listed-before : take base area' ≡ take base area
  listed-before = anew-before area (clear_bytes listed (drop base area)) area' base h s.area_is

  pub listed-after : drop (base + length us) area' ≡ drop (base + length us) area
  listed-after = anew-after area (clear_bytes listed (drop base area)) area' base h s.area_is (length us) (clear_bytes-after listed us (drop base area) few)

  pub listed-length : length area' ≡ length area
  listed-length = anew-length area (clear_bytes listed (drop base area)) area' base h s.area_is (clear_bytes-length listed (drop base area))
