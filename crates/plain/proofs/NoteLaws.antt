-- What a noted write does to bytes: one of no bytes leaves every byte as it was, and what goes over the units is the note. Assumes nothing.
use mathlib.Core.Path.{◌≡◌, refl, sym, ap, ap₂, ◌∙◌}
use mathlib.Core.List.{List, [], ◌∷◌, ◌++◌}
use Prim.Native.Nat.{ℕ, ◌+◌, ◌-◌, ◌<◌}
use native.Mathlib.Omega.{arith}
use lib.ListN.{length, take, drop, take-append-drop}
use Rattle.rules.specs.Refusals.{refusal}
use Rattle.rules.specs.Units.{Unit, Write, units}
use Rattle.rules.specs.declared.Controller.{Controller}
use Rattle.rules.specs.declared.Tracking.{Tracking}
use Rattle.rules.specs.declared.Tracking.TheVariants.{Off, On}
use Rattle.calls.specs.Calls.{noted}
use Rattle.writes.specs.Inner.{note_tests, note_by}
use Rattle.writes.proofs.WriteLaws.{touches_none, newly-none, on-off, on-marks}
use Rattle.plain_marks.specs.Plain.{marks_of, mark_bytes, write_to, Marked}
use Rattle.plain.specs.Bytes.{in_bytes}

bytes-none : (w : Write) → w.bytes ≡ 0 → (us : List Unit) (bs : List ℕ) → mark_bytes w us bs ≡ bs
bytes-none w e [] bs = refl
bytes-none w e (u ∷ us) [] = refl
bytes-none w e (u ∷ us) (b ∷ bs) = ap₂ (λ x l. x ∷ l) (rw (touches_none w e u)) (bytes-none w e us bs)

-- some bytes, from the first to the last
pub write-to : (at bytes : ℕ) → 0 < bytes → write_to at (at + (bytes - 1)) ≡ record { address = at; bytes = bytes }
write-to at bytes h =
    let e : at + (bytes - 1) - at + 1 ≡ bytes = omega arith in
    ap (λ (b : ℕ). record { address = at; bytes = b }) e

module _ (c : Controller) (area : List ℕ) (base : ℕ) (w : Write) (k : ℕ) (e : k ≡ refusal (note_tests c.suspended w)) (z : k ≡ 0) where
  pub bytes-done : (g n : ℕ) → c.tracking ≡ On g n → (area' : List ℕ) (count : ℕ) → Marked w (units g (take n c.ranges)) area base count area' → note_by in_bytes c area base w ≡ noted 0 count area'
  bytes-done g n t area' count m = on-marks in_bytes c area base w k e z g n t ∙ ap₂ (noted 0) (sym m.count_is) (sym m.bytes_are)

  pub bytes-empty : w.bytes ≡ 0 → note_by in_bytes c area base w ≡ noted 0 0 area
  bytes-empty y = go c.tracking refl
    where
      go : (t : Tracking) → c.tracking ≡ t → note_by in_bytes c area base w ≡ noted 0 0 area
      go Off t = on-off in_bytes c area base w k e z t
      go (On g n) t =
          let us : List Unit = units g (take n c.ranges) in
          on-marks in_bytes c area base w k e z g n t
          ∙ ap₂ (noted 0) (newly-none w y us (marks_of area base (length us))) (ap (λ l. take base area ++ l) (bytes-none w y us (drop base area)) ∙ take-append-drop base area)
