-- The engine that holds marks in bytes has at most a mark for each unit of the pool, in an area of a sound record. Assumes nothing.
use mathlib.Core.Path.{◌≡◌}
use mathlib.Core.Bool.{true}
use mathlib.Core.List.{List}
use Prim.Native.Nat.{ℕ, ◌≤◌}
use native.Mathlib.Omega.{arith}
use lib.Dec.{eqb}
use lib.ListN.{length, take, drop, length-map, length-take, length-drop}
use borrow.Author.Tests.{eqb-true}
use Rattle.rules.specs.Settings.{mark_words, most_units}
use Rattle.rules.specs.Device.{sound_device}
use Rattle.rules.specs.declared.Device.{Device}
use Rattle.rules.proofs.ListLaws.{and_right}
use Rattle.record.specs.Record.{sound_with}
use Rattle.plain_marks.specs.Plain.{mark_of}
use Rattle.plain.specs.Bytes.{words_for, in_bytes}
use Rattle.plain.proofs.AreaLaws.{area-whole}

pub bytes-most : (d : Device) (bs : List ℕ) → sound_with d (words_for (length bs)) ≡ true → (base n : ℕ) → length (in_bytes.marks bs base n) ≤ most_units
unfolding sound_with
bytes-most d bs s base n =
    let whole = area-whole (length bs) (eqb-true (words_for (length bs)) mark_words (and_right (sound_device d) (eqb (words_for (length bs)) mark_words) s)) in
    omega (arith, length-map (take n (drop base bs)) mark_of, length-take n (drop base bs), length-drop base bs, whole)
