-- What the way over a tracked controller's units asks is kept by a sound record: a unit has bytes, the rows are few and end within 2^64, and the area has a byte for each unit.
-- What it lists is no more than the units. Assumes nothing.
use mathlib.Core.Path.{◌≡◌, ◌∙◌}
use mathlib.Core.Bool.{Bool}
use mathlib.Core.List.{List, []}
use Prim.Native.Nat.{ℕ, ◌+◌, ◌≤◌, ◌<◌}
use native.Mathlib.Omega.{arith}
use native.Mathlib.Nat.{one-mul}
use lib.ListN.{length, take, get_or}
use Rattle.rules.specs.Settings.{most_units, unit_size, bytes_of}
use Rattle.rules.specs.Units.{Unit, units_from}
use Rattle.rules.specs.declared.Range.{Range}
use Rattle.rules.specs.declared.Device.{Device}
use Rattle.rules.specs.declared.Tracking.TheVariants.{On}
use Rattle.rules.proofs.RowLaws.{rows_ok-front}
use Rattle.measures.proofs.MeasureLaws.{bytes_of-pos}
use Rattle.record.specs.Record.{no_controller, where_is}
use Rattle.std.specs.declared.result.Result.TheVariants.{Ok}
use Rattle.record.proofs.RecordLaws.{where_is-at}
use Rattle.calls.proofs.PlaceLaws.{held_at, share-within}
use Rattle.track_receive.proofs.ReceiveLaws.{reported-few}
use Rattle.plain_marks.specs.Plain.{marks_of, Ends, Lists}
use Rattle.plain.specs.Bytes.{words_for}
use Rattle.plain.proofs.AreaLaws.{area-whole}

-- the bytes of one unit
pub one_unit : (g size : ℕ) → size ≡ bytes_of g 1 → size ≡ unit_size g
one_unit g size e = e ∙ one-mul (unit_size g)

-- what is asked of a unit's bytes, the first n ranges and an area in which the units' bytes stand from `base` on
pub record Way (size n : ℕ) (rs : List Range) (area : List ℕ) (base : ℕ) : Type 0 where
  pub some : 0 < size
  pub few : n ≤ 16
  pub whole : length area ≡ most_units
  pub within : base + length (units_from size 0 [] (take n rs)) ≤ length area
  pub ends : Ends size rs n

module _ (d : Device) (area : List ℕ) (id i : ℕ) (e : where_is d (words_for (length area)) id ≡ Ok i) (there : i < length d.controllers) (g n : ℕ) (t : (get_or d.controllers i no_controller).tracking ≡ On g n) where
  abbrev rs : List Range
  rs = (get_or d.controllers i no_controller).ranges

  abbrev base : ℕ
  base = (get_or d.controllers i no_controller).base

  way_of : length rs ≡ 16 → Way (unit_size g) n rs area base
  way_of h =
      let f = held_at d (words_for (length area)) id i e there g n t in
      let whole = area-whole (length area) (where_is-at d (words_for (length area)) id i e).whole in
      record {
        some = omega (arith, bytes_of-pos g 1 (omega arith), one-mul (unit_size g));
        few = f.few;
        whole = whole;
        within = omega (arith, share-within d (words_for (length area)) id i e there g n t (omega arith), whole);
        ends = λ j k. (rows_ok-front g rs n j f.rows k (omega (arith, f.few))).within;
      }

  -- the same of the unit's bytes and the ranges as they were read
  pub way : (size : ℕ) → size ≡ bytes_of g 1 → (read : List Range) → read ≡ rs → length read ≡ 16 → Way size n read area base
  way size s read r h = rw (one_unit g size s, r) (way_of (rw r at h))

-- no more runs are listed than there are units
pub lists-few : (us : List Unit) (area : List ℕ) (base : ℕ) (x : List ℕ) (room count : ℕ) (more : Bool) (groups : ℕ) (area' x' : List ℕ)
    → Lists us area base x room count more groups area' x' → count ≤ length us
lists-few us area base x room count more groups area' x' s = reported-few room us (marks_of area base (length us)) count s.count_is
