-- What a note to one controller does, and what the parts of a batch's loop compute. The plain engine (W9) has its notes' refusals and its batch from here.
use Rattle.std.specs.Prelude.{ℕ, ◌+◌, ◌^◌, ◌≤◌, ◌≡◌, Bool, true, not, ◌&&◌, cond, List, [], ◌∷◌, leb, ltb, eqb, length, take, get_or}
use Rattle.bits.specs.Share.{Holds}
use Rattle.rules.specs.Refusals.{Test, ◌else◌, verdict, refusal}
use Rattle.rules.specs.Units.{Write, units}
use Rattle.rules.specs.Ranges.{rows_ok}
use Rattle.rules.specs.Order.{batch_order}
use Rattle.rules.specs.declared.Range.{Range}
use Rattle.rules.specs.StartData.{no_range}
use Rattle.rules.specs.declared.Tracking.{Tracking}
use Rattle.rules.specs.declared.Tracking.TheVariants.{Off, On}
use Rattle.std.specs.declared.option.Option.TheVariants.{None}
use Rattle.rules.specs.declared.Controller.{Controller}
use Rattle.rules.specs.declared.Device.{Device}
use Rattle.record.specs.Record.{sound_with}
use Rattle.calls.specs.Calls.{Engine, in_words, Note, noted, note_in}
use Rattle.calls.specs.declared.Written.{Written}
use Rattle.calls.specs.declared.Batched.{Batched}

-- ---- a note to one controller

-- a tracked one's ranges, of which it has room for one at least, keep the rules, and its marks lie within the words from a bit on
pub record Lies (g n : ℕ) (rs : List Range) (ws : List ℕ) (base : ℕ) : Type 0 where
  pub small : g ≤ 20
  pub few : n ≤ 16
  pub rows : rows_ok g (take n rs) ≡ true
  pub within : Holds ws base (length (units g (take n rs)))

abbrev pub MayNote : Controller → List ℕ → ℕ → Type 0
MayNote c ws base = 1 ≤ length c.ranges → (g n : ℕ) → c.tracking ≡ On g n → Lies g n c.ranges ws base

-- its refusals
abbrev pub note_tests : Bool → Write → List Test
note_tests suspended w = (not suspended else 4) ∷ (leb (w.address + w.bytes) (2 ^ 64) else 14) ∷ []

-- what it answers and leaves: a refusal's number, or as the rules mark
unfoldable pub note_by : Engine → Controller → List ℕ → ℕ → Write → Note
note_by e c ws base w =
    verdict (note_tests c.suspended w)
    (note_in e ws base c.tracking c.ranges w)
    (λ n i. noted n 0 ws)

abbrev pub note_on : Controller → List ℕ → ℕ → Write → Note
note_on c ws base w = note_by in_words c ws base w

-- ---- a controller that has one range or is not tracked

abbrev pub is_one : Tracking → Bool
is_one Off = true
is_one (On g n) = eqb n 1

-- it, as far as its first range and what a note asks beside it say
abbrev pub alone : Controller → Controller
alone c = record { tracking = c.tracking; manager = 0; base = c.base; suspended = c.suspended; ranges = get_or c.ranges 0 no_range ∷ []; queue = None }

-- ---- a batch

-- before its first note
unfoldable pub begin_of : Device → ℕ → ℕ → Batched
begin_of d words total = record { number = refusal (batch_order (sound_with d words) total); done = 0; count = 0; refusal = 0 }

-- whether it has a note to do
unfoldable pub is_due : Batched → ℕ → Bool
is_due b total = eqb b.number 0 && (eqb b.refusal 0 && ltb b.done total)

-- after one more note
unfoldable pub tally_of : Batched → Written → Batched
tally_of b w =
    cond (eqb w.number 0)
    (record { number = b.number; done = b.done + 1; count = b.count + w.count; refusal = b.refusal })
    (record { number = b.number; done = b.done; count = b.count; refusal = w.number })
