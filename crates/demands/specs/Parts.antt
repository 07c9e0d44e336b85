-- W6, as statements: a controller's state that arrives in parts. What has arrived before is what the controller's calls and answers tell (rules' `open_by` and
-- `joined_by`), not what the record says.
use Rattle.std.specs.Prelude.{ℕ, ◌+◌, ◌*◌, ◌^◌, ◌≤◌, ◌≡◌, ◌↔◌, ◌⊎◌, true, false, List, ◌++◌, length, take, drop}
use Rattle.little.specs.Little.{number_at}
use Rattle.rules.specs.Order.{Part}
use Rattle.rules.specs.History.{Did, suspended_by, open_by, joins_with, joined_by}
use Rattle.rules.specs.declared.Sequence.{Sequence}
use Rattle.std.specs.declared.option.Option.{Option}
use Rattle.std.specs.declared.option.Option.TheVariants.{None, Some}
use Rattle.rules.specs.declared.Device.{Device}
use Rattle.calls.specs.Calls.{part_change}
use Rattle.demands.specs.Managers.{IsManager}
use Rattle.demands.specs.Sessions.{Left}

-- "the version is 0, the whole is at least its header, and it is as long as the header and its two size fields say, in 001's units": dwords, in 16 bytes each
pub record IsState (x : List ℕ) : Type 0 where
  pub version : number_at x 0 2 ≡ 0
  pub header : 48 ≤ length x
  pub size : length x ≡ 48 + 4 * (number_at x 16 16 + number_at x 32 16)

-- where a part begins: an offset in two words of 32 bits
abbrev pub begins_at : Part → ℕ
begins_at p = p.low + 2 ^ 32 * p.high

-- the bytes so far once a part has arrived after a history: its data alone for a first or only one, and else behind those that were there,
-- whichever manager sends it (W12)
abbrev pub whole_by : List Did → Part → List ℕ
whole_by h p = joins_with (joined_by h) p

-- indicators: 00b neither first nor last, 01b first, 10b last, 11b only
abbrev pub StartsAnew : Part → Type 0
StartsAnew p = (p.indicator ≡ 1) ⊎ (p.indicator ≡ 3)

abbrev pub GoesBehind : Part → Type 0
GoesBehind p = (p.indicator ≡ 0) ⊎ (p.indicator ≡ 2)

abbrev pub IsFinal : Part → Type 0
IsFinal p = (p.indicator ≡ 2) ⊎ (p.indicator ≡ 3)

abbrev pub IsMore : Part → Type 0
IsMore p = (p.indicator ≡ 0) ⊎ (p.indicator ≡ 1)

-- what is asked of a part by itself and after its controller's history
pub record Fitting (h : List Did) (p : Part) : Type 0 where
  pub indicator : p.indicator ≤ 3
  -- the data are exactly the counted dwords, and there are some unless it is the last
  pub counted : length p.bytes ≡ 4 * p.count
  pub dwords : (1 ≤ p.count) ⊎ (p.indicator ≡ 2)
  -- "a first or only part begins anew at offset 0, every other where the open sequence's last accepted part ended"
  pub anew : StartsAnew p → begins_at p ≡ 0
  pub behind : GoesBehind p → (open_by h ≡ true) × (begins_at p ≡ length (joined_by h))
  -- "the state is at most 4,096 bytes"
  pub within : length (whole_by h p) ≤ 4096
  pub finished : IsFinal p → IsState (whole_by h p)

-- a record with another sequence, and all else as it was
abbrev pub arriving : Device → Option Sequence → Device
arriving d q = record { settings = d.settings; controllers = d.controllers; sequence = q }

-- of a controller a, after a session that left l and in which its calls and answers were h
pub record Arrives (l : Left) (h : List Did) (a : ℕ) : Type 0 where
  -- the record says that a sequence of its own is open exactly if its calls and answers do, and where it ends; the area has its bytes so far
  pub under_way : (open_by h ≡ true) ↔ (l.device.sequence ≡ Some (record { owner = a; end = length (joined_by h) }))
  pub bytes : open_by h ≡ true → take (length (joined_by h)) l.area ≡ joined_by h
  -- a part is accepted exactly if a manager sends it, the controller is suspended, no sequence of another is open, and the part is fitting
  pub accepted : (m : ℕ) (p : Part)
      → ((part_change l.device (length l.marks) l.area m a p).answer.number ≡ 0)
      ↔ (IsManager l.device.settings m × (suspended_by false h ≡ true) × ((owner end : ℕ) → l.device.sequence ≡ Some (record { owner = owner; end = end }) → owner ≡ a) × Fitting h p)
  -- "an accepted one [changes] only its own bytes of the area"
  pub own : (m : ℕ) (p : Part)
      → let r = part_change l.device (length l.marks) l.area m a p in
      r.answer.number ≡ 0 → r.area ≡ (take (begins_at p) l.area ++ p.bytes) ++ drop (begins_at p + length p.bytes) l.area
  -- one that is not the last yields nothing, and its sequence is open up to its end
  pub goes_on : (m : ℕ) (p : Part)
      → let r = part_change l.device (length l.marks) l.area m a p in
      r.answer.number ≡ 0 → IsMore p → r.answer ≡ record { number = 0; whole = 0; device = arriving l.device (Some (record { owner = a; end = length (whole_by h p) })) }
  -- a last or only one "yields the assembled bytes": the data of its controller's accepted parts since and with the last first or only one; no sequence is open then
  pub yields : (m : ℕ) (p : Part)
      → let r = part_change l.device (length l.marks) l.area m a p in
      r.answer.number ≡ 0 → IsFinal p
      → (r.answer ≡ record { number = 0; whole = length (whole_by h p); device = arriving l.device None })
      × (take (length (whole_by h p)) r.area ≡ whole_by h p)
