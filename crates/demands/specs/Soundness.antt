-- Refusal 1, in plain words: which records are sound, what an unsound one answers, and that no calls from a fresh device lead to one.
use Rattle.std.specs.Prelude.{ℕ, ◌+◌, ◌-◌, ◌%◌, ◌^◌, ◌≤◌, ◌<◌, ◌≡◌, ◌≢◌, ◌⊎◌, ◌↔◌, true, false, cond, List, map, eqb, length, take, get_or}
use Rattle.std.specs.declared.option.Option.TheVariants.{Some}
use Rattle.rules.specs.Lists.{sum}
use Rattle.rules.specs.Settings.{settings_ok, place_of}
use Rattle.rules.specs.Units.{units}
use Rattle.rules.specs.Device.{no_share, shares_of, closed_device, sound_device}
use Rattle.rules.specs.Machine.{refused, Call, lent}
use Rattle.rules.specs.Demands.{Lawful}
use Rattle.rules.specs.declared.Tracking.{Tracking}
use Rattle.rules.specs.declared.Tracking.TheVariants.{Off, On}
use Rattle.rules.specs.declared.Ring.{Ring}
use Rattle.rules.specs.declared.Settings.{Settings}
use Rattle.rules.specs.declared.Controller.{Controller}
use Rattle.rules.specs.declared.Device.{Device}
use Rattle.record.specs.Record.{managed_of, counts_of, units_of, controller_at}
use Rattle.calls.specs.Calls.{in_words, sizes_of, fresh_change}
use Rattle.demands.specs.Managers.{Manages, IsManager}
use Rattle.demands.specs.Sessions.{Left, Given, Sized, outcome, end_of}

-- settings that pass 16: "1 to 8 controller identifiers, all different", "the manager's own identifier, not among them", "least ≤ greatest ≤ 20", a limit of "0 to 128";
-- W12: "The managers' identifiers differ and are not among the controllers", and the second manager's limit and the shelf's are of 0 to 128 too
pub record Settled (s : Settings) : Type 0 where
  pub count : (1 ≤ s.count) × (s.count ≤ 8)
  pub different : (i j : ℕ) → i < s.count → j < s.count → get_or s.identifiers i 0 ≡ get_or s.identifiers j 0 → i ≡ j
  pub manager : (i : ℕ) → i < s.count → get_or s.identifiers i 0 ≢ s.manager
  pub granularities : (s.least ≤ s.greatest) × (s.greatest ≤ 20)
  pub limit : s.limit ≤ 128
  pub second : (id limit : ℕ) → s.second ≡ Some (record { id = id; limit = limit }) → (id ≢ s.manager) × ((i : ℕ) → i < s.count → get_or s.identifiers i 0 ≢ id) × (limit ≤ 128)
  pub shelf : s.shelf ≤ 128

-- a record has the places of its type
pub record Whole (d : Device) : Type 0 where
  pub controllers : length d.controllers ≡ 8
  pub ranges : (i : ℕ) → i < 8 → length (controller_at d (Some i)).ranges ≡ 16

-- W6: an open sequence that a sound record may have: "unsound if its owner isn't suspended or its end isn't whole dwords, 4 to 4,096 bytes"
pub record LawfulSequence (d : Device) (owner end : ℕ) : Type 0 where
  pub place : ℕ
  pub known : place_of d.settings owner ≡ Some place
  pub suspended : (controller_at d (Some place)).suspended ≡ true
  pub dwords : end % 4 ≡ 0
  pub least : 4 ≤ end
  pub most : end ≤ 4096

-- W8: a queue that it may have: "A fill above the queue's size, a place outside it, or a full queue not stopped, is unsound", and nothing else
pub record LawfulRing (r : Ring) : Type 0 where
  pub fill : (r.posted + 2 ^ 32 - r.taken) % 2 ^ 32 ≤ r.size
  pub place : r.place < r.size
  pub full : (r.posted + 2 ^ 32 - r.taken) % 2 ^ 32 ≡ r.size → r.stopped ≡ true

-- the controller at a place in use is tracked with granularity g and n ranges
abbrev pub TracksAt : Device → ℕ → ℕ → ℕ → Type 0
TracksAt d i g n = (i < d.settings.count) × ((controller_at d (Some i)).tracking ≡ On g n)

-- how many units it then has, and where its share begins
abbrev pub units_at : Device → ℕ → ℕ → ℕ → ℕ
units_at d i g n = length (units g (take n (controller_at d (Some i)).ranges))

abbrev pub base_at : Device → ℕ → ℕ
base_at d i = (controller_at d (Some i)).base

-- what a sound record is. Nothing is asked of unused places, of a base among them
pub record Sound (d : Device) : Type 0 where
  pub settings : settings_ok d.settings ≡ true
  -- of a tracked controller by itself what a start asks: 7, 18 to 21 and 10
  pub held : (i g n : ℕ) → TracksAt d i g n → Lawful d.settings g n (take n (controller_at d (Some i)).ranges)
  -- W12: "that manager is in the settings, its counts are within its limit, and all counts within the shelf's"
  pub manager : (i g n : ℕ) → TracksAt d i g n → IsManager d.settings (controller_at d (Some i)).manager
  pub limit : (m limit : ℕ) → Manages d.settings m limit → managed_of d m ≤ limit
  pub shelf : counts_of d ≤ d.settings.shelf
  -- W7: "1 covers shares that overlap or leave these words and […] tracked units above 16,384 in all"
  pub inside : (i g n : ℕ) → TracksAt d i g n → base_at d i + units_at d i g n ≤ 16384
  pub apart : (i g n j f m : ℕ) → i ≢ j → TracksAt d i g n → TracksAt d j f m
      → (base_at d i + units_at d i g n ≤ base_at d j) ⊎ (base_at d j + units_at d j f m ≤ base_at d i)
  pub units : units_of d ≤ 16384
  pub sequence : (owner end : ℕ) → d.sequence ≡ Some (record { owner = owner; end = end }) → LawfulSequence d owner end
  pub queues : (i : ℕ) (r : Ring) → i < d.settings.count → (controller_at d (Some i)).queue ≡ Some r → LawfulRing r

-- how many ranges a controller holds, and how many for a manager (W12)
abbrev pub ranges_in : Tracking → ℕ
ranges_in Off = 0
ranges_in (On g n) = n

abbrev pub ranges_for : ℕ → Controller → ℕ
ranges_for m c = cond (eqb c.manager m) (ranges_in c.tracking) 0

-- W7: where its shares lie, and what 11, 12 and 34 are decided with. A tracked controller in use has a share from its base on, with a bit for each different unit of its
-- ranges; one that is not tracked has none, whatever its base, and a place that is not in use has none, whatever stands there
pub record Shares (d : Device) : Type 0 where
  pub places : length (shares_of d) ≡ 8
  pub on : (i g n : ℕ) → TracksAt d i g n → get_or (shares_of d) i no_share ≡ record { base = base_at d i; size = units_at d i g n }
  pub off : (i : ℕ) → i < d.settings.count → (controller_at d (Some i)).tracking ≡ Off → (get_or (shares_of d) i no_share).size ≡ 0
  pub unused : (i : ℕ) → d.settings.count ≤ i → (get_or (shares_of d) i no_share).size ≡ 0
  -- "all tracked units together": of each share its bits, no more and no fewer; and the counts together
  pub units : units_of d ≡ sum (sizes_of d)
  pub counts : counts_of d ≡ sum (map (λ (c : Controller). ranges_in c.tracking) (take d.settings.count d.controllers))
  pub managed : (m : ℕ) → managed_of d m ≡ sum (map (ranges_for m) (take d.settings.count d.controllers))

-- "From a fresh device no sequence of calls leads to an unsound record, save the closed device of a refused fresh", which answers 1 to every call
pub record Soundness : Type 0 where
  pub settings : (s : Settings) → length s.identifiers ≡ 8 → (settings_ok s ≡ true) ↔ Settled s
  pub exactly : (d : Device) → Whole d → (sound_device d ≡ true) ↔ Sound d
  pub shares : (d : Device) → length d.controllers ≡ 8 → d.settings.count ≤ 8 → Shares d
  -- an unsound record, or marks of another number of words, answers 1 to every call
  pub unsound : (l : Left) (k : Call) → (sound_device l.device ≡ false) ⊎ (length l.marks ≢ 256) → (outcome in_words l k).answer ≡ refused 1 0
  pub kept : (s : Settings) (m : Given) (ks : List Call) → Sized s m → (fresh_change s m.marks).answer.number ≡ 0
      → (sound_device (end_of in_words s m ks).device ≡ true) × (length (end_of in_words s m ks).marks ≡ 256)
  pub closed : (s : Settings) (m : Given) (ks : List Call) (k : Call) → (fresh_change s m.marks).answer.number ≢ 0
      → (end_of in_words s m ks ≡ record { device = closed_device; marks = m.marks; area = m.area; queues = m.queues }) × ((outcome in_words (end_of in_words s m ks) k).answer ≡ refused 1 0)
      × ((outcome in_words (end_of in_words s m ks) k).bytes ≡ lent k.op)
