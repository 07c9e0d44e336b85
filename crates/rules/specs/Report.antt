-- Document 01, "The report" (NVMe: Tracked Memory Changed data structure): runs, what a report lists, clears and leaves, and its bytes.
use Rattle.std.specs.Prelude.{ℕ, zero, suc, ◌+◌, ◌-◌, ◌/◌, Bool, true, false, ◌&&◌, cond, List, [], ◌∷◌, ◌++◌, map, eqb, length, take, drop}
use Rattle.little.specs.Little.{number_bytes, records}
use Rattle.rules.specs.Lists.{join, non_empty}
use Rattle.rules.specs.Units.{Unit, pending}
use Rattle.rules.specs.declared.Range.{Range}

-- ---- runs

-- whether one unit follows another: in the same range, and with nothing between their bytes
abbrev pub follows : Unit → Unit → Bool
follows u v = eqb u.row v.row && eqb (u.address + u.size) v.address

-- the runs of units of which u is the first: it is a run of its own, or lengthens the first run where that follows it
abbrev pub with_first : Unit → List (List Unit) → List (List Unit)
with_first u [] = (u ∷ []) ∷ []
with_first u ([] ∷ rs) = (u ∷ []) ∷ rs
with_first u ((v ∷ vs) ∷ rs) = cond (follows u v) ((u ∷ v ∷ vs) ∷ rs) ((u ∷ []) ∷ (v ∷ vs) ∷ rs)

-- the runs of some units: longest rows of consecutive units within one range, in their order
abbrev pub runs : List Unit → List (List Unit)
runs [] = []
runs (u ∷ us) = with_first u (runs us)

-- ---- the report

-- a run as it is reported: its first address and its length in units
pub record Descriptor : Type 0 where
  pub address : ℕ
  pub length : ℕ

-- a descriptor as a range
abbrev pub range_of : Descriptor → Range
range_of d = record { start = d.address; length = d.length }

abbrev pub descriptor : List Unit → Descriptor
descriptor [] = record { address = 0; length = 0 }
descriptor (u ∷ us) = record { address = u.address; length = suc (length us) }

-- what a report says; and of the call that makes it, how many groups of units it examined (W10), which is in no byte of the report
pub record Report : Type 0 where
  pub suspended : Bool
  pub more : Bool
  pub granularity : ℕ
  pub descriptors : List Descriptor
  pub groups : ℕ

-- a buffer of so many bytes holds so many runs
abbrev pub room : ℕ → ℕ
room bytes = (bytes - 16) / 16

-- the runs that a report with room for k lists, and those that stay
abbrev pub reported_runs : ℕ → List Unit → List Bool → List (List Unit)
reported_runs k us p = take k (runs (pending us p))

abbrev pub later_runs : ℕ → List Unit → List Bool → List (List Unit)
later_runs k us p = drop k (runs (pending us p))

-- the marks with the first m pending units made clear
abbrev pub clear_first : ℕ → List Bool → List Bool
clear_first zero p = p
clear_first (suc m) [] = []
clear_first (suc m) (true ∷ p) = false ∷ clear_first m p
clear_first (suc m) (false ∷ p) = false ∷ clear_first (suc m) p

-- the marks that a report with room for k runs leaves: the units of the reported runs, which are the first pending ones, are made clear
abbrev pub marks_left : ℕ → List Unit → List Bool → List Bool
marks_left k us p = clear_first (length (join (reported_runs k us p))) p

-- ---- W10: the groups examined

-- the number of the pending unit before which m are pending: how many units stand before it
abbrev pub pending_at : ℕ → List Bool → ℕ
pending_at m [] = 0
pending_at m (false ∷ p) = suc (pending_at m p)
pending_at zero (true ∷ p) = 0
pending_at (suc m) (true ∷ p) = suc (pending_at m p)

-- a group has so many units, numbered from the controller's unit 0
abbrev pub group_units : ℕ
group_units = 64

-- "With room for k runs it is the groups up to and including the one where run k + 1 begins, or, if there is none, all: the total of units divided by 64, rounded up"
abbrev pub groups_on : ℕ → List Unit → List Bool → ℕ
groups_on k us p =
    cond (non_empty (later_runs k us p))
    (pending_at (length (join (reported_runs k us p))) p / group_units + 1)
    ((length us + (group_units - 1)) / group_units)

-- ---- the report

-- a report with room for k runs, of a controller that is suspended or not and was started with granularity g; More To Report is set if a run stays
abbrev pub report_on : Bool → ℕ → ℕ → List Unit → List Bool → Report
report_on b g k us p =
    record {
      suspended = b;
      more = non_empty (later_runs k us p);
      granularity = g;
      descriptors = map descriptor (reported_runs k us p);
      groups = groups_on k us p;
    }

-- ---- its bytes

abbrev pub flag : Bool → ℕ → ℕ
flag b n = cond b n 0

-- 16 bytes: version 0; attributes, bit 1 suspended, bit 0 More To Report; identifier; number of descriptors; granularity; zeros
abbrev pub report_header : ℕ → Bool → Bool → ℕ → ℕ → List ℕ
report_header id suspended more count g =
    number_bytes 1 0
    ++ (number_bytes 1 (flag suspended 2 + flag more 1)
    ++ (number_bytes 2 id
    ++ (number_bytes 4 count
    ++ (number_bytes 2 g
    ++ number_bytes 6 0))))

-- 16 bytes: address, length in units, zeros
abbrev pub descriptor_bytes : Descriptor → List ℕ
descriptor_bytes d = number_bytes 8 d.address ++ (number_bytes 4 d.length ++ number_bytes 4 0)

-- the report on the controller with an identifier
unfoldable pub report_bytes : ℕ → Report → List ℕ
report_bytes id r =
    report_header id r.suspended r.more (length r.descriptors) r.granularity ++ records descriptor_bytes r.descriptors
