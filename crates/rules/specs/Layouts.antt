-- The bytes of a start structure and of a report, written out once: where each field stands, and its lowest byte first. That the rules give these bytes is
-- proved by computing (proofs/Theorems.antt).
use Rattle.std.specs.Prelude.{ℕ, ◌+◌, ◌≡◌, true, false, cond, [], ◌∷◌, take, drop, get_or}
use Rattle.rules.specs.StartData.{start_bytes}
use Rattle.little.specs.Little.{records}
use Rattle.rules.specs.Report.{Report, Descriptor, descriptor_bytes, report_bytes}

pub record Layouts : Type 0 where
  -- granularity 3 and two ranges: 0x0a0b0c0d units at 0x0102030405060708, and one unit at 0
  pub structure : start_bytes 3 (record { start = 0x0102030405060708; length = 0x0a0b0c0d } ∷ record { start = 0; length = 1 } ∷ [])
      ≡ 0 ∷ 0 ∷ 0 ∷ 3 ∷ 2 ∷ 0 ∷ 0 ∷ 0 ∷ 8 ∷ 7 ∷ 6 ∷ 5 ∷ 4 ∷ 3 ∷ 2 ∷ 1 ∷ 0x0d ∷ 0x0c ∷ 0x0b ∷ 0x0a ∷ 0 ∷ 0 ∷ 0 ∷ 0 ∷ 0 ∷ 0 ∷ 0 ∷ 0 ∷ 1 ∷ 0 ∷ 0 ∷ 0 ∷ []
  -- controller 0x0506, suspended, nothing more, granularity 8, one run of 0x0a0b0c0d units at 0x0102030405060708
  pub report : report_bytes 0x0506 (record { suspended = true; more = false; granularity = 8; descriptors = record { address = 0x0102030405060708; length = 0x0a0b0c0d } ∷ []; groups = 1 })
      ≡ 0 ∷ 2 ∷ 6 ∷ 5 ∷ 1 ∷ 0 ∷ 0 ∷ 0 ∷ 8 ∷ 0 ∷ 0 ∷ 0 ∷ 0 ∷ 0 ∷ 0 ∷ 0 ∷ 8 ∷ 7 ∷ 6 ∷ 5 ∷ 4 ∷ 3 ∷ 2 ∷ 1 ∷ 0x0d ∷ 0x0c ∷ 0x0b ∷ 0x0a ∷ 0 ∷ 0 ∷ 0 ∷ 0 ∷ []
  -- More To Report is bit 0
  pub more : report_bytes 0 (record { suspended = false; more = true; granularity = 0; descriptors = []; groups = 1 })
      ≡ 0 ∷ 1 ∷ 0 ∷ 0 ∷ 0 ∷ 0 ∷ 0 ∷ 0 ∷ 0 ∷ 0 ∷ 0 ∷ 0 ∷ 0 ∷ 0 ∷ 0 ∷ 0 ∷ []
  -- of any report: its attributes are these two bits and no other, its reserved bytes are zeros, and behind its header stand its descriptors, whose last four bytes are zeros
  pub attributes : (id : ℕ) (r : Report) → get_or (report_bytes id r) 1 0 ≡ cond r.suspended 2 0 + cond r.more 1 0
  pub reserved : (id : ℕ) (r : Report) → take 6 (drop 10 (report_bytes id r)) ≡ 0 ∷ 0 ∷ 0 ∷ 0 ∷ 0 ∷ 0 ∷ []
  pub behind : (id : ℕ) (r : Report) → drop 16 (report_bytes id r) ≡ records descriptor_bytes r.descriptors
  pub spare : (d : Descriptor) → drop 12 (descriptor_bytes d) ≡ 0 ∷ 0 ∷ 0 ∷ 0 ∷ []
  -- W10: no byte tells of the groups that were examined
  pub no_groups : (id n : ℕ) (r : Report)
      → report_bytes id (record { suspended = r.suspended; more = r.more; granularity = r.granularity; descriptors = r.descriptors; groups = n }) ≡ report_bytes id r
