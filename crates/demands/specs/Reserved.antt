-- "Reserved bytes are ignored when read. Bytes after the last listed range are ignored" (document 01, "The start structure"), and of a report "Reserved bits are
-- ignored" (document 02, W1): bytes that differ in these alone are answered alike.
use Rattle.std.specs.Prelude.{ℕ, ◌%◌, ◌≤◌, ◌<◌, ◌≡◌, ◌≢◌, ◌⊎◌, List, length, get_or}
use Rattle.rules.specs.StartData.{count_of, start_size, header_of, start_data}
use Rattle.rules.specs.ReportReader.{report_refusal, report_bad_index, report_suspended, report_more, report_identifier, report_granularity, report_count, report_refusal_at, report_address, report_length}

-- two start structures: as many bytes, and up to the last listed range the same but for bytes 1 and 2
pub record AlikeStructure (x y : List ℕ) : Type 0 where
  pub size : length x ≡ length y
  pub same : (i : ℕ) → i < start_size (count_of x) → i ≢ 1 → i ≢ 2 → get_or x i 0 ≡ get_or y i 0

-- two reports: as many bytes, the same two lowest bits of the attributes, and else the same but for bytes 10 to 15 and the last four bytes of a descriptor
pub record AlikeReport (x y : List ℕ) : Type 0 where
  pub size : length x ≡ length y
  pub bits : get_or x 1 0 % 4 ≡ get_or y 1 0 % 4
  pub same : (i : ℕ) → i ≢ 1 → (i < 10) ⊎ ((16 ≤ i) × (i % 16 < 12)) → get_or x i 0 ≡ get_or y i 0

pub record Ignored : Type 0 where
  pub header : (x y : List ℕ) → AlikeStructure x y → header_of x ≡ header_of y
  pub structure : (x y : List ℕ) → AlikeStructure x y → start_data x ≡ start_data y
  pub report : (x y : List ℕ) → AlikeReport x y
      → (report_refusal x ≡ report_refusal y)
      × (report_bad_index x ≡ report_bad_index y)
      × (report_suspended x ≡ report_suspended y)
      × (report_more x ≡ report_more y)
      × (report_identifier x ≡ report_identifier y)
      × (report_granularity x ≡ report_granularity y)
      × (report_count x ≡ report_count y)
  pub descriptor : (x y : List ℕ) → AlikeReport x y → (i : ℕ)
      → (report_refusal_at x i ≡ report_refusal_at y i) × (report_address x i ≡ report_address y i) × (report_length x i ≡ report_length y i)
