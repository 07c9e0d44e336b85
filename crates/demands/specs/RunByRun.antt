-- The host's loop over a report's runs: once a report is not refused, each run may be asked for by itself, and no other one is looked at for it.
use Rattle.std.specs.Prelude.{ℕ, ◌+◌, ◌*◌, ◌≤◌, ◌<◌, ◌≡◌, List, length, get_or}
use Rattle.rules.specs.ReportReader.{report_refusal, report_address, report_length, report_run_address, report_run_length}

pub record RunByRun : Type 0 where
  -- of a report that is not refused they answer what the questions to the whole of it answer, at every index
  pub same : (x : List ℕ) → report_refusal x ≡ 0 → (i : ℕ) → (report_run_address x i ≡ report_address x i) × (report_run_length x i ≡ report_length x i)
  -- of any bytes they look at the count and at the first 12 bytes of the descriptor with that index; as many bytes with the same ones there are answered alike
  pub alone : (x y : List ℕ) (i : ℕ) → length x ≡ length y
      → ((k : ℕ) → 4 ≤ k → k < 8 → get_or x k 0 ≡ get_or y k 0)
      → ((k : ℕ) → 16 + 16 * i ≤ k → k < 16 + 16 * i + 12 → get_or x k 0 ≡ get_or y k 0)
      → (report_run_address x i ≡ report_run_address y i) × (report_run_length x i ≡ report_run_length y i)
