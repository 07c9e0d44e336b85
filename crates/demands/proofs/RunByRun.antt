-- A run by itself is what the whole report says of it, and is made of the count and of its own bytes. Assumes nothing.
use mathlib.Core.Path.{◌≡◌}
use mathlib.Core.List.{List}
use Prim.Native.Nat.{ℕ, ◌+◌, ◌*◌, ◌≤◌, ◌<◌}
use native.Mathlib.Omega.{arith}
use lib.ListN.{length, get_or}
use Rattle.rules.specs.ReportReader.{count_in, descriptor_of, run_there}
use Rattle.report_reader.proofs.AnswerLaws.{run-accepted}
use Rattle.demands.specs.RunByRun.{RunByRun}
use Rattle.demands.proofs.Reserved.{number_at-same}

module _
    (x y : List ℕ)
    (i : ℕ)
    (size : length x ≡ length y)
    (counted : (k : ℕ) → 4 ≤ k → k < 8 → get_or x k 0 ≡ get_or y k 0)
    (own : (k : ℕ) → 16 + 16 * i ≤ k → k < 16 + 16 * i + 12 → get_or x k 0 ≡ get_or y k 0)
  where
    there-same : run_there x i ≡ run_there y i
    there-same = let n : count_in x ≡ count_in y = number_at-same x y 4 4 (λ k h l. counted k h (omega (arith, l))) in rw (n, size)

    address_same : (descriptor_of x i).address ≡ (descriptor_of y i).address
    address_same = number_at-same x y 8 (16 + 16 * i) (λ k h l. own k h (omega (arith, l)))

    length-same : (descriptor_of x i).length ≡ (descriptor_of y i).length
    length-same = number_at-same x y 4 (16 + 16 * i + 8) (λ k h l. own k (omega (arith, h)) (omega (arith, l)))

pub run-by-run : RunByRun
run-by-run =
    record {
      same = λ x e i. (run-accepted x i e _, run-accepted x i e _);
      alone = λ x y i size counted own. (
        rw (there-same x y i size counted own, address_same x y i size counted own),
        rw (there-same x y i size counted own, length-same x y i size counted own),
      );
    }
