-- `ranges::row_refusal` is right because it asks the three tests of a row in their order, the last by the range's last byte (`row-past`, `row_within`).
use mathlib.Core.Path.{◌≡◌, sym, ap, ◌∙◌}
use native.Mathlib.Omega.{arith}
use borrow.Author.Tests.{not-true, not-false}
use Rattle.rules.specs.Settings.{bytes_of}
use Rattle.measures.proofs.MeasureLaws.{bytes_of-fits, bytes_of-pos}
use Rattle.ranges.proofs.RangeLaws.{row-empty, row-askew, row-past, row_within}
use Rattle.ranges.proofs.row_refusal.Goals as goal
use Rattle.ranges.proofs.row_refusal.Goals.{After-bytes_of-b}

-- the range's bytes
bytes : (c : After-bytes_of-b) → let a = c.args in c.bytes_of-b.result.0 ≡ bytes_of a.g a.r.length
bytes c = c.bytes_of-b.ensures ∙ ap (bytes_of c.args.g) c.length_of.ensures.0

pub returns-then-empty : goal.returns-then-empty
returns-then-empty c = let a = c.args in sym (row-empty a.g a.r (omega arith))

pub returns-then-not-aligned : goal.returns-then-not-aligned
returns-then-not-aligned c =
    let a = c.args in
    sym (row-askew a.g a.r (omega arith) (sym c.aligned-aligned.ensures ∙ not-true _ c.if-not-aligned.true-raw))

pub bytes_of-b-requires : goal.bytes_of-b-requires
bytes_of-b-requires c =
    (c.requires, bytes_of-fits c.args.g _ c.requires c.length_of.ensures.1)

pub overflow_sub-b : goal.overflow_sub-b
overflow_sub-b c =
    let a = c.args in
    omega (arith, bytes_of-pos a.g a.r.length (omega arith), bytes (goal.at.overflow_sub-b c).After-bytes_of-b)

pub returns-then-b-r : goal.returns-then-b-r
returns-then-b-r c =
    let a = c.args in
    sym (row-past a.g a.r (omega arith) (sym c.aligned-aligned.ensures ∙ not-false _ c.if-not-aligned.false-raw) _ (bytes (goal.at.returns-then-b-r c).After-bytes_of-b) (omega arith) c.if-b-r.true)

pub returns : goal.returns
returns c =
    let a = c.args in
    sym (row_within a.g a.r (omega arith) (sym c.aligned-aligned.ensures ∙ not-false _ c.if-not-aligned.false-raw) _ (bytes (goal.at.returns c).After-bytes_of-b) (omega arith) c.if-b-r.false)
