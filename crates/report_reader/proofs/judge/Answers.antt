-- `report_reader::judge` is right because it asks in the order of its table, and past the header the first bad descriptor says the rest.
use mathlib.Core.Path.{◌≡◌, sym, ◌∙◌}
use mathlib.Core.Bool.{false, cond}
use mathlib.Core.List.{List}
use Prim.Native.Nat.{ℕ, ◌≤◌}
use lib.ListN.{length}
use borrow.Author.Tests.{le-leb, eq-eqb}
use Rattle.std.specs.Prelude.{is_some}
use Rattle.std.specs.Option.{unwrap_or}
use Rattle.std.specs.declared.option.Option.{Option}
use Rattle.std.specs.declared.option.Option.TheVariants.{None, Some}
use Rattle.rules.specs.Refusals.{refusal, place_in}
use Rattle.rules.specs.ReportReader.{report_size, version_in, count_in, granularity_in, descriptors_in, more_of_none, report_tests}
use Rattle.report_reader.proofs.ReadingLaws.{first_bad, bad-said}
use Rattle.report_reader.proofs.judge.Goals as goal

-- past the header
told : (x : List ℕ) → 16 ≤ length x → version_in x ≡ 0 → granularity_in x ≤ 20 → more_of_none x ≡ false → report_size (count_in x) ≤ length x
    → (b : Option ℕ) → b ≡ first_bad (granularity_in x) (descriptors_in x) 0
    → (cond (is_some b) 17 0 ≡ refusal (report_tests x)) × (unwrap_or b 0 ≡ place_in (report_tests x))
unfolding report_tests
told x h v g m r b e =
    let s = bad-said (granularity_in x) 0 (descriptors_in x) b e in
    let long = le-leb 16 (length x) h in
    let version = eq-eqb (version_in x) 0 v in
    let granularity = le-leb (granularity_in x) 20 g in
    let there = le-leb (report_size (count_in x)) (length x) r in (rw (long, version, granularity, m, there) (sym s.0), rw (long, version, granularity, m, there) (sym s.1))

pub returns-in-Some : goal.returns-in-Some
unfolding descriptors_in
returns-in-Some c =
    let t =
    told _ c.if-report-lt16.false c.if-report-ne0.false (rw c.granularity_in-g.ensures at c.if-g-gt20.false) (sym c.more_of_none.ensures ∙ c.if-more_of_none.false)
    (rw c.count_in-n.ensures at c.if-report-n.false) (Some c.in-Some.index) (sym c.in-Some.is ∙ (rw (c.granularity_in-g.ensures, c.count_in-n.ensures) at c.first_bad.ensures)) in
    record { number = t.0; index = t.1 }

pub returns : goal.returns
unfolding descriptors_in
returns c =
    let t =
    told _ c.if-report-lt16.false c.if-report-ne0.false (rw c.granularity_in-g.ensures at c.if-g-gt20.false) (sym c.more_of_none.ensures ∙ c.if-more_of_none.false)
    (rw c.count_in-n.ensures at c.if-report-n.false) None (sym c.in_default.is ∙ (rw (c.granularity_in-g.ensures, c.count_in-n.ensures) at c.first_bad.ensures)) in
    record { number = t.0; index = t.1 }
