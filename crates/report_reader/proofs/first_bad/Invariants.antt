-- `report_reader::first_bad` is right because it asks each descriptor in turn. The loop's invariant: the first bad one from index `i` on is the first of
-- all.
use mathlib.Core.Path.{◌≡◌}
use Rattle.std.specs.declared.option.Option.TheVariants.{None, Some}
use Rattle.little.specs.Little.{records_at}
use Rattle.rules.specs.Refusals.{verdict}
use Rattle.rules.specs.ReportReader.{descriptor_at, descriptor_tests}
use Rattle.report_reader.proofs.ReadingLaws.{first_bad, descriptors_from}
use Rattle.report_reader.proofs.first_bad.Given as goal

abbrev pub invariant-loop-i : goal.invariant-loop-i
invariant-loop-i l =
    first_bad l.g (descriptors_from l.report l.n l.i) l.i ≡ verdict (descriptor_tests l.g 0 (records_at descriptor_at 16 l.report 16 l.n)) None (λ k j. Some j)
