-- What a report is refused for, in the numbers that C is answered.
use Rattle.std.specs.Prelude.{ℕ}
use Rattle.std.specs.declared.result.Result.{Result}
use Rattle.std.specs.declared.result.Result.TheVariants.{Ok, Err}
use Rattle.rules.specs.Refusals.{number_of}
use Rattle.report_reader.specs.declared.ReportRefusal.{ReportRefusal}

-- the refusal's number, 0 where it is accepted
abbrev pub number_in : {A : Type 0} → Result A ReportRefusal → ℕ
number_in (Ok x) = 0
number_in (Err bad) = number_of bad.refusal

-- and the index that it is about, 0 where it is accepted or about none
abbrev pub index_in : {A : Type 0} → Result A ReportRefusal → ℕ
index_in (Ok x) = 0
index_in (Err bad) = bad.index
