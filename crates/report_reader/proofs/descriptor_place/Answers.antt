-- `report_reader::descriptor_place` is right because it asks for the report first, and then for the count.
use mathlib.Core.Path.{refl, sym, ◌∙◌}
use native.Mathlib.Omega.{arith}
use Rattle.rules.proofs.RefusalLaws.{number_of-pos, handed_on}
use Rattle.report_reader.proofs.AnswerLaws.{accepted-size, index-refused, index-past, index-within, index-size}
use Rattle.report_reader.proofs.descriptor_place.Goals as goal

pub returns-in_err-judge-clause-number : goal.returns-in_err-judge-clause-number
returns-in_err-judge-clause-number c =
    let e = c.in_err-judge.ensures.number in
    rw (handed_on _ _ c.from_residual.ensures.1) (e ∙ index-refused _ _ (λ z. number_of-pos _ (e ∙ z)))

pub count_in-requires : goal.count_in-requires
count_in-requires c = omega (arith, accepted-size _ (sym c.in_ok-judge.ensures.number))

pub returns-then-count_in-index-clause-number : goal.returns-then-count_in-index-clause-number
returns-then-count_in-index-clause-number c = index-past _ (sym c.in_ok-judge.ensures.number) _ (rw c.count_in.ensures at c.if-count_in-index.true)

pub returns : goal.returns
returns c =
    let there = index-within _ (sym c.in_ok-judge.ensures.number) _ (rw c.count_in.ensures at c.if-count_in-index.false) in
    record { number = there; place = (refl, index-size _ _ (sym there)) }
