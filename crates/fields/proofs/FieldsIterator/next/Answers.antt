use Rattle.std.proofs.Common.{◌≡◌, ℕ, suc, List, length, drop, Some, ap, sym, ◌∙◌, arith}
use Rattle.std.specs.Iterator.{MakesProgress, item_count}
use Rattle.fields.specs.Fields.{later_fields}
use Rattle.fields.proofs.FieldLaws.{first_field-length, field_next, field-stop, later_fields_none}
use Rattle.fields.proofs.FieldsIterator.next.Goals as goal

pub returns-in_err-after-clause-steps : goal.returns-in_err-after-clause-steps
returns-in_err-after-clause-steps c = let none = sym c.self.view_is ∙ later_fields_none _ c.in_err-after.ensures.cases in rw c.from_residual.ensures (none, none)

pub split_at-requires : goal.split_at-requires
split_at-requires c = omega (arith, c.first_len.ensures, first_field-length c.in_ok-after.after.now)

pub invariant_of-self : goal.invariant_of-self
invariant_of-self c = rw c.split_at.ensures.back (field-stop _ _ c.first_len.ensures)

pub returns-clause-steps : goal.returns-clause-steps
returns-clause-steps c =
    rw (c.split_at.ensures.front, c.split_at.ensures.back) (sym c.self.view_is ∙ field_next _ _ _ c.in_ok-after.ensures.cases.0 c.self.invariant _ c.first_len.ensures)

progress : {A : Type 0} (s t : List (List ℕ)) (r : A) → length s ≡ suc (length t) → MakesProgress (λ _. Unit {0}) (item_count (λ f. f)) s (Some r) t
progress s t r e = record { on = λ _. (tt, tt, omega arith); keeps = tt; rests = λ _. tt }

pub returns-clause-goes : goal.returns-clause-goes
returns-clause-goes c =
    let e = sym c.self.view_is ∙ field_next _ _ _ c.in_ok-after.ensures.cases.0 c.self.invariant _ c.first_len.ensures in
    let l : length c.args.self.now ≡ suc (length (later_fields (drop c.first_len.result c.in_ok-after.after.now))) = ap length e in
    rw c.split_at.ensures.back (progress _ _ _ l)
