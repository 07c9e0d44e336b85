use Rattle.std.proofs.Common.{sym, arith}
use Rattle.fields.proofs.FieldLaws.{first_field-length, first_field-take, first_field-stop, later_fields-skip}
use Rattle.fields.proofs.split.Goals as goal

pub split_at-requires : goal.split_at-requires
split_at-requires c = omega (arith, c.first_len.ensures, first_field-length c.args.line.now)

pub invariant_of-result : goal.invariant_of-result
invariant_of-result c = rw (c.split_at.ensures.back, c.first_len.ensures) (first_field-stop c.args.line.now)

pub returns-clause-first : goal.returns-clause-first
returns-clause-first c = rw (c.split_at.ensures.front, c.first_len.ensures) (first_field-take c.args.line.now)

pub returns-clause-later : goal.returns-clause-later
returns-clause-later c = rw (c.split_at.ensures.back, c.first_len.ensures) (sym (later_fields-skip c.args.line.now))
