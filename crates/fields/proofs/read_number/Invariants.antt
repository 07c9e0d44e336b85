-- `fields::read_number` is right because each turn passes a digit, and the number so far is no greater than the whole one.
-- The loop's invariant: the bytes left spell the field's number behind `value`, and are digits exactly if all are.
use Rattle.std.proofs.Common.{◌≡◌, ◌≤◌, false, length, drop}
use Rattle.rules.specs.Lists.{all}
use Rattle.fields.specs.Fields.{is_digit, leading_zero, spelled, value}
use Rattle.fields.proofs.read_number.Given as goal

abbrev pub invariant-loop-b : goal.invariant-loop-b
invariant-loop-b l = record {
  some : 1 ≤ length l.field;
  front : leading_zero l.field ≡ false;
  fits : l.value ≤ l.most;
  spells : spelled l.value (drop l.b-index l.field) ≡ value l.field;
  digits : all is_digit (drop l.b-index l.field) ≡ all is_digit l.field;
}
