use Prim.Native.Nat.{◌<◌, ◌+◌, ◌-◌, ◌*◌}
use Rattle.std.proofs.Common.{◌≡◌, refl, arith, sym, length, get_or}
use Rattle.fields.proofs.NumberLaws.{number-empty, number-zero, number-other, number-over, digits-again, spelled-again, number-whole, no_leading_zero, leading_zero-is}
use Rattle.fields.proofs.read_number.Goals.{in_default, in_default-2}
use Rattle.fields.proofs.read_number.Goals as goal

pub returns-in-empty-clause-number : goal.returns-in-empty-clause-number
returns-in-empty-clause-number c = number-empty _ _ (omega arith)

pub returns-in-empty-2-clause-number : goal.returns-in-empty-2-clause-number
returns-in-empty-2-clause-number c = number-zero _ _ (leading_zero-is c.args.field.now (omega arith) (omega arith))

pub loop-b-init : goal.loop-b-init
loop-b-init c =
    elim c.if-field-lt2.branch [
      | in_default w ↦ record { some = omega arith; front = no_leading_zero c.args.field.now (λ h. absurd (omega arith)); fits = omega arith; spells = refl; digits = refl }
      | in_default-2 w ↦ record { some = omega arith; front = no_leading_zero c.args.field.now (λ h e. absurd (omega arith)); fits = omega arith; spells = refl; digits = refl }
    ]

pub returns-then-not-is_ascii_digit-clause-number : goal.returns-then-not-is_ascii_digit-clause-number
returns-then-not-is_ascii_digit-clause-number c =
    number-other _ c.args.field.now c.loop-b.value c.loop-b.b-index (omega arith) (sym c.if-not-is_ascii_digit.ensures.value) c.loop-b.invariant.digits

pub returns-in_err-checked_mul-clause-number : goal.returns-in_err-checked_mul-clause-number
returns-in_err-checked_mul-clause-number c =
    rw c.from_residual.ensures (number-over c.args.most c.args.field.now c.loop-b.value c.loop-b.b-index (omega arith) (omega (arith, c.in_err-checked_mul.ensures)) c.loop-b.invariant.spells)

pub returns-in_err-value-clause-number : goal.returns-in_err-value-clause-number
returns-in_err-value-clause-number c =
    rw c.from_residual-in_err-value.ensures (number-over c.args.most c.args.field.now c.loop-b.value c.loop-b.b-index (omega arith) (omega (arith, c.in_err-value.ensures)) c.loop-b.invariant.spells)

pub returns-then-value-most-clause-number : goal.returns-then-value-most-clause-number
returns-then-value-most-clause-number c =
    number-over c.args.most c.args.field.now c.loop-b.value c.loop-b.b-index (omega arith) (omega (arith, c.in_ok-value.ensures)) c.loop-b.invariant.spells

pub loop-b-preserved : goal.loop-b-preserved
loop-b-preserved c =
    let p = c.loop-b.invariant in
    let inside : c.loop-b.b-index < length c.args.field.now = omega arith in
    let v : c.in_ok-value.value ≡ 10 * c.loop-b.value + (get_or c.args.field.now c.loop-b.b-index 0 - 48) = omega (arith, c.in_ok-value.ensures, c.in_ok-checked_mul.ensures) in
    record {
      some = p.some;
      front = p.front;
      fits = omega arith;
      spells = rw v (spelled-again c.args.most c.args.field.now c.loop-b.value c.loop-b.b-index _ inside refl p.spells);
      digits = digits-again c.args.most c.args.field.now c.loop-b.value c.loop-b.b-index inside (sym c.if-not-is_ascii_digit.ensures.value) p.digits;
    }

pub returns-clause-number : goal.returns-clause-number
returns-clause-number c =
    let p = c.loop-b.invariant in
    number-whole c.args.most c.args.field.now c.loop-b.value c.loop-b.b-index (omega arith) p.some p.front p.fits p.spells p.digits
