-- `listing::read_numbers` is right because each turn reads one field (`gathered-again`).
-- The loop's invariant: the numbers of the fields that are left, stored from place `count` on, make the promised ones.
use Rattle.std.proofs.Common.{◌≡◌, ◌≤◌}
use Rattle.listing.specs.Inner.{gathered}
use Rattle.listing.proofs.read_numbers.Given as goal

abbrev pub invariant-loop-field : goal.invariant-loop-field
invariant-loop-field l = (l.count ≤ 34) × (gathered l.word l.count l.values l.field-iterator ≡ gathered l.word 0 l.initial.values l.fn.fields)
