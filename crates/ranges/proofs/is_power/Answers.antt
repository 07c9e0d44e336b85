-- `ranges::is_power` is right because a power of two is the power of its trailing zeros (`is_power-trailing`), of which a length that is not 0 has fewer than 32.
use Prim.Native.Nat.{◌<◌}
use mathlib.Core.Path.{ap, sym, ◌∙◌}
use native.Mathlib.Omega.{arith}
use native.Mathlib.Nat.{one-mul}
use lib.Count.{count_trailing_zeros}
use lib.Dec.{lit<, eqb}
use lib.Pow.{shl_exact}
use Rattle.rules.specs.Ranges.{is_power}
use Rattle.ranges.proofs.PowerLaws.{trailing_below, is_power-trailing}
use Rattle.ranges.proofs.is_power.Goals as goal
use Rattle.ranges.proofs.is_power.Goals.{Else-n-eq0}

below : (c : Else-n-eq0) → count_trailing_zeros 32 c.args.r.length < 32
below c = trailing_below 32 c.args.r.length (omega (arith, c.if-n-eq0.false)) (omega arith)

pub returns-then-n-eq0 : goal.returns-then-n-eq0
returns-then-n-eq0 c = sym (ap is_power c.if-n-eq0.true)

pub overflow_shl-result : goal.overflow_shl-result
overflow_shl-result c = below c

pub returns : goal.returns
returns c =
    let n = c.args.r.length in
    ap (eqb n) (shl_exact 1 (count_trailing_zeros 32 n) 32 (lit< tt) (omega (arith, below c)) ∙ one-mul _) ∙ sym (is_power-trailing n (below c))
