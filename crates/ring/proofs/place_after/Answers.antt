-- `ring::place_after` is right because at most one ring's length is to be taken off (`place_after-low`, `place_after-high`).
use Rattle.std.proofs.Common.{sym, arith}
use Rattle.ring.proofs.Places.{place_after-low, place_after-high}
use Rattle.ring.proofs.place_after.Goals as goal

pub returns-then-by-left : goal.returns-then-by-left
returns-then-by-left c = (sym (place_after-low _ _ (omega arith) _ (omega arith)), omega arith)

pub returns-else-by-left : goal.returns-else-by-left
returns-else-by-left c =
    (omega (arith, place_after-high c.args.n c.args.place (omega arith) c.args.by (omega arith) (omega arith)), omega arith)
