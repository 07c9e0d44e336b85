-- `pool::new_bases` is right. The loop's invariant: the first i bases are stored, and `to` is the next.
-- Assumes nothing.
use mathlib.Core.Path.{◌≡◌}
use lib.ListN.{length, take}
use Rattle.pool.specs.Pool.{new_base, first_bases}
use Rattle.pool.proofs.new_bases.Given as goal

abbrev pub invariant-loop-i : goal.invariant-loop-i
invariant-loop-i l = (take l.i l.bases ≡ first_bases l.sizes l.i) × (length l.bases ≡ 8) × (l.to ≡ new_base l.sizes l.i)
