-- `little::read` is right because a number of so many bytes fits them (`number_at-bound`).
use native.Mathlib.Omega.{arith}
use Rattle.little.proofs.Numbers.{number_at-bound}
use Rattle.little.proofs.read.Goals as goal

pub of-requires : goal.of-requires
of-requires g c = rw (c.read_number.ensures, c.BYTES.ensures) (number_at-bound c.args.s.now (λ k. omega (arith, c.type_inv.s k)) c.args.at g.N.Number.BYTES)
