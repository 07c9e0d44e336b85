use mathlib.Core.Path.{◌≡◌}
use mathlib.Core.List.{List}
use Prim.Native.Nat.{ℕ, ◌+◌, ◌-◌, ◌^◌, ◌<◌, ◌≤◌}
use native.Mathlib.Omega.{arith}
use lib.ListN.{get_or}
use Rattle.little.specs.Little.{number_at}
use Rattle.little.proofs.Numbers.{number_at-none, number_at-turn, number_at-room}
use Rattle.little.proofs.read_number.Goals as goal

-- what is read leaves room for one byte more
room : (s : List ℕ) → ((k : ℕ) → get_or s k 0 < 256) → (at i width v : ℕ) → 0 < i → width ≤ 8 → v ≡ number_at s (at + i) (width - i) → v < 2 ^ 56
room s bytes at i width v h few e = rw e (number_at-room s bytes (at + i) (width - i) (omega arith))

pub loop-i-init : goal.loop-i-init
loop-i-init c = number_at-none _ _ _ (omega arith)

pub overflow_mul-v : goal.overflow_mul-v
overflow_mul-v c =
    let a = c.args in
    omega (arith, room a.s.now (λ k. omega (arith, c.type_inv.s k)) a.at c.loop-i.i a.width c.loop-i.v (omega arith) (omega arith) c.loop-i.invariant)

pub overflow_add-v-in-loop-i : goal.overflow_add-v-in-loop-i
overflow_add-v-in-loop-i c =
    let a = c.args in
    omega (
      arith,
      c.type_inv.s (a.at + (c.loop-i.i - 1)),
      room a.s.now (λ k. omega (arith, c.type_inv.s k)) a.at c.loop-i.i a.width c.loop-i.v (omega arith) (omega arith) c.loop-i.invariant,
    )

pub loop-i-preserved : goal.loop-i-preserved
loop-i-preserved c = number_at-turn _ _ _ _ _ _ (omega arith) (omega arith) c.loop-i.invariant
