-- The pool: each of 8 places has a share of the marks, `size` bits from `base` on (size 0: none). Packing moves the shares together.
-- `packed`, `new_base`, `new_bases` and `Packs` are the interface; `marks_of`, `joined` and `padded` serve `packed`, `first_bases` serves `new_bases`.
-- Their laws are in proofs/Pool.antt, worked examples in proofs/Examples.antt.
use Rattle.std.specs.Prelude.{◌≡◌, Bool, false, cond, List, [], ◌∷◌, ◌++◌, ℕ, zero, suc, ◌+◌, ◌-◌, ◌≤◌, ◌<◌, eqb, length, get_or, replicate}
use Rattle.bits.specs.Share.{get_share}

-- n bits: those given, and clear ones behind them
unfoldable pub padded : ℕ → List Bool → List Bool
padded n l = l ++ replicate (n - length l) false

-- where the share at place i begins once packed: behind the shares of the places before it
unfoldable pub new_base : List ℕ → ℕ → ℕ
new_base sizes zero = 0
new_base sizes (suc i) = new_base sizes i + get_or sizes i 0

-- where the first n shares then begin
unfoldable pub first_bases : List ℕ → ℕ → List ℕ
first_bases sizes zero = []
first_bases sizes (suc n) = first_bases sizes n ++ (new_base sizes n ∷ [])

-- where the 8 shares then begin
unfoldable pub new_bases : List ℕ → List ℕ
new_bases sizes = first_bases sizes 8

-- ---- packing these bits, with shares at these bases and of these sizes, of which the one at the place `clear` loses its marks
module _ (bits : List Bool) (bases sizes : List ℕ) (clear : ℕ) where
  -- the marks of the share at place i: as they were, or, at the place `clear`, as many clear ones
  unfoldable pub marks_of : ℕ → List Bool
  marks_of i = cond (eqb i clear) (replicate (get_or sizes i 0) false) (get_share bits (get_or bases i 0) (get_or sizes i 0))

  -- the marks of the first n shares, one share after another
  unfoldable pub joined : ℕ → List Bool
  joined zero = []
  joined (suc n) = joined n ++ marks_of n

  -- the marks of the 8 shares from bit 0 on, and clear bits behind them, as many in all as there were
  unfoldable pub packed : List Bool
  packed = padded (length bits) (joined 8)

-- what a caller sees to, of marks held one an element in any list: each share that is kept and has marks lies within it, and all shares together fit there
pub record Packs {A : Type 0} (marks : List A) (bases sizes : List ℕ) (clear : ℕ) : Type 0 where
  pub inside : (i : ℕ) → i < 8 → (i ≡ clear → ⊥) → 1 ≤ get_or sizes i 0 → get_or bases i 0 + get_or sizes i 0 ≤ length marks
  pub fits : new_base sizes 8 ≤ length marks
