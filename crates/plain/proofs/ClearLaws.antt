-- Bytes that become 0 one by one. Assumes nothing.
use mathlib.Core.Path.{◌≡◌, sym, ap, ◌∙◌}
use mathlib.Core.List.{List, [], ◌∷◌, ◌++◌, append_assoc, append-nil}
use Prim.Native.Nat.{ℕ, suc, ◌+◌, ◌<◌}
use native.Mathlib.Omega.{arith}
use lib.ListN.{length, take, drop, get_or, set, replicate, length-append, length-replicate, take-append-drop, replicate-append-replicate}
use lib.Seq.{length-take-le, drop-length, drop-cons, set_at}
use Rattle.plain.specs.Bytes.{cleared_bytes}

module _ (bs : List ℕ) where
  pub cleared-none : (base : ℕ) → bs ≡ cleared_bytes bs base 0
  unfolding cleared_bytes
  cleared-none base =
      let e : base + 0 ≡ base = omega arith in
      rw (e, take-append-drop base bs)

  pub cleared-next : (base n : ℕ) → base + n < length bs → set (cleared_bytes bs base n) (base + n) 0 ≡ cleared_bytes bs base (n + 1)
  unfolding cleared_bytes
  cleared-next base n h =
      let front = take base bs in
      let zeros : List ℕ = replicate n 0 in
      let rest = drop (suc (base + n)) bs in
      let long : length (front ++ zeros) ≡ base + n = length-append front zeros ∙ rw (length-take-le base bs (omega arith), length-replicate {A = ℕ} n 0) in
      let more : zeros ++ (0 ∷ rest) ≡ replicate (n + 1) 0 ++ rest = sym (append_assoc zeros (0 ∷ []) rest) ∙ ap (λ l. l ++ rest) (replicate-append-replicate n 1 0) in
      let end : suc (base + n) ≡ base + (n + 1) = omega arith in
      ap (λ l. set l (base + n) 0) (sym (append_assoc front zeros (drop (base + n) bs)) ∙ ap (λ l. (front ++ zeros) ++ l) (drop-cons bs (base + n) 0 h))
      ∙ set_at (front ++ zeros) (get_or bs (base + n) 0) rest 0 (base + n) long
      ∙ append_assoc front zeros (0 ∷ rest)
      ∙ ap (λ l. front ++ l) (more ∙ ap (λ k. replicate (n + 1) 0 ++ drop k bs) end)

  -- all of them
  pub cleared-all : cleared_bytes bs 0 (length bs) ≡ replicate (length bs) 0
  unfolding cleared_bytes
  cleared-all =
      let e : 0 + length bs ≡ length bs = omega arith in
      rw (e, drop-length bs) (append-nil _)
