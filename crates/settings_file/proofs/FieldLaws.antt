-- Laws of the file's fields: the mark, which settings version 1 holds, and what the writer's stores leave. The crate's own. Assumes nothing.
use Prim.Native.Nat.{ℕ, zero, suc, ◌+◌, ◌-◌, ◌≤◌}
use mathlib.Core.Path.{◌≡◌, refl, sym, ap, ◌∙◌}
use mathlib.Core.Logic.{◌↔◌}
use mathlib.Core.Bool.{Bool, true, false, cond, true≢false}
use mathlib.Core.List.{List, [], ◌∷◌, ◌++◌, append-nil}
use native.Mathlib.Omega.{arith}
use lib.Dec.{eqb}
use lib.ListN.{length, take, replicate, length-append, length-replicate}
use borrow.Author.Tests.{eq-eqb, ne_eqb, eqb-true, eqb-false}
use Rattle.little.specs.Little.{number_bytes, put, records}
use Rattle.little.proofs.Put.{put-append}
use Rattle.little.proofs.Numbers.{number_bytes-length, put-number}
use Rattle.little.proofs.Records.{records-length}
use Rattle.rules.specs.Settings.{managers_of, seconds}
use Rattle.rules.specs.Device.{cleaned}
use Rattle.rules.specs.declared.Settings.{Settings}
use Rattle.std.specs.List.{starts_with}
use Rattle.rules.proofs.ListLaws.{and_left, and_right, eqb_comm}
use Rattle.rules.specs.declared.Second.{Second}
use Rattle.std.specs.declared.option.Option.{Option}
use Rattle.std.specs.declared.option.Option.TheVariants.{None, Some}
use Rattle.settings_file.specs.File.{file_size, mark_ok, mark, identifier_bytes, numbers_bytes, common_bytes, head_bytes, second_bytes, file_bytes, holds}

-- ---- the mark

pub mark-starts : (x : List ℕ) → 5 ≤ length x → starts_with eqb x mark ≡ mark_ok x
unfolding mark_ok
mark-starts [] h = absurd (omega arith)
mark-starts (a ∷ []) h = absurd (omega arith)
mark-starts (a ∷ b ∷ []) h = absurd (omega arith)
mark-starts (a ∷ b ∷ c ∷ x) h = rw (eqb_comm 84 a, eqb_comm 82 b, eqb_comm 75 c)

-- ---- the identifiers' places

pub identifier_bytes-length : (id : ℕ) → length (identifier_bytes id) ≡ 2
identifier_bytes-length id = number_bytes-length 2 id

-- ---- which version holds what

one-manager : (first : ℕ) (m : Option Second) → eqb (length (first ∷ seconds m)) 1 ≡ true → m ≡ None
one-manager first None e = refl
one-manager first (Some two) e = absurd (true≢false (sym e))

pub holds-one : (s : Settings) → (holds 1 s ≡ true) ↔ ((s.second ≡ None) × (s.shelf ≡ 128))
unfolding holds
holds-one s =
    let few = eqb (length (managers_of s)) 1 in
    let most = eqb s.shelf 128 in (
      (λ e. (one-manager s.manager s.second (and_left few most e), eqb-true s.shelf 128 (and_right few most e))),
      (λ h. rw (h.0, eq-eqb s.shelf 128 h.1)),
    )

-- ---- the stores of the writer

pub numbers_bytes-length : (s : Settings) → length (numbers_bytes s) ≡ 8
numbers_bytes-length s = simp (length-append, number_bytes-length)

pub head-stored : (v : ℕ) (s : Settings) (l l₁ l₂ l₃ l₄ : List ℕ) → l₁ ≡ put l 0 mark → l₂ ≡ put l₁ 3 (number_bytes 2 v) → l₃ ≡ put l₂ 5 (numbers_bytes s)
    → l₄ ≡ put l₃ 13 (records identifier_bytes s.identifiers) → l₄ ≡ put l 0 (head_bytes v s)
head-stored v s l l₁ l₂ l₃ l₄ a b c d =
    rw (
      d,
      c,
      b,
      a,
      put-append l 0 mark (number_bytes 2 v ++ common_bytes s),
      put-number (put l 0 mark) 3 2 v (common_bytes s),
      put-append (put (put l 0 mark) 3 (number_bytes 2 v)) 5 (numbers_bytes s) (records identifier_bytes s.identifiers),
      numbers_bytes-length s,
    )

pub head_bytes-length : (v : ℕ) (s : Settings) → length s.identifiers ≡ 8 → length (head_bytes v s) ≡ 29
head_bytes-length v s e =
    rw (
      length-append (number_bytes 2 v) (common_bytes s),
      number_bytes-length 2 v,
      length-append (numbers_bytes s) (records identifier_bytes s.identifiers),
      numbers_bytes-length s,
      records-length identifier_bytes 2 identifier_bytes-length s.identifiers,
      e,
    )

-- what stands behind the head
pub head_more : (l : List ℕ) (v : ℕ) (s : Settings) (b : List ℕ) → length s.identifiers ≡ 8 → put l 0 (head_bytes v s ++ b) ≡ put (put l 0 (head_bytes v s)) 29 b
head_more l v s b e = put-append l 0 (head_bytes v s) b ∙ ap (λ n. put (put l 0 (head_bytes v s)) (0 + n) b) (head_bytes-length v s e)

pub second_bytes-length : (s : Settings) → length (second_bytes s) ≡ 6
second_bytes-length s = simp (length-append, number_bytes-length)

module _ (v : ℕ) (s : Settings) where
  pub file_bytes-one : v ≡ 1 → file_bytes v s ≡ head_bytes v (cleaned s)
  unfolding file_bytes
  file_bytes-one e = ap (λ b. head_bytes v (cleaned s) ++ cond b [] (second_bytes s)) (eq-eqb v 1 e) ∙ append-nil (head_bytes v (cleaned s))

  pub file_bytes-two : (v ≡ 1 → ⊥) → file_bytes v s ≡ head_bytes v (cleaned s) ++ second_bytes s
  unfolding file_bytes
  file_bytes-two e = ap (λ b. head_bytes v (cleaned s) ++ cond b [] (second_bytes s)) (ne_eqb v 1 e)

-- places that are cleaned stay as many
pub cleaned-length : (n : ℕ) (xs : List ℕ) → length (take n xs ++ replicate (length xs - n) 0) ≡ length xs
cleaned-length zero xs = let z : length xs - 0 ≡ length xs = omega arith in rw z (length-replicate (length xs) 0)
cleaned-length (suc n) [] = let z : 0 - suc n ≡ 0 = omega arith in rw z
cleaned-length (suc n) (x ∷ xs) = let z : suc (length xs) - suc n ≡ length xs - n = omega arith in rw z (ap suc (cleaned-length n xs))

-- a file has its version's length
pub file_bytes-length : (v : ℕ) (s : Settings) → length s.identifiers ≡ 8 → length (file_bytes v s) ≡ file_size v
file_bytes-length v s e = go (eqb v 1) refl
  where
    head : length (head_bytes v (cleaned s)) ≡ 29
    head = head_bytes-length v (cleaned s) (cleaned-length s.count s.identifiers ∙ e)

    go : (b : Bool) → eqb v 1 ≡ b → length (file_bytes v s) ≡ file_size v
    go true q = rw q (ap length (file_bytes-one v s (eqb-true v 1 q)) ∙ head)
    go false q =
        rw q (omega (arith, head, ap length (file_bytes-two v s (eqb-false v 1 q)), length-append (head_bytes v (cleaned s)) (second_bytes s), second_bytes-length s))
