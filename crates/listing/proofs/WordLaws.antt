-- Laws of words and of what they take: `word_of`, `most_at` and `takes_count`. The crate's own. Assumes nothing.
use Prim.Native.Nat.{ℕ, zero, suc, ◌%◌, ◌≤◌}
use mathlib.Core.Path.{◌≡◌, refl, sym, ap, ◌∙◌}
use mathlib.Core.Logic.{◌≢◌}
use mathlib.Core.Bool.{Bool, true, false, ◌&&◌, cond, true≢false}
use mathlib.Core.List.{List, [], ◌∷◌}
use native.Mathlib.Omega.{arith}
use borrow.Author.Tests.{eq-eqb, ne_eqb, leb-true, eqb-true}
use lib.Dec.{leb, eqb}
use lib.ListN.{length, get_or}
use Rattle.rules.proofs.ListLaws.{every-at}
use Rattle.fields.specs.Fields.{same_bytes}
use Rattle.listing.specs.Listing.{word_of, most_at, takes_count}
use Rattle.listing.specs.declared.Word.{Word}
use Rattle.listing.specs.declared.Word.TheVariants.{Dev, Start, Stop, Write, Recv, Susp, Resume, Other}

-- ---- word_of

-- the bytes from place i on are these
reads : List ℕ → ℕ → List ℕ → Bool
reads f i [] = true
reads f i (c ∷ w) = eqb (get_or f i 0) c && reads f (suc i) w

reads-behind : (x : ℕ) (f : List ℕ) (i : ℕ) (w : List ℕ) → reads (x ∷ f) (suc i) w ≡ reads f i w
unfolding reads
reads-behind x f i [] = refl
reads-behind x f i (c ∷ w) = ap (λ t. eqb (get_or f i 0) c && t) (reads-behind x f (suc i) w)

eqb-suc : (m n : ℕ) → eqb (suc m) (suc n) ≡ eqb m n
eqb-suc m n = go (eqb m n) refl
  where
    go : (t : Bool) → eqb m n ≡ t → eqb (suc m) (suc n) ≡ t
    go true e = eq-eqb (suc m) (suc n) (ap suc (eqb-true m n e))
    go false e = ne_eqb (suc m) (suc n) (λ q. true≢false (sym (eq-eqb m n (omega arith)) ∙ e))

-- length and bytes
same_reads : (f w : List ℕ) → same_bytes f w ≡ (eqb (length f) (length w) && reads f 0 w)
unfolding same_bytes reads
same_reads [] [] = refl
same_reads [] (c ∷ w) = rw (ne_eqb 0 (suc (length w)) (λ q. absurd (omega arith)))
same_reads (x ∷ f) [] = rw (ne_eqb (suc (length f)) 0 (λ q. absurd (omega arith)))
same_reads (x ∷ f) (c ∷ w) = rw (reads-behind x f 0 w, same_reads f w, eqb-suc (length f) (length w)) (turned (eqb x c) (eqb (length f) (length w)) (reads f 0 w))
  where
    turned : (a b c : Bool) → (a && (b && c)) ≡ (b && (a && c))
    turned true true c = refl
    turned true false c = refl
    turned false true c = refl
    turned false false c = refl

pub word_of_reads : (f : List ℕ) → word_of f ≡ cond (eqb (length f) 3 && (eqb (get_or f 0 0) 100 && (eqb (get_or f 1 0) 101 && (eqb (get_or f 2 0) 118 && true)))) Dev (cond (eqb (length f) 5 && (eqb (get_or f 0 0) 115 && (eqb (get_or f 1 0) 116 && (eqb (get_or f 2 0) 97 && (eqb (get_or f 3 0) 114 && (eqb (get_or f 4 0) 116 && true)))))) Start (cond (eqb (length f) 4 && (eqb (get_or f 0 0) 115 && (eqb (get_or f 1 0) 116 && (eqb (get_or f 2 0) 111 && (eqb (get_or f 3 0) 112 && true))))) Stop (cond (eqb (length f) 5 && (eqb (get_or f 0 0) 119 && (eqb (get_or f 1 0) 114 && (eqb (get_or f 2 0) 105 && (eqb (get_or f 3 0) 116 && (eqb (get_or f 4 0) 101 && true)))))) Write (cond (eqb (length f) 4 && (eqb (get_or f 0 0) 114 && (eqb (get_or f 1 0) 101 && (eqb (get_or f 2 0) 99 && (eqb (get_or f 3 0) 118 && true))))) Recv (cond (eqb (length f) 4 && (eqb (get_or f 0 0) 115 && (eqb (get_or f 1 0) 117 && (eqb (get_or f 2 0) 115 && (eqb (get_or f 3 0) 112 && true))))) Susp (cond (eqb (length f) 6 && (eqb (get_or f 0 0) 114 && (eqb (get_or f 1 0) 101 && (eqb (get_or f 2 0) 115 && (eqb (get_or f 3 0) 117 && (eqb (get_or f 4 0) 109 && (eqb (get_or f 5 0) 101 && true))))))) Resume (Other)))))))
unfolding word_of reads
word_of_reads f = rw (same_reads f (100 ∷ 101 ∷ 118 ∷ []), same_reads f (115 ∷ 116 ∷ 97 ∷ 114 ∷ 116 ∷ []), same_reads f (115 ∷ 116 ∷ 111 ∷ 112 ∷ []), same_reads f (119 ∷ 114 ∷ 105 ∷ 116 ∷ 101 ∷ []), same_reads f (114 ∷ 101 ∷ 99 ∷ 118 ∷ []), same_reads f (115 ∷ 117 ∷ 115 ∷ 112 ∷ []), same_reads f (114 ∷ 101 ∷ 115 ∷ 117 ∷ 109 ∷ 101 ∷ []))

-- ---- most_at

module _ (w : Word) (i : ℕ) where
  pub most-dev : w ≡ Dev → i ≢ 1 → i ≢ 2 → i ≢ 3 → 65535 ≡ most_at w i
  most-dev e = rw e (go i)
    where
      go : (i : ℕ) → i ≢ 1 → i ≢ 2 → i ≢ 3 → 65535 ≡ most_at Dev i
      go zero a b c = refl
      go (suc zero) a b c = absurd (a refl)
      go (suc (suc zero)) a b c = absurd (b refl)
      go (suc (suc (suc zero))) a b c = absurd (c refl)
      go (suc (suc (suc (suc zero)))) a b c = refl
      go (suc (suc (suc (suc (suc i))))) a b c = refl

  -- past the identifier and the granularity, whatever stands there
  past-start : (d : ℕ) → i ≢ 0 → i ≢ 1 → d ≡ get_or (65535 ∷ 255 ∷ []) i d
  past-start d = go i
    where
      go : (i : ℕ) → i ≢ 0 → i ≢ 1 → d ≡ get_or (65535 ∷ 255 ∷ []) i d
      go zero a b = absurd (a refl)
      go (suc zero) a b = absurd (b refl)
      go (suc (suc i)) a b = refl

  pub most-start-length : w ≡ Start → i ≢ 0 → i ≢ 1 → i % 2 ≢ 0 → 4294967295 ≡ most_at w i
  most-start-length e a b odd = rw (e, ne_eqb (i % 2) 0 odd) (past-start 4294967295 a b)

-- ---- takes_count

-- no word takes more than 34
pub takes-few : (w : Word) (n : ℕ) → takes_count w n ≡ true → n ≤ 34
takes-few Dev n e = omega (arith, leb-true n 13 (every-at (leb 5 n ∷ leb n 13 ∷ []) 1 e))
takes-few Start n e = leb-true n 34 (every-at (leb 2 n ∷ eqb (n % 2) 0 ∷ leb n 34 ∷ []) 2 e)
takes-few Stop n e = omega (arith, eqb-true n 1 e)
takes-few Write n e = omega (arith, eqb-true n 3 e)
takes-few Recv n e = omega (arith, eqb-true n 2 e)
takes-few Susp n e = omega (arith, eqb-true n 2 e)
takes-few Resume n e = omega (arith, eqb-true n 1 e)
takes-few Other n e = absurd (true≢false (sym e))
