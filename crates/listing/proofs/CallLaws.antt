-- Laws of `call_line` and `taken_line`: the line of each word, and what a line's numbers stand in. The crate's own. Assumes nothing.
use Prim.Native.Nat.{ℕ, ◌+◌, ◌-◌, ◌*◌, ◌/◌, ◌%◌, ◌≤◌, ◌<◌}
use mathlib.Core.Path.{◌≡◌, refl, sym, ◌∙◌}
use mathlib.Core.Bool.{true}
use mathlib.Core.List.{List, [], ◌∷◌}
use native.Mathlib.Omega.{arith}
use borrow.Author.Tests.{le-leb, eq-eqb, leb-true, eqb-true}
use lib.Dec.{leb, eqb}
use lib.ListN.{length, get_or, take, drop, replicate, length-drop}
use lib.Seq.{take-length}
use Rattle.std.proofs.lemmas.List.{get_or-drop}
use Rattle.little.specs.Little.{put, records_at}
use Rattle.little.proofs.Put.{put-nil}
use Rattle.little.proofs.Records.{records_at-length, records_at-at, records_at-is}
use Rattle.rules.specs.StartData.{no_range, placed}
use Rattle.rules.proofs.ListLaws.{every-at}
use Rattle.listing.specs.Listing.{most_at, takes_count, plain_line, pair_at, identifier_at, call_line}
use Rattle.listing.specs.Inner.{Fit, taken_line}
use Rattle.listing.specs.declared.Call.TheVariants as call
use Rattle.listing.specs.declared.Word.{Word}
use Rattle.listing.specs.declared.Word.TheVariants as word
use Rattle.listing.proofs.WordLaws.{most-dev, most-start-length}

-- ---- numbers behind the first ones

behind-length : (k : ℕ) (ns : List ℕ) → take (length ns - k) (drop k ns) ≡ drop k ns
behind-length k ns = rw (← length-drop k ns) (take-length (drop k ns))

identifiers-behind : (ns : List ℕ) → records_at identifier_at 1 ns 5 (length ns - 5) ≡ drop 5 ns
identifiers-behind ns =
    records_at-is identifier_at 1 ns 5 (length ns - 5) (drop 5 ns) 0 (length-drop 5 ns)
    (λ i h. let e : 5 + 1 * i ≡ 5 + i = omega arith in rw e (sym (get_or-drop 5 ns i 0)))

-- records that are read alike
records-same : {A : Type 0} (read : List ℕ → ℕ → A) (w : ℕ) (xs ys : List ℕ) (at to n : ℕ) (d : A)
    → ((i : ℕ) → i < n → read xs (at + w * i) ≡ read ys (to + w * i)) → records_at read w xs at n ≡ records_at read w ys to n
records-same read w xs ys at to n d each =
    records_at-is read w xs at n (records_at read w ys to n) d (records_at-length read w ys to n) (λ i h. each i h ∙ sym (records_at-at read w ys to n i d h))

pair_same : (xs ys : List ℕ) (at to : ℕ) → get_or xs at 0 ≡ get_or ys to 0 → get_or xs (at + 1) 0 ≡ get_or ys (to + 1) 0 → pair_at xs at ≡ pair_at ys to
pair_same xs ys at to p q = rw (p, q)

pairs-behind : (ns : List ℕ) (n : ℕ) → records_at pair_at 2 (drop 2 ns) 0 n ≡ records_at pair_at 2 ns 2 n
pairs-behind ns n =
    records-same pair_at 2 (drop 2 ns) ns 0 2 n no_range
    (λ i h.
    pair_same (drop 2 ns) ns (0 + 2 * i) (2 + 2 * i)
    (let e : 2 + 2 * i ≡ 2 + (0 + 2 * i) = omega arith in rw e (get_or-drop 2 ns (0 + 2 * i) 0))
    (let e : 2 + 2 * i + 1 ≡ 2 + (0 + 2 * i + 1) = omega arith in rw e (get_or-drop 2 ns (0 + 2 * i + 1) 0)))

-- ---- the line of each word

module _ (w : Word) (ns : List ℕ) where
  pub dev_line : w ≡ word.Dev → 5 ≤ length ns → length (take (length ns - 5) (drop 5 ns)) ≤ 8
      → (record {
        call = call.Dev (get_or ns 0 0) (get_or ns 1 0) (get_or ns 2 0) (eqb (get_or ns 3 0) 1) (get_or ns 4 0) (length (take (length ns - 5) (drop 5 ns)));
        identifiers = put (replicate 8 0) 0 (take (length ns - 5) (drop 5 ns));
        ranges = replicate 16 no_range;
      })
      ≡ taken_line w ns
  unfolding call_line
  dev_line e few many =
      let l = length-drop 5 ns in
      let most : length ns ≤ 13 = omega (arith, rw (behind-length 5 ns) at many) in
      rw (e, le-leb 5 (length ns) few, le-leb (length ns) 13 most, behind-length 5 ns, identifiers-behind ns, l, put-nil (replicate 16 no_range) 0)

  pub start_line : w ≡ word.Start → 2 ≤ length ns → length (take (length ns - 2) (drop 2 ns)) ≤ 32 → length (take (length ns - 2) (drop 2 ns)) % 2 ≡ 0
      → (record {
        call = call.Start (get_or ns 0 0) (get_or ns 1 0) (length (take (length ns - 2) (drop 2 ns)) / 2);
        identifiers = replicate 8 0;
        ranges = placed (records_at pair_at 2 (take (length ns - 2) (drop 2 ns)) 0 (length (take (length ns - 2) (drop 2 ns)) / 2));
      })
      ≡ taken_line w ns
  unfolding call_line
  start_line e few many pairs =
      let l = length-drop 2 ns in
      let m = rw (behind-length 2 ns, l) at many in
      let p = rw (behind-length 2 ns, l) at pairs in
      let most : length ns ≤ 34 = omega arith in
      let even : length ns % 2 ≡ 0 = omega arith in
      rw (e, le-leb 2 (length ns) few, le-leb (length ns) 34 most, eq-eqb (length ns % 2) 0 even, behind-length 2 ns, l, pairs-behind ns)

  pub stop_line : w ≡ word.Stop → length ns ≡ 1 → plain_line (call.Stop (get_or ns 0 0)) ≡ taken_line w ns
  unfolding call_line
  stop_line e n = rw (e, eq-eqb (length ns) 1 n)

  pub write_line : w ≡ word.Write → length ns ≡ 3 → plain_line (call.Write (get_or ns 0 0) (get_or ns 1 0) (get_or ns 2 0)) ≡ taken_line w ns
  unfolding call_line
  write_line e n = rw (e, eq-eqb (length ns) 3 n)

  pub recv_line : w ≡ word.Recv → length ns ≡ 2 → plain_line (call.Recv (get_or ns 0 0) (get_or ns 1 0)) ≡ taken_line w ns
  unfolding call_line
  recv_line e n = rw (e, eq-eqb (length ns) 2 n)

  pub susp_line : w ≡ word.Susp → length ns ≡ 2 → plain_line (call.Susp (get_or ns 0 0) (get_or ns 1 0)) ≡ taken_line w ns
  unfolding call_line
  susp_line e n = rw (e, eq-eqb (length ns) 2 n)

  pub resume_line : w ≡ word.Resume → length ns ≡ 1 → plain_line (call.Resume (get_or ns 0 0)) ≡ taken_line w ns
  unfolding call_line
  resume_line e n = rw (e, eq-eqb (length ns) 1 n)

  -- the identifiers of a `dev`, and the lengths of a `start`, fit
  pub identifiers-fit : w ≡ word.Dev → Fit w ns → Fit word.Stop (take (length ns - 5) (drop 5 ns))
  identifiers-fit e fit k h =
      let l = rw (behind-length 5 ns, length-drop 5 ns) at h in
      let m : 65535 ≡ most_at w (5 + k) = most-dev w (5 + k) e (λ p. omega arith) (λ p. omega arith) (λ p. omega arith) in
      rw (behind-length 5 ns, get_or-drop 5 ns k 0, m) (fit (5 + k) (omega arith))

  pub lengths-fit : w ≡ word.Start → Fit w ns → (k : ℕ) → k < length (take (length ns - 2) (drop 2 ns)) / 2 → get_or (take (length ns - 2) (drop 2 ns)) (2 * k + 1) 0 ≤ 4294967295
  lengths-fit e fit k h =
      let l = rw (behind-length 2 ns, length-drop 2 ns) at h in
      let m : 4294967295 ≡ most_at w (2 + (2 * k + 1)) = most-start-length w (2 + (2 * k + 1)) e (λ p. omega arith) (λ p. omega arith) (λ p. omega arith) in
      rw (behind-length 2 ns, get_or-drop 2 ns (2 * k + 1) 0, m) (fit (2 + (2 * k + 1)) (omega arith))

-- ---- numbers that are the same as far as a word takes them

pub call_line-same : (w : Word) (n : ℕ) (xs ys : List ℕ) → takes_count w n ≡ true → ((k : ℕ) → k < n → get_or xs k 0 ≡ get_or ys k 0) → call_line w n xs ≡ call_line w n ys
unfolding call_line
call_line-same word.Dev n xs ys e same =
    let few = leb-true 5 n (every-at (leb 5 n ∷ leb n 13 ∷ []) 0 e) in
    rw (
      same 0 (omega arith),
      same 1 (omega arith),
      same 2 (omega arith),
      same 3 (omega arith),
      same 4 (omega arith),
      records-same identifier_at 1 xs ys 5 5 (n - 5) 0 (λ i h. same (5 + 1 * i) (omega arith)),
    )
call_line-same word.Start n xs ys e same =
    let few = leb-true 2 n (every-at (leb 2 n ∷ eqb (n % 2) 0 ∷ leb n 34 ∷ []) 0 e) in
    rw (
      same 0 (omega arith),
      same 1 (omega arith),
      records-same pair_at 2 xs ys 2 2 ((n - 2) / 2) no_range (λ i h. pair_same xs ys (2 + 2 * i) (2 + 2 * i) (same (2 + 2 * i) (omega arith)) (same (2 + 2 * i + 1) (omega arith))),
    )
call_line-same word.Stop n xs ys e same = rw (same 0 (omega (arith, eqb-true n 1 e)))
call_line-same word.Write n xs ys e same = let m = eqb-true n 3 e in rw (same 0 (omega arith), same 1 (omega arith), same 2 (omega arith))
call_line-same word.Recv n xs ys e same = let m = eqb-true n 2 e in rw (same 0 (omega arith), same 1 (omega arith))
call_line-same word.Susp n xs ys e same = let m = eqb-true n 2 e in rw (same 0 (omega arith), same 1 (omega arith))
call_line-same word.Resume n xs ys e same = rw (same 0 (omega (arith, eqb-true n 1 e)))
call_line-same word.Other n xs ys e same = refl
