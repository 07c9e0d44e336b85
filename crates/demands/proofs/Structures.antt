-- The start structure is read and written without loss: the promises of its writer and of its reader, put together, by the rules' own round trips.
-- Assumes nothing.
use mathlib.Core.Path.{◌≡◌, refl, sym, ap, ◌∙◌}
use mathlib.Core.Bool.{Bool, true, false, cond}
use mathlib.Core.List.{List, []}
use Prim.Native.Nat.{ℕ, ◌≤◌, ◌<◌}
use native.Mathlib.Omega.{arith}
use lib.Dec.{leb}
use lib.ListN.{length, take, drop, get_or}
use lib.Seq.{length-take-le, get_or-take}
use borrow.Author.Tests.{le-leb, leb-true, leb-false}
use Rattle.little.proofs.Put.{put-take-front}
use Rattle.rules.specs.Refusals.{refusal}
use Rattle.rules.specs.StartData.{granularity_of, count_of, ranges_of, no_range, placed, start_size, read_tests, start_data, start_bytes, write_tests, start_written}
use Rattle.rules.specs.Demands.{Fits, Bytes}
use Rattle.rules.specs.declared.Range.{Range}
use Rattle.rules.specs.declared.Header.TheVariants.{Is, Refused}
use Rattle.rules.specs.declared.StartData.{StartData}
use Rattle.rules.proofs.RefusalLaws.{verdict-has}
use Rattle.rules.proofs.StartLaws as rules
use Rattle.start_data.proofs.Answers.{start_written-refused}
use Rattle.demands.specs.Structures.{WithoutLoss}

-- what the writer's tests say where they are passed
write-passed : (size n : ℕ) → refusal (write_tests size n) ≡ 0 → (n ≤ 16) × (start_size n ≤ size)
write-passed size n = go (leb n 16) (leb (start_size n) size) refl refl
  where
    go : (a b : Bool) → leb n 16 ≡ a → leb (start_size n) size ≡ b → ◌≡◌ {A = ℕ} (cond a (cond b 0 8) 18) 0 → (n ≤ 16) × (start_size n ≤ size)
    go true true p q e = (leb-true n 16 p, leb-true (start_size n) size q)
    go true false p q e = absurd (omega (arith, e))
    go false b p q e = absurd (omega (arith, e))

-- a structure that was read lists at most 16 ranges, and has them
read-passed : (x : List ℕ) (g n : ℕ) → (start_data x).header ≡ Is g n → (n ≤ 16) × (start_size n ≤ length x)
unfolding start_data
read-passed x g n =
    verdict-has (λ (d : StartData). d.header ≡ Is g n → (n ≤ 16) × (start_size n ≤ length x)) (λ k at. record { header = Refused k at; ranges = placed [] })
    (λ k at e. let z : ◌≡◌ {A = ℕ} 0 1 = cc in absurd (omega arith))
    (read_tests x) (record { header = Is (granularity_of x) (count_of x); ranges = placed (ranges_of x) })
    (λ p e. let c : count_of x ≡ n = cc in (rw c at (leb-true (count_of x) 16 p.1.1.0), rw c at (leb-true (start_size (count_of x)) (length x) p.1.1.1.0)))

module _ (buffer : List ℕ) (g n : ℕ) (ranges : List Range) (sixteen : length ranges ≡ 16) where
  read_written : refusal (write_tests (length buffer) n) ≡ 0 → g < 256 → ((i : ℕ) → i < n → Fits (get_or ranges i no_range))
      → start_data (start_written buffer g n (take n ranges)) ≡ record { header = Is g n; ranges = placed (take n ranges) }
  read_written e small fit =
      let p = write-passed (length buffer) n e in
      let few : length (take n ranges) ≡ n = length-take-le n ranges (omega (arith, p.0)) in
      rw few at ((rules.without-loss).read_written buffer g (take n ranges) small
      (λ i h. rw (get_or-take n ranges i no_range (omega (arith, h, few))) (fit i (omega (arith, h, few)))) (omega (arith, few, p.0)) (rw few p.1))

  rest : drop (start_size n) (start_written buffer g n (take n ranges)) ≡ drop (start_size n) buffer
  rest = go (leb n 16) refl
    where
      go : (b : Bool) → leb n 16 ≡ b → drop (start_size n) (start_written buffer g n (take n ranges)) ≡ drop (start_size n) buffer
      go true e =
          let few : length (take n ranges) ≡ n = length-take-le n ranges (omega (arith, leb-true n 16 e)) in
          rw few at ((rules.without-loss).rest buffer g n (take n ranges))
      go false e = ap (drop (start_size n)) (start_written-refused buffer g n (take n ranges) (λ z. let r = write-passed (length buffer) n z in omega (arith, r.0, leb-false n 16 e)))

written_read : (x buffer : List ℕ) (g n : ℕ) (r : StartData) (ranges : List Range) → r ≡ start_data x → r.header ≡ Is g n → ranges ≡ r.ranges → Bytes x → get_or x 1 0 ≡ 0
    → get_or x 2 0 ≡ 0 → start_size n ≤ length buffer → (refusal (write_tests (length buffer) n) ≡ 0) × (take (start_size n) (start_written buffer g n (take n ranges)) ≡ take (start_size n) x)
unfolding start_written
written_read x buffer g n r ranges e is listed bytes zero zero' long =
    let e : start_data x ≡ record { header = Is g n; ranges = ranges } = sym e ∙ rw (listed, ← is) in
    let p = read-passed x g n (ap (λ (d : StartData). d.header) e) in
    let same : start_bytes g (take n ranges) ≡ take (start_size n) x = (rules.without-loss).written_read x g n ranges bytes zero zero' e in
    let size : length (start_bytes g (take n ranges)) ≡ start_size n = ap length same ∙ length-take-le (start_size n) x p.1 in
    rw (le-leb n 16 p.0, le-leb (start_size n) (length buffer) long) (refl, put-take-front buffer (start_size n) (start_bytes g (take n ranges)) size long ∙ same)

pub without-loss : WithoutLoss
without-loss =
    record {
      read_written = λ κs a number e w κs' a' r e' q done same small sixteen fit.
          q.is ∙ ap start_data (same ∙ w.1) ∙ read_written _ _ _ _ sixteen (sym w.0 ∙ done) small fit;
      written_read = λ κs a r e q κs' a' number e' w is same bytes zero zero' long.
          let z = written_read _ _ _ _ r _ q.is is same bytes zero zero' long in
          (w.0 ∙ z.0, rw w.1 z.1);
      rest = λ κs a number e w sixteen. rw w.1 (rest a.0.now a.1.0 a.1.1.0 a.1.1.1.0 sixteen);
      refused = λ κs a number e w h. w.1 ∙ start_written-refused _ _ _ _ (λ z. h (w.0 ∙ z));
    }
