-- The promises case by case, a law for each return and each turn. The crate's own. Assumes nothing.
use Prim.Native.Nat.{ℕ, zero, suc, ◌+◌, ◌-◌, ◌*◌, ◌/◌, ◌%◌, ◌^◌, ◌≤◌, ◌<◌}
use mathlib.Core.Path.{◌≡◌, sym, ◌∙◌}
use mathlib.Core.Bool.{false}
use mathlib.Core.List.{List}
use native.Mathlib.Nat.{add-zero, sub-zero, pow-zero, pow-succ', pow-le-pow_right}
use native.Mathlib.Omega.{arith}
use borrow.Author.Tests.{eqb-true, eq-eqb}
use lib.Dec.{eqb, lit<}
use lib.ListN.{length, get_or}
use Rattle.little.specs.Little.{number_at}
use Rattle.rules.proofs.ListLaws.{bool-ext}
use Rattle.rules.specs.ControllerState.{state_size, state_ok}
use Rattle.state_bytes.specs.Parts.{assembled}
use Rattle.state_bytes.proofs.PartLaws.{assembled-length, assembled-before, assembled-at, assembled-past}
use Rattle.state_bytes.proofs.StateLaws.{state_ok-true, state_ok-is, state_ok-short, state_ok-version, state_ok-size, nvme_size-halves, vendor_size-halves}

-- ---- byte_of

module _ (area : List ℕ) (offset : ℕ) (bytes : List ℕ) (i : ℕ) (fits : offset ≤ length area) where
  pub byte-of-area : i < offset → get_or area i 0 ≡ get_or (assembled area offset bytes) i 0
  byte-of-area h = sym (assembled-before area offset bytes i fits h)

  pub byte-of-data : offset ≤ i → get_or bytes (i - offset) 0 ≡ get_or (assembled area offset bytes) i 0
  byte-of-data h =
      let there : offset + (i - offset) ≡ i = omega arith in
      sym (assembled-at area offset bytes (i - offset) fits) ∙ rw there

  pub byte-of-past : offset ≤ i → length bytes ≤ i - offset → 0 ≡ get_or (assembled area offset bytes) i 0
  byte-of-past h k = sym (assembled-past area offset bytes i fits (omega arith))

-- ---- number_of

module _ (x : List ℕ) (at width : ℕ) where
  pub number-of-start : 0 ≡ number_at x (at + width) (width - width)
  unfolding number_at
  number-of-start = let none : width - width ≡ 0 = omega arith in rw none

  pub number-of-again : (i v b : ℕ) → 0 < i → i ≤ width → v ≡ number_at x (at + i) (width - i) → b ≡ get_or x (at + (i - 1)) 0
      → 256 * v + b ≡ number_at x (at + (i - 1)) (width - (i - 1))
  unfolding number_at
  number-of-again i v b h k e f =
      let more : width - (i - 1) ≡ suc (width - i) = omega arith in
      let next : suc (at + (i - 1)) ≡ at + i = omega arith in
      rw (more, next, e, f) (omega arith)

  pub number-of-done : (i v : ℕ) → i ≤ 0 → v ≡ number_at x (at + i) (width - i) → v ≡ number_at x at width
  number-of-done zero v h e = e ∙ rw (add-zero, sub-zero)
  number-of-done (suc i) v h e = absurd (omega arith)

-- the bytes that are read make a number that leaves room for one more
pub room-start : (width : ℕ) → 0 < 256 ^ (width - width)
room-start width = let none : width - width ≡ 0 = omega arith in rw (none, pow-zero) (omega arith)

module _ (width i v : ℕ) (h : 0 < i) (k : i ≤ width) (small : v < 256 ^ (width - i)) where
  pub room-again : (b : ℕ) → b < 256 → 256 * v + b < 256 ^ (width - (i - 1))
  room-again b l =
      let more : width - (i - 1) ≡ suc (width - i) = omega arith in
      rw (more, pow-succ') (omega arith)

  pub room : width ≤ 8 → v < 2 ^ 56
  room l =
      let few : width - i ≤ 7 = omega arith in
      let most : 256 ^ (width - i) ≤ 256 ^ 7 = pow-le-pow_right (lit< tt) few in
      omega arith

-- ---- judge

module _ (area : List ℕ) (offset : ℕ) (bytes : List ℕ) (fits : offset ≤ length area) where
  pub judge-short : offset + length bytes < 48 → false ≡ state_ok (assembled area offset bytes)
  judge-short h = sym (state_ok-short (assembled area offset bytes) (omega (arith, assembled-length area offset bytes fits)))

  pub judge-version : (n : ℕ) → n ≡ number_at (assembled area offset bytes) 0 2 → (n ≡ 0 → ⊥) → false ≡ state_ok (assembled area offset bytes)
  judge-version n e h = sym (state_ok-version (assembled area offset bytes) (λ z. h (e ∙ z)))

  -- a size of 2^64 dwords or more
  pub judge-nvme : (n : ℕ) → length area * 1 < 2 ^ 63 → length bytes * 1 < 2 ^ 63 → n ≡ number_at (assembled area offset bytes) 24 8 → (n ≡ 0 → ⊥)
      → false ≡ state_ok (assembled area offset bytes)
  judge-nvme n ra rb e h =
      let x = assembled area offset bytes in
      sym (state_ok-size x (λ z. h (omega (arith, nvme_size-halves x, assembled-length area offset bytes fits))))

  pub judge-vendor : (n : ℕ) → length area * 1 < 2 ^ 63 → length bytes * 1 < 2 ^ 63 → n ≡ number_at (assembled area offset bytes) 40 8 → (n ≡ 0 → ⊥)
      → false ≡ state_ok (assembled area offset bytes)
  judge-vendor n ra rb e h =
      let x = assembled area offset bytes in
      sym (state_ok-size x (λ z. h (omega (arith, vendor_size-halves x, assembled-length area offset bytes fits))))

  pub judge-odd : 48 ≤ offset + length bytes → ((offset + length bytes - 48) % 4 ≡ 0 → ⊥) → false ≡ state_ok (assembled area offset bytes)
  judge-odd long h =
      let x = assembled area offset bytes in
      sym (state_ok-size x (λ z. h (omega (arith, assembled-length area offset bytes fits))))

  pub judge-long : (n : ℕ) → 48 ≤ offset + length bytes → n ≡ number_at (assembled area offset bytes) 16 8 → (offset + length bytes - 48) / 4 < n
      → false ≡ state_ok (assembled area offset bytes)
  judge-long n long e h =
      let x = assembled area offset bytes in
      sym (state_ok-size x (λ z. omega (arith, nvme_size-halves x, assembled-length area offset bytes fits)))

  -- all else holds: the vendor's size decides
  pub judge-whole : (version high high' nvme vendor : ℕ) → 48 ≤ offset + length bytes → version ≡ number_at (assembled area offset bytes) 0 2 → version ≡ 0
      → high ≡ number_at (assembled area offset bytes) 24 8 → high ≡ 0 → high' ≡ number_at (assembled area offset bytes) 40 8 → high' ≡ 0
      → (offset + length bytes - 48) % 4 ≡ 0 → nvme ≡ number_at (assembled area offset bytes) 16 8 → nvme ≤ (offset + length bytes - 48) / 4
      → vendor ≡ number_at (assembled area offset bytes) 32 8
      → eqb ((offset + length bytes - 48) / 4 - nvme) vendor ≡ state_ok (assembled area offset bytes)
  judge-whole version high high' nvme vendor long e zv f zh g zh' even p few q =
      let x = assembled area offset bytes in
      bool-ext _ _
      (λ t. let same : (offset + length bytes - 48) / 4 - nvme ≡ vendor = eqb-true _ _ t in
      state_ok-is x (record {
        long = omega (arith, assembled-length area offset bytes fits);
        version = omega arith;
        size = omega (arith, nvme_size-halves x, vendor_size-halves x, assembled-length area offset bytes fits);
      }))
      (λ t. let size : length x ≡ state_size x = (state_ok-true x t).size in
      let same : (offset + length bytes - 48) / 4 - nvme ≡ vendor = omega (arith, nvme_size-halves x, vendor_size-halves x, assembled-length area offset bytes fits) in
      eq-eqb _ _ same)
