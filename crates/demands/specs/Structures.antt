-- "Start structures are read and written without loss": the promises of the writer and of the reader, put together. `Post` of a function's `Reads` is its
-- contract as the checker reads it off the source: of its arguments, its result and what it was lent, at exit. The writer's arguments are the buffer, the
-- granularity, the count and the 16 ranges; the reader's the bytes.
use Rattle.std.specs.Prelude.{ℕ, ◌≤◌, ◌<◌, ◌≡◌, ◌≢◌, length, take, drop, get_or}
use Rattle.rules.specs.StartData.{no_range, start_size, placed}
use Rattle.rules.specs.Demands.{Fits, Bytes}
use Rattle.rules.specs.declared.Header.TheVariants.{Is}
use Rattle.start_data.proofs.write_start.Reads as write-start
use Rattle.start_data.proofs.read_start.Reads as read-start

pub record WithoutLoss : Type 1 where
  -- reading what was written gives the same values
  pub read_written : (κs : _) (a : _) (number : _) (e : _) → write-start.Post κs a number e → (κs' : _) (a' : _) (r : _) (e' : _) → read-start.Post κs' a' r e'
      → let g = a.1.0 in
      let n = a.1.1.0 in
      let ranges = a.1.1.1.0 in
      number ≡ 0 → a'.0.now ≡ e.0.now → g < 256 → length ranges ≡ 16 → ((i : ℕ) → i < n → Fits (get_or ranges i no_range))
      → r ≡ record { header = Is g n; ranges = placed (take n ranges) }
  -- writing what was read gives the same bytes where the reserved bytes were zero, in any buffer that is long enough
  pub written_read : (κs : _) (a : _) (r : _) (e : _) → read-start.Post κs a r e → (κs' : _) (a' : _) (number : _) (e' : _) → write-start.Post κs' a' number e'
      → let x = a.0.now in
      let g = a'.1.0 in
      let n = a'.1.1.0 in
      r.header ≡ Is g n → a'.1.1.1.0 ≡ r.ranges → Bytes x → get_or x 1 0 ≡ 0 → get_or x 2 0 ≡ 0 → start_size n ≤ length a'.0.now
      → (number ≡ 0) × (take (start_size n) e'.0.now ≡ take (start_size n) x)
  -- bytes after the structure are unchanged, and a refused writer changes none
  pub rest : (κs : _) (a : _) (number : _) (e : _) → write-start.Post κs a number e
      → let n = a.1.1.0 in
      length a.1.1.1.0 ≡ 16 → drop (start_size n) e.0.now ≡ drop (start_size n) a.0.now
  pub refused : (κs : _) (a : _) (number : _) (e : _) → write-start.Post κs a number e → number ≢ 0 → e.0.now ≡ a.0.now
