-- "The team proves that any two results allowed by a promise are equal" (document 01, "How far each promise reaches"): of every public function. `Post` of a
-- function's `Reads` is its contract as the checker reads it off the source: of its arguments, its result and what it was lent, at exit.
use Rattle.std.specs.Prelude.{◌≡◌, List, ℕ}
use Rattle.rules.specs.Promise.{Determinate}
use Rattle.rules.specs.declared.Device.{Device}
use Rattle.calls.specs.declared.WriteRecord.{WriteRecord}
use Rattle.calls.specs.declared.Batched.{Batched}
use Rattle.demands.specs.CallContracts.{Promised}
use Rattle.fresh.proofs.fresh.Reads as fresh
use Rattle.track_send.proofs.start.Reads as start
use Rattle.track_send.proofs.stop.Reads as stop
use Rattle.writes.proofs.write.Reads as write
use Rattle.writes.proofs.batch_of.Reads as batch-of
use Rattle.track_receive.proofs.receive.Reads as receive
use Rattle.migration_send.proofs.suspend.Reads as suspend
use Rattle.migration_send.proofs.resume.Reads as resume
use Rattle.controller_state.proofs.set_state.Reads as set-state
use Rattle.queue.proofs.make_queue.Reads as make-queue
use Rattle.queue.proofs.post.Reads as post
use Rattle.queue.proofs.take.Reads as take_queue
use Rattle.start_data.proofs.read_header.Reads as read-header
use Rattle.start_data.proofs.read_ranges.Reads as read-ranges
use Rattle.start_data.proofs.read_start.Reads as read-start
use Rattle.start_data.proofs.write_start.Reads as write-start
use Rattle.report_reader.proofs.tmc_report_refusal.Reads as refusal
use Rattle.report_reader.proofs.tmc_report_bad_index.Reads as bad_index
use Rattle.report_reader.proofs.tmc_report_suspended.Reads as suspended
use Rattle.report_reader.proofs.tmc_report_more.Reads as more
use Rattle.report_reader.proofs.tmc_report_identifier.Reads as identifier
use Rattle.report_reader.proofs.tmc_report_granularity.Reads as granularity
use Rattle.report_reader.proofs.tmc_report_count.Reads as count
use Rattle.report_reader.proofs.tmc_report_refusal_at.Reads as refusal-at
use Rattle.report_reader.proofs.tmc_report_address.Reads as address
use Rattle.report_reader.proofs.tmc_report_length.Reads as length-of
use Rattle.report_reader.proofs.tmc_report_run_address.Reads as run_address
use Rattle.report_reader.proofs.tmc_report_run_length.Reads as run_length
use Rattle.listing.proofs.read_line.Reads as read-line

-- the calls: the answer, and every word of the marks that were lent to be changed
pub record Calls : Type 1 where
  pub fresh : (κs : _) (a : _) (r r' : _) (e e' : _) → fresh.Post κs a r e → fresh.Post κs a r' e' → (r ≡ r') × (e.1.0.now ≡ e'.1.0.now)
  pub start : (κs : _) (a : _) (r r' : _) (e e' : _) → start.Post κs a r e → start.Post κs a r' e' → (r ≡ r') × (e.1.0.now ≡ e'.1.0.now)
  pub stop : (κs : _) (a : _) (r r' : _) (e e' : _) → stop.Post κs a r e → stop.Post κs a r' e' → (r ≡ r') × (e.1.0.now ≡ e'.1.0.now)
  pub write : (κs : _) (a : _) (r r' : _) (e e' : _) → write.Post κs a r e → write.Post κs a r' e' → (r ≡ r') × (e.1.0.now ≡ e'.1.0.now)
  pub batch : (d : Device) (ws : List ℕ) (rs : List WriteRecord) (r r' : Batched) (l l' : List ℕ) → Promised d ws rs r l → Promised d ws rs r' l' → (r ≡ r') × (l ≡ l')
  pub batch-of : (κs : _) (a : _) (r r' : _) (e e' : _) → batch-of.Post κs a r e → batch-of.Post κs a r' e' → (r ≡ r') × (e.1.0.now ≡ e'.1.0.now)
  -- and every byte of the buffer
  pub receive : (κs : _) (a : _) (r r' : _) (e e' : _) → receive.Post κs a r e → receive.Post κs a r' e'
      → (r ≡ r') × (e.1.0.now ≡ e'.1.0.now) × (e.1.1.1.1.0.now ≡ e'.1.1.1.1.0.now)
  pub suspend : Determinate suspend.Post
  pub resume : Determinate resume.Post
  -- and every byte of the area
  pub set-state : (κs : _) (a : _) (r r' : _) (e e' : _) → set-state.Post κs a r e → set-state.Post κs a r' e' → (r ≡ r') × (e.1.1.0.now ≡ e'.1.1.0.now)
  pub make-queue : Determinate make-queue.Post
  pub post : (κs : _) (a : _) (r r' : _) (e e' : _) → post.Post κs a r e → post.Post κs a r' e' → (r ≡ r') × (e.1.1.0.now ≡ e'.1.1.0.now)
  -- and of its buffer
  pub take_queue : (κs : _) (a : _) (r r' : _) (e e' : _) → take_queue.Post κs a r e → take_queue.Post κs a r' e'
      → (r ≡ r') × (e.1.1.1.1.1.0.now ≡ e'.1.1.1.1.1.0.now)

-- the start structure's readers and its writer, with every byte of the buffer
pub record Structure : Type 1 where
  pub read-header : Determinate read-header.Post
  pub read-ranges : Determinate read-ranges.Post
  pub read-start : Determinate read-start.Post
  pub write-start : (κs : _) (a : _) (r r' : _) (e e' : _) → write-start.Post κs a r e → write-start.Post κs a r' e' → (r ≡ r') × (e.0.now ≡ e'.0.now)

-- the report's reader
pub record ReportReader : Type 1 where
  pub refusal : Determinate refusal.Post
  pub bad_index : Determinate bad_index.Post
  pub suspended : Determinate suspended.Post
  pub more : Determinate more.Post
  pub identifier : Determinate identifier.Post
  pub granularity : Determinate granularity.Post
  pub count : Determinate count.Post
  pub refusal-at : Determinate refusal-at.Post
  pub address : Determinate address.Post
  pub length : Determinate length-of.Post
  pub run_address : Determinate run_address.Post
  pub run_length : Determinate run_length.Post

pub record Determinacy : Type 1 where
  pub calls : Calls
  pub structure : Structure
  pub report-reader : ReportReader
  -- the reader of a listing's line
  pub read-line : Determinate read-line.Post
