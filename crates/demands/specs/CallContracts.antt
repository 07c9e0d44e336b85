-- What ties the source to the statements: each public function asks nothing of its caller ("Nothing is assumed of the caller"), and what its contract promises
-- is what the demands speak of. `Pre` and `Post` of a function's `Reads` are its contract as the checker reads it off the source: of its arguments, its result
-- and what it was lent, at exit. The arguments `a` are taken in their order in the source.
use Rattle.std.specs.Prelude.{◌≡◌, List, [], ◌∷◌, ℕ, ◌<◌, ◌^◌, length, take, drop}
use seplogic.Ra.Ura.{Ura}
use base.Logic.{SProp, emp}
use prog.Memory.{Memory}
use prog.Routine.{Routine}
use types.Logic.{Logic}
use contract.Monad.{Fun, fact}
use borrow.Fn.Kinds.{p_num}
use borrow.Kind.ShrSlice.{p_shr_s}
use borrow.Kind.MutSlice.{p_mut_s}
use borrow.Table.Referent.{rt_f, f_int}
use borrow.Kind.Array.{p_arr, e_struct, e_struct_laws}
use Rattle.std.specs.Int.{w8, w16, w32, w64}
use denote.Signature.{Signature, plain}
use denote.Builtin.{SliceRefOf, SliceRefMutOf, u64}
use denote.Laws.{Is}
use denote.Struct.Laws as machine
use Rattle.rules.specs.Refusals.{refusal}
use Rattle.rules.specs.StartData.{header_of, start_data, write_tests, start_written}
use Rattle.rules.specs.Order.{Part}
use Rattle.rules.specs.ReportReader.{report_refusal, report_bad_index, report_suspended, report_more, report_identifier, report_granularity, report_count, report_refusal_at, report_address, report_length, report_run_address, report_run_length}
use Rattle.start_data.specs.Answer.{ranges_read}
use Rattle.listing.specs.Listing.{line_of}
use Rattle.rules.specs.declared.Bytes.{Bytes}
use Rattle.rules.specs.declared.Device.{Device}
use Rattle.calls.specs.declared.WriteRecord.{WriteRecord}
use Rattle.calls.specs.declared.Batched.{Batched}
use Rattle.calls.specs.Calls.{fresh_change, start_change, stop_change, write_note, batch_change, receive_receipt, suspend_change, resume_change, part_change, make_change, post_change, take_change}
use Rattle.calls.specs.contracts.WriteRecord as record-type
use Rattle.calls.proofs.WriteRecord.TheLaws as record-laws
use Rattle.fresh.proofs.fresh.Reads as fresh
use Rattle.fresh.proofs.fresh.Kinds as fresh-kinds
use Rattle.track_send.proofs.start.Reads as start
use Rattle.track_send.proofs.start.Kinds as start-kinds
use Rattle.track_send.proofs.stop.Reads as stop
use Rattle.track_send.proofs.stop.Kinds as stop-kinds
use Rattle.writes.proofs.write.Reads as write
use Rattle.writes.proofs.write.Kinds as write-kinds
use Rattle.writes.specs.contracts.batch as batch
use Rattle.writes.proofs.batch_of.Reads as batch-of
use Rattle.writes.proofs.batch_of.Kinds as batch-of-kinds
use Rattle.track_receive.proofs.receive.Reads as receive
use Rattle.track_receive.proofs.receive.Kinds as receive-kinds
use Rattle.migration_send.proofs.suspend.Reads as suspend
use Rattle.migration_send.proofs.suspend.Kinds as suspend-kinds
use Rattle.migration_send.proofs.resume.Reads as resume
use Rattle.migration_send.proofs.resume.Kinds as resume-kinds
use Rattle.controller_state.proofs.set_state.Reads as set-state
use Rattle.controller_state.proofs.set_state.Kinds as set-state-kinds
use Rattle.queue.proofs.make_queue.Reads as make-queue
use Rattle.queue.proofs.post.Reads as post
use Rattle.queue.proofs.take.Reads as take_queue
use Rattle.queue.proofs.take.Kinds as take-kinds
use Rattle.queue.proofs.make_queue.Kinds as make-kinds
use Rattle.queue.proofs.post.Kinds as post-kinds
use Rattle.start_data.proofs.read_header.Reads as read-header
use Rattle.start_data.proofs.read_start.Reads as read-start
use Rattle.start_data.proofs.write_start.Reads as write-start
use Rattle.start_data.proofs.read_ranges.Reads as read-ranges
use Rattle.report_reader.proofs.tmc_report_refusal.Reads as refusal-of
use Rattle.report_reader.proofs.tmc_report_bad_index.Reads as bad_index
use Rattle.report_reader.proofs.tmc_report_suspended.Reads as suspended
use Rattle.report_reader.proofs.tmc_report_more.Reads as more
use Rattle.report_reader.proofs.tmc_report_identifier.Reads as identifier
use Rattle.report_reader.proofs.tmc_report_granularity.Reads as granularity
use Rattle.report_reader.proofs.tmc_report_count.Reads as count
use Rattle.report_reader.proofs.tmc_report_refusal_at.Reads as refusal-at
use Rattle.report_reader.proofs.tmc_report_address.Reads as address
use Rattle.report_reader.proofs.tmc_report_length.Reads as length-of
use Rattle.report_reader.proofs.tmc_report_run_address.Reads as run_address
use Rattle.report_reader.proofs.tmc_report_run_length.Reads as run_length
use Rattle.listing.proofs.read_line.Reads as read-line

-- what each asks holds of any arguments
pub record AsksNothing : Type 1 where
  pub fresh : (κs : _) (a : _) → fresh.Pre κs a
  pub start : (κs : _) (a : _) → start.Pre κs a
  pub stop : (κs : _) (a : _) → stop.Pre κs a
  pub write : (κs : _) (a : _) → write.Pre κs a
  pub batch-of : (κs : _) (a : _) → batch-of.Pre κs a
  pub receive : (κs : _) (a : _) → receive.Pre κs a
  pub suspend : (κs : _) (a : _) → suspend.Pre κs a
  pub resume : (κs : _) (a : _) → resume.Pre κs a
  pub set-state : (κs : _) (a : _) → set-state.Pre κs a
  pub make-queue : (κs : _) (a : _) → make-queue.Pre κs a
  pub post : (κs : _) (a : _) → post.Pre κs a
  pub take_queue : (κs : _) (a : _) → take_queue.Pre κs a
  pub read-header : (κs : _) (a : _) → read-header.Pre κs a
  pub read-ranges : (κs : _) (a : _) → read-ranges.Pre κs a
  pub read-start : (κs : _) (a : _) → read-start.Pre κs a
  pub write-start : (κs : _) (a : _) → write-start.Pre κs a
  pub refusal : (κs : _) (a : _) → refusal-of.Pre κs a
  pub bad_index : (κs : _) (a : _) → bad_index.Pre κs a
  pub suspended : (κs : _) (a : _) → suspended.Pre κs a
  pub more : (κs : _) (a : _) → more.Pre κs a
  pub identifier : (κs : _) (a : _) → identifier.Pre κs a
  pub granularity : (κs : _) (a : _) → granularity.Pre κs a
  pub count : (κs : _) (a : _) → count.Pre κs a
  pub refusal-at : (κs : _) (a : _) → refusal-at.Pre κs a
  pub address : (κs : _) (a : _) → address.Pre κs a
  pub length : (κs : _) (a : _) → length-of.Pre κs a
  pub run_address : (κs : _) (a : _) → run_address.Pre κs a
  pub run_length : (κs : _) (a : _) → run_length.Pre κs a
  pub read-line : (κs : _) (a : _) → read-line.Pre κs a

-- the calls of `tracker`: the answer, every word of the marks that were lent to be changed, and every byte of the buffer
pub record CallsAre : Type 1 where
  pub fresh : (κs : _) (a : _) (r : _) (e : _) → fresh.Post κs a r e
      → let c = fresh_change a.0 a.1.0.now in
      (r ≡ c.answer) × (e.1.0.now ≡ c.marks)
  pub start : (κs : _) (a : _) (r : _) (e : _) → start.Post κs a r e
      → let c = start_change a.0 a.1.0.now a.1.1.0 a.1.1.1.0 a.1.1.1.1.0.now in
      (r ≡ c.answer) × (e.1.0.now ≡ c.marks)
  pub stop : (κs : _) (a : _) (r : _) (e : _) → stop.Post κs a r e
      → let c = stop_change a.0 a.1.0.now a.1.1.0 a.1.1.1.0 in
      (r ≡ c.answer) × (e.1.0.now ≡ c.marks)
  pub write : (κs : _) (a : _) (r : _) (e : _) → write.Post κs a r e
      → let bytes : Bytes = a.1.1.1.1.0 in
      let c = write_note a.0 a.1.0.now a.1.1.0 (record { address = a.1.1.1.0; bytes = bytes.0 }) in
      (r ≡ c.answer) × (e.1.0.now ≡ c.marks)
  -- W4, for callers that hold the records by value: a batch of the first so many
  pub batch-of : (κs : _) (a : _) (r : _) (e : _) → batch-of.Post κs a r e
      → let c = batch_change a.0 a.1.0.now (take a.1.1.1.0 a.1.1.0) in
      (r ≡ c.answer) × (e.1.0.now ≡ c.marks)
  pub receive : (κs : _) (a : _) (r : _) (e : _) → receive.Post κs a r e
      → let c = receive_receipt a.0 a.1.0.now a.1.1.0 a.1.1.1.0 a.1.1.1.1.0.now in
      (r ≡ c.answer) × (e.1.0.now ≡ c.marks) × (e.1.1.1.1.0.now ≡ c.buffer)
  pub suspend : (κs : _) (a : _) (r : _) (e : _) → suspend.Post κs a r e → r ≡ suspend_change a.0 (length a.1.0.now) a.1.1.0 a.1.1.1.0 a.1.1.1.1.0
  pub resume : (κs : _) (a : _) (r : _) (e : _) → resume.Post κs a r e → r ≡ resume_change a.0 (length a.1.0.now) a.1.1.0 a.1.1.1.0
  -- W6: the answer, and every byte of the area
  pub set-state : (κs : _) (a : _) (r : _) (e : _) → set-state.Post κs a r e
      → let rest = a.1.1.1.1.1 in
      let p : Part = record { indicator = rest.0; low = rest.1.0; high = rest.1.1.0; count = rest.1.1.1.0; bytes = rest.1.1.1.1.0.now } in
      let c = part_change a.0 (length a.1.0.now) a.1.1.0.now a.1.1.1.0 a.1.1.1.1.0 p in
      (r ≡ c.answer) × (e.1.1.0.now ≡ c.area)
  -- W8: the answers, every byte of the area that a post changes, and of the buffer that a take fills
  pub make-queue : (κs : _) (a : _) (r : _) (e : _) → make-queue.Post κs a r e → r ≡ make_change a.0 (length a.1.0.now) a.1.1.0 (length a.1.1.1.0.now)
  pub post : (κs : _) (a : _) (r : _) (e : _) → post.Post κs a r e
      → let c = post_change a.0 (length a.1.0.now) a.1.1.0.now a.1.1.1.0 a.1.1.1.1.0.now in
      (r ≡ c.answer) × (e.1.1.0.now ≡ c.area)
  pub take_queue : (κs : _) (a : _) (r : _) (e : _) → take_queue.Post κs a r e
      → let c = take_change a.0 (length a.1.0.now) a.1.1.0.now a.1.1.1.0 a.1.1.1.1.0 a.1.1.1.1.1.0.now in
      (r ≡ c.answer) × (e.1.1.1.1.1.0.now ≡ c.buffer)

-- W4: the contract of `batch` is taken as it stands in the program logic, of any model of it: it asks nothing, and what it promises is this fact
abbrev pub Promised : Device → List ℕ → List WriteRecord → Batched → List ℕ → Type 0
Promised d ws rs r ws' = let c = batch_change d ws rs in (r ≡ c.answer) × (ws' ≡ c.marks)

pub record BatchIs : Type 2 where
  pub asks : {M : Type 1} {𝓤 : Ura M} (𝓛 : Logic 𝓤) (mem : Memory → SProp 𝓤) (run : Routine → Fun 𝓤) (κs : _) (a : _) (g : _)
      → (batch.clauses 𝓛 mem run κs a).requires g ≡ emp 𝓤
  pub says : {M : Type 1} {𝓤 : Ura M} (𝓛 : Logic 𝓤) (mem : Memory → SProp 𝓤) (run : Routine → Fun 𝓤) (κs : _) (a : _) (g : _) (r : _) (e : _)
      → (batch.clauses 𝓛 mem run κs a).ensures g r e ≡ fact 𝓤 (Promised a.0 a.1.0.now a.1.1.0.now r e.1.0.now)

-- a record of a batch has room for any identifier of 16 bits, address of 64 and byte length of 64: the code's type has a value for it
abbrev pub HasRoom : Type 0
HasRoom = (r : WriteRecord) → r.id < 2 ^ 16 → r.address < 2 ^ 64 → r.bytes.0 < 2 ^ 64 → Is record-type.the_row r (machine.val record-type.the_type record-laws.the_laws r ∷ [])

-- how each call's arguments behind the record are lent: to be changed (`p_mut_s`) or to be read (`p_shr_s`), so that no word or byte of those changes, of which no contract
-- speaks; and that its numbers have the bits that the documents say: identifiers 16, a manager's too (W12), addresses 64, types and indicators 8, offsets, counts and entries asked for 32. Without
-- this a promise about a narrower number would do
pub record Lent : Type 3 where
  pub fresh : drop 1 fresh-kinds.ps ≡ p_mut_s (rt_f (f_int w64)) 0 tt ∷ []
  pub start : drop 1 start-kinds.ps ≡ p_mut_s (rt_f (f_int w64)) 0 tt ∷ p_num w16 ∷ p_num w16 ∷ p_shr_s (rt_f (f_int w8)) 1 tt ∷ []
  pub stop : drop 1 stop-kinds.ps ≡ p_mut_s (rt_f (f_int w64)) 0 tt ∷ p_num w16 ∷ p_num w16 ∷ []
  pub write : take 3 (drop 1 write-kinds.ps) ≡ p_mut_s (rt_f (f_int w64)) 0 tt ∷ p_num w16 ∷ p_num w64 ∷ []
  -- the records of a batch are only read
  pub batch : drop 1 (batch.signature).params ≡ SliceRefMutOf (0 ∷ []) tt (plain λ κs. u64) (λ κs. tt) ∷ SliceRefOf (1 ∷ []) tt (plain λ κs. record-type.the_row) (λ κs. tt) ∷ []
  pub batch-of : drop 1 batch-of-kinds.ps
      ≡ p_mut_s (rt_f (f_int w64)) 0 tt
      ∷ p_arr (e_struct record-type.the_type record-laws.the_laws record-laws.the_copy) (e_struct_laws record-type.the_type record-laws.the_laws record-laws.the_copy record-laws.the_plain) 1025
      ∷ p_num w64
      ∷ []
  pub receive : drop 1 receive-kinds.ps ≡ p_mut_s (rt_f (f_int w64)) 0 tt ∷ p_num w16 ∷ p_num w16 ∷ p_mut_s (rt_f (f_int w8)) 1 tt ∷ []
  pub suspend : drop 1 suspend-kinds.ps ≡ p_shr_s (rt_f (f_int w64)) 0 tt ∷ p_num w16 ∷ p_num w16 ∷ p_num w8 ∷ []
  pub resume : drop 1 resume-kinds.ps ≡ p_shr_s (rt_f (f_int w64)) 0 tt ∷ p_num w16 ∷ p_num w16 ∷ []
  pub set-state : drop 1 set-state-kinds.ps
      ≡ p_shr_s (rt_f (f_int w64)) 0 tt ∷ p_mut_s (rt_f (f_int w8)) 1 tt ∷ p_num w16 ∷ p_num w16 ∷ p_num w8 ∷ p_num w32 ∷ p_num w32 ∷ p_num w32 ∷ p_shr_s (rt_f (f_int w8)) 2 tt ∷ []
  pub make-queue : drop 1 make-kinds.ps ≡ p_shr_s (rt_f (f_int w64)) 0 tt ∷ p_num w16 ∷ p_shr_s (rt_f (f_int w8)) 1 tt ∷ []
  pub post : drop 1 post-kinds.ps ≡ p_shr_s (rt_f (f_int w64)) 0 tt ∷ p_mut_s (rt_f (f_int w8)) 1 tt ∷ p_num w16 ∷ p_shr_s (rt_f (f_int w8)) 2 tt ∷ []
  pub take_queue : drop 1 take-kinds.ps
      ≡ p_shr_s (rt_f (f_int w64)) 0 tt ∷ p_shr_s (rt_f (f_int w8)) 1 tt ∷ p_num w16 ∷ p_num w32 ∷ p_mut_s (rt_f (f_int w8)) 2 tt ∷ []

-- the start structure's readers and its writer
pub record StructuresAre : Type 1 where
  pub read-header : (κs : _) (a : _) (r : _) (e : _) → read-header.Post κs a r e → r ≡ header_of a.0.now
  pub read-ranges : (κs : _) (a : _) (r : _) (e : _) → read-ranges.Post κs a r e → r ≡ ranges_read a.0.now a.1.0
  pub read-start : (κs : _) (a : _) (r : _) (e : _) → read-start.Post κs a r e → r ≡ start_data a.0.now
  pub write-start : (κs : _) (a : _) (r : _) (e : _) → write-start.Post κs a r e
      → let n = a.1.1.0 in
      (r ≡ refusal (write_tests (length a.0.now) n)) × (e.0.now ≡ start_written a.0.now a.1.0 n (take n a.1.1.1.0))

-- the report's reader
pub record ReaderIs : Type 1 where
  pub refusal : (κs : _) (a : _) (r : _) (e : _) → refusal-of.Post κs a r e → r ≡ report_refusal a.0.now
  pub bad_index : (κs : _) (a : _) (r : _) (e : _) → bad_index.Post κs a r e → r ≡ report_bad_index a.0.now
  pub suspended : (κs : _) (a : _) (r : _) (e : _) → suspended.Post κs a r e → r ≡ report_suspended a.0.now
  pub more : (κs : _) (a : _) (r : _) (e : _) → more.Post κs a r e → r ≡ report_more a.0.now
  pub identifier : (κs : _) (a : _) (r : _) (e : _) → identifier.Post κs a r e → r ≡ report_identifier a.0.now
  pub granularity : (κs : _) (a : _) (r : _) (e : _) → granularity.Post κs a r e → r ≡ report_granularity a.0.now
  pub count : (κs : _) (a : _) (r : _) (e : _) → count.Post κs a r e → r ≡ report_count a.0.now
  pub refusal-at : (κs : _) (a : _) (r : _) (e : _) → refusal-at.Post κs a r e → r ≡ report_refusal_at a.0.now a.1.0
  pub address : (κs : _) (a : _) (r : _) (e : _) → address.Post κs a r e → r ≡ report_address a.0.now a.1.0
  pub length : (κs : _) (a : _) (r : _) (e : _) → length-of.Post κs a r e → r ≡ report_length a.0.now a.1.0
  pub run_address : (κs : _) (a : _) (r : _) (e : _) → run_address.Post κs a r e → r ≡ report_run_address a.0.now a.1.0
  pub run_length : (κs : _) (a : _) (r : _) (e : _) → run_length.Post κs a r e → r ≡ report_run_length a.0.now a.1.0

pub record Contracts : Type 3 where
  pub asks : AsksNothing
  pub calls : CallsAre
  pub batch : BatchIs
  pub room : HasRoom
  pub lent : Lent
  pub structures : StructuresAre
  pub reader : ReaderIs
  -- a line of the session listing
  pub line : (κs : _) (a : _) (r : _) (e : _) → read-line.Post κs a r e → r ≡ line_of a.0.now
