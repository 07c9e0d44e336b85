-- W9: what ties the source of the plain engine to the statements, as Contracts does for the other one: each of its calls asks nothing, promises what the demands speak of and
-- nothing else will do, and is lent its area, its numbers and its bytes as they say.
use Rattle.std.specs.Prelude.{◌≡◌, List, [], ◌∷◌, ℕ, length, take, drop}
use seplogic.Ra.Ura.{Ura}
use base.Logic.{SProp, emp}
use prog.Memory.{Memory}
use prog.Routine.{Routine}
use types.Logic.{Logic}
use contract.Monad.{Fun, fact}
use borrow.Fn.Kinds.{p_num}
use borrow.Kind.ShrSlice.{p_shr_s}
use borrow.Kind.MutSlice.{p_mut_s}
use borrow.Kind.Array.{p_arr, e_struct, e_struct_laws}
use borrow.Table.Referent.{rt_f, f_int}
use Rattle.std.specs.Int.{w8, w16, w32, w64}
use denote.Signature.{Signature, plain}
use denote.Builtin.{SliceRefOf, SliceRefMutOf, u8}
use Rattle.rules.specs.Promise.{Determinate}
use Rattle.rules.specs.Order.{Part}
use Rattle.rules.specs.declared.Device.{Device}
use Rattle.rules.specs.declared.Bytes.{Bytes}
use Rattle.calls.specs.contracts.WriteRecord as record-type
use Rattle.calls.proofs.WriteRecord.TheLaws as record-laws
use Rattle.calls.specs.declared.WriteRecord.{WriteRecord}
use Rattle.calls.specs.declared.Batched.{Batched}
use Rattle.calls.specs.Calls.{fresh_by, start_by, stop_by, write_by, batch_by, receive_by, suspend_change, resume_change, part_change, make_change, post_change, take_change}
use Rattle.plain.specs.Bytes.{in_bytes}
use Rattle.plain.proofs.fresh.Reads as fresh
use Rattle.plain.proofs.fresh.Kinds as fresh-kinds
use Rattle.plain.proofs.start.Reads as start
use Rattle.plain.proofs.start.Kinds as start-kinds
use Rattle.plain.proofs.stop.Reads as stop
use Rattle.plain.proofs.stop.Kinds as stop-kinds
use Rattle.plain.proofs.write.Reads as write
use Rattle.plain.proofs.write.Kinds as write-kinds
use Rattle.plain.specs.contracts.batch as batch
use Rattle.plain.proofs.batch_of.Reads as batch-of
use Rattle.plain.proofs.batch_of.Kinds as batch-of-kinds
use Rattle.plain.proofs.receive.Reads as receive
use Rattle.plain.proofs.receive.Kinds as receive-kinds
use Rattle.plain.proofs.suspend.Reads as suspend
use Rattle.plain.proofs.suspend.Kinds as suspend-kinds
use Rattle.plain.proofs.resume.Reads as resume
use Rattle.plain.proofs.resume.Kinds as resume-kinds
use Rattle.plain.proofs.set_state.Reads as set-state
use Rattle.plain.proofs.set_state.Kinds as set-state-kinds
use Rattle.plain.proofs.make_queue.Reads as make-queue
use Rattle.plain.proofs.make_queue.Kinds as make-kinds
use Rattle.plain.proofs.post.Reads as post
use Rattle.plain.proofs.post.Kinds as post-kinds
use Rattle.plain.proofs.take.Reads as take_queue
use Rattle.plain.proofs.take.Kinds as take-kinds

-- what each asks holds of any arguments
pub record PlainAsks : Type 1 where
  pub fresh : (κs : _) (a : _) → fresh.Pre κs a
  pub start : (κs : _) (a : _) → start.Pre κs a
  pub stop : (κs : _) (a : _) → stop.Pre κs a
  pub write : (κs : _) (a : _) → write.Pre κs a
  pub batch-of : (κs : _) (a : _) → batch-of.Pre κs a
  pub receive : (κs : _) (a : _) → receive.Pre κs a
  pub suspend : (κs : _) (a : _) → suspend.Pre κs a
  pub resume : (κs : _) (a : _) → resume.Pre κs a
  pub set-state : (κs : _) (a : _) → set-state.Pre κs a
  pub make-queue : (κs : _) (a : _) → make-queue.Pre κs a
  pub post : (κs : _) (a : _) → post.Pre κs a
  pub take_queue : (κs : _) (a : _) → take_queue.Pre κs a

-- the answer, every byte of the area that was lent to be changed, and every byte of the buffer. A call that touches no mark is the other engine's, of as many words as the area
-- stands for
pub record PlainAre : Type 1 where
  pub fresh : (κs : _) (a : _) (r : _) (e : _) → fresh.Post κs a r e
      → let c = fresh_by in_bytes a.0 a.1.0.now in
      (r ≡ c.answer) × (e.1.0.now ≡ c.marks)
  pub start : (κs : _) (a : _) (r : _) (e : _) → start.Post κs a r e
      → let c = start_by in_bytes a.0 a.1.0.now a.1.1.0 a.1.1.1.0 a.1.1.1.1.0.now in
      (r ≡ c.answer) × (e.1.0.now ≡ c.marks)
  pub stop : (κs : _) (a : _) (r : _) (e : _) → stop.Post κs a r e
      → let c = stop_by in_bytes a.0 a.1.0.now a.1.1.0 a.1.1.1.0 in
      (r ≡ c.answer) × (e.1.0.now ≡ c.marks)
  pub write : (κs : _) (a : _) (r : _) (e : _) → write.Post κs a r e
      → let bytes : Bytes = a.1.1.1.1.0 in
      let c = write_by in_bytes a.0 a.1.0.now a.1.1.0 (record { address = a.1.1.1.0; bytes = bytes.0 }) in
      (r ≡ c.answer) × (e.1.0.now ≡ c.marks)
  pub batch-of : (κs : _) (a : _) (r : _) (e : _) → batch-of.Post κs a r e
      → let c = batch_by in_bytes a.0 a.1.0.now (take a.1.1.1.0 a.1.1.0) in
      (r ≡ c.answer) × (e.1.0.now ≡ c.marks)
  pub receive : (κs : _) (a : _) (r : _) (e : _) → receive.Post κs a r e
      → let c = receive_by in_bytes a.0 a.1.0.now a.1.1.0 a.1.1.1.0 a.1.1.1.1.0.now in
      (r ≡ c.answer) × (e.1.0.now ≡ c.marks) × (e.1.1.1.1.0.now ≡ c.buffer)
  pub suspend : (κs : _) (a : _) (r : _) (e : _) → suspend.Post κs a r e → r ≡ suspend_change a.0 (in_bytes.words a.1.0.now) a.1.1.0 a.1.1.1.0 a.1.1.1.1.0
  pub resume : (κs : _) (a : _) (r : _) (e : _) → resume.Post κs a r e → r ≡ resume_change a.0 (in_bytes.words a.1.0.now) a.1.1.0 a.1.1.1.0
  pub set-state : (κs : _) (a : _) (r : _) (e : _) → set-state.Post κs a r e
      → let rest = a.1.1.1.1.1 in
      let p : Part = record { indicator = rest.0; low = rest.1.0; high = rest.1.1.0; count = rest.1.1.1.0; bytes = rest.1.1.1.1.0.now } in
      let c = part_change a.0 (in_bytes.words a.1.0.now) a.1.1.0.now a.1.1.1.0 a.1.1.1.1.0 p in
      (r ≡ c.answer) × (e.1.1.0.now ≡ c.area)
  pub make-queue : (κs : _) (a : _) (r : _) (e : _) → make-queue.Post κs a r e
      → r ≡ make_change a.0 (in_bytes.words a.1.0.now) a.1.1.0 (length a.1.1.1.0.now)
  pub post : (κs : _) (a : _) (r : _) (e : _) → post.Post κs a r e
      → let c = post_change a.0 (in_bytes.words a.1.0.now) a.1.1.0.now a.1.1.1.0 a.1.1.1.1.0.now in
      (r ≡ c.answer) × (e.1.1.0.now ≡ c.area)
  pub take_queue : (κs : _) (a : _) (r : _) (e : _) → take_queue.Post κs a r e
      → let c = take_change a.0 (in_bytes.words a.1.0.now) a.1.1.0.now a.1.1.1.0 a.1.1.1.1.0 a.1.1.1.1.1.0.now in
      (r ≡ c.answer) × (e.1.1.1.1.1.0.now ≡ c.buffer)

-- W4: the contract of its `batch` is taken as the other engine's is
abbrev pub PlainPromised : Device → List ℕ → List WriteRecord → Batched → List ℕ → Type 0
PlainPromised d bs rs r bs' = let c = batch_by in_bytes d bs rs in (r ≡ c.answer) × (bs' ≡ c.marks)

pub record PlainBatchIs : Type 2 where
  pub asks : {M : Type 1} {𝓤 : Ura M} (𝓛 : Logic 𝓤) (mem : Memory → SProp 𝓤) (run : Routine → Fun 𝓤) (κs : _) (a : _) (g : _)
      → (batch.clauses 𝓛 mem run κs a).requires g ≡ emp 𝓤
  pub says : {M : Type 1} {𝓤 : Ura M} (𝓛 : Logic 𝓤) (mem : Memory → SProp 𝓤) (run : Routine → Fun 𝓤) (κs : _) (a : _) (g : _) (r : _) (e : _)
      → (batch.clauses 𝓛 mem run κs a).ensures g r e ≡ fact 𝓤 (PlainPromised a.0 a.1.0.now a.1.1.0.now r e.1.0.now)

-- how each call's arguments behind the record are lent: to be changed (`p_mut_s`) or to be read (`p_shr_s`), and its numbers' bits
pub record PlainLent : Type 3 where
  pub fresh : drop 1 fresh-kinds.ps ≡ p_mut_s (rt_f (f_int w8)) 0 tt ∷ []
  pub start : drop 1 start-kinds.ps ≡ p_mut_s (rt_f (f_int w8)) 0 tt ∷ p_num w16 ∷ p_num w16 ∷ p_shr_s (rt_f (f_int w8)) 1 tt ∷ []
  pub stop : drop 1 stop-kinds.ps ≡ p_mut_s (rt_f (f_int w8)) 0 tt ∷ p_num w16 ∷ p_num w16 ∷ []
  pub write : take 3 (drop 1 write-kinds.ps) ≡ p_mut_s (rt_f (f_int w8)) 0 tt ∷ p_num w16 ∷ p_num w64 ∷ []
  -- the records of a batch are only read
  pub batch : drop 1 (batch.signature).params ≡ SliceRefMutOf (0 ∷ []) tt (plain λ κs. u8) (λ κs. tt) ∷ SliceRefOf (1 ∷ []) tt (plain λ κs. record-type.the_row) (λ κs. tt) ∷ []
  pub batch-of : drop 1 batch-of-kinds.ps
      ≡ p_mut_s (rt_f (f_int w8)) 0 tt
      ∷ p_arr (e_struct record-type.the_type record-laws.the_laws record-laws.the_copy) (e_struct_laws record-type.the_type record-laws.the_laws record-laws.the_copy record-laws.the_plain) 1025
      ∷ p_num w64
      ∷ []
  pub receive : drop 1 receive-kinds.ps ≡ p_mut_s (rt_f (f_int w8)) 0 tt ∷ p_num w16 ∷ p_num w16 ∷ p_mut_s (rt_f (f_int w8)) 1 tt ∷ []
  pub suspend : drop 1 suspend-kinds.ps ≡ p_shr_s (rt_f (f_int w8)) 0 tt ∷ p_num w16 ∷ p_num w16 ∷ p_num w8 ∷ []
  pub resume : drop 1 resume-kinds.ps ≡ p_shr_s (rt_f (f_int w8)) 0 tt ∷ p_num w16 ∷ p_num w16 ∷ []
  pub set-state : drop 1 set-state-kinds.ps
      ≡ p_shr_s (rt_f (f_int w8)) 0 tt ∷ p_mut_s (rt_f (f_int w8)) 1 tt ∷ p_num w16 ∷ p_num w16 ∷ p_num w8 ∷ p_num w32 ∷ p_num w32 ∷ p_num w32 ∷ p_shr_s (rt_f (f_int w8)) 2 tt ∷ []
  pub make-queue : drop 1 make-kinds.ps ≡ p_shr_s (rt_f (f_int w8)) 0 tt ∷ p_num w16 ∷ p_shr_s (rt_f (f_int w8)) 1 tt ∷ []
  pub post : drop 1 post-kinds.ps ≡ p_shr_s (rt_f (f_int w8)) 0 tt ∷ p_mut_s (rt_f (f_int w8)) 1 tt ∷ p_num w16 ∷ p_shr_s (rt_f (f_int w8)) 2 tt ∷ []
  pub take_queue : drop 1 take-kinds.ps ≡ p_shr_s (rt_f (f_int w8)) 0 tt ∷ p_shr_s (rt_f (f_int w8)) 1 tt ∷ p_num w16 ∷ p_num w32 ∷ p_mut_s (rt_f (f_int w8)) 2 tt ∷ []

-- any two results that a promise allows are equal
pub record PlainDeterminate : Type 1 where
  pub fresh : (κs : _) (a : _) (r r' : _) (e e' : _) → fresh.Post κs a r e → fresh.Post κs a r' e' → (r ≡ r') × (e.1.0.now ≡ e'.1.0.now)
  pub start : (κs : _) (a : _) (r r' : _) (e e' : _) → start.Post κs a r e → start.Post κs a r' e' → (r ≡ r') × (e.1.0.now ≡ e'.1.0.now)
  pub stop : (κs : _) (a : _) (r r' : _) (e e' : _) → stop.Post κs a r e → stop.Post κs a r' e' → (r ≡ r') × (e.1.0.now ≡ e'.1.0.now)
  pub write : (κs : _) (a : _) (r r' : _) (e e' : _) → write.Post κs a r e → write.Post κs a r' e' → (r ≡ r') × (e.1.0.now ≡ e'.1.0.now)
  pub batch : (d : Device) (bs : List ℕ) (rs : List WriteRecord) (r r' : Batched) (l l' : List ℕ) → PlainPromised d bs rs r l → PlainPromised d bs rs r' l' → (r ≡ r') × (l ≡ l')
  pub batch-of : (κs : _) (a : _) (r r' : _) (e e' : _) → batch-of.Post κs a r e → batch-of.Post κs a r' e' → (r ≡ r') × (e.1.0.now ≡ e'.1.0.now)
  pub receive : (κs : _) (a : _) (r r' : _) (e e' : _) → receive.Post κs a r e → receive.Post κs a r' e'
      → (r ≡ r') × (e.1.0.now ≡ e'.1.0.now) × (e.1.1.1.1.0.now ≡ e'.1.1.1.1.0.now)
  pub suspend : Determinate suspend.Post
  pub resume : Determinate resume.Post
  pub set-state : (κs : _) (a : _) (r r' : _) (e e' : _) → set-state.Post κs a r e → set-state.Post κs a r' e' → (r ≡ r') × (e.1.1.0.now ≡ e'.1.1.0.now)
  pub make-queue : Determinate make-queue.Post
  pub post : (κs : _) (a : _) (r r' : _) (e e' : _) → post.Post κs a r e → post.Post κs a r' e' → (r ≡ r') × (e.1.1.0.now ≡ e'.1.1.0.now)
  pub take_queue : (κs : _) (a : _) (r r' : _) (e e' : _) → take_queue.Post κs a r e → take_queue.Post κs a r' e'
      → (r ≡ r') × (e.1.1.1.1.1.0.now ≡ e'.1.1.1.1.1.0.now)

pub record PlainContracts : Type 3 where
  pub asks : PlainAsks
  pub calls : PlainAre
  pub batch : PlainBatchIs
  pub lent : PlainLent
  pub determinate : PlainDeterminate
