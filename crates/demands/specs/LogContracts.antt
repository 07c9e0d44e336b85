-- W13: what ties the source of the logged calls, of both engines, to the statements: each asks nothing, promises its call's own answer and the log that MigrationLog.antt speaks of, and nothing
-- else will do, and is lent its areas and its numbers as they say.
use Rattle.std.specs.Prelude.{◌≡◌, List, [], ◌∷◌, ℕ, take, drop}
use Rattle.rules.specs.Order as order
use Rattle.rules.specs.declared.Device.{Device}
use Rattle.demands.specs.Sessions.{Left, Given, one, batch}
use Rattle.demands.specs.MigrationLog.{logged_by, log_in, read_on}
use borrow.Fn.Kinds.{p_num}
use borrow.Kind.ShrSlice.{p_shr_s}
use borrow.Kind.MutSlice.{p_mut_s}
use borrow.Kind.Array.{p_arr, e_struct, e_struct_laws}
use borrow.Table.Referent.{rt_f, f_int}
use Rattle.std.specs.Int.{w8, w16, w64}
use Rattle.rules.specs.Promise.{Determinate}
use Rattle.rules.specs.Units.{Write}
use Rattle.rules.specs.declared.Bytes.{Bytes}
use Rattle.log_numbers.specs.Log.{empty_log, added_to}
use Rattle.log_numbers.specs.Sums.{no_sums, summed_with}
use Rattle.log_numbers.proofs.empty.Reads as empty
use Rattle.log_numbers.proofs.added.Reads as added
use Rattle.log_numbers.proofs.no_sums.Reads as no-sums
use Rattle.log_numbers.proofs.summed.Reads as summed
use Rattle.calls.specs.contracts.WriteRecord as record-type
use Rattle.calls.proofs.WriteRecord.TheLaws as record-laws
use Rattle.calls.specs.Calls.{in_words, fresh_by, stop_by, write_by, batch_by, receive_by}
use Rattle.plain.specs.Bytes.{in_bytes}
use Rattle.logged.proofs.fresh.Reads as fresh
use Rattle.logged.proofs.fresh.Kinds as fresh-kinds
use Rattle.logged.proofs.stop.Reads as stop
use Rattle.logged.proofs.stop.Kinds as stop-kinds
use Rattle.logged.proofs.write.Reads as write
use Rattle.logged.proofs.write.Kinds as write-kinds
use Rattle.logged.proofs.batch_of.Reads as batch-of
use Rattle.logged.proofs.batch_of.Kinds as batch-of-kinds
use Rattle.logged.proofs.receive.Reads as receive
use Rattle.logged.proofs.receive.Kinds as receive-kinds
use Rattle.logged.proofs.totals.Reads as totals
use Rattle.logged.proofs.totals.Kinds as totals-kinds
use Rattle.plain_logged.proofs.fresh.Reads as plain_fresh
use Rattle.plain_logged.proofs.fresh.Kinds as plain-fresh-kinds
use Rattle.plain_logged.proofs.stop.Reads as plain_stop
use Rattle.plain_logged.proofs.stop.Kinds as plain-stop-kinds
use Rattle.plain_logged.proofs.write.Reads as plain_write
use Rattle.plain_logged.proofs.write.Kinds as plain-write-kinds
use Rattle.plain_logged.proofs.batch_of.Reads as plain_batch_of
use Rattle.plain_logged.proofs.batch_of.Kinds as plain-batch-of-kinds
use Rattle.plain_logged.proofs.receive.Reads as plain_receive
use Rattle.plain_logged.proofs.receive.Kinds as plain-receive-kinds
use Rattle.plain_logged.proofs.totals.Reads as plain_totals
use Rattle.plain_logged.proofs.totals.Kinds as plain-totals-kinds

-- what each asks holds of any arguments
pub record LogAsks : Type 1 where
  pub fresh : (κs : _) (a : _) → fresh.Pre κs a
  pub stop : (κs : _) (a : _) → stop.Pre κs a
  pub write : (κs : _) (a : _) → write.Pre κs a
  pub batch-of : (κs : _) (a : _) → batch-of.Pre κs a
  pub receive : (κs : _) (a : _) → receive.Pre κs a
  pub totals : (κs : _) (a : _) → totals.Pre κs a
  pub plain_fresh : (κs : _) (a : _) → plain_fresh.Pre κs a
  pub plain_stop : (κs : _) (a : _) → plain_stop.Pre κs a
  pub plain_write : (κs : _) (a : _) → plain_write.Pre κs a
  pub plain_batch_of : (κs : _) (a : _) → plain_batch_of.Pre κs a
  pub plain_receive : (κs : _) (a : _) → plain_receive.Pre κs a
  pub plain_totals : (κs : _) (a : _) → plain_totals.Pre κs a

-- what is lent to a call that is logged: by itself, and as what the last one left
abbrev pub lending : List ℕ → Given
lending ws = record { marks = ws; area = []; queues = λ i. [] }

abbrev pub leaving : Device → List ℕ → Left
leaving d ws = record { device = d; marks = ws; area = []; queues = λ i. [] }

-- the answer and every word or byte of what was lent are those of the call itself; and the log is the one that the session speaks of
pub record LogAre : Type 1 where
  pub fresh : (κs : _) (a : _) (r : _) (e : _) → fresh.Post κs a r e
      → let c = fresh_by in_words a.1.0 a.1.1.0.now in
      (r.answer ≡ c.answer) × (e.1.1.0.now ≡ c.marks) × (r.log ≡ log_in in_words a.1.0 (lending a.1.1.0.now) a.0 [])
  pub stop : (κs : _) (a : _) (r : _) (e : _) → stop.Post κs a r e
      → let c = stop_by in_words a.1.0 a.1.1.0.now a.1.1.1.0 a.1.1.1.1.0 in
      (r.answer ≡ c.answer) × (e.1.1.0.now ≡ c.marks) × (r.log ≡ logged_by in_words (leaving a.1.0 a.1.1.0.now) a.0 (one (record { id = a.1.1.1.1.0; op = order.stop a.1.1.1.0 })))
  pub write : (κs : _) (a : _) (r : _) (e : _) → write.Post κs a r e
      → let bytes : Bytes = a.1.1.1.1.1.0 in
      let w : Write = record { address = a.1.1.1.1.0; bytes = bytes.0 } in
      let c = write_by in_words a.1.0 a.1.1.0.now a.1.1.1.0 w in
      (r.answer ≡ c.answer) × (e.1.1.0.now ≡ c.marks) × (r.log ≡ logged_by in_words (leaving a.1.0 a.1.1.0.now) a.0 (one (record { id = a.1.1.1.0; op = order.write w })))
  pub batch-of : (κs : _) (a : _) (r : _) (e : _) → batch-of.Post κs a r e
      → let rs = take a.1.1.1.1.0 a.1.1.1.0 in
      let c = batch_by in_words a.1.0 a.1.1.0.now rs in
      (r.answer ≡ c.answer) × (e.1.1.0.now ≡ c.marks) × (r.log ≡ logged_by in_words (leaving a.1.0 a.1.1.0.now) a.0 (batch rs))
  pub receive : (κs : _) (a : _) (r : _) (e : _) → receive.Post κs a r e
      → let c = receive_by in_words a.1.0 a.1.1.0.now a.1.1.1.0 a.1.1.1.1.0 a.1.1.1.1.1.0.now in
      (r.answer ≡ c.answer) × (e.1.1.0.now ≡ c.marks) × (e.1.1.1.1.1.0.now ≡ c.buffer)
      × (r.log ≡ logged_by in_words (leaving a.1.0 a.1.1.0.now) a.0 (one (record { id = a.1.1.1.1.0; op = order.receive a.1.1.1.0 a.1.1.1.1.1.0.now })))
  pub totals : (κs : _) (a : _) (r : _) (e : _) → totals.Post κs a r e
      → r ≡ read_on in_words (leaving a.1.0 a.1.1.0.now) a.0 a.1.1.1.0
  pub plain_fresh : (κs : _) (a : _) (r : _) (e : _) → plain_fresh.Post κs a r e
      → let c = fresh_by in_bytes a.1.0 a.1.1.0.now in
      (r.answer ≡ c.answer) × (e.1.1.0.now ≡ c.marks) × (r.log ≡ log_in in_bytes a.1.0 (lending a.1.1.0.now) a.0 [])
  pub plain_stop : (κs : _) (a : _) (r : _) (e : _) → plain_stop.Post κs a r e
      → let c = stop_by in_bytes a.1.0 a.1.1.0.now a.1.1.1.0 a.1.1.1.1.0 in
      (r.answer ≡ c.answer) × (e.1.1.0.now ≡ c.marks) × (r.log ≡ logged_by in_bytes (leaving a.1.0 a.1.1.0.now) a.0 (one (record { id = a.1.1.1.1.0; op = order.stop a.1.1.1.0 })))
  pub plain_write : (κs : _) (a : _) (r : _) (e : _) → plain_write.Post κs a r e
      → let bytes : Bytes = a.1.1.1.1.1.0 in
      let w : Write = record { address = a.1.1.1.1.0; bytes = bytes.0 } in
      let c = write_by in_bytes a.1.0 a.1.1.0.now a.1.1.1.0 w in
      (r.answer ≡ c.answer) × (e.1.1.0.now ≡ c.marks) × (r.log ≡ logged_by in_bytes (leaving a.1.0 a.1.1.0.now) a.0 (one (record { id = a.1.1.1.0; op = order.write w })))
  pub plain_batch_of : (κs : _) (a : _) (r : _) (e : _) → plain_batch_of.Post κs a r e
      → let rs = take a.1.1.1.1.0 a.1.1.1.0 in
      let c = batch_by in_bytes a.1.0 a.1.1.0.now rs in
      (r.answer ≡ c.answer) × (e.1.1.0.now ≡ c.marks) × (r.log ≡ logged_by in_bytes (leaving a.1.0 a.1.1.0.now) a.0 (batch rs))
  pub plain_receive : (κs : _) (a : _) (r : _) (e : _) → plain_receive.Post κs a r e
      → let c = receive_by in_bytes a.1.0 a.1.1.0.now a.1.1.1.0 a.1.1.1.1.0 a.1.1.1.1.1.0.now in
      (r.answer ≡ c.answer) × (e.1.1.0.now ≡ c.marks) × (e.1.1.1.1.1.0.now ≡ c.buffer)
      × (r.log ≡ logged_by in_bytes (leaving a.1.0 a.1.1.0.now) a.0 (one (record { id = a.1.1.1.1.0; op = order.receive a.1.1.1.0 a.1.1.1.1.1.0.now })))
  pub plain_totals : (κs : _) (a : _) (r : _) (e : _) → plain_totals.Post κs a r e
      → r ≡ read_on in_bytes (leaving a.1.0 a.1.1.0.now) a.0 a.1.1.1.0

-- how each call's arguments behind the log and the record (fresh: the settings) are lent: to be changed (`p_mut_s`) or to be read (`p_shr_s`), and its numbers' bits
pub record LogLent : Type 3 where
  pub fresh : drop 2 fresh-kinds.ps ≡ p_mut_s (rt_f (f_int w64)) 0 tt ∷ []
  pub stop : drop 2 stop-kinds.ps ≡ p_mut_s (rt_f (f_int w64)) 0 tt ∷ p_num w16 ∷ p_num w16 ∷ []
  pub write : take 3 (drop 2 write-kinds.ps) ≡ p_mut_s (rt_f (f_int w64)) 0 tt ∷ p_num w16 ∷ p_num w64 ∷ []
  pub batch-of : drop 2 batch-of-kinds.ps
      ≡ p_mut_s (rt_f (f_int w64)) 0 tt
      ∷ p_arr (e_struct record-type.the_type record-laws.the_laws record-laws.the_copy) (e_struct_laws record-type.the_type record-laws.the_laws record-laws.the_copy record-laws.the_plain) 1025
      ∷ p_num w64
      ∷ []
  pub receive : drop 2 receive-kinds.ps ≡ p_mut_s (rt_f (f_int w64)) 0 tt ∷ p_num w16 ∷ p_num w16 ∷ p_mut_s (rt_f (f_int w8)) 1 tt ∷ []
  pub totals : drop 2 totals-kinds.ps ≡ p_shr_s (rt_f (f_int w64)) 0 tt ∷ p_num w16 ∷ []
  pub plain_fresh : drop 2 plain-fresh-kinds.ps ≡ p_mut_s (rt_f (f_int w8)) 0 tt ∷ []
  pub plain_stop : drop 2 plain-stop-kinds.ps ≡ p_mut_s (rt_f (f_int w8)) 0 tt ∷ p_num w16 ∷ p_num w16 ∷ []
  pub plain_write : take 3 (drop 2 plain-write-kinds.ps) ≡ p_mut_s (rt_f (f_int w8)) 0 tt ∷ p_num w16 ∷ p_num w64 ∷ []
  pub plain_batch_of : drop 2 plain-batch-of-kinds.ps
      ≡ p_mut_s (rt_f (f_int w8)) 0 tt
      ∷ p_arr (e_struct record-type.the_type record-laws.the_laws record-laws.the_copy) (e_struct_laws record-type.the_type record-laws.the_laws record-laws.the_copy record-laws.the_plain) 1025
      ∷ p_num w64
      ∷ []
  pub plain_receive : drop 2 plain-receive-kinds.ps ≡ p_mut_s (rt_f (f_int w8)) 0 tt ∷ p_num w16 ∷ p_num w16 ∷ p_mut_s (rt_f (f_int w8)) 1 tt ∷ []
  pub plain_totals : drop 2 plain-totals-kinds.ps ≡ p_shr_s (rt_f (f_int w8)) 0 tt ∷ p_num w16 ∷ []

-- any two results that a promise allows are equal
pub record LogDeterminate : Type 1 where
  pub fresh : (κs : _) (a : _) (r r' : _) (e e' : _) → fresh.Post κs a r e → fresh.Post κs a r' e' → (r ≡ r') × (e.1.1.0.now ≡ e'.1.1.0.now)
  pub stop : (κs : _) (a : _) (r r' : _) (e e' : _) → stop.Post κs a r e → stop.Post κs a r' e' → (r ≡ r') × (e.1.1.0.now ≡ e'.1.1.0.now)
  pub write : (κs : _) (a : _) (r r' : _) (e e' : _) → write.Post κs a r e → write.Post κs a r' e' → (r ≡ r') × (e.1.1.0.now ≡ e'.1.1.0.now)
  pub batch-of : (κs : _) (a : _) (r r' : _) (e e' : _) → batch-of.Post κs a r e → batch-of.Post κs a r' e' → (r ≡ r') × (e.1.1.0.now ≡ e'.1.1.0.now)
  pub receive : (κs : _) (a : _) (r r' : _) (e e' : _) → receive.Post κs a r e → receive.Post κs a r' e'
      → (r ≡ r') × (e.1.1.0.now ≡ e'.1.1.0.now) × (e.1.1.1.1.1.0.now ≡ e'.1.1.1.1.1.0.now)
  pub totals : Determinate totals.Post
  pub plain_fresh : (κs : _) (a : _) (r r' : _) (e e' : _) → plain_fresh.Post κs a r e → plain_fresh.Post κs a r' e' → (r ≡ r') × (e.1.1.0.now ≡ e'.1.1.0.now)
  pub plain_stop : (κs : _) (a : _) (r r' : _) (e e' : _) → plain_stop.Post κs a r e → plain_stop.Post κs a r' e' → (r ≡ r') × (e.1.1.0.now ≡ e'.1.1.0.now)
  pub plain_write : (κs : _) (a : _) (r r' : _) (e e' : _) → plain_write.Post κs a r e → plain_write.Post κs a r' e' → (r ≡ r') × (e.1.1.0.now ≡ e'.1.1.0.now)
  pub plain_batch_of : (κs : _) (a : _) (r r' : _) (e e' : _) → plain_batch_of.Post κs a r e → plain_batch_of.Post κs a r' e' → (r ≡ r') × (e.1.1.0.now ≡ e'.1.1.0.now)
  pub plain_receive : (κs : _) (a : _) (r r' : _) (e e' : _) → plain_receive.Post κs a r e → plain_receive.Post κs a r' e'
      → (r ≡ r') × (e.1.1.0.now ≡ e'.1.1.0.now) × (e.1.1.1.1.1.0.now ≡ e'.1.1.1.1.1.0.now)
  pub plain_totals : Determinate plain_totals.Post

-- the log's own functions, which the calls and the log's program use: what each answers, of any arguments
pub record LogFunctions : Type 1 where
  pub empty : (κs : _) (a : _) (r : _) (e : _) → empty.Post κs a r e → r ≡ empty_log
  pub added : (κs : _) (a : _) (r : _) (e : _) → added.Post κs a r e → r ≡ added_to a.0 a.1.0 a.1.1.0 a.1.1.1.0
  pub no-sums : (κs : _) (a : _) (r : _) (e : _) → no-sums.Post κs a r e → r ≡ no_sums
  pub summed : (κs : _) (a : _) (r : _) (e : _) → summed.Post κs a r e → r ≡ summed_with a.0 a.1.0

pub record LogContracts : Type 3 where
  pub asks : LogAsks
  pub calls : LogAre
  pub lent : LogLent
  pub determinate : LogDeterminate
  pub functions : LogFunctions
