-- Each public function's contract is what the demands speak of: the contracts say so word for word. Assumes nothing.
use mathlib.Core.Path.{refl}
use mathlib.Core.List.{[], ◌∷◌}
use mir.Syntax.{w16, w64}
use mir.Val.{vint, vstruct, of_list}
use Rattle.demands.specs.CallContracts.{AsksNothing, CallsAre, BatchIs, HasRoom, Lent, StructuresAre, ReaderIs, Contracts}

asks : AsksNothing
asks =
    record {
      fresh = λ κs a. tt;
      start = λ κs a. tt;
      stop = λ κs a. tt;
      write = λ κs a. tt;
      batch-of = λ κs a. tt;
      receive = λ κs a. tt;
      suspend = λ κs a. tt;
      resume = λ κs a. tt;
      set-state = λ κs a. tt;
      make-queue = λ κs a. tt;
      post = λ κs a. tt;
      take_queue = λ κs a. tt;
      read-header = λ κs a. tt;
      read-ranges = λ κs a. tt;
      read-start = λ κs a. tt;
      write-start = λ κs a. tt;
      refusal = λ κs a. tt;
      bad_index = λ κs a. tt;
      suspended = λ κs a. tt;
      more = λ κs a. tt;
      identifier = λ κs a. tt;
      granularity = λ κs a. tt;
      count = λ κs a. tt;
      refusal-at = λ κs a. tt;
      address = λ κs a. tt;
      length = λ κs a. tt;
      run_address = λ κs a. tt;
      run_length = λ κs a. tt;
      read-line = λ κs a. tt;
    }

calls : CallsAre
calls =
    record {
      fresh = λ κs a r e p. p;
      start = λ κs a r e p. p;
      stop = λ κs a r e p. p;
      write = λ κs a r e p. p;
      batch-of = λ κs a r e p. p;
      receive = λ κs a r e p. p;
      suspend = λ κs a r e p. p;
      resume = λ κs a r e p. p;
      set-state = λ κs a r e p. p;
      make-queue = λ κs a r e p. p;
      post = λ κs a r e p. p;
      take_queue = λ κs a r e p. p;
    }

batch : BatchIs
batch = record { asks = λ 𝓛 mem run κs a g. refl; says = λ 𝓛 mem run κs a g r e. refl }

room : HasRoom
room r i a b = (
  (vint w16 r.id ∷ [], (vint w64 r.address ∷ [], (vstruct (of_list (vint w64 r.bytes.0 ∷ [])) ∷ [], tt))),
  (refl, ((refl, i), ((refl, a), (((vint w64 r.bytes.0 ∷ [], tt), (refl, ((refl, b), tt))), tt)))),
)

lent : Lent
lent =
    record { fresh = refl; start = refl; stop = refl; write = refl; batch = refl; batch-of = refl; receive = refl; suspend = refl; resume = refl; set-state = refl; make-queue = refl; post = refl; take_queue = refl }

structures : StructuresAre
structures =
    record {
      read-header = λ κs a r e p. p.is;
      read-ranges = λ κs a r e p. p;
      read-start = λ κs a r e p. p.is;
      write-start = λ κs a r e p. p;
    }

reader : ReaderIs
reader =
    record {
      refusal = λ κs a r e p. p;
      bad_index = λ κs a r e p. p;
      suspended = λ κs a r e p. p;
      more = λ κs a r e p. p;
      identifier = λ κs a r e p. p;
      granularity = λ κs a r e p. p;
      count = λ κs a r e p. p;
      refusal-at = λ κs a r e p. p;
      address = λ κs a r e p. p;
      length = λ κs a r e p. p;
      run_address = λ κs a r e p. p;
      run_length = λ κs a r e p. p;
    }

pub contracts : Contracts
contracts = record { asks = asks; calls = calls; batch = batch; room = room; lent = lent; structures = structures; reader = reader; line = λ κs a r e p. p }
