-- Document 01, "Settled by worked numbers": the marked cases (*), in their order, as one table of sessions with the answers that the document gives; then of document 02
-- the numbers and rows of W3, parts of states, W6, queues, W8, reports with their groups, W10, and two managers, W12; states of controllers as W6 judges them; groups of W10; and the
-- numbers for the log, W13.
-- That the rules give these answers is a claim for each table, `Worked`, `WorkedStates`, `WorkedGroups`, `WorkedTotals` and `WorkedShown`, proved by computing
-- (proofs/Theorems.antt).
use Rattle.std.specs.Prelude.{ℕ, zero, suc, ◌+◌, ◌-◌, ◌^◌, ◌≡◌, Bool, true, false, List, [], ◌∷◌, ◌++◌, map, length, take, drop, replicate, set}
use Rattle.rules.specs.Settings.{identifiers_of}
use Rattle.rules.specs.StartData.{start_bytes}
use Rattle.rules.specs.Units.{units}
use Rattle.rules.specs.Report.{Descriptor, groups_on}
use Rattle.rules.specs.ControllerState.{state_ok}
use Rattle.rules.specs.Order.{start, stop, write, receive, suspend, resume, part, queue, make, post}
use Rattle.rules.specs.Order as order
use Rattle.rules.specs.Machine.{Answer, refused, done, wrote, reported, assembled, posted, taken, Call, Event, events, fresh}
use Rattle.rules.specs.History.{Did, history_of}
use Rattle.rules.specs.Totals.{Shown, known, unknown, shown_by}
use Rattle.rules.specs.declared.Range.{Range}
use Rattle.std.specs.declared.option.Option.TheVariants.{None, Some}
use Rattle.rules.specs.declared.Settings.{Settings}

-- ---- words for the table

abbrev range : ℕ → ℕ → Range
range a n = record { start = a; length = n }

-- n ranges of one unit each, one after another
abbrev singles : ℕ → ℕ → List Range
singles a zero = []
singles a (suc n) = range a 1 ∷ singles (a + 4096) n

-- calls by manager 1 to controller 5, and to controller 6
abbrev starts : ℕ → List Range → Call
starts g rs = record { id = 5; op = start 1 (start_bytes g rs) }

abbrev other_starts : ℕ → List Range → Call
other_starts g rs = record { id = 6; op = start 1 (start_bytes g rs) }

abbrev writes : ℕ → ℕ → Call
writes a n = record { id = 5; op = write (record { address = a; bytes = n }) }

abbrev receives : ℕ → Call
receives bytes = record { id = 5; op = receive 1 (replicate bytes 0) }

-- W6: calls to a controller: suspended, resumed, and sent a part by its indicator, offset, count of dwords and data
abbrev suspends : ℕ → Call
suspends id = record { id = id; op = suspend 1 1 }

abbrev resumes : ℕ → Call
resumes id = record { id = id; op = resume 1 }

abbrev sends : ℕ → ℕ → ℕ → ℕ → List ℕ → Call
sends id indicator offset count bytes = record { id = id; op = part 1 (record { indicator = indicator; low = offset; high = 0; count = count; bytes = bytes }) }

-- W12: a manager starts a controller with n ranges of one unit each, stops it, asks for its report into so many bytes, suspends and resumes it
abbrev starts_by : ℕ → ℕ → ℕ → Call
starts_by m id n = record { id = id; op = start m (start_bytes 0 (singles 0 n)) }

abbrev stops_by : ℕ → ℕ → Call
stops_by m id = record { id = id; op = stop m }

abbrev receives_by : ℕ → ℕ → ℕ → Call
receives_by m id bytes = record { id = id; op = receive m (replicate bytes 0) }

abbrev suspends_by : ℕ → ℕ → Call
suspends_by m id = record { id = id; op = suspend m 1 }

abbrev resumes_by : ℕ → ℕ → Call
resumes_by m id = record { id = id; op = resume m }

abbrev sends_by : ℕ → ℕ → Call
sends_by m id = record { id = id; op = part m (record { indicator = 3; low = 0; high = 0; count = 12; bytes = replicate 48 0 }) }

-- W8: calls to a controller's queue: it is made, posted to and taken from, with so many bytes of its area
abbrev makes : ℕ → ℕ → Call
makes id bytes = record { id = id; op = queue bytes make }

abbrev posts : ℕ → ℕ → List ℕ → Call
posts id bytes e = record { id = id; op = queue bytes (post e) }

abbrev takes : ℕ → ℕ → ℕ → ℕ → Call
takes id bytes asked buffer = record { id = id; op = queue bytes (order.take asked (replicate buffer 0)) }

-- entries, each of one byte's value; the closing one is of FFh
abbrev entry : ℕ → List ℕ
entry v = replicate 32 v

-- bytes of which nothing matters but how many
abbrev zeros : ℕ → List ℕ
zeros n = replicate n 0

-- n zeros with v at a place
abbrev with : ℕ → ℕ → ℕ → List ℕ
with n at v = set (zeros n) at v

-- a state of one dword of NVMe's and two of the vendor's
abbrev state60 : List ℕ
state60 = set (with 60 16 1) 32 2

-- a report of some runs with More To Report set or clear, for which so many groups were examined (W10)
abbrev report_in : ℕ → Bool → List Descriptor → Answer
report_in groups more ds = reported (record { suspended = false; more = more; granularity = 0; descriptors = ds; groups = groups })

abbrev report : Bool → List Descriptor → Answer
report more ds = report_in 1 more ds

abbrev run : ℕ → ℕ → Descriptor
run a n = record { address = a; length = n }

-- "Granularity 0 and the range (65536, 4 units) unless said"
abbrev usual : Call
usual = starts 0 (range 65536 4 ∷ [])

-- ---- settings

-- those of document 01's example: `dev 1 0 8 RULE 16 5 6`
abbrev settings : Bool → Settings
settings powers =
    record {
      manager = 1;
      least = 0;
      greatest = 8;
      powers = powers;
      limit = 16;
      second = None;
      shelf = 128;
      count = 2;
      identifiers = 5 ∷ 6 ∷ 0 ∷ 0 ∷ 0 ∷ 0 ∷ 0 ∷ 0 ∷ [];
    }

-- W12: manager 1 with limit 16 and 2 with limit 4, the shelf's 18, controllers 5, 6 and 7
abbrev two_managers : Settings
two_managers =
    record {
      manager = 1;
      least = 0;
      greatest = 8;
      powers = false;
      limit = 16;
      second = Some (record { id = 2; limit = 4 });
      shelf = 18;
      count = 3;
      identifiers = 5 ∷ 6 ∷ 7 ∷ 0 ∷ 0 ∷ 0 ∷ 0 ∷ 0 ∷ [];
    }

-- one manager with limit 16, the shelf's 3
abbrev small_shelf : Settings
small_shelf = record { manager = 1; least = 0; greatest = 8; powers = false; limit = 16; second = None; shelf = 3; count = 2; identifiers = 5 ∷ 6 ∷ 0 ∷ 0 ∷ 0 ∷ 0 ∷ 0 ∷ 0 ∷ [] }

-- ---- the table

pub record Case : Type 0 where
  pub settings : Settings
  pub calls : List Call
  pub answers : List Answer

abbrev case : List Call → List Answer → Case
case ks as' = record { settings = settings false; calls = ks; answers = as' }

unfoldable pub cases : List Case
cases =
    -- write at 69632, length 1: unit 1
    case (usual ∷ writes 69632 1 ∷ receives 64 ∷ []) (done ∷ wrote 1 ∷ report false (run 69632 1 ∷ []) ∷ [])
    -- write at 73727, length 2: units 1 and 2
    ∷ case (usual ∷ writes 73727 2 ∷ receives 64 ∷ []) (done ∷ wrote 2 ∷ report false (run 69632 2 ∷ []) ∷ [])
    -- write at 65535, length 1: none; length 0 anywhere: none
    ∷ case (usual ∷ writes 65535 1 ∷ writes 65536 0 ∷ writes 69632 0 ∷ receives 64 ∷ []) (done ∷ wrote 0 ∷ wrote 0 ∷ wrote 0 ∷ report false [] ∷ [])
    -- write at 2^64 − 1, length 1: done; length 2: refusal 14
    ∷ case (usual ∷ writes (2 ^ 64 - 1) 1 ∷ writes (2 ^ 64 - 1) 2 ∷ []) (done ∷ wrote 0 ∷ refused 14 0 ∷ [])
    -- granularity 8: start 1048576 is allowed, 1052672 is refused (W3: 20, row 0)
    ∷ case (starts 8 (range 1052672 1 ∷ []) ∷ starts 8 (range 1048576 1 ∷ []) ∷ []) (refused 20 0 ∷ done ∷ [])
    -- range (2^64 − 4096, 1): allowed; length 2: refused (W3: 21, row 0)
    ∷ case (starts 0 (range (2 ^ 64 - 4096) 2 ∷ []) ∷ starts 0 (range (2 ^ 64 - 4096) 1 ∷ []) ∷ []) (refused 21 0 ∷ done ∷ [])
    -- units 0 and 2 pending, buffer 47: one descriptor (65536, 1), More set; next (73728, 1), More clear
    ∷ case (usual ∷ writes 65536 1 ∷ writes 73728 1 ∷ receives 47 ∷ receives 47 ∷ [])
    (done ∷ wrote 1 ∷ wrote 1 ∷ report true (run 65536 1 ∷ []) ∷ report false (run 73728 1 ∷ []) ∷ [])
    -- ranges (65536, 1) and (69632, 1), both pending: two descriptors
    ∷ case (starts 0 (range 65536 1 ∷ range 69632 1 ∷ []) ∷ writes 65536 8192 ∷ receives 64 ∷ [])
    (done ∷ wrote 2 ∷ report false (run 65536 1 ∷ run 69632 1 ∷ []) ∷ [])
    -- power-of-two rule on: length 3 is refusal 10, length 4 allowed
    ∷ record { settings = settings true; calls = starts 0 (range 65536 3 ∷ []) ∷ usual ∷ []; answers = refused 10 0 ∷ done ∷ [] }
    -- limit 16, another controller holds 10: a start with 7 is refusal 12, with 6 done
    ∷ case (other_starts 0 (singles 0 10) ∷ starts 0 (singles 0 7) ∷ starts 0 (singles 0 6) ∷ []) (done ∷ refused 12 0 ∷ done ∷ [])
    -- W3: no range, and 17 of which the first has no units: 18
    ∷ case (starts 0 [] ∷ starts 0 (range 4097 0 ∷ singles 0 16) ∷ []) (refused 18 0 ∷ refused 18 0 ∷ [])
    -- the earliest row answers, whichever of its rules it breaks
    ∷ case (starts 0 (range 65536 4 ∷ range 4097 1 ∷ range 0 0 ∷ []) ∷ starts 0 (range 65536 1 ∷ range (2 ^ 64 - 4096) 2 ∷ range 4097 0 ∷ []) ∷ [])
    (refused 20 1 ∷ refused 21 1 ∷ [])
    -- within a row length 0, unaligned, past the end
    ∷ case (starts 0 (range 4097 0 ∷ []) ∷ starts 0 (range (2 ^ 64 - 1) 0 ∷ []) ∷ starts 0 (range (2 ^ 64 - 1) 1 ∷ []) ∷ []) (refused 19 0 ∷ refused 19 0 ∷ refused 20 0 ∷ [])
    -- all of it before the power-of-two rule, and behind the granularity, which name no row
    ∷ record { settings = settings true; calls = starts 0 (range 65536 3 ∷ range 4096 0 ∷ []) ∷ starts 9 (range 0 0 ∷ []) ∷ []; answers = refused 19 1 ∷ refused 7 0 ∷ [] }
    -- W7: 16,384 units in all, whoever has them: 11 before 12, and none after a stop
    ∷ case
    (starts 0 (range 0 16384 ∷ range 0 16384 ∷ []) ∷ other_starts 0 (range 0 1 ∷ []) ∷ other_starts 0 (singles 0 16) ∷ record { id = 5; op = stop 1 } ∷ other_starts 0 (range 0 16384 ∷ []) ∷ [])
    (done ∷ refused 11 0 ∷ refused 11 0 ∷ done ∷ done ∷ [])
    ∷ case (starts 0 (range 0 16385 ∷ []) ∷ starts 0 (range 0 4097 ∷ []) ∷ other_starts 0 (range 0 12288 ∷ []) ∷ other_starts 0 (range 0 12287 ∷ []) ∷ [])
    (refused 11 0 ∷ done ∷ refused 11 0 ∷ done ∷ [])
    -- tracked units are different ones too: those of ranges listed twice count once
    ∷ case (starts 0 (range 0 8192 ∷ range 0 8192 ∷ []) ∷ other_starts 0 (range 0 8193 ∷ []) ∷ other_starts 0 (range 0 8192 ∷ []) ∷ []) (done ∷ refused 11 0 ∷ done ∷ [])
    -- the room of one that stopped is used again, in front of another
    ∷ case (starts 0 (range 0 8192 ∷ []) ∷ other_starts 0 (range 0 8192 ∷ []) ∷ record { id = 5; op = stop 1 } ∷ starts 0 (range 0 8193 ∷ []) ∷ starts 0 (range 0 8192 ∷ []) ∷ [])
    (done ∷ done ∷ done ∷ refused 11 0 ∷ done ∷ [])
    -- W6: 13 for one that runs; a header alone is a state, and 4 bytes less or more are none
    ∷ case (sends 5 3 0 12 (zeros 48) ∷ suspends 5 ∷ sends 5 3 0 12 (zeros 48) ∷ sends 5 3 0 11 (zeros 44) ∷ sends 5 3 0 13 (zeros 52) ∷ [])
    (refused 13 0 ∷ done ∷ assembled (zeros 48) ∷ refused 27 0 ∷ refused 27 0 ∷ [])
    -- a state in three parts: a last one that leaves it short is refused, and the sender goes on
    ∷ case
    (suspends 5 ∷ sends 5 1 0 4 (take 16 state60) ∷ sends 5 0 16 7 (take 28 (drop 16 state60)) ∷ sends 5 2 44 3 (take 12 (drop 44 state60)) ∷ sends 5 2 44 4 (drop 44 state60) ∷ [])
    (done ∷ done ∷ done ∷ refused 27 0 ∷ assembled state60 ∷ [])
    -- 24: bits 1:0, past the area, a high word; before 25
    ∷ case
    (suspends 5 ∷ sends 5 1 2 1 (zeros 4) ∷ sends 5 1 4100 1 (zeros 4) ∷ sends 5 4 2 1 (zeros 4)
    ∷ record { id = 5; op = part 1 (record { indicator = 1; low = 0; high = 1; count = 1; bytes = zeros 4 }) } ∷ [])
    (done ∷ refused 24 0 ∷ refused 24 0 ∷ refused 24 0 ∷ refused 24 0 ∷ [])
    -- 25: an indicator above 3, no dwords but in a last part, data that are not the counted dwords; before 26
    ∷ case
    (suspends 5 ∷ sends 5 4 0 1 (zeros 4) ∷ sends 5 1 0 0 [] ∷ sends 5 0 0 0 [] ∷ sends 5 3 0 0 [] ∷ sends 5 2 4 0 (zeros 4) ∷ sends 5 1 4 1 (zeros 3) ∷ sends 5 1 0 1 (zeros 8) ∷ [])
    (done ∷ refused 25 0 ∷ refused 25 0 ∷ refused 25 0 ∷ refused 25 0 ∷ refused 25 0 ∷ refused 25 0 ∷ refused 25 0 ∷ [])
    -- 26: a first or only part elsewhere than at 0, any other with nothing open or elsewhere than at its end
    ∷ case
    (suspends 5 ∷ sends 5 1 4 1 (zeros 4) ∷ sends 5 3 4 12 (zeros 48) ∷ sends 5 0 0 1 (zeros 4) ∷ sends 5 2 0 0 [] ∷ sends 5 1 0 2 (zeros 8) ∷ sends 5 0 4 1 (zeros 4) ∷ sends 5 2 12 9 (zeros 36) ∷ [])
    (done ∷ refused 26 0 ∷ refused 26 0 ∷ refused 26 0 ∷ refused 26 0 ∷ done ∷ refused 26 0 ∷ refused 26 0 ∷ [])
    -- 27: past 4,096 bytes
    ∷ case (suspends 5 ∷ sends 5 1 0 1025 (zeros 4100) ∷ sends 5 1 0 1024 (zeros 4096) ∷ sends 5 0 4096 1 (zeros 4) ∷ []) (done ∷ refused 27 0 ∷ done ∷ refused 27 0 ∷ [])
    -- 23 before 24; another's resume leaves the sequence, its owner's drops it
    ∷ case
    (suspends 5 ∷ suspends 6 ∷ sends 5 1 0 4 (zeros 16) ∷ sends 6 1 2 1 (zeros 4) ∷ resumes 6 ∷ sends 5 0 16 1 (zeros 4) ∷ resumes 5 ∷ suspends 5 ∷ sends 5 0 20 1 (zeros 4) ∷ [])
    (done ∷ done ∷ done ∷ refused 23 0 ∷ done ∷ done ∷ done ∷ done ∷ refused 26 0 ∷ [])
    -- 2 for one that the settings lack; 13 before 23; 26 before 27
    ∷ case (sends 9 3 0 12 (zeros 48) ∷ suspends 5 ∷ sends 5 1 0 4 (zeros 16) ∷ sends 6 1 0 1 (zeros 4) ∷ sends 5 1 4 1024 (zeros 4096) ∷ [])
    (refused 2 0 ∷ done ∷ done ∷ refused 13 0 ∷ refused 26 0 ∷ [])
    -- a suspend of its owner leaves it, of either type
    ∷ case (suspends 5 ∷ sends 5 1 0 4 (zeros 16) ∷ suspends 5 ∷ record { id = 5; op = suspend 1 0 } ∷ sends 5 0 16 1 (zeros 4) ∷ []) (done ∷ done ∷ done ∷ done ∷ done ∷ [])
    -- a refused only part leaves what is open; an accepted one begins anew and ends it
    ∷ case
    (suspends 5 ∷ sends 5 1 0 5 (zeros 20) ∷ sends 5 3 0 12 (with 48 1 1) ∷ sends 5 2 20 7 (zeros 28) ∷ sends 5 1 0 1 (replicate 4 238) ∷ sends 5 3 0 12 (zeros 48) ∷ sends 5 2 48 0 [] ∷ [])
    (done ∷ done ∷ refused 27 0 ∷ assembled (zeros 48) ∷ done ∷ assembled (zeros 48) ∷ refused 26 0 ∷ [])
    -- a last part of no dwords closes what is complete
    ∷ case (suspends 5 ∷ sends 5 1 0 12 (zeros 48) ∷ sends 5 2 48 0 [] ∷ []) (done ∷ done ∷ assembled (zeros 48) ∷ [])
    -- W8: two places hold one entry and the closing one. 8 before 30; a stopped queue that is empty refuses posts until it is made anew; a take of none is not closing
    ∷ case
    (makes 5 64 ∷ posts 5 64 (entry 1) ∷ posts 5 64 (entry 2) ∷ posts 5 64 (entry 3) ∷ posts 5 64 (zeros 31) ∷ takes 5 64 10 100 ∷ takes 5 64 10 100 ∷ posts 5 64 (entry 3) ∷ makes 5 64
    ∷ posts 5 64 (entry 3) ∷ [])
    (done ∷ posted false ∷ posted true ∷ refused 30 0 ∷ refused 8 0 ∷ taken (entry 1 ∷ entry 255 ∷ []) true ∷ taken [] false ∷ refused 30 0 ∷ done ∷ posted false ∷ [])
    -- a posted entry of FFh is not the closing one
    ∷ case (makes 5 96 ∷ posts 5 96 (entry 255) ∷ takes 5 96 1 32 ∷ []) (done ∷ posted false ∷ taken (entry 255 ∷ []) false ∷ [])
    -- the fourth post to four places closes; a take says so once the closing entry is its last
    ∷ case
    (makes 5 128 ∷ posts 5 128 (entry 1) ∷ posts 5 128 (entry 2) ∷ posts 5 128 (entry 3) ∷ posts 5 128 (entry 4) ∷ takes 5 128 3 4096 ∷ takes 5 128 1 4096 ∷ [])
    (done ∷ posted false ∷ posted false ∷ posted false ∷ posted true ∷ taken (entry 1 ∷ entry 2 ∷ entry 3 ∷ []) false ∷ taken (entry 255 ∷ []) true ∷ [])
    -- as many as are asked for, are queued and fit whole
    ∷ case
    (makes 5 160 ∷ posts 5 160 (entry 1) ∷ posts 5 160 (entry 2) ∷ posts 5 160 (entry 3) ∷ takes 5 160 3 31 ∷ takes 5 160 0 96 ∷ takes 5 160 3 63 ∷ takes 5 160 1 96 ∷ takes 5 160 3 96 ∷ [])
    (done ∷ posted false ∷ posted false ∷ posted false ∷ taken [] false ∷ taken [] false ∷ taken (entry 1 ∷ []) false ∷ taken (entry 2 ∷ []) false ∷ taken (entry 3 ∷ []) false ∷ [])
    -- 28: no whole 2 to 1,024 places
    ∷ case (makes 5 0 ∷ makes 5 32 ∷ makes 5 63 ∷ makes 5 65 ∷ makes 5 32800 ∷ makes 5 64 ∷ makes 5 32768 ∷ [])
    (refused 28 0 ∷ refused 28 0 ∷ refused 28 0 ∷ refused 28 0 ∷ refused 28 0 ∷ done ∷ done ∷ [])
    -- 28 before 29; not the size made; 29 before 8; 28 before 8 and 30
    ∷ case
    (posts 5 63 (entry 1) ∷ posts 5 64 (entry 1) ∷ posts 5 64 [] ∷ takes 5 63 1 32 ∷ takes 5 64 1 32 ∷ makes 5 96 ∷ posts 5 64 (entry 1) ∷ posts 5 128 [] ∷ takes 5 64 1 32 ∷ [])
    (refused 28 0 ∷ refused 29 0 ∷ refused 29 0 ∷ refused 28 0 ∷ refused 29 0 ∷ done ∷ refused 28 0 ∷ refused 28 0 ∷ refused 28 0 ∷ [])
    -- 2 for one that the settings lack; each controller has its own; tracking and suspending leave it
    ∷ case
    (makes 9 64 ∷ makes 5 96 ∷ posts 5 96 (entry 1) ∷ makes 6 96 ∷ takes 6 96 9 96 ∷ posts 6 96 (entry 2) ∷ usual ∷ suspends 5 ∷ posts 5 96 (entry 3) ∷ resumes 5 ∷ record { id = 5; op = stop 1 } ∷ takes 5 96 9 96 ∷ [])
    (refused 2 0 ∷ done ∷ posted false ∷ done ∷ taken [] false ∷ posted false ∷ done ∷ done ∷ posted false ∷ done ∷ done ∷ taken (entry 1 ∷ entry 3 ∷ []) false ∷ [])
    -- W10: 200 units, of which 0, 70 and 130 are pending, with room for one run
    ∷ case
    (starts 0 (range 65536 200 ∷ []) ∷ writes 65536 1 ∷ writes 352256 1 ∷ writes 598016 1 ∷ receives 47 ∷ receives 47 ∷ receives 47 ∷ receives 47 ∷ [])
    (done ∷ wrote 1 ∷ wrote 1 ∷ wrote 1 ∷ report_in 2 true (run 65536 1 ∷ []) ∷ report_in 3 true (run 352256 1 ∷ []) ∷ report_in 4 false (run 598016 1 ∷ []) ∷ report_in 4 false [] ∷ [])
    -- W12: 3 whoever tracks it, 5 for the other manager, before 8; 2 for one that is no manager, and a manager is no controller
    ∷ record {
      settings = two_managers;
      calls =
          starts_by 1 5 10 ∷ starts_by 2 5 1 ∷ starts_by 1 5 1 ∷ stops_by 2 5 ∷ receives_by 2 5 16 ∷ receives_by 1 5 16 ∷ starts_by 3 6 1 ∷ starts_by 5 6 1 ∷ stops_by 3 5 ∷ receives_by 3 5 64 ∷ suspends_by 3 5
          ∷ resumes_by 3 5 ∷ sends_by 3 5 ∷ starts_by 1 1 1 ∷ starts_by 1 2 1 ∷ [];
      answers =
          done ∷ refused 3 0 ∷ refused 3 0 ∷ refused 5 0 ∷ refused 5 0 ∷ refused 8 0 ∷ refused 2 0 ∷ refused 2 0 ∷ refused 2 0 ∷ refused 2 0 ∷ refused 2 0 ∷ refused 2 0 ∷ refused 2 0
          ∷ refused 2 0 ∷ refused 2 0 ∷ [];
    }
    -- 12 over that manager's counts, then 34 over all; suspension belongs to the controller; what a stop gives back serves both managers
    ∷ record {
      settings = two_managers;
      calls =
          starts_by 1 5 10 ∷ starts_by 2 6 5 ∷ starts_by 2 6 4 ∷ starts_by 1 7 7 ∷ starts_by 1 7 5 ∷ starts_by 1 7 4 ∷ suspends_by 2 5 ∷ stops_by 1 5 ∷ stops_by 2 5 ∷ sends_by 1 5 ∷ resumes_by 1 5 ∷ stops_by 1 5
          ∷ starts_by 2 5 10 ∷ starts_by 1 5 10 ∷ [];
      answers =
          done ∷ refused 12 0 ∷ done ∷ refused 12 0 ∷ refused 34 0 ∷ done ∷ done ∷ refused 4 0 ∷ refused 4 0 ∷ assembled (zeros 48) ∷ done ∷ done ∷ refused 12 0 ∷ done ∷ [];
    }
    -- 34 with one manager
    ∷ record { settings = small_shelf; calls = starts_by 1 5 4 ∷ starts_by 1 5 3 ∷ starts_by 1 6 1 ∷ []; answers = refused 34 0 ∷ done ∷ refused 34 0 ∷ [] }
    ∷ []

-- ---- the claim

-- what the rules answer
abbrev pub answered : Case → List Answer
answered c = map (λ (e : Event). e.answer) (events (fresh c.settings 256) c.calls)

-- each case is answered as the document says
abbrev pub Worked : Type 0
Worked = map answered cases ≡ map (λ (c : Case). c.answers) cases

-- ---- W6: states, and whether each is accepted as finished

pub record StateCase : Type 0 where
  pub bytes : List ℕ
  pub ok : Bool

abbrev finished : List ℕ → StateCase
finished x = record { bytes = x; ok = true }

abbrev unfinished : List ℕ → StateCase
unfinished x = record { bytes = x; ok = false }

abbrev pub states : List StateCase
states =
    -- a header alone, with anything in its attributes and its reserved bytes; one byte less
    finished (set (with 48 2 255) 15 255)
    ∷ unfinished (replicate 47 0)
    -- a version in either byte
    ∷ unfinished (with 48 0 1)
    ∷ unfinished (with 48 1 1)
    -- a dword of either kind is 4 bytes more
    ∷ finished (with 52 16 1)
    ∷ finished (with 52 32 1)
    ∷ finished state60
    ∷ unfinished (replicate 52 0)
    -- 4 dwords are 16 bytes
    ∷ finished (with 64 16 4)
    ∷ unfinished (with 52 16 4)
    -- a size has 16 bytes, and each counts
    ∷ unfinished (with 48 18 1)
    ∷ unfinished (with 48 31 1)
    ∷ unfinished (with 48 47 1)
    -- the sizes are added as they are: 2^128 - 1 and 1, and 2^64 - 1 and 1
    ∷ unfinished (replicate 16 0 ++ (replicate 16 255 ++ with 16 0 1))
    ∷ unfinished (replicate 16 0 ++ ((replicate 8 255 ++ replicate 8 0) ++ with 16 0 1))
    ∷ []

abbrev pub WorkedStates : Type 0
WorkedStates = map (λ (c : StateCase). state_ok c.bytes) states ≡ map (λ (c : StateCase). c.ok) states

-- ---- W10: the groups that a report examines, of a controller with these ranges of granularity 0, of which the units with these numbers are pending, with room for so many
-- runs

pub record GroupCase : Type 0 where
  pub ranges : List Range
  pub numbers : List ℕ
  pub room : ℕ
  pub groups : ℕ

abbrev grouped : List Range → List ℕ → ℕ → GroupCase
grouped rs ns n = record { ranges = rs; numbers = ns; room = 1; groups = n }

-- so many marks, of which those with these numbers are set
abbrev marked : ℕ → List ℕ → List Bool
marked n [] = replicate n false
marked n (i ∷ is) = set (marked n is) i true

-- a range of 64 units, and one of 200 from address 0 on that has them too
abbrev overlapping : List Range
overlapping = range 409600 64 ∷ range 0 200 ∷ []

abbrev pub group_cases : List GroupCase
group_cases =
    -- report after report, with room for one run
    grouped (range 65536 200 ∷ []) (0 ∷ 70 ∷ 130 ∷ []) 2
    ∷ grouped (range 65536 200 ∷ []) (70 ∷ 130 ∷ []) 3
    ∷ grouped (range 65536 200 ∷ []) (130 ∷ []) 4
    ∷ grouped (range 65536 200 ∷ []) [] 4
    -- with room for two runs, and for three
    ∷ record { ranges = range 65536 200 ∷ []; numbers = 0 ∷ 70 ∷ 130 ∷ []; room = 2; groups = 3 }
    ∷ record { ranges = range 65536 200 ∷ []; numbers = 0 ∷ 70 ∷ 130 ∷ []; room = 3; groups = 4 }
    -- wherever its share begins: no bit of the pool is asked
    ∷ grouped (range 65536 100 ∷ []) (0 ∷ 59 ∷ []) 1
    -- one run over the border of two groups, and two runs at it
    ∷ grouped (range 65536 128 ∷ []) (63 ∷ 64 ∷ []) 2
    ∷ grouped (range 65536 64 ∷ range 327680 64 ∷ []) (63 ∷ 64 ∷ []) 2
    ∷ grouped (range 65536 128 ∷ []) (0 ∷ 2 ∷ []) 1
    -- units are numbered in the order of the list, and one of two ranges once: the second range's units 0 and 2, then 0 and 170, then 100 and 0
    ∷ grouped overlapping (64 ∷ 66 ∷ []) 2
    ∷ grouped overlapping (64 ∷ 170 ∷ []) 3
    ∷ grouped overlapping (0 ∷ 64 ∷ []) 2
    ∷ grouped overlapping [] 4
    -- rounded up
    ∷ grouped (range 65536 1 ∷ []) [] 1
    ∷ grouped (range 65536 64 ∷ []) [] 1
    ∷ grouped (range 65536 65 ∷ []) [] 2
    ∷ []

abbrev groups_in : GroupCase → ℕ
groups_in c = let us = units 0 c.ranges in groups_on c.room us (marked (length us) c.numbers)

abbrev pub WorkedGroups : Type 0
WorkedGroups = map groups_in group_cases ≡ map (λ (c : GroupCase). c.groups) group_cases

-- ---- W13: sessions, and what a log shows of each controller then, in the order of the settings

pub record TotalsCase : Type 0 where
  pub settings : Settings
  pub calls : List Call
  pub shown : List Shown

-- with document 01's settings: of controllers 5 and 6
abbrev totalled : List Call → Shown → Shown → TotalsCase
totalled ks five six = record { settings = settings false; calls = ks; shown = five ∷ six ∷ [] }

abbrev stopped : Call
stopped = stops_by 1 5

unfoldable pub totals_cases : List TotalsCase
totals_cases =
    -- document 01's example; the refused call to 6 adds nothing
    totalled (usual ∷ writes 69632 1 ∷ writes 73727 2 ∷ receives 64 ∷ receives_by 1 6 64 ∷ []) (known 2 2 0) (known 0 0 0)
    -- one run of 4 units: 4 are reported, not 1
    ∷ totalled (usual ∷ writes 65536 16384 ∷ receives 32 ∷ []) (known 4 4 0) (known 0 0 0)
    -- then 3 are written again, and a stop drops them
    ∷ totalled (usual ∷ writes 65536 16384 ∷ receives 32 ∷ writes 65536 12288 ∷ stopped ∷ []) (known 7 4 3) (known 0 0 0)
    -- written, reported and written again: 2; written twice without a report: 1
    ∷ totalled (usual ∷ writes 65536 1 ∷ receives 64 ∷ writes 65536 1 ∷ []) (known 2 1 0) (known 0 0 0)
    ∷ totalled (usual ∷ writes 65536 1 ∷ writes 65536 1 ∷ []) (known 1 0 0) (known 0 0 0)
    -- a stop that is refused drops nothing; the same one once it runs again does
    ∷ totalled (usual ∷ writes 65536 1 ∷ suspends 5 ∷ stopped ∷ []) (known 1 0 0) (known 0 0 0)
    ∷ totalled (usual ∷ writes 65536 1 ∷ suspends 5 ∷ stopped ∷ resumes 5 ∷ stopped ∷ stopped ∷ []) (known 1 0 1) (known 0 0 0)
    -- a report that has no room for all leaves the rest to the stop; numbers go on over another start
    ∷ totalled (usual ∷ writes 65536 1 ∷ writes 73728 1 ∷ receives 47 ∷ stopped ∷ usual ∷ writes 65536 8192 ∷ stopped ∷ []) (known 4 1 3) (known 0 0 0)
    -- a report of two runs, and one of a controller that is suspended, list their units too
    ∷ totalled (usual ∷ writes 65536 8192 ∷ writes 77824 1 ∷ receives 64 ∷ []) (known 3 3 0) (known 0 0 0)
    ∷ totalled (usual ∷ writes 65536 12288 ∷ suspends 5 ∷ receives 64 ∷ []) (known 3 3 0) (known 0 0 0)
    -- a unit of two ranges counts once (W2)
    ∷ totalled (starts 0 (range 65536 2 ∷ range 65536 4 ∷ []) ∷ writes 65536 16384 ∷ stopped ∷ []) (known 4 0 4) (known 0 0 0)
    -- each controller has its own
    ∷ totalled
    (usual ∷ other_starts 0 (range 65536 2 ∷ []) ∷ writes 65536 16384 ∷ record { id = 6; op = write (record { address = 65536; bytes = 16384 }) } ∷ stops_by 1 6 ∷ [])
    (known 4 0 0)
    (known 2 0 2)
    -- a device that was just made
    ∷ totalled [] (known 0 0 0) (known 0 0 0)
    ∷ []

abbrev pub totals_in : TotalsCase → List Shown
totals_in c = map (λ (a : ℕ). shown_by (history_of a (events (fresh c.settings 256) c.calls))) (identifiers_of c.settings)

abbrev pub WorkedTotals : Type 0
WorkedTotals = map totals_in totals_cases ≡ map (λ (c : TotalsCase). c.shown) totals_cases

-- and histories that no file gets to: writes with these counts
pub record ShownCase : Type 0 where
  pub counts : List ℕ
  pub shown : Shown

abbrev counted : List ℕ → Shown → ShownCase
counted ns r = record { counts = ns; shown = r }

abbrev pub shown_cases : List ShownCase
shown_cases =
    -- 2^64 − 1 is known, and stays so with 0 more
    counted ((2 ^ 64 - 1) ∷ []) (known (2 ^ 64 - 1) 0 0)
    ∷ counted ((2 ^ 64 - 1) ∷ 0 ∷ []) (known (2 ^ 64 - 1) 0 0)
    -- 1 more passes it, and then all three are unknown
    ∷ counted ((2 ^ 64 - 1) ∷ 1 ∷ []) unknown
    ∷ counted ((2 ^ 64 - 1) ∷ 1 ∷ 0 ∷ []) unknown
    ∷ []

abbrev wrote_counts : List ℕ → List Did
wrote_counts ns = map (λ (n : ℕ). record { op = write (record { address = 0; bytes = 0 }); answer = wrote n }) ns

abbrev pub WorkedShown : Type 0
WorkedShown = map (λ (c : ShownCase). shown_by (wrote_counts c.counts)) shown_cases ≡ map (λ (c : ShownCase). c.shown) shown_cases
