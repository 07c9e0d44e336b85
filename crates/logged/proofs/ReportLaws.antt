-- The units that a done receive lists in its buffer are those of its report, on any engine; so what is summed there is what is booked. Assumes nothing.
use mathlib.Core.Path.{◌≡◌, refl, sym, ap, ◌∙◌}
use mathlib.Core.Bool.{Bool, true, false, cond}
use mathlib.Core.List.{List, [], ◌∷◌, map}
use Rattle.std.specs.declared.option.Option.{Option}
use Rattle.std.specs.declared.option.Option.TheVariants.{None, Some}
use Prim.Native.Nat.{ℕ, ◌+◌, ◌*◌, ◌^◌, ◌≤◌, ◌<◌}
use native.Mathlib.Omega.{arith}
use lib.Dec.{eqb}
use lib.ListN.{length, take}
use lib.Seq.{take-nil}
use borrow.Author.Tests.{leb-true, eqb-true, eqb-false}
use Rattle.little.specs.Little.{records_at}
use Rattle.rules.specs.Lists.{sum}
use Rattle.rules.specs.Settings.{most_units, place_of}
use Rattle.rules.specs.Units.{units}
use Rattle.rules.specs.Ranges.{rows_ok}
use Rattle.rules.specs.Report.{Descriptor, room}
use Rattle.rules.specs.Order.{receive_order}
use Rattle.rules.specs.Machine.{no_report}
use Rattle.rules.specs.Totals.{report_units}
use Rattle.rules.specs.declared.Device.{Device}
use Rattle.rules.specs.declared.Range.{Range}
use Rattle.rules.specs.declared.Tracking.{Tracking}
use Rattle.rules.specs.declared.Tracking.TheVariants.{Off, On}
use Rattle.rules.proofs.RefusalLaws.{verdict-both}
use Rattle.rules.proofs.RunLaws.{pending-length-le}
use Rattle.rules.proofs.TotalLaws.{report_units-cleared}
use Rattle.log_numbers.specs.declared.Log.{Log}
use Rattle.record.specs.Record.{sound_with, controller_at, where_is, seen_in}
use Rattle.std.specs.declared.result.Result.TheVariants.{Ok}
use Rattle.record.proofs.RecordLaws.{where_is-at}
use Rattle.report_reader.proofs.ReadBack.{lists_back}
use Rattle.calls.specs.declared.Received.{Received}
use Rattle.calls.specs.Calls.{Engine, Receipt, received, receive_in, receive_done, receive_by}
use Rattle.calls.proofs.PlaceLaws.{held_at, share-within}
use Rattle.calls.proofs.ReceiptLaws.{answer-fits}
use Rattle.booking.specs.Booking.{booked_by, units_listed, receive_log}
use Rattle.booking.proofs.BookLaws.{book-refused}

-- its buffer lists the units of its report, and these are not many
abbrev Lists : Receipt → Type 0
Lists r = (units_listed r.buffer r.answer.runs ≡ report_units r.report) × (report_units r.report ≤ most_units)

-- no range has no units
few-units : (g n : ℕ) (rs : List Range) → (1 ≤ length rs → length (units g (take n rs)) ≤ most_units) → length (units g (take n rs)) ≤ most_units
few-units g n [] h = rw (take-nil n) (omega arith)
few-units g n (r ∷ rs) h = h (omega arith)

located : (d : Device) (words id i : ℕ) → sound_with d words ≡ true → place_of d.settings id ≡ Some i → where_is d words id ≡ Ok i
unfolding where_is
located d words id i s e = rw (s, e)

module _ (en : Engine) (ws : List ℕ) (id : ℕ) (x : List ℕ) where
  lists-none : Lists (received 0 no_report ws x)
  unfolding records_at
  lists-none = (refl, omega arith)

  module _ (small : id < 2 ^ 16) (long : 32 ≤ length x) where
    -- a report on ranges that keep the rules
    lists-on : (base g n : ℕ) (b : Bool) (rs : List Range) → g ≤ 20 → rows_ok g (take n rs) ≡ true → length (units g (take n rs)) ≤ most_units → Lists (receive_in en ws base id b (On g n) rs x)
    lists-on base g n b rs gran rows total =
        let us = units g (take n rs) in
        let p = en.marks ws base (length us) in (
          ap (λ (ds : List Descriptor). sum (map (λ (r : Descriptor). r.length) ds)) (lists_back id g b (take n rs) p x small gran rows total long),
          omega (arith, report_units-cleared b g (room (length x)) us p, pending-length-le us p, total),
        )

    module _ (d : Device) (there : length d.controllers ≡ 8) (s : sound_with d (en.words ws) ≡ true) where
      -- what the controller at a place holds keeps them
      lists_at : (i : ℕ) → place_of d.settings id ≡ Some i → (t : Tracking) → (controller_at d (Some i)).tracking ≡ t
          → Lists (receive_in en ws (controller_at d (Some i)).base id (controller_at d (Some i)).suspended t (controller_at d (Some i)).ranges x)
      lists_at i e Off f = lists-none
      lists_at i e (On g n) f =
          let h = held_at d (en.words ws) id i at (omega (arith, there, (where_is-at d (en.words ws) id i at).below)) g n f in
          lists-on (controller_at d (Some i)).base g n (controller_at d (Some i)).suspended (controller_at d (Some i)).ranges h.small h.rows few
        where
          at : where_is d (en.words ws) id ≡ Ok i
          at = located d (en.words ws) id i s e

          few : length (units g (take n (controller_at d (Some i)).ranges)) ≤ most_units
          few =
              few-units g n (controller_at d (Some i)).ranges
              (λ Some. omega (arith, share-within d (en.words ws) id i at (omega (arith, there, (where_is-at d (en.words ws) id i at).below)) g n f Some))

      lists-done : (p : Option ℕ) → place_of d.settings id ≡ p → Lists (receive_done en d ws id x p)
      lists-done None e = lists-none
      lists-done (Some i) e = lists_at i e (controller_at d (Some i)).tracking refl

module _ (en : Engine) (d : Device) (ws : List ℕ) (m id : ℕ) (x : List ℕ) (small : id < 2 ^ 16) (there : length d.controllers ≡ 8) where
  abbrev it : Receipt
  it = receive_by en d ws m id x

  receipt-lists : it.answer.number ≡ 0 → Lists it
  unfolding receive_by
  receipt-lists =
      verdict-both (λ (r : Receipt) (n : ℕ). r.answer.number ≡ 0 → Lists r) (receive_order d.settings m (seen_in d (en.words ws) (place_of d.settings id)) x)
      (receive_done en d ws id x (place_of d.settings id)) 0 (λ n i. received n no_report ws x) (λ n i. 0)
      ((λ e. absurd (omega arith)), ((λ e. absurd (omega arith)), ((λ e. absurd (omega arith)), ((λ e. absurd (omega arith)), ((λ e. absurd (omega arith)), tt)))))
      (λ passed e. lists-done en ws id x small (leb-true 32 (length x) passed.1.1.1.1.0) d there passed.0 (place_of d.settings id) refl)

  -- what the sum over its descriptors asks: they are there, and their units fit
  pub receive-sums : (r : Received) (x' : List ℕ) → r ≡ it.answer → x' ≡ it.buffer → length x' ≡ length x → r.number ≡ 0
      → (16 + 16 * r.runs ≤ length x') × (units_listed x' r.runs < 2 ^ 64)
  receive-sums r x' e f n z =
      let w = receipt-lists (rw e at z) in
      (omega (arith, n, answer-fits en d ws m id x r e z), rw (e, f) (omega (arith, w.0, w.1)))

  -- what it books, where so many units were summed
  pub receive-books : (l : Log) (r : Received) (x' : List ℕ) (k : ℕ) → r ≡ it.answer → x' ≡ it.buffer → k ≡ cond (eqb r.number 0) (units_listed x' r.runs) 0
      → booked_by l (place_of d.settings id) r.number 0 k 0 ≡ receive_log en l d ws m id x
  receive-books l r x' k e f h = rw (h, e, f) (go (eqb it.answer.number 0) refl)
    where
      place : Option ℕ
      place = place_of d.settings id

      number : ℕ
      number = it.answer.number

      units_of : ℕ
      units_of = report_units it.report

      go : (b : Bool) → eqb number 0 ≡ b → booked_by l place number 0 (cond (eqb number 0) (units_listed it.buffer it.answer.runs) 0) 0 ≡ booked_by l place number 0 units_of 0
      go true q = rw q (ap (λ j. booked_by l place number 0 j 0) (receipt-lists (eqb-true number 0 q)).0)
      go false q =
          let n = eqb-false number 0 q in
          sym (book-refused l number 0 (cond (eqb number 0) (units_listed it.buffer it.answer.runs) 0) 0 place n) ∙ book-refused l number 0 units_of 0 place n
