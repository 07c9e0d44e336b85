-- `track_send::admit` is right: it refuses in the order of its table, and what it admits has passed it. Assumes nothing.
use mathlib.Core.Path.{◌≡◌, sym, ap, ◌∙◌}
use mathlib.Core.Bool.{true, cond}
use lib.Dec.{eqb}
use native.Mathlib.Omega.{arith}
use Rattle.rules.specs.Refusals.{refused_at}
use Rattle.rules.specs.Settings.{is_manager}
use Rattle.rules.specs.StartData.{header_of}
use Rattle.rules.specs.declared.Header.{Header}
use Rattle.rules.specs.declared.Header.TheVariants.{Is}
use Rattle.rules.proofs.RefusalLaws.{handed_on}
use Rattle.record.specs.Record.{where_by, managed_of, counts_of, units_of}
use Rattle.start_data.specs.Answer.{header_says}
use Rattle.start_data.proofs.Answers.{ranges_read-there}
use Rattle.std.specs.declared.result.Result.TheVariants.{Ok}
use Rattle.record.proofs.RecordLaws.{Located, where_is-at, where_by-at}
use Rattle.track_send.proofs.StartedLaws.{refused-name, start-refused, start-suspended, start-tracked, start-header, start-listed, start-known, Listed, listed-known}
use Rattle.track_send.proofs.admit.Goals as goal
use Rattle.track_send.proofs.admit.Goals.{In_ok-place, In_ok-listed_refusal, In-Is}

-- the place that was found
found : (c : In_ok-place)
    → let a = c.args in
    where_by a.d a.words a.manager a.id ≡ Ok c.in_ok-place.place
found c = sym c.locate_by.ensures ∙ c.in_ok-place.was

-- by a manager of the settings, in a sound record
by : (c : In_ok-place)
    → let a = c.args in
    is_manager a.d.settings a.manager ≡ true
by c = (where_by-at _ _ _ _ _ (found c)).0

located : (c : In_ok-place)
    → let a = c.args in
    Located a.d a.words a.id c.in_ok-place.place
located c = where_is-at _ _ _ _ (where_by-at _ _ _ _ _ (found c)).1

-- the header that was read
header : (c : In-Is) → header_of c.args.«data».now ≡ Is c.in-Is.granularity c.in-Is.count
header c = sym c.read_header-header.ensures.is ∙ c.in-Is.is

-- what is known of its ranges, once they have passed
known : (c : In_ok-listed_refusal)
    → let a = c.args in
    Listed a.d.settings a.manager (units_of a.d) (managed_of a.d a.manager) (counts_of a.d) a.«data».now c.in-Is.granularity c.in-Is.count (sym c.read_header-header.ensures.is ∙ c.in-Is.is)
known c = listed-known _ _ _ _ _ _ _ _ (sym c.read_header-header.ensures.is ∙ c.in-Is.is) _ c.listed_refusal.ensures (ap (λ o. (refused_at o).number) c.in_ok-listed_refusal.was)

pub returns-in_err-place-clause-refusal : goal.returns-in_err-place-clause-refusal
returns-in_err-place-clause-refusal c =
    let a = c.args in
    ap refused_at (handed_on _ _ c.from_residual.ensures.1) ∙ sym (start-refused a.d a.words a.manager a.id a.«data».now _ (sym c.locate_by.ensures ∙ c.in_err-place.was))

pub offset_bounds-d-place : goal.offset_bounds-d-place
offset_bounds-d-place c = omega (arith, (located c).below)

pub bounds-d-place : goal.bounds-d-place
bounds-d-place c = (located c).below

pub returns-then-c-clause-refusal : goal.returns-then-c-clause-refusal
returns-then-c-clause-refusal c =
    let a = c.args in
    rw c.from.ensures (sym (start-suspended a.d a.words a.manager a.id a.«data».now _ (found (goal.at.returns-then-c-clause-refusal c).In_ok-place) c.if-c.true))

pub returns-in_default-clause-refusal : goal.returns-in_default-clause-refusal
returns-in_default-clause-refusal c =
    let a = c.args in
    rw c.from-in_default.ensures (sym (start-tracked a.d a.words a.manager a.id a.«data».now _ (found (goal.at.returns-in_default-clause-refusal c).In_ok-place) c.if-c.false _ _ c.in_default.is))

pub returns-in_default-header-clause-refusal : goal.returns-in_default-header-clause-refusal
returns-in_default-header-clause-refusal c =
    let a = c.args in
    let h = c.in_default-header.is in
    let q = sym c.read_header-header.ensures.is ∙ h in
    let name = c.header_refusal.ensures ∙ ap (λ (x : Header). cond (eqb (header_says x).number 6) 6 8) h ∙ refused-name a.«data».now _ _ q in
    rw (c.from-in_default-header.ensures, name)
    (sym (start-header a.d a.words a.manager a.id a.«data».now _ (found (goal.at.returns-in_default-header-clause-refusal c).In_ok-place) c.if-c.false c.in-Off.is _ _ q))

pub listed_refusal-requires : goal.listed_refusal-requires
listed_refusal-requires c = ((located (goal.at.listed_refusal-requires c).In_ok-place).sound, by (goal.at.listed_refusal-requires c).In_ok-place, header c)

-- what is left of the table is that of the listed ranges
pub returns-in_err-listed_refusal-clause-refusal : goal.returns-in_err-listed_refusal-clause-refusal
returns-in_err-listed_refusal-clause-refusal c =
    let a = c.args in
    ap refused_at (handed_on _ _ c.from_residual-in_err-listed_refusal.ensures.1) ∙ sym (ap refused_at c.in_err-listed_refusal.was) ∙ c.listed_refusal.ensures
    ∙ sym (start-listed a.d a.words a.manager a.id a.«data».now _ (found (goal.at.returns-in_err-listed_refusal-clause-refusal c).In_ok-place) c.if-c.false c.in-Off.is _ _ (sym c.read_header-header.ensures.is ∙ c.in-Is.is))

pub overflow_cast-result : goal.overflow_cast-result
overflow_cast-result c = omega (arith, (known (goal.at.overflow_cast-result c).In_ok-listed_refusal).few)

pub returns-clause-refusal : goal.returns-clause-refusal
returns-clause-refusal c =
    let a = c.args in
    sym (ap refused_at c.in_ok-listed_refusal.was) ∙ c.listed_refusal.ensures
    ∙ sym (start-listed a.d a.words a.manager a.id a.«data».now _ (found (goal.at.returns-clause-refusal c).In_ok-place) c.if-c.false c.in-Off.is _ _ (sym c.read_header-header.ensures.is ∙ c.in-Is.is))

pub returns-clause-admits : goal.returns-clause-admits
returns-clause-admits c =
    let a = c.args in
    let k = known (goal.at.returns-clause-admits c).In_ok-listed_refusal in
    let l = located (goal.at.returns-clause-admits c).In_ok-place in
    let h = header (goal.at.returns-clause-admits c).In-Is in
    let r = c.read_ranges.ensures ∙ ranges_read-there _ _ k.few k.there in
    record {
      found = found (goal.at.returns-clause-admits c).In_ok-place;
      awake = c.if-c.false;
      header = h;
      read = r;
      passed = sym c.listed_refusal.ensures ∙ ap refused_at c.in_ok-listed_refusal.was;
      starts = start-known a.d a.manager a.«data».now _ l.sound l.used c.in-Off.is (sym c.read_header-header.ensures.is ∙ c.in-Is.is) r k;
    }
