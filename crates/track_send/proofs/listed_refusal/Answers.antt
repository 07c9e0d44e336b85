-- `track_send::listed_refusal` is right: it refuses in the order of the table's tests from 7 on, with the row of the ranges' own. Assumes nothing.
use mathlib.Core.Path.{◌≡◌, sym, ap, ◌∙◌}
use mathlib.Core.Bool.{true}
use mathlib.Core.List.{map}
use Prim.Native.Nat.{◌+◌, ◌<◌, ◌≤◌}
use native.Mathlib.Omega.{arith}
use Rattle.little.specs.Little.{records_at}
use Rattle.rules.specs.Refusals.{refusal_at, refused_at}
use Rattle.rules.specs.Settings.{most_units, limit_of, granularity_ok}
use Rattle.rules.specs.StartData.{range_at, placed}
use Rattle.rules.specs.Device.{held_of, controllers_of}
use Rattle.rules.proofs.RefusalLaws.{number_of-pos, handed_on}
use Rattle.rules.proofs.SoundLaws.{sound-managed}
use Rattle.settings.proofs.SettingsLaws.{granularity_ok-greatest}
use Rattle.record.specs.Record.{managed_of, counts_of, units_of}
use Rattle.record.proofs.RecordLaws.{sound_device-facts, sound_device-counts, sound_device-all, shares_of-sizes}
use Rattle.start_data.proofs.Answers.{ranges_read-there}
use Rattle.track_send.proofs.StartedLaws.{listed_tests, shared_tests, listed-granularity, listed-short, listed-many, listed-rules, listed-rows, listed-shared, shared-pool, shared_limit, shared-shelf, shared-passed}
use Rattle.track_send.proofs.listed_refusal.Goals as goal
use Rattle.track_send.proofs.listed_refusal.Goals.{After-managed, After-read_ranges-ranges, After-together-held, After-units_in-units, After-weights, Else-count-managed, Else-not-granularity_ok, Else-units-held, Then-units-held}

-- past the first test the granularity passes
allowed : (c : Else-not-granularity_ok) → granularity_ok c.args.d.settings c.args.g ≡ true
allowed c = sym c.granularity_ok.ensures ∙ c.if-not-granularity_ok.false

small : (c : Else-not-granularity_ok) → c.args.g ≤ 20
small c =
    omega (arith, granularity_ok-greatest _ _ (allowed c), (sound_device-facts c.args.d c.requires.0).greatest)

-- past the next two the ranges are read
read : (c : After-read_ranges-ranges)
    → let a = c.args in
    c.read_ranges-ranges.result ≡ placed (records_at range_at 12 a.«data».now 8 a.n)
read c = c.read_ranges-ranges.ensures ∙ ranges_read-there _ _ (omega arith) c.if-data-count.false

-- past the ranges' own the tests are left of what controllers share
shared : (c : After-units_in-units)
    → let a = c.args in
    let d = a.d in
    let m = a.manager in
    let u = c.units_in-units.result.0 in
    refusal_at (listed_tests d.settings m (units_of d) (managed_of d m) (counts_of d) a.«data».now) ≡ refusal_at (shared_tests d.settings m (u + units_of d) (a.n + managed_of d m) (a.n + counts_of d))
shared c =
    listed-shared _ _ _ _ _ _ _ _ c.requires.2 (sym c.granularity_ok.ensures ∙ c.if-not-granularity_ok.false) c.if-data-count.false c.if-count-gt16.false _ (c.list_refusal.ensures ∙ rw (c.read_ranges-ranges.ensures ∙ ranges_read-there _ _ (omega arith) c.if-data-count.false)) (ap (λ o. (refused_at o).number) c.in_ok-list_refusal.was) _ (c.units_in-units.ensures.0 ∙ rw (c.read_ranges-ranges.ensures ∙ ranges_read-there _ _ (omega arith) c.if-data-count.false))

-- the shares of a sound record have its units, which fit the pool
held : (c : After-together-held) → c.together-held.result ≡ units_of c.args.d
held c = c.together-held.ensures ∙ rw c.shares.ensures (shares_of-sizes c.args.d)

most : (c : After-together-held) → units_of c.args.d ≤ most_units
most c = (sound_device-facts c.args.d c.requires.0).units

-- the counts of a manager of a sound record are within its limit
few : (c : After-managed) → let a = c.args in managed_of a.d a.manager ≤ limit_of a.d.settings a.manager
few c = sound-managed c.args.d.settings (map held_of (controllers_of c.args.d)) _ c.requires.0 c.args.manager c.requires.1

-- and its weights are its counts
counted : (c : After-weights) → c.weights.result ≡ counts_of c.args.d
counted c = c.weights.ensures ∙ sound_device-counts c.args.d c.requires.0

-- at 11 the pool is passed; past it there is room, and past 12 the manager's limit is kept
full : (c : Then-units-held) → most_units < c.units_in-units.result.0 + units_of c.args.d
full c =
    let e : c.together-held.result ≡ units_of c.args.d = c.together-held.ensures ∙ rw c.shares.ensures (shares_of-sizes c.args.d) in
    omega (arith, c.if-units-held.true, e, (sound_device-facts c.args.d c.requires.0).units)

room : (c : Else-units-held) → c.units_in-units.result.0 + units_of c.args.d ≤ most_units
room c =
    let e : c.together-held.result ≡ units_of c.args.d = c.together-held.ensures ∙ rw c.shares.ensures (shares_of-sizes c.args.d) in
    omega (arith, c.if-units-held.false, e, (sound_device-facts c.args.d c.requires.0).units)

own : (c : Else-count-managed) → let a = c.args in a.n + managed_of a.d a.manager ≤ limit_of a.d.settings a.manager
own c = omega (arith, c.if-count-managed.false, c.managed.ensures, c.limit_of-limit.ensures)

pub returns-then-not-granularity_ok : goal.returns-then-not-granularity_ok
returns-then-not-granularity_ok c = rw c.from.ensures (sym (listed-granularity _ _ _ _ _ _ _ _ c.requires.2 (sym c.granularity_ok.ensures ∙ c.if-not-granularity_ok.true)))

pub returns-then-data-count : goal.returns-then-data-count
returns-then-data-count c = rw c.from-then-data-count.ensures (sym (listed-short _ _ _ _ _ _ _ _ c.requires.2 (allowed (goal.at.returns-then-data-count c).Else-not-granularity_ok) c.if-data-count.true))

pub returns-then-count-gt16 : goal.returns-then-count-gt16
returns-then-count-gt16 c = rw c.from-then-count-gt16.ensures (sym (listed-many _ _ _ _ _ _ _ _ c.requires.2 (allowed (goal.at.returns-then-count-gt16 c).Else-not-granularity_ok) c.if-data-count.false c.if-count-gt16.true))

pub list_refusal-requires : goal.list_refusal-requires
list_refusal-requires c = small (goal.at.list_refusal-requires c).Else-not-granularity_ok

pub returns-in_err-list_refusal : goal.returns-in_err-list_refusal
returns-in_err-list_refusal c =
    ap refused_at (handed_on _ _ c.from_residual.ensures.1 ∙ sym c.in_err-list_refusal.was)
    ∙ listed-rules _ _ _ _ _ _ _ _ c.requires.2 (allowed (goal.at.returns-in_err-list_refusal c).Else-not-granularity_ok) c.if-data-count.false c.if-count-gt16.false _ (c.list_refusal.ensures ∙ rw (read (goal.at.returns-in_err-list_refusal c).After-read_ranges-ranges)) (λ z. number_of-pos _ (sym (ap (λ o. (refused_at o).number) c.in_err-list_refusal.was) ∙ z))

pub invariant_of-rows : goal.invariant_of-rows
invariant_of-rows c =
    let r = read (goal.at.invariant_of-rows c).After-read_ranges-ranges in record {
      small = small (goal.at.invariant_of-rows c).Else-not-granularity_ok;
      few = c.if-count-gt16.false;
      ok = rw r (listed-rows c.args.d.settings 0 0 0 0 _ _ _ c.requires.2 (allowed (goal.at.invariant_of-rows c).Else-not-granularity_ok) c.if-data-count.false c.if-count-gt16.false _ (c.list_refusal.ensures ∙ rw r) (ap (λ o. (refused_at o).number) c.in_ok-list_refusal.was));
    }

pub shares-requires : goal.shares-requires
shares-requires c = ((sound_device-facts c.args.d c.requires.0).settings, sound_device-all c.args.d c.requires.0)

pub together-held-requires : goal.together-held-requires
together-held-requires c = rw (c.shares.ensures, shares_of-sizes c.args.d) (sound_device-facts c.args.d c.requires.0).units

pub overflow_sub-held : goal.overflow_sub-held
overflow_sub-held c = omega (arith, held c, most c)

pub returns-then-units-held : goal.returns-then-units-held
returns-then-units-held c = rw c.from-then-units-held.ensures (sym (shared (goal.at.returns-then-units-held c).After-units_in-units ∙ shared-pool _ _ _ _ _ (full (goal.at.returns-then-units-held c).Then-units-held)))

pub managed-requires : goal.managed-requires
managed-requires c = (c.requires.0, c.requires.1)

pub overflow_add-count-2 : goal.overflow_add-count-2
overflow_add-count-2 c = omega (arith, c.managed.ensures, few c, c.limit_of-limit.ensures, c.limit_of-limit.type_inv)

pub returns-then-count-managed : goal.returns-then-count-managed
returns-then-count-managed c =
    rw c.from-then-count-managed.ensures (sym (shared (goal.at.returns-then-count-managed c).After-units_in-units ∙ shared_limit _ _ _ _ _ (room (goal.at.returns-then-count-managed c).Else-units-held) (omega (arith, c.if-count-managed.true, c.managed.ensures, c.limit_of-limit.ensures))))

pub weights-requires : goal.weights-requires
weights-requires c = (sound_device-facts c.args.d c.requires.0).settings

pub overflow_add-count-3 : goal.overflow_add-count-3
overflow_add-count-3 c = let f = sound_device-facts c.args.d c.requires.0 in omega (arith, counted c, f.counts, f.shelf)

pub returns-then-count-weights : goal.returns-then-count-weights
returns-then-count-weights c =
    rw c.from-then-count-weights.ensures (sym (shared (goal.at.returns-then-count-weights c).After-units_in-units ∙ shared-shelf _ _ _ _ _ (room (goal.at.returns-then-count-weights c).Else-units-held) (own (goal.at.returns-then-count-weights c).Else-count-managed) (omega (arith, c.if-count-weights.true, counted (goal.at.returns-then-count-weights c).After-weights))))

pub returns : goal.returns
returns c =
    sym (shared (goal.at.returns c).After-units_in-units ∙ shared-passed _ _ _ _ _ (room (goal.at.returns c).Else-units-held) (own (goal.at.returns c).Else-count-managed) (omega (arith, c.if-count-weights.false, counted (goal.at.returns c).After-weights)))
