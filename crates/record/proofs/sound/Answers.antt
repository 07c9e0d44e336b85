-- `record::sound` is right because settings that fail are a rule that is broken, a sequence that fails is one, and so are weights past a limit and a queue that fails;
-- past them the pool is left, which is as it may be where the shares lie one behind the other by as many units as they have at most (`sound_device-lined`). Settings that pass make the walk
-- safe: 1 to 8 controllers, granularities up to 20.
use mathlib.Core.Path.{◌≡◌, sym, ap, ◌∙◌}
use mathlib.Core.Bool.{true}
use native.Mathlib.Omega.{arith}
use borrow.Author.Tests.{not-true, not-false}
use Rattle.rules.specs.Settings.{settings_ok}
use Rattle.rules.specs.Device.{controllers_of, sequence_ok, queues_ok}
use Rattle.record.specs.Record.{first_of, weights_of}
use Rattle.record.specs.Inner.{within_limits}
use Rattle.record.specs.declared.Walked.{Walked}
use Rattle.record.proofs.WalkLaws.{walk_of-first, walk_of-weight, walk_of-queues}
use Rattle.record.proofs.RecordLaws.{sound_device-settings-not, sound_device-sequence-not, sound_device-queues-not, sound_device-heavy, sound_device-all-held, sound_device-pool, sound_device-lined}
use Rattle.record.proofs.sound.Goals as goal
use Rattle.record.proofs.sound.Goals.{After-counts_ok, After-walk-w, Else-not-counts_ok, Else-not-sequence_ok, Else-not-settings_ok, Else-not-w}

-- past the first test the settings pass, and past the second the sequence does
passed : (c : Else-not-settings_ok) → settings_ok c.args.d.settings ≡ true
passed c = sym c.settings_ok.ensures ∙ not-false _ c.if-not-settings_ok.false-raw

follows : (c : Else-not-sequence_ok) → let d = c.args.d in sequence_ok d.settings (controllers_of d) d.sequence ≡ true
follows c = sym c.sequence_ok.ensures ∙ not-false _ c.if-not-sequence_ok.false-raw

-- what was walked
weighed : (c : After-walk-w) → c.walk-w.result.weight ≡ weights_of c.args.d
weighed c = ap (λ (w : Walked). w.weight) c.walk-w.ensures.0 ∙ walk_of-weight c.args.d

first : (c : After-walk-w) → c.walk-w.result.first ≡ first_of c.args.d
first c = ap (λ (w : Walked). w.first) c.walk-w.ensures.0 ∙ walk_of-first c.args.d

queued : (c : After-walk-w) → c.walk-w.result.queues ≡ queues_ok c.args.d
queued c = ap (λ (w : Walked). w.queues) c.walk-w.ensures.0 ∙ walk_of-queues c.args.d

-- what was asked of the limits: past the third test the weights are within them, and past the fourth the queues are as they may be
limited : (c : After-counts_ok) → let d = c.args.d in c.counts_ok.result ≡ within_limits d.settings (first_of d) (weights_of d)
limited c =
    let d = c.args.d in
    c.counts_ok.ensures ∙ ap (λ n. within_limits d.settings n c.walk-w.result.weight) (first c.before) ∙ ap (within_limits d.settings (first_of d)) (weighed c.before)

light : (c : Else-not-counts_ok) → let d = c.args.d in within_limits d.settings (first_of d) (weights_of d) ≡ true
light c = sym (limited c.before) ∙ not-false _ c.if-not-counts_ok.false-raw

in_order : (c : Else-not-w) → queues_ok c.args.d ≡ true
in_order c = sym (queued c.before.before.before.before) ∙ not-false _ c.if-not-w.false

pub returns-then-not-settings_ok : goal.returns-then-not-settings_ok
returns-then-not-settings_ok c =
    let d = c.args.d in
    sym (sound_device-settings-not d (sym c.settings_ok.ensures ∙ not-true _ c.if-not-settings_ok.true-raw))

pub sequence_ok-requires : goal.sequence_ok-requires
sequence_ok-requires c = passed c

pub returns-then-not-sequence_ok : goal.returns-then-not-sequence_ok
returns-then-not-sequence_ok c =
    let d = c.args.d in
    sym (sound_device-sequence-not d (sym c.sequence_ok.ensures ∙ not-true _ c.if-not-sequence_ok.true-raw))

pub walk-w-requires : goal.walk-w-requires
walk-w-requires c = passed (goal.at.walk-w-requires c).Else-not-settings_ok

pub counts_ok-requires : goal.counts_ok-requires
counts_ok-requires c = c.walk-w.ensures.1

pub returns-then-not-counts_ok : goal.returns-then-not-counts_ok
returns-then-not-counts_ok c =
    sym (sound_device-heavy c.args.d (passed (goal.at.returns-then-not-counts_ok c).Else-not-settings_ok) (sym (limited (goal.at.returns-then-not-counts_ok c).After-counts_ok) ∙ not-true _ c.if-not-counts_ok.true-raw))

pub returns-then-not-w : goal.returns-then-not-w
returns-then-not-w c =
    sym (sound_device-queues-not c.args.d (sym (queued (goal.at.returns-then-not-w c).After-walk-w) ∙ not-true _ c.if-not-w.true))

pub returns-then-w-le-MOST_UNITS : goal.returns-then-w-le-MOST_UNITS
returns-then-w-le-MOST_UNITS c =
    sym (sound_device-lined c.args.d (passed (goal.at.returns-then-w-le-MOST_UNITS c).Else-not-settings_ok) (light (goal.at.returns-then-w-le-MOST_UNITS c).Else-not-counts_ok) (follows (goal.at.returns-then-w-le-MOST_UNITS c).Else-not-sequence_ok) (in_order (goal.at.returns-then-w-le-MOST_UNITS c).Else-not-w) (omega (arith, ap (λ (w : Walked). w.end) c.walk-w.ensures.0, c.if-w-le-MOST_UNITS.true)))

pub pool_ok-requires : goal.pool_ok-requires
pool_ok-requires c =
    (passed (goal.at.pool_ok-requires c).Else-not-settings_ok, sound_device-all-held c.args.d (passed (goal.at.pool_ok-requires c).Else-not-settings_ok) (light (goal.at.pool_ok-requires c).Else-not-counts_ok))

pub returns : goal.returns
returns c =
    c.pool_ok.ensures ∙ sym (sound_device-pool c.args.d (passed (goal.at.returns c).Else-not-settings_ok) (light (goal.at.returns c).Else-not-counts_ok) (follows (goal.at.returns c).Else-not-sequence_ok) (in_order (goal.at.returns c).Else-not-w))
