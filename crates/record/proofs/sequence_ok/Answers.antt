-- `record::sequence_ok` is right: with no sequence there is nothing to ask; else its owner is looked for, and its flag and the end are asked.
use mathlib.Core.Path.{◌≡◌, sym, ◌∙◌}
use Prim.Native.Nat.{◌<◌}
use native.Mathlib.Omega.{arith}
use lib.ListN.{length}
use borrow.Author.Rules.{rules}
use Rattle.rules.proofs.LoopLaws.{length-mapped}
use Rattle.settings.proofs.SettingsLaws.{settings_ok-count}
use Rattle.record.proofs.RecordLaws.{found-used, sequence-owned}
use Rattle.record.proofs.sequence_ok.Goals as goal
use Rattle.record.proofs.sequence_ok.Goals.{In-Some-find}

used : (c : In-Some-find) → c.in-Some-find.i < c.args.d.settings.count
used c = found-used _ _ _ (sym c.find.ensures ∙ c.in-Some-find.is)

eight : (c : In-Some-find) → length c.args.d.controllers ≡ 8
eight c = search (length-mapped, rules)

pub suspended_at-requires : goal.suspended_at-requires
suspended_at-requires c = omega (arith, used c, settings_ok-count _ c.requires)

pub returns-then-suspended_at : goal.returns-then-suspended_at
returns-then-suspended_at c =
    let at = (goal.at.returns-then-suspended_at c).In-Some-find in
    let owned = sequence-owned c.args.d _ c.in-Some.q.owner c.in-Some.q.end c.in-Some.is _ (sym c.find.ensures ∙ c.in-Some-find.is) (used at) (omega (arith, used at, eight at, settings_ok-count _ c.requires)) in
    c.front_ok.ensures ∙ sym (owned ∙ rw (sym c.suspended_at.ensures ∙ c.if-suspended_at.true))
