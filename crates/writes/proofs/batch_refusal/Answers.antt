-- `writes::batch_refusal` is right: it refuses in the order of its table. Assumes nothing.
use mathlib.Core.Path.{refl, sym, ◌∙◌}
use borrow.Author.Tests.{le-leb, lt-leb}
use Rattle.rules.specs.Settings.{most_notes}
use Rattle.writes.proofs.batch_refusal.Goals as goal

pub returns-then-not-ready : goal.returns-then-not-ready
returns-then-not-ready c = rw (sym c.ready.ensures ∙ c.if-not-ready.true) refl

pub returns-then-total-gt-MOST_NOTES : goal.returns-then-total-gt-MOST_NOTES
returns-then-total-gt-MOST_NOTES c = rw (sym c.ready.ensures ∙ c.if-not-ready.false, lt-leb c.args.total most_notes c.if-total-gt-MOST_NOTES.true) refl

pub returns : goal.returns
returns c = rw (sym c.ready.ensures ∙ c.if-not-ready.false, le-leb c.args.total most_notes c.if-total-gt-MOST_NOTES.false) refl
