-- `fresh::try_fresh` is right, test by test of its table. Assumes nothing.
use mathlib.Core.Path.{◌≡◌, refl, sym, ap, ◌∙◌}
use Rattle.rules.specs.Device.{fresh_device}
use Rattle.rules.specs.declared.Device.{Device}
use Rattle.calls.specs.declared.Changed.{Changed}
use Rattle.settings.proofs.SettingsLaws.{settings_ok-count}
use Rattle.fresh.proofs.FreshLaws.{made-settings, made-words, made-done}
use Rattle.fresh.proofs.try_fresh.Goals as goal

abbrev done : Device → Changed
done d = record { number = 0; device = d }

pub returns-then-not-settings_ok : goal.returns-then-not-settings_ok
returns-then-not-settings_ok c = sym (made-settings c.args.s c.args.words (sym c.settings_ok.ensures ∙ c.if-not-settings_ok.true))

pub returns-then-words-ne-MARK_WORDS : goal.returns-then-words-ne-MARK_WORDS
returns-then-words-ne-MARK_WORDS c = sym (made-words c.args.s _ (sym c.settings_ok.ensures ∙ c.if-not-settings_ok.false) c.if-words-ne-MARK_WORDS.true)

pub clean-requires : goal.clean-requires
clean-requires c = settings_ok-count _ (sym c.settings_ok.ensures ∙ c.if-not-settings_ok.false)

pub returns : goal.returns
returns c =
    let same : c.untracked.result ≡ fresh_device c.args.s = rw (c.untracked.ensures, c.clean.ensures) refl in
    ap (λ (d : Device). done d) same ∙ sym (made-done c.args.s _ (sym c.settings_ok.ensures ∙ c.if-not-settings_ok.false) c.if-words-ne-MARK_WORDS.false)
