-- The settings file's contracts, tied to what is stated of it. Assumes nothing.
use mathlib.Core.Path.{◌≡◌, refl, sym, ◌∙◌}
use borrow.Author.Rules.{rules}
use Rattle.settings_file.proofs.Refused.{readers, writer}
use Rattle.settings_file.proofs.RoundTrip.{begins, layout, one-encoding}
use Rattle.settings_file.proofs.Theorems.{worked}
use Rattle.settings_updater.proofs.Theorems as updater-laws
use Rattle.settings_file.proofs.ReaderLaws.{both-readers}
use Rattle.demands.specs.SettingsFile.{FileAsksNothing, FilesAre, UpdaterIs, FileLent, FileDeterminacy, SettingsFile}

asks : FileAsksNothing
asks =
    record {
      read-v1 = λ κs a. tt;
      read-file = λ κs a. tt;
      write-file = λ κs a. tt;
      v1_refusal = λ κs a. tt;
      refusal = λ κs a. tt;
      version = λ κs a. tt;
      manager = λ κs a. tt;
      least = λ κs a. tt;
      greatest = λ κs a. tt;
      rule = λ κs a. tt;
      limit = λ κs a. tt;
      count = λ κs a. tt;
      identifier = λ κs a. tt;
      second = λ κs a. tt;
      second-limit = λ κs a. tt;
      shelf = λ κs a. tt;
      save = λ κs a. tt;
    }

files : FilesAre
files = record { read-v1 = λ κs a r e p. p; read-file = λ κs a r e p. p; write-file = λ κs a r e p. p }

updater : UpdaterIs
updater =
    record {
      v1_refusal = λ κs a r e p. p;
      refusal = λ κs a r e p. p;
      version = λ κs a r e p. p;
      manager = λ κs a r e p. p;
      least = λ κs a r e p. p;
      greatest = λ κs a r e p. p;
      rule = λ κs a r e p. p;
      limit = λ κs a r e p. p;
      count = λ κs a r e p. p;
      identifier = λ κs a r e p. p;
      second = λ κs a r e p. p;
      second-limit = λ κs a r e p. p;
      shelf = λ κs a r e p. p;
      save = λ κs a r e p. p;
    }

lent : FileLent
lent =
    record {
      read-v1 = refl;
      read-file = refl;
      write-file = (refl, refl);
      v1_refusal = refl;
      refusal = refl;
      version = refl;
      manager = refl;
      least = refl;
      greatest = refl;
      rule = refl;
      limit = refl;
      count = refl;
      second = refl;
      second-limit = refl;
      shelf = refl;
      identifier = refl;
      save = refl;
    }

determinate : FileDeterminacy
determinate =
    record {
      read-v1 = λ κs a r r' e e' p q. p ∙ sym q;
      read-file = λ κs a r r' e e' p q. p ∙ sym q;
      write-file = λ κs a r r' e e' p q. (p.0 ∙ sym q.0, p.1 ∙ sym q.1);
      v1_refusal = λ κs a r r' e e' p q. p ∙ sym q;
      refusal = λ κs a r r' e e' p q. p ∙ sym q;
      version = λ κs a r r' e e' p q. p ∙ sym q;
      manager = λ κs a r r' e e' p q. p ∙ sym q;
      least = λ κs a r r' e e' p q. p ∙ sym q;
      greatest = λ κs a r r' e e' p q. p ∙ sym q;
      rule = λ κs a r r' e e' p q. p ∙ sym q;
      limit = λ κs a r r' e e' p q. p ∙ sym q;
      count = λ κs a r r' e e' p q. p ∙ sym q;
      identifier = λ κs a r r' e e' p q. p ∙ sym q;
      second = λ κs a r r' e e' p q. p ∙ sym q;
      second-limit = λ κs a r r' e e' p q. p ∙ sym q;
      shelf = λ κs a r r' e e' p q. p ∙ sym q;
      save = λ κs a r r' e e' p q. (p.0 ∙ sym q.0, p.1 ∙ sym q.1);
    }

pub settings-file : SettingsFile
settings-file =
    record {
      asks = asks;
      files = files;
      updater = updater;
      lent = lent;
      determinate = determinate;
      begins = begins;
      layout = layout;
      worked = worked;
      readers = readers;
      writer = writer;
      encoding = one-encoding;
      both = both-readers;
      answers = updater-laws.updater;
    }
