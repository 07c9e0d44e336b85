-- `settings_file::marked` is right because the file's first three bytes are those of the mark. Assumes nothing.
use mathlib.Core.Path.{◌∙◌}
use Rattle.settings_file.proofs.FieldLaws.{mark-starts}
use Rattle.settings_file.proofs.marked.Goals as goal

pub returns : goal.returns
returns c = c.starts_with.ensures.value ∙ mark-starts c.args.file.now c.requires
