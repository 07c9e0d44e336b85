-- `settings_file::spare_ok` is right because it asks each place from the first that is not in use on. Assumes nothing.
use borrow.Author.Rules.{rules}
use borrow.Author.Tests.{tests}
use lib.Dec.{eqb}
use Rattle.std.proofs.lemmas.Iterator.{YieldsList-from_slice}
use Rattle.std.proofs.lemmas.Iterator.Adapters.{YieldsList-from_skip}
use Rattle.std.proofs.lemmas.Iterator.Search.{all_from_yields_List}
use Rattle.settings_file.specs.File.{spare_ok}
use Rattle.settings_file.proofs.spare_ok.Goals as goal

pub returns : goal.returns
unfolding spare_ok
returns c =
    let s = c.args.s in
    all_from_yields_List (λ y. eqb y 0) _ _ c.all.result c.all.ensures.ran
    (YieldsList-from_skip s.count (YieldsList-from_slice s.identifiers cc) cc) (λ x b q k. search (rules, tests))
