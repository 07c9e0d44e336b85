-- `record::pool_ok` is right because the shares' sizes are the controllers' units (`shares_of-sizes`), and their places are asked where these are not too many.
use mathlib.Core.Path.{◌≡◌, sym, ap, ◌∙◌}
use mathlib.Core.List.{map}
use borrow.Author.Tests.{not-true, not-false}
use lib.Dec.{leb}
use Rattle.rules.specs.Lists.{sum}
use Rattle.rules.specs.Settings.{most_units}
use Rattle.rules.specs.Device.{shares_ok}
use Rattle.rules.specs.declared.Share.{Share}
use Rattle.record.specs.Record.{units_of}
use Rattle.record.proofs.RecordLaws.{shares_of-sizes}
use Rattle.record.proofs.pool_ok.Goals as goal
use Rattle.record.proofs.pool_ok.Goals.{After-sizes_ok}

-- what was asked of the sizes is asked of the units
asked : (c : After-sizes_ok) → c.sizes_ok.result ≡ leb (units_of c.args.d) most_units
asked c =
    c.sizes_ok.ensures ∙ ap (λ l. leb (sum (map (λ (a : Share). a.size) l)) most_units) c.shares-all.ensures
    ∙ ap (λ n. leb n most_units) (shares_of-sizes c.args.d)

pub returns-then-not-sizes_ok : goal.returns-then-not-sizes_ok
returns-then-not-sizes_ok c = rw (sym (asked (goal.at.returns-then-not-sizes_ok c).After-sizes_ok) ∙ not-true _ c.if-not-sizes_ok.true-raw)

pub returns : goal.returns
returns c =
    rw (sym (asked (goal.at.returns c).After-sizes_ok) ∙ not-false _ c.if-not-sizes_ok.false-raw)
    (c.shares_ok.ensures ∙ ap shares_ok c.shares-all.ensures)
