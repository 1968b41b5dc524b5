-- `tables::some_wrong_sides` meets its contract: the facets at the test `wrong_sides begins`. Assumes nothing.
use Rattle.std.proofs.Common.{rules, tests}
use Rattle.whole.specs.Searches.{any_by_range}
use Rattle.tables.specs.Tables.{facets}
use Rattle.tables.specs.Size.{wrong_sides}
use Rattle.tables.proofs.some_wrong_sides.Goals as goal

pub returns : goal.returns
returns c = let begins = c.args.begins.now in any_by_range (wrong_sides begins) (facets begins) _ _ _ c.any.ensures.ran (λ x b q k. search (rules, tests))
