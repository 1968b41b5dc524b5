-- `scan::first_outside` meets its contract: the search of the vertices. Assumes nothing.
use Rattle.std.proofs.Common.{rules}
use Rattle.whole.specs.Searches.{found_by_find}
use Rattle.scan.specs.Rules.{is_outside}
use Rattle.scan.proofs.first_outside.Goals as goal

pub returns : goal.returns
returns c = found_by_find (is_outside c.args.points.now c.args.part.now) _ _ _ _ c.find.ensures.ran (λ x b q k. search rules)
