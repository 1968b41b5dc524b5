-- `names::first_again` meets its contract: the search of the positions. Assumes nothing.
use Rattle.std.proofs.Common.{rules, tests}
use Rattle.whole.specs.Searches.{found_by_find}
use Rattle.names.specs.Rules.{again}
use Rattle.names.proofs.first_again.Goals as goal

pub returns : goal.returns
returns c = found_by_find (again c.args.part.now) _ _ _ _ c.find.ensures.ran (λ x b q k. search (rules, tests))
