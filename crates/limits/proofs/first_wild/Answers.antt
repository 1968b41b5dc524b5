-- `limits::first_wild` meets its contract: the search of a slice's items. Assumes nothing.
use Rattle.std.proofs.Common.{rules, tests, leb}
use Rattle.whole.specs.Searches.{found_by_position}
use Rattle.limits.proofs.first_wild.Goals as goal

pub returns : goal.returns
returns c = found_by_position (leb c.args.n) _ _ _ _ _ c.iter.ensures.rest c.position.ensures.ran (λ x b q k. search (rules, tests))
