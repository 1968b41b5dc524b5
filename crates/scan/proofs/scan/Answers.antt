-- `scan::scan` meets its contract: the first place, facet by facet. Assumes nothing.
use Rattle.std.proofs.Common.{rules}
use Rattle.scan.proofs.scan.Goals as goal

pub returns : goal.returns
returns c = c.first_place.ensures _ _ (λ f r l h. search rules)
