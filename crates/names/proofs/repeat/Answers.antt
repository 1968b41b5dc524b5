-- `names::repeat` meets its contract: the first place, facet by facet. Assumes nothing.
use Rattle.std.proofs.Common.{rules}
use Rattle.tables.specs.Facets.{finds_in}
use Rattle.names.specs.Rules.{again}
use Rattle.names.proofs.repeat.Goals as goal

pub returns : goal.returns
returns c = c.first_place.ensures _ _ (finds_in again c.requires (λ f r l h. search rules))
