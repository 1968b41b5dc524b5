-- `limits::index` meets its contract: the first place, facet by facet. Assumes nothing.
use Rattle.std.proofs.Common.{rules}
use Rattle.tables.specs.Facets.{finds_in}
use Rattle.limits.specs.Rules.{wild}
use Rattle.limits.proofs.index.Goals as goal

pub returns : goal.returns
returns c = c.first_place.ensures _ _ (finds_in (wild c.args.n) c.requires (λ f r l h. search rules))
