-- `near::near` meets its contract: the law of searches, over the facets. Assumes nothing.
use Rattle.std.proofs.Common.{rules}
use Rattle.whole.specs.Searches.{any_by_range}
use Rattle.near.specs.Near.{near_facet, near}
use Rattle.near.proofs.near.Goals as goal

pub returns : goal.returns
unfolding near
returns c = any_by_range (near_facet c.args.points.now c.args.corners.now c.args.begins.now) _ _ _ _ c.any.ensures.ran (λ x b q k. search rules)
