-- `near::near_part` meets its contract: the law of searches, over the corners of a facet. Assumes nothing.
use Rattle.std.proofs.Common.{rules}
use Rattle.std.proofs.lemmas.Iterator.{YieldsList-from_slice}
use Rattle.std.proofs.lemmas.Iterator.Adapters.{serves_from_places}
use Rattle.whole.specs.Searches.{any_by_items}
use Rattle.flat.specs.Facet.{Facet, facet, corner_named}
use Rattle.near.specs.Near.{is_near, near_part}
use Rattle.near.proofs.near_part.Goals as goal

pub returns : goal.returns
unfolding near_part
returns c =
    rw (← c.part-part.ensures.is)
    (any_by_items (is_near c.args.points.now c.args.corners.now c.args.begins.now c.part-part.result.now) _ _ _ _ _ c.iter.ensures.rest c.any.ensures.ran
    (λ x b q k. search rules))

pub any-requires-clause-callable : goal.any-requires-clause-callable
any-requires-clause-callable c =
    let own : Facet c.args.points.now c.part-part.result.now = rw c.part-part.ensures.is (facet c.requires.neighboured.measured c.requires.facet) in
    serves_from_places (YieldsList-from_slice _ c.iter.ensures.rest) (λ x q k. search rules)
    (λ x k l e. let v = corner_named own k l e in search (rules, own, v))
