-- `reflex::some_not_inside` meets its contract: the law of searches, over the corners of the facet across. Assumes nothing.
use Rattle.std.proofs.Common.{rules}
use Rattle.std.proofs.lemmas.Iterator.{YieldsList-from_slice}
use Rattle.std.proofs.lemmas.Iterator.Adapters.{serves_from_places}
use Rattle.whole.specs.Searches.{any_by_items}
use Rattle.flat.specs.Facet.{corner_named}
use Rattle.reflex.specs.Rules.{is_not_inside}
use Rattle.reflex.proofs.some_not_inside.Goals as goal

pub returns : goal.returns
returns c =
    any_by_items (is_not_inside c.args.points.now c.args.part.now c.args.a c.args.b) _ _ _ _ _ c.iter.ensures.rest c.any.ensures.ran
    (λ x b q k. search rules)

pub any-requires-clause-callable : goal.any-requires-clause-callable
any-requires-clause-callable c =
    let (own, across) = c.requires in
    serves_from_places (YieldsList-from_slice _ c.iter.ensures.rest) (λ x q k. search rules)
    (λ x k l e. let v = corner_named across k l e in search (rules, v))
