-- `reflex::first_reflex` meets its contract: the search of a facet's edges. Assumes nothing.
use Rattle.std.proofs.Common.{rules}
use Rattle.std.proofs.lemmas.Iterator.{serves_from_Range}
use Rattle.whole.specs.First.{yet_0}
use Rattle.whole.specs.Searches.{found_from}
use Rattle.tables.specs.Places.{part_length}
use Rattle.reflex.specs.Rules.{is_reflex, reflex_is}
use Rattle.reflex.specs.Fold.{own_facet, edge_below, other_facet}
use Rattle.reflex.proofs.first_reflex.Goals as goal

pub find-requires-clause-callable : goal.find-requires-clause-callable
find-requires-clause-callable c =
    let foldable = c.requires.foldable in
    let own = own_facet foldable c.requires.facet c.part-part.ensures.is in
    let below = edge_below foldable c.requires.facet c.part-part.ensures.is c.from-start.ensures in
    let across = other_facet foldable c.requires.facet c.part-part.ensures.is c.from-start.ensures in
    serves_from_Range (λ x q k. search rules) (λ x a b. search (rules, foldable, own, below, across))

pub returns : goal.returns
returns c =
    rw (← part_length c.requires.foldable.measured.sound.laid c.requires.facet, ← c.part-part.ensures.is)
    (found_from _ c.find.result (is_reflex c.args.points.now c.args.corners.now c.args.begins.now c.args.f) c.find.ensures.ran yet_0 (λ x b q k. search rules)
    (λ x b q k l m. rw (reflex_is, ← c.part-part.ensures.is, ← c.from-start.ensures) (search rules)))
