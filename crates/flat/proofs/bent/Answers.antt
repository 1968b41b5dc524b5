-- `flat::bent` meets its contract: the first place, facet by facet. Assumes nothing.
use Rattle.std.proofs.Common.{rules}
use Rattle.tables.specs.Facets.{finds_in}
use Rattle.flat.specs.Rules.{is_bent}
use Rattle.flat.proofs.bent.Goals as goal

pub returns : goal.returns
returns c = c.first_place.ensures _ _ (finds_in (is_bent c.args.points.now) c.requires.sound.laid (λ f r l h. search rules))
