-- Number 12, OUTSIDE, by its row of the sheet's table.
use Rattle.std.specs.Prelude.{Bool, false, cond, not, List, ℕ, ℤ, length}
use Rattle.whole.specs.First.{any_below}
use Rattle.points.specs.Points.{vertices}
use Rattle.sides.specs.Sides.{is_inside}
use Rattle.tables.specs.Tables.{facets}
use Rattle.names.specs.Rules.{is_at}
use Rattle.tables.specs.Facets.{on_facets}
use Rattle.tables.specs.Search.{Search, of_places}
use Rattle.flat.specs.Rules.{side_at}

-- "a vertex that isn't a corner of the facet isn't strictly inside its plane"
unfoldable pub is_outside : List ℤ → List ℕ → ℕ → Bool
is_outside points part v = cond (is_inside (side_at points part v)) false (not (any_below (is_at part v) (length part)))

abbrev pub outside : List ℤ → List ℕ → List ℕ → Search
outside points corners begins = of_places (facets begins) (λ f. vertices points) (on_facets corners begins (is_outside points))
