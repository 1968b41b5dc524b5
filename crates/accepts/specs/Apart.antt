-- 8, APART: "facet can't be reached from facet 0 across edges", in plain quantifiers. Assumes nothing.
use Rattle.std.specs.Prelude.{List, ℕ, ◌<◌, ℤ}
use Rattle.tables.specs.Tables.{facets}
use Rattle.bridge.specs.Surface.{tables_of}
use Rattle.solid.specs.Reach.{Linked}
use Rattle.solid.specs.Tables.{Tables, Edge}

module _ (points : List ℤ) (corners begins : List ℕ) where
  abbrev t : Tables
  t = tables_of points corners begins

  -- facet f can be reached: facet 0 can, and where g can, g has an edge from a to b and h the edge from b to a, so can h
  abbrev pub Reached : ℕ → Type 0
  Reached f = Linked (Edge t) 0 f

  -- f is the lowest facet that can't
  pub record Apart (f : ℕ) : Type 0 where
    pub facet : f < facets begins
    pub apart : ¬ Reached f
    pub lower : (g : ℕ) → g < f → Reached g
