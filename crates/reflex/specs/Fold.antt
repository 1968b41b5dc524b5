-- What REFLEX asks of the tables and their index, and what it has at each edge of a facet. Assumes nothing.
use Rattle.std.specs.Prelude.{◌≡◌, List, ℕ, ◌+◌, ◌<◌, ℤ, length}
use Rattle.std.proofs.Common.{arith}
use Rattle.tables.specs.Tables.{facets, begin, facet_of}
use Rattle.tables.specs.Places.{part_length, place-below, home}
use Rattle.index.specs.declared.Edge.{Edge}
use Rattle.edges.specs.Edge.{facet_across}
use Rattle.pair.specs.Across.{Crossed, across}
use Rattle.flat.specs.Facet.{Facet, Measured, facet}

-- tables that pass 1 to 3 and 6, and their index
pub record Foldable (points : List ℤ) (corners begins : List ℕ) (edges : List Edge) (heads : List ℕ) : Type 0 where
  pub measured : Measured points corners begins
  pub crossed : Crossed corners begins edges heads

module _ {points : List ℤ} {corners begins : List ℕ} {edges : List Edge} {heads : List ℕ} (F : Foldable points corners begins edges heads)
    {f : ℕ} (l : f < facets begins) {part : List ℕ} (is : part ≡ facet_of corners begins f) where
  pub own_facet : Facet points part
  own_facet = rw is (facet F.measured l)

  -- facet f's part of the run starts at place `start`
  module _ {start : ℕ} (at : start ≡ begin begins f) (p : ℕ) (below : p < length part) where
    pub edge_below : start + p < length corners
    edge_below = rw at (place-below F.measured.sound.laid l (rw (is, part_length F.measured.sound.laid l) at below))

    -- `other` is the part of the facet across
    pub other_facet : (other : List ℕ) → other ≡ facet_of corners begins (facet_across corners begins (start + p)) → Facet points other
    other_facet other e =
        let r = across F.crossed.paired edge_below in
        rw e (facet F.measured (omega (arith, (home F.measured.sound.laid r.below).facet)))
