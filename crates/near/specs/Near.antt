-- The local test that spares OUTSIDE its scan: the neighbours of a facet's corners, along their chains. Assumes nothing.
use Rattle.std.specs.Prelude.{◌≡◌, Bool, ◌&&◌, List, ℕ, ◌<◌, ltb, ℤ, length, get_or}
use Rattle.std.proofs.Common.{sym, ◌∙◌, arith, eq-eqb}
use Rattle.whole.specs.First.{any_below}
use Rattle.whole.specs.Count.{last_below}
use Rattle.points.specs.Points.{Vertex}
use Rattle.tables.specs.Tables.{most_vertices, facets, facet_of, from, to}
use Rattle.tables.specs.Places.{next-below}
use Rattle.index.specs.Entries.{end_at}
use Rattle.index.specs.declared.Edge.{Edge}
use Rattle.edges.specs.Chains.{leaves, Within}
use Rattle.edges.specs.Index.{Indexed, end_is}
use Rattle.flat.specs.Facet.{Measured}
use Rattle.scan.specs.Rules.{is_outside}

-- the edge at place q leaves v, and OUTSIDE applies to its end
unfoldable pub leads_out : List ℤ → List ℕ → List ℕ → List ℕ → ℕ → ℕ → Bool
leads_out points corners begins part v q = leaves corners v q && is_outside points part (to corners begins q)

-- OUTSIDE applies to a neighbour of v
unfoldable pub is_near : List ℤ → List ℕ → List ℕ → List ℕ → ℕ → Bool
is_near points corners begins part v = ltb 0 (last_below (leads_out points corners begins part v) (length corners))

-- .. of some corner of a facet
unfoldable pub near_part : List ℤ → List ℕ → List ℕ → List ℕ → Bool
near_part points corners begins part = any_below (λ p. is_near points corners begins part (get_or part p 0)) (length part)

abbrev pub near_facet : List ℤ → List ℕ → List ℕ → ℕ → Bool
near_facet points corners begins f = near_part points corners begins (facet_of corners begins f)

-- .. of some facet
unfoldable pub near : List ℤ → List ℕ → List ℕ → Bool
near points corners begins = any_below (near_facet points corners begins) (facets begins)

-- at a place of the chain of v only the end is tested
pub out_entry : (points : List ℤ) (corners begins part : List ℕ) (v p u : ℕ) → from corners p ≡ v → u ≡ to corners begins p
    → leads_out points corners begins part v p ≡ is_outside points part u
unfolding leads_out
out_entry points corners begins part v p u s e = rw (eq-eqb _ _ s, e)

pub out_within : (points : List ℤ) (corners begins part : List ℕ) (v : ℕ) → Within corners v (leads_out points corners begins part v)
unfolding leads_out
out_within points corners begins part v p e = rw e

-- tables that pass 1 to 3, and their index
pub record Neighboured (points : List ℤ) (corners begins : List ℕ) (edges : List Edge) (heads : List ℕ) : Type 0 where
  pub measured : Measured points corners begins
  pub indexed : Indexed corners begins edges heads

module _ {points : List ℤ} {corners begins : List ℕ} {edges : List Edge} {heads : List ℕ} (N : Neighboured points corners begins edges heads) where
  pub vertex_small : {v : ℕ} → Vertex points v → v < most_vertices
  vertex_small l = omega (arith, N.measured.sound.named.few)

  -- the edge at place p leaves v, and t is what is answered of its end
  module _ {p : ℕ} (l : p < length corners) where
    pub end_named : Vertex points (end_at edges p)
    end_named = rw (end_is N.indexed l) (N.measured.sound.named.index _ (next-below N.measured.sound.laid l))

    pub out_here : (part : List ℕ) {v : ℕ} {t : Bool} → from corners p ≡ v → t ≡ is_outside points part (end_at edges p)
        → leads_out points corners begins part v p ≡ t
    out_here part s e = out_entry points corners begins part _ p _ s (end_is N.indexed l) ∙ sym e
