-- "The neighbours of a vertex are those joined to it by an edge": the computed test, and the solid's edges. Assumes nothing.
use Rattle.std.specs.Prelude.{◌≡◌, refl, ◌↔◌, true, List, ℕ, ℤ}
use Rattle.tables.specs.Tables.{home_of}
use Rattle.tables.specs.Size.{Laid}
use Rattle.solid.specs.Tables.{Tables, Edge, Closed}
use Rattle.bridge.specs.Surface.{tables_of, edge-runs, runs_edge}
use Rattle.climb.specs.Move.{is_neighbour}
use Rattle.climb.specs.Best.{end-neighbour}
use Rattle.climb.specs.Stepped.{joined}

module _ (points : List ℤ) {corners begins : List ℕ} (L : Laid corners begins) (v u : ℕ) where
  abbrev T : Tables
  T = tables_of points corners begins

  pub neighbour_edge : is_neighbour corners begins v u ≡ true → (f : ℕ) × Edge T f v u
  neighbour_edge e =
      let j = joined corners begins v u e in
      (home_of begins j.place, runs_edge points L (record { names = record { below = j.below; facet = refl; starts = j.leaves }; ends = j.ends }))

  pub edge-neighbour : {f : ℕ} → Edge T f v u → is_neighbour corners begins v u ≡ true
  edge-neighbour e = let (p, r) = edge-runs points L e in rw r.ends at (end-neighbour corners begins r.names.below r.names.starts)

  -- a neighbour is the end of an edge that leaves v ..
  pub neighbour_exactly : is_neighbour corners begins v u ≡ true ↔ ((f : ℕ) × Edge T f v u)
  neighbour_exactly = (neighbour_edge, λ (f, e). edge-neighbour e)

-- .. and where PAIR passes that of one that comes from it: an edge joins the two either way
pub neighbour_back : (points : List ℤ) {corners begins : List ℕ} → Laid corners begins → Closed (tables_of points corners begins) → (v u : ℕ)
    → is_neighbour corners begins v u ≡ true → is_neighbour corners begins u v ≡ true
neighbour_back points L C v u e =
    let (f, a) = neighbour_edge points L v u e in
    let (g, b) = C.reverse a.place in
    edge-neighbour points L u v (rw (a.from, a.to) at b)
