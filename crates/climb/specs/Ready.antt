-- What a step asks of the tables, of their index and of the walk as it stands. Assumes nothing.
use Rattle.std.specs.Prelude.{List, ℕ, ◌<◌, ℤ}
use Rattle.std.proofs.Common.{arith}
use Rattle.points.specs.Points.{vertices}
use Rattle.tables.specs.Tables.{most_vertices}
use Rattle.index.specs.declared.Edge.{Edge}
use Rattle.edges.specs.Index.{Leaving}
use Rattle.flat.specs.Facet.{Measured}
use Rattle.direction.specs.Direction.{Permitted}
use Rattle.height.specs.Height.{Placed}
use Rattle.climb.specs.declared.Standing.{Standing}

-- tables that pass 1 to 3, the index of their edges, and a walk in a permitted direction on a vertex, at its height, with a move to spare
pub record Ready (points : List ℤ) (corners begins : List ℕ) (edges : List Edge) (heads : List ℕ) (s : Standing) : Type 0 where
  pub measured : Measured points corners begins
  pub leaving : Leaving corners begins edges heads
  pub permitted : Permitted s.direction
  pub placed : Placed points s.direction s.spot
  pub few : s.moves < vertices points

pub small : {points : List ℤ} {corners begins : List ℕ} {edges : List Edge} {heads : List ℕ} {s : Standing}
    → Ready points corners begins edges heads s → s.spot.vertex < most_vertices
small R = omega (arith, R.placed.vertex, R.measured.sound.named.few)
