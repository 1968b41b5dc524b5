-- "A vertex's height is the sum of its coordinates times the direction's parts." Assumes nothing.
use Rattle.std.specs.Prelude.{◌≡◌, cond, List, ltb, ℤ, ℕ}
use Rattle.std.proofs.Common.{ap}
use Rattle.std.specs.Int.Signed.{lt_z}
use Rattle.points.specs.Points.{Vertex, point}
use Rattle.direction.specs.declared.Direction.{Direction}
use Rattle.height.specs.declared.Spot.{Spot}
use Rattle.space.specs.Vec.{Vec, vec}
use Rattle.space.specs.Vectors.{◌·◌}

-- ---- heights

abbrev pub way : Direction → Vec ℤ
way d = vec d.x d.y d.z

-- "A vertex's height is the sum of its coordinates times the direction's parts."
abbrev pub height : List ℤ → Direction → ℕ → ℤ
height points d v = way d · point points v

-- v with its height
abbrev pub spot : List ℤ → Direction → ℕ → Spot
spot points d v = record { vertex = v; height = height points d v }

-- the higher of two, the lower number among equals
abbrev pub better : Spot → Spot → Spot
better best next =
    cond (lt_z best.height next.height) next
    (cond (lt_z next.height best.height) best
    (cond (ltb next.vertex best.vertex) next best))

-- a vertex with its height
pub record Placed (points : List ℤ) (d : Direction) (s : Spot) : Type 0 where
  pub vertex : Vertex points s.vertex
  pub high : s.height ≡ height points d s.vertex

pub placed-is : {points : List ℤ} {d : Direction} {s : Spot} → Placed points d s → s ≡ spot points d s.vertex
placed-is {s = s} p = ap (λ z. record { vertex = s.vertex; height = z }) p.high
