-- "The walk": the neighbour that a move leads to, and the step, which moves there or stops. Assumes nothing.
use Rattle.std.specs.Prelude.{◌≡◌, Bool, cond, not, ◌&&◌, List, ℕ, ◌+◌, ◌<◌, ℤ, length, Option, MatchOption}
use Rattle.std.specs.Int.Signed.{lt_z}
use Rattle.whole.specs.First.{any_below, pick_below}
use Rattle.points.specs.Points.{vertices}
use Rattle.edges.specs.Edge.{is_edge}
use Rattle.height.specs.Height.{height, spot}
use Rattle.direction.specs.declared.Direction.{Direction}
use Rattle.climb.specs.declared.Standing.{Standing}

-- "The neighbours of a vertex are those joined to it by an edge": by PAIR an edge that leaves u for v has a reverse
abbrev pub is_neighbour : List ℕ → List ℕ → ℕ → ℕ → Bool
is_neighbour corners begins v u = any_below (is_edge corners begins v u) (length corners)

-- u is strictly higher than v
abbrev pub is_higher : List ℤ → Direction → ℕ → ℕ → Bool
is_higher points d u v = lt_z (height points d v) (height points d u)

-- the walk where it begins
abbrev pub begin : List ℤ → Direction → ℕ → Standing
begin points d start = record { direction = d; spot = spot points d start; moves = 0 }

abbrev pub move_to : List ℤ → ℕ → Standing → Standing
move_to points u s = record { direction = s.direction; spot = spot points s.direction u; moves = s.moves + 1 }

-- "If it is strictly higher, move there; otherwise stop."
abbrev pub move_up : List ℤ → ℕ → Standing → Standing
move_up points u s = cond (is_higher points s.direction u s.spot.vertex) (move_to points u s) s

module _ (points : List ℤ) (corners begins : List ℕ) where
  -- u is a neighbour of v, and no neighbour of v is higher
  abbrev pub is_highest : Direction → ℕ → ℕ → Bool
  is_highest d v u = is_neighbour corners begins v u && not (any_below (λ w. is_neighbour corners begins v w && is_higher points d w u) (vertices points))

  -- "From the present vertex, take the highest neighbour, the lowest number among equals."
  unfoldable pub step : Standing → Standing
  step s = pick_below (is_highest s.direction s.spot.vertex) (vertices points) (λ u. move_up points u s) s

  -- what the code's step answers of s: where the walk moves, or none where it stays
  abbrev pub Steps : Standing → Option Standing → Type 0
  Steps s r = MatchOption r (step s ≡ s) (λ next. (next ≡ step s) × (s.moves < next.moves))
