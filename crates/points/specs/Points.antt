-- "three signed 32-bit numbers x, y, z for each vertex, vertex 0 first": points in the lent table. Assumes nothing.
use Rattle.std.specs.Prelude.{ℕ, ◌+◌, ◌*◌, ◌/◌, ◌<◌, List, ℤ, pos, ◌-ℤ◌, length, get_or}
use Rattle.space.specs.Vec.{Vec, vec}
use Rattle.space.specs.Rows.{list_of}
use Rattle.whole.specs.Bounds.{◌within◌}
use Rattle.points.specs.Range.{limit}

-- "three signed 32-bit numbers x, y, z for each vertex, vertex 0 first"
abbrev pub vertices : List ℤ → ℕ
vertices points = length points / 3

abbrev pub Vertex : List ℤ → ℕ → Type 0
Vertex points v = v < vertices points

-- coordinate k of vertex v
unfoldable pub coord_of : List ℤ → ℕ → ℕ → ℤ
coord_of points v k = get_or points (v * 3 + k) (pos 0)

-- each coordinate is within RANGE's limits
abbrev pub Ranged : List ℤ → Type 0
Ranged points = (v k : ℕ) → Vertex points v → k < 3 → coord_of points v k within limit

abbrev pub point : List ℤ → ℕ → Vec ℤ
point points v = vec (coord_of points v 0) (coord_of points v 1) (coord_of points v 2)

-- coordinate k of b - a
unfoldable pub difference_of : List ℤ → ℕ → ℕ → ℕ → ℤ
difference_of points a b k = coord_of points b k -ℤ coord_of points a k

-- b - a
abbrev pub row_of : List ℤ → ℕ → ℕ → List ℤ
row_of points a b = list_of (vec (difference_of points a b 0) (difference_of points a b 1) (difference_of points a b 2))
