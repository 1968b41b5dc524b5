-- Numbers 2 and 3, RANGE and INDEX, each by its row of the sheet's table. Assumes nothing.
use Rattle.std.specs.Prelude.{◌≡◌, Bool, false, ◌||◌, List, ℕ, zero, suc, ◌<◌, leb, ℤ, get_or, None}
use Rattle.std.proofs.Common.{arith}
use Rattle.whole.specs.Count.{neither}
use Rattle.whole.specs.Bounds.{◌within◌}
use Rattle.points.specs.Range.{limit, is_out, in_range, not_out}
use Rattle.points.specs.Points.{vertices, coord_of, Ranged}
use Rattle.tables.specs.Found.{nowhere_is}
use Rattle.tables.specs.Search.{Search, of_each, place_of, applies_never}
use Rattle.tables.specs.Facets.{in_facets}

-- "a coordinate is outside its limits"
abbrev pub out_of_range : List ℤ → ℕ → Bool
out_of_range points v = is_out (coord_of points v 0) || (is_out (coord_of points v 1) || is_out (coord_of points v 2))

abbrev pub range : List ℤ → Search
range points = of_each (vertices points) (out_of_range points)

-- "a corner number is V or more"
abbrev pub wild : ℕ → List ℕ → ℕ → Bool
wild n part p = leb n (get_or part p 0)

abbrev pub index : ℕ → List ℕ → List ℕ → Search
index n corners begins = in_facets corners begins (wild n)

-- RANGE finds nothing exactly where each coordinate is within its limits
pub in_limits : (points : List ℤ) → place_of (range points) ≡ None → Ranged points
in_limits points e v k l h =
    let (x, f) = neither (is_out (coord_of points v 0)) _ (applies_never (range points) e v l) in
    let (y, z) = neither (is_out (coord_of points v 1)) (is_out (coord_of points v 2)) f in
    axis k h x y z
  where
    axis : (k : ℕ) → k < 3 → is_out (coord_of points v 0) ≡ false → is_out (coord_of points v 1) ≡ false → is_out (coord_of points v 2) ≡ false
        → coord_of points v k within limit
    axis zero h x y z = in_range _ x
    axis (suc zero) h x y z = in_range _ y
    axis (suc (suc zero)) h x y z = in_range _ z
    axis (suc (suc (suc k))) h x y z = absurd (omega arith)

pub limits_in : (points : List ℤ) → Ranged points → place_of (range points) ≡ None
limits_in points R = nowhere_is (λ v l. rw (not_out _ (R v 0 l (omega arith)), not_out _ (R v 1 l (omega arith)), not_out _ (R v 2 l (omega arith))))
