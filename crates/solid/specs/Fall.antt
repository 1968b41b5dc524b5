-- A facet that falls at a vertex. Assumes nothing.
use Rattle.std.specs.Prelude.{ℤ, ◌≤ℤ◌, ◌<ℤ◌}
use Rattle.space.specs.Vec.{Vec}
use Rattle.space.specs.Vectors.{◌·◌}
use Rattle.solid.specs.Surface.{Surface}

-- along d, the facet f falls at v: the corner before v is higher than v, and the one after is not
pub record Falls {P F : Type 0} (M : Surface P F) (d : Vec ℤ) (v : P) (f : F) : Type 0 where
  pub p : P
  pub q : P
  pub into : M.Edge f p v
  pub out : M.Edge f v q
  pub up : d · M.at v <ℤ d · M.at p
  pub down : d · M.at q ≤ℤ d · M.at v
