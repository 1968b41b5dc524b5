-- Points in a box about 0: RANGE, whatever its limit. Assumes nothing.
use Rattle.std.specs.Prelude.{ℕ, ◌+◌, ℤ}
use Rattle.whole.specs.Bounds.{◌within◌, within--}
use Rattle.space.specs.Vec.{Vec}
use Rattle.space.specs.Vectors.{◌-ᵛ◌}

-- each coordinate is -limit to limit
pub record Box (limit : ℕ) (p : Vec ℤ) : Type 0 where
  pub x : p.x within limit
  pub y : p.y within limit
  pub z : p.z within limit

pub box_sub : {b : ℕ} {p q : Vec ℤ} → Box b p → Box b q → Box (b + b) (p -ᵛ q)
unfolding ◌-ᵛ◌
box_sub s t = record { x = within-- s.x t.x; y = within-- s.y t.y; z = within-- s.z t.z }
