-- The cross product of two rows, and its parts: exact, and smaller where both rows are differences.
use Rattle.std.specs.Prelude.{ℕ, List, ℤ, pos, get_or}
use Rattle.whole.specs.Bounds.{Exact}
use Rattle.space.specs.Plane.{vec, det}
use Rattle.space.specs.Rows.{Minor, BoundedRow, ExactRow, longest, widest, broadest, cross_of}

-- columns j and k
pub record MinorAt (p q : List ℤ) (j k : ℕ) (r : ℤ) : Type 0 where
  pub exact : Exact broadest (det (vec (get_or p j (pos 0)) (get_or p k (pos 0))) (vec (get_or q j (pos 0)) (get_or q k (pos 0)))) r
  pub small : BoundedRow longest p → Minor r

pub record CrossProduct (p q r : List ℤ) : Type 0 where
  pub exact : ExactRow broadest (cross_of p q) r
  pub small : BoundedRow longest p → BoundedRow widest r
