-- What is asked of a surface in the place of OUTSIDE: it is convex near each vertex, in one piece, and in a box. Assumes nothing.
use Rattle.std.specs.Prelude.{ℕ}
use Rattle.solid.specs.Reach.{Linked}
use Rattle.solid.specs.Surface.{Surface}
use Rattle.solid.specs.Near.{Near}
use Rattle.solid.specs.Box.{Box}

-- every facet is reached from one
pub record Whole {P F : Type 0} (M : Surface P F) : Type 0 where
  pub hub : F
  pub centre : P
  pub at_hub : M.Corner hub centre
  pub reached : {g : F} {w : P} → M.Corner g w → Linked M.Edge hub g

pub record Local {P F : Type 0} (M : Surface P F) : Type 0 where
  -- REFLEX, N
  pub near : Near M
  -- APART
  pub whole : Whole M
  -- RANGE
  pub limit : ℕ
  pub in_box : {f : F} {w : P} → M.Corner f w → Box limit (M.at w)
