-- Directions along which no two corners of a facet are equally high, and the direction of which that is proved. Assumes nothing.
use Rattle.std.specs.Prelude.{◌≡◌, ◌+◌, ℤ, pos}
use Rattle.space.specs.Vec.{Vec}
use Rattle.space.specs.Vectors.{◌·◌}
use Rattle.solid.specs.Surface.{Surface}
use Rattle.solid.specs.Key.{key}
use Rattle.solid.specs.Local.{Local}

pub record Generic {P F : Type 0} (M : Surface P F) (d : Vec ℤ) : Type 0 where
  pub one_height : {g : F} {u w : P} → M.Corner g u → M.Corner g w → d · M.at u ≡ d · M.at w → u ≡ w

module _ {P F : Type 0} {M : Surface P F} (L : Local M) (n : Vec ℤ) where
  open L use {limit}

  -- two points differ by twice the limit at most
  abbrev pub along : Vec ℤ
  along = key (pos (limit + limit)) n
