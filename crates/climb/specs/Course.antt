-- "The walk": from the start until it stops, and its trail. Assumes nothing.
use Rattle.std.specs.Prelude.{List, [], ◌∷◌, ◌++◌, ℕ, zero, suc, ◌+◌, ℤ, drop}
use Rattle.points.specs.Points.{vertices}
use Rattle.climb.specs.Move.{begin, step}
use Rattle.direction.specs.declared.Direction.{Direction}
use Rattle.climb.specs.declared.Standing.{Standing}

module _ (points : List ℤ) (corners begins : List ℕ) (d : Direction) (start : ℕ) where
  -- "each move takes the walk as it stands and hands the next one back": the walk after n steps, which stays as it is once it has stopped
  unfoldable pub after : ℕ → Standing
  after zero = begin points d start
  after (suc n) = step points corners begins (after n)

  -- no walk makes as many moves as there are vertices: after V steps it has stopped
  abbrev pub finish : Standing
  finish = after (vertices points)

  -- the vertices stood on in n steps, start first
  unfoldable pub stood : ℕ → List ℕ
  stood zero = []
  stood (suc n) = stood n ++ ((after n).spot.vertex ∷ [])

  -- "the trail holds the vertices stood on, start first, and entries after them keep their values"
  abbrev pub trailed : List ℕ → List ℕ
  trailed trail = stood (finish.moves + 1) ++ drop (finish.moves + 1) trail
