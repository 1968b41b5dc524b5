-- Demand 3, of the walk's answer and of every entry of its trail. Assumes nothing.
use Rattle.std.specs.Prelude.{◌≡◌, ◌≢◌, List, ◌++◌, ℕ, ◌+◌, ◌≤◌, ◌<◌, ℤ, ◌≤ℤ◌, ◌<ℤ◌, length, get_or, drop}
use Rattle.points.specs.Points.{vertices}
use Rattle.answers.specs.Answer.{passed}
use Rattle.solid.specs.Tables.{Edge}
use Rattle.bridge.specs.Surface.{tables_of}
use Rattle.height.specs.Height.{height}
use Rattle.climb.specs.Stepped.{Chosen}
use Rattle.climb.specs.Course.{after, stood}
use Rattle.direction.specs.declared.Direction.{Direction}
use Rattle.walk.specs.declared.Walked.{Walked}

module _ (points : List ℤ) (corners begins : List ℕ) (d : Direction) (start : ℕ) (trail : List ℕ) where
  -- r is the answer, and t what the trail then holds
  pub record Demand3 (r : Walked) (t : List ℕ) : Type 0 where
    pub answered : r.answer ≡ passed
    pub from_start : get_or t 0 0 ≡ start
    -- "the walk moves only along edges": some facet has the edge ..
    pub along : (i : ℕ) → i < r.moves → (f : ℕ) × Edge (tables_of points corners begins) f (get_or t i 0) (get_or t (i + 1) 0)
    -- .. to the highest neighbour, the lowest number among equals
    pub chosen : (i : ℕ) → i < r.moves → Chosen points corners begins d (get_or t i 0) (get_or t (i + 1) 0)
    -- "rising at each move"
    pub rising : (i : ℕ) → i < r.moves → height points d (get_or t i 0) <ℤ height points d (get_or t (i + 1) 0)
    -- "In at most one move fewer than there are corners"
    pub few : r.moves + 1 ≤ vertices points
    -- "it stops where no corner of the whole solid is farther in that direction"
    pub stops : get_or t r.moves 0 ≡ r.vertex
    pub vertex : r.vertex < vertices points
    pub high : r.height ≡ height points d r.vertex
    pub farthest : (w : ℕ) → w < vertices points → height points d w ≤ℤ r.height
    -- "The trail lists each corner it stood on, in order": entry i is the vertex on which the walk stands after i steps, none twice ..
    pub lists : (i : ℕ) → i ≤ r.moves → get_or t i 0 ≡ (after points corners begins d start i).spot.vertex
    pub none_twice : (i j : ℕ) → i < j → j ≤ r.moves → get_or t i 0 ≢ get_or t j 0
    -- .. "and the move count is one less than the number so listed"; "entries after them keep their values"
    pub listed : t ≡ stood points corners begins d start (r.moves + 1) ++ drop (r.moves + 1) trail
    pub counted : length (stood points corners begins d start (r.moves + 1)) ≡ r.moves + 1
    pub rest : (i : ℕ) → r.moves < i → get_or t i 0 ≡ get_or trail i 0
    pub same_room : length t ≡ length trail
