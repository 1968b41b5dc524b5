-- Cases J, K and L of the sheet, its refusals, and a walk of two moves, by computation. Assumes nothing.
use Rattle.std.specs.Prelude.{◌≡◌, refl, List, [], ◌∷◌, ℕ, ℤ, pos, negsuc}
use Rattle.whole.specs.First.{first_below}
use Rattle.whole.specs.Count.{count_below, last_below}
use Rattle.whole.specs.Orbit.{iterate}
use Rattle.whole.specs.Rounds.{tab, rounds}
use Rattle.space.specs.Vectors.{◌-ᵛ◌, ◌·◌, det}
use Rattle.points.specs.Range.{is_out}
use Rattle.points.specs.Points.{coord_of}
use Rattle.tables.specs.Tables.{home_of, next_of}
use Rattle.tables.specs.Size.{is_size}
use Rattle.answers.specs.Answer.{fault, refused, passed}
use Rattle.answers.specs.Order.{first_of}
use Rattle.edges.specs.Edge.{across_of}
use Rattle.ring.specs.Step.{round_of}
use Rattle.apart.specs.Apart.{flooded}
use Rattle.flat.specs.Rules.{is_bent}
use Rattle.turn.specs.Rules.{is_turn}
use Rattle.reflex.specs.Rules.{is_reflex}
use Rattle.scan.specs.Rules.{is_outside}
use Rattle.judge.specs.Judge.{judged}
use Rattle.direction.specs.Direction.{direction, is_steep}
use Rattle.climb.specs.Move.{step}
use Rattle.climb.specs.Course.{after, stood}
use Rattle.walk.specs.Walk.{halted, walked, trail_after}
use Rattle.direction.specs.declared.Direction.{Direction}
use Rattle.walk.specs.declared.Walked.{Walked}

-- the three tables of a solid
pub record Drawn : Type 0 where
  pub points : List ℤ
  pub corners : List ℕ
  pub begins : List ℕ

-- solid T with this last facet
abbrev with_last : List ℕ → Drawn
with_last last = record {
  points = pos 0 ∷ pos 0 ∷ pos 0 ∷ pos 1 ∷ pos 0 ∷ pos 0 ∷ pos 0 ∷ pos 1 ∷ pos 0 ∷ pos 0 ∷ pos 0 ∷ pos 1 ∷ [];
  corners = 0 ∷ 2 ∷ 1 ∷ 0 ∷ 1 ∷ 3 ∷ 0 ∷ 3 ∷ 2 ∷ last;
  begins = 0 ∷ 3 ∷ 6 ∷ 9 ∷ 12 ∷ [];
}

abbrev T : Drawn
T = with_last (1 ∷ 2 ∷ 3 ∷ [])

-- vertices on the axes: 0 at plus x, 1 at minus x, then y and z; 0 and 1 aren't neighbours
abbrev octahedron : Drawn
octahedron = record {
  points = pos 1 ∷ pos 0 ∷ pos 0 ∷ negsuc 0 ∷ pos 0 ∷ pos 0 ∷ pos 0 ∷ pos 1 ∷ pos 0
      ∷ pos 0 ∷ negsuc 0 ∷ pos 0 ∷ pos 0 ∷ pos 0 ∷ pos 1 ∷ pos 0 ∷ pos 0 ∷ negsuc 0 ∷ [];
  corners = 0 ∷ 2 ∷ 4 ∷ 2 ∷ 1 ∷ 4 ∷ 1 ∷ 3 ∷ 4 ∷ 3 ∷ 0 ∷ 4 ∷ 2 ∷ 0 ∷ 5 ∷ 1 ∷ 2 ∷ 5 ∷ 3 ∷ 1 ∷ 5 ∷ 0 ∷ 3 ∷ 5 ∷ [];
  begins = 0 ∷ 3 ∷ 6 ∷ 9 ∷ 12 ∷ 15 ∷ 18 ∷ 21 ∷ 24 ∷ [];
}

-- a trail of five entries, each 9
abbrev lent : List ℕ
lent = 9 ∷ 9 ∷ 9 ∷ 9 ∷ 9 ∷ []

abbrev to : ℕ → ℤ → ℕ → Walked
to v z n = record { answer = passed; vertex = v; height = z; moves = n }

-- a walk, its answer, and the trail after it
pub record WalkCase (s : Drawn) (d : Direction) (start : ℕ) (trail : List ℕ) (r : Walked) (t : List ℕ) : Type 0 where
  pub answer : walked s.points s.corners s.begins d start trail ≡ r
  pub trail_after : trail_after s.points s.corners s.begins d start trail ≡ t

pub record Cases : Type 0 where
  -- "J. Walk on T, direction 1,1,1, start 0: vertex 1, height 1, 1 move, trail 0, 1."
  pub J : WalkCase T (direction (pos 1) (pos 1) (pos 1)) 0 lent (to 1 (pos 1) 1) (0 ∷ 1 ∷ 9 ∷ 9 ∷ 9 ∷ [])
  -- "K. T, direction 0,0,0, start 3: vertex 3, height 0, 0 moves, trail 3."
  pub K : WalkCase T (direction (pos 0) (pos 0) (pos 0)) 3 lent (to 3 (pos 0) 0) (3 ∷ 9 ∷ 9 ∷ 9 ∷ 9 ∷ [])
  -- "L. T, direction 0,0,-1, start 3: vertex 0, height 0, 1 move, trail 3, 0."
  pub L : WalkCase T (direction (pos 0) (pos 0) (negsuc 0)) 3 lent (to 0 (pos 0) 1) (3 ∷ 0 ∷ 9 ∷ 9 ∷ 9 ∷ [])
  -- a walk that goes on after its first move
  pub two_moves : WalkCase octahedron (direction (pos 1) (pos 0) (pos 0)) 1 (9 ∷ 9 ∷ 9 ∷ 9 ∷ 9 ∷ 9 ∷ []) (to 0 (pos 1) 2) (1 ∷ 2 ∷ 0 ∷ 9 ∷ 9 ∷ 9 ∷ [])
  -- "1 to 12 as the judge gives": case G, before a start that there isn't
  pub judge_first : WalkCase (with_last (1 ∷ 3 ∷ 2 ∷ [])) (direction (pos 1) (pos 1) (pos 1)) 4 lent (halted (fault 6 0 1)) lent
  -- 13 before 14, 14 before 15
  pub start_first : WalkCase T (direction (pos 32768) (pos 0) (pos 0)) 4 lent (halted (refused 13)) lent
  pub direction_first : WalkCase T (direction (pos 0) (pos 0) (negsuc 32767)) 3 [] (halted (refused 14)) []
  -- 15 with one entry fewer than V, though the walk needs but two
  pub short_trail : WalkCase T (direction (pos 1) (pos 1) (pos 1)) 0 (9 ∷ 9 ∷ 9 ∷ []) (halted (refused 15)) (9 ∷ 9 ∷ 9 ∷ [])
  -- parts at their limits are permitted, and V entries are room
  pub limits : WalkCase T (direction (pos 32767) (negsuc 32766) (pos 0)) 2 (9 ∷ 9 ∷ 9 ∷ 9 ∷ []) (to 1 (pos 32767) 1) (2 ∷ 1 ∷ 9 ∷ 9 ∷ [])

pub cases : Cases
unfolding judged first_of is_size is_out coord_of first_below count_below last_below
    iterate tab rounds home_of next_of across_of round_of flooded is_bent is_turn
    is_reflex is_outside ◌-ᵛ◌ ◌·◌ det walked trail_after is_steep step after stood
cases = record {
  J = record { answer = refl; trail_after = refl };
  K = record { answer = refl; trail_after = refl };
  L = record { answer = refl; trail_after = refl };
  two_moves = record { answer = refl; trail_after = refl };
  judge_first = record { answer = refl; trail_after = refl };
  start_first = record { answer = refl; trail_after = refl };
  direction_first = record { answer = refl; trail_after = refl };
  short_trail = record { answer = refl; trail_after = refl };
  limits = record { answer = refl; trail_after = refl };
}
