-- "The walk": its refusals, its answer, and what every entry of the trail then holds.
use Rattle.std.specs.Prelude.{Bool, cond, List, ℕ, eqb, ltb, leb, ℤ, pos, length}
use Rattle.points.specs.Points.{vertices}
use Rattle.answers.specs.Answer.{refused, passed}
use Rattle.answers.specs.declared.Answer.{Answer}
use Rattle.judge.specs.Judge.{judged}
use Rattle.direction.specs.Direction.{is_wrong}
use Rattle.climb.specs.Course.{finish, trailed}
use Rattle.direction.specs.declared.Direction.{Direction}
use Rattle.climb.specs.declared.Standing.{Standing}
use Rattle.walk.specs.declared.Walked.{Walked}

-- "A refusal returns vertex, height and moves 0, beside the judge's places where it has them"
abbrev pub halted : Answer → Walked
halted a = record { answer = a; vertex = 0; height = pos 0; moves = 0 }

-- "The answer is last vertex, its height, moves", with the number 0 and no places
abbrev pub arrived : Standing → Walked
arrived s = record { answer = passed; vertex = s.spot.vertex; height = s.spot.height; moves = s.moves }

module _ (points : List ℤ) (corners begins : List ℕ) (d : Direction) (start : ℕ) (trail : List ℕ) where
  -- "13 START, start is V or more; 14 DIRECTION, a part outside -32,767 to 32,767; 15 TRAIL, fewer than V entries"
  abbrev pub from_start : Answer
  from_start =
      cond (leb (vertices points) start) (refused 13)
      (cond (is_wrong d) (refused 14) (cond (ltb (length trail) (vertices points)) (refused 15) passed))

  -- "Refusals in this order: 1 to 12 as the judge gives", then these
  abbrev pub opening : Answer
  opening = cond (eqb (judged points corners begins).number 0) from_start (judged points corners begins)

  -- whether none of them applies
  abbrev pub is_open : Bool
  is_open = eqb opening.number 0

  -- the walk's one answer
  unfoldable pub walked : Walked
  walked = cond is_open (arrived (finish points corners begins d start)) (halted opening)

  -- every entry of the trail after it: a refusal "leaves the trail untouched"
  unfoldable pub trail_after : List ℕ
  trail_after = cond is_open (trailed points corners begins d start trail) trail
