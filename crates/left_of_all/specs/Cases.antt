-- Cases M, N and O of the rule sheet's table, and one or two for each answer, computed from the definition.
use Rattle.std.specs.Prelude.{◌≡◌, refl, List, [], ◌∷◌, ℤ, pos, negsuc}
use Rattle.whole.specs.First.{first_below}
use Rattle.space.specs.Plane.{det}
use Rattle.points.specs.Range.{is_out}
use Rattle.once_round.specs.Words.{coord_of, before, after, few, is_greater}
use Rattle.outline.specs.Outline.{verdict, judged_turns, judged_outline}

-- (0,0), (2,0), (2,2), (0,2)
abbrev pub outline_m : List ℤ
outline_m = pos 0 ∷ pos 0 ∷ pos 2 ∷ pos 0 ∷ pos 2 ∷ pos 2 ∷ pos 0 ∷ pos 2 ∷ []

-- (0,0), (1,0), (2,0), (2,2), (0,2)
abbrev pub outline_n : List ℤ
outline_n = pos 0 ∷ pos 0 ∷ pos 1 ∷ pos 0 ∷ pos 2 ∷ pos 0 ∷ pos 2 ∷ pos 2 ∷ pos 0 ∷ pos 2 ∷ []

-- (4,0), (-3,2), (1,-4), (1,4), (-3,-2)
abbrev pub outline_o : List ℤ
outline_o = pos 4 ∷ pos 0 ∷ negsuc 2 ∷ pos 2 ∷ pos 1 ∷ negsuc 3 ∷ pos 1 ∷ pos 4 ∷ negsuc 2 ∷ negsuc 1 ∷ []

case_M : judged_outline outline_m ≡ verdict 0 4
unfolding judged_outline judged_turns few first_below is_out det is_greater coord_of before after
case_M = refl

case_N : judged_outline outline_n ≡ verdict 25 1
unfolding judged_outline judged_turns few first_below is_out det is_greater coord_of before after
case_N = refl

case_O : judged_outline outline_o ≡ verdict 26 3
unfolding judged_outline judged_turns few first_below is_out det is_greater coord_of before after
case_O = refl

empty : judged_outline [] ≡ verdict 24 0
unfolding judged_outline few
empty = refl

odd : judged_outline (pos 0 ∷ pos 0 ∷ pos 2 ∷ pos 0 ∷ pos 2 ∷ pos 2 ∷ pos 0 ∷ []) ≡ verdict 24 0
unfolding judged_outline few
odd = refl

two-points : judged_outline (pos 0 ∷ pos 0 ∷ pos 2 ∷ pos 0 ∷ []) ≡ verdict 24 0
unfolding judged_outline few
two-points = refl

-- the largest triangle, and -8,192 in its last point
triangle : judged_outline (negsuc 8190 ∷ negsuc 8190 ∷ pos 8191 ∷ negsuc 8190 ∷ negsuc 8190 ∷ pos 8191 ∷ []) ≡ verdict 0 3
unfolding judged_outline judged_turns few first_below is_out det is_greater coord_of before after
triangle = refl

too_low : judged_outline (negsuc 8190 ∷ negsuc 8190 ∷ pos 8191 ∷ negsuc 8190 ∷ negsuc 8191 ∷ pos 8191 ∷ []) ≡ verdict 2 2
unfolding judged_outline few first_below is_out coord_of
too_low = refl

-- a triangle the wrong way round turns right at point 0
clockwise : judged_outline (pos 0 ∷ pos 0 ∷ pos 0 ∷ pos 2 ∷ pos 2 ∷ pos 0 ∷ []) ≡ verdict 25 0
unfolding judged_outline judged_turns few first_below is_out det coord_of before after
clockwise = refl

-- the same point three times does not turn
one_place : judged_outline (pos 5 ∷ pos 5 ∷ pos 5 ∷ pos 5 ∷ pos 5 ∷ pos 5 ∷ []) ≡ verdict 25 0
unfolding judged_outline judged_turns few first_below is_out det coord_of before after
one_place = refl

-- case O from its second point on: the second far point is the last
last : judged_outline (negsuc 2 ∷ pos 2 ∷ pos 1 ∷ negsuc 3 ∷ pos 1 ∷ pos 4 ∷ negsuc 2 ∷ negsuc 1 ∷ pos 4 ∷ pos 0 ∷ []) ≡ verdict 26 4
unfolding judged_outline judged_turns few first_below is_out det is_greater coord_of before after
last = refl

-- a triangle gone round twice
twice : judged_outline (pos 0 ∷ pos 0 ∷ pos 2 ∷ pos 0 ∷ pos 0 ∷ pos 2 ∷ pos 0 ∷ pos 0 ∷ pos 2 ∷ pos 0 ∷ pos 0 ∷ pos 2 ∷ [])
    ≡ verdict 26 4
unfolding judged_outline judged_turns few first_below is_out det is_greater coord_of before after
twice = refl
