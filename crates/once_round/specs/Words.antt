-- An outline by the rule sheet's words: its points, x and y in turn, the tests, and what they are to mean.
use Rattle.std.specs.Prelude.{ℕ, ◌+◌, ◌-◌, ◌*◌, ◌/◌, ◌%◌, ◌<◌, ◌≤◌, ◌≡◌, ◌≢◌, Bool, true, not, ◌&&◌, ◌||◌, List, [], ◌∷◌, ltb, eqb}
use Rattle.std.specs.Prelude.{ℤ, pos, ◌-ℤ◌, length, get_or, ◌<ℤ◌}
use Rattle.std.specs.Int.Signed.{lt_z}
use Rattle.space.specs.Plane.{Vec, vec, sub, det}
use Rattle.points.specs.Range.{is_out, InRange}
use Rattle.once_round.specs.Second.{again}

-- ---- the points

-- "x, y pairs"
abbrev pub count : List ℤ → ℕ
count points = length points / 2

abbrev pub Point : List ℤ → ℕ → Type 0
Point points i = i < count points

-- coordinate k of point i
unfoldable pub coord_of : List ℤ → ℕ → ℕ → ℤ
coord_of points i k = get_or points (i * 2 + k) (pos 0)

-- coordinate k of the difference b-a of two points
unfoldable pub difference_of : List ℤ → ℕ → ℕ → ℕ → ℤ
difference_of points a b k = coord_of points b k -ℤ coord_of points a k

-- b - a
abbrev pub row_of : List ℤ → ℕ → ℕ → List ℤ
row_of points a b = difference_of points a b 0 ∷ difference_of points a b 1 ∷ []

abbrev pub point : List ℤ → ℕ → Vec ℤ
point points i = vec (coord_of points i 0) (coord_of points i 1)

-- "the point before" and "the point after" point i of n: the last and the first are neighbours
unfoldable pub before : ℕ → ℕ → ℕ
before n i = (i + (n - 1)) % n

unfoldable pub after : ℕ → ℕ → ℕ
after n i = (i + 1) % n

-- ---- the tests

-- "24 FEW, numbers not in pairs or count outside limits": 3 to 4,096 points
unfoldable pub few : ℕ → Bool
few numbers = not (eqb (numbers % 2) 0) || (ltb (numbers / 2) 3 || ltb 4096 (numbers / 2))

-- "2 RANGE": a coordinate of point i is outside its limits
abbrev pub out_of_range : List ℤ → ℕ → Bool
out_of_range points i = is_out (point points i).x || is_out (point points i).y

-- the turn at b, from a to c, is "strictly left"
abbrev pub is_left : Vec ℤ → Vec ℤ → Vec ℤ → Bool
is_left a b c = lt_z (pos 0) (det (sub b a) (sub c b))

-- "At each point the turn from the point before to the point after is strictly left"
abbrev pub left : List ℤ → ℕ → Bool
left points i = is_left (point points (before (count points) i)) (point points i) (point points (after (count points) i))

-- "25 LEFT": the turn at point i isn't left
abbrev pub not_left : List ℤ → ℕ → Bool
not_left points i = not (left points i)

-- u is greater than v "by x, then by y"
unfoldable pub is_greater : Vec ℤ → Vec ℤ → Bool
is_greater u v = lt_z v.x u.x || (not (lt_z u.x v.x) && lt_z v.y u.y)

-- "A far point is greater than both its neighbours"
abbrev pub far : List ℤ → ℕ → Bool
far points i =
    is_greater (point points i) (point points (before (count points) i))
    && is_greater (point points i) (point points (after (count points) i))

-- "26 WOUND": point i is the second far point, or a later one
abbrev pub wound : List ℤ → ℕ → Bool
wound points = again (far points)

-- ---- the meaning

-- "x, y pairs, 3 to 4,096 points"
pub record Counted (points : List ℤ) : Type 0 where
  pub pairs : length points % 2 ≡ 0
  pub least : 3 ≤ count points
  pub most : count points ≤ 4096

-- "x, y pairs, 3 to 4,096 points, same coordinate limits"
pub record Limits (points : List ℤ) : Type 0 where
  pub counted : Counted points
  pub range : InRange points

-- document 001's locally convex: "At each point the turn .. is strictly left"
pub record LocallyConvex (points : List ℤ) : Type 0 where
  pub limits : Limits points
  pub turns : (i : ℕ) → i < count points → left points i ≡ true

-- point j lies strictly left of the line from point a to point b
abbrev pub LeftOf : List ℤ → ℕ → ℕ → ℕ → Type 0
LeftOf points a b j = pos 0 <ℤ det (sub (point points b) (point points a)) (sub (point points j) (point points a))

-- "for every edge, every point other than its two ends lies strictly left of it"
abbrev pub AllLeft : List ℤ → Type 0
AllLeft points =
    (i j : ℕ) → i < count points → j < count points → j ≢ i → j ≢ after (count points) i → LeftOf points i (after (count points) i) j
