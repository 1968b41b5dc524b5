-- Rows of three whole numbers, and the determinant of three rows. Assumes nothing.
use Rattle.std.specs.Prelude.{ℕ, zero, suc, ◌+◌, ◌*◌, ◌≡◌, List, [], ◌∷◌, ℤ, pos, get_or}
use Rattle.std.proofs.Common.{zero-le, arith}
use Rattle.whole.specs.Bounds.{◌within◌, Exact, within-≤}
use Rattle.whole.specs.Formula.{ints}
use Rattle.space.specs.Vec.{Vec, vec, cross}
use Rattle.space.specs.Vectors.{det}
use Rattle.space.specs.Plane as plane

-- the bounds of a number of a difference, of a normal, of the cross product of a normal and a difference, and of its product with a difference:
-- 2 · 8,191, twice its square, and what follows from these two
abbrev pub longest : ℕ
longest = 16382

abbrev pub widest : ℕ
widest = 536739848

abbrev pub broadest : ℕ
broadest = widest * longest + widest * longest

abbrev pub largest : ℕ
largest = broadest * longest + broadest * longest + broadest * longest

abbrev pub Difference : ℤ → Type 0
Difference z = z within longest

abbrev pub Minor : ℤ → Type 0
Minor z = z within widest

-- each number of a row is within N
pub record BoundedRow (N : ℕ) (r : List ℤ) : Type 0 where
  pub at : (j : ℕ) → get_or r j (pos 0) within N

-- what a function that computes the row z promises of its result r
pub record ExactRow (N : ℕ) (z r : List ℤ) : Type 0 where
  pub is : r ≡ z
  pub small : BoundedRow N r

-- a row of two as a vector in the plane
abbrev pub plane_of : List ℤ → plane.Vec ℤ
plane_of r = plane.vec (get_or r 0 (pos 0)) (get_or r 1 (pos 0))

-- the determinant r of two rows of two, smaller where the first is of a difference
pub record Minored (p q : List ℤ) (r : ℤ) : Type 0 where
  pub exact : Exact broadest (plane.det (plane_of p) (plane_of q)) r
  pub small : BoundedRow longest p → Minor r

-- the first row may be a normal, the other two are differences
pub record ThreeRows (m : List (List ℤ)) : Type 0 where
  pub first : BoundedRow widest (get_or m 0 [])
  pub second : BoundedRow longest (get_or m 1 [])
  pub third : BoundedRow longest (get_or m 2 [])

-- a row as a vector, and a vector as a row
abbrev pub vec_of : List ℤ → Vec ℤ
vec_of r = vec (get_or r 0 (pos 0)) (get_or r 1 (pos 0)) (get_or r 2 (pos 0))

abbrev pub list_of : Vec ℤ → List ℤ
list_of v = v.x ∷ v.y ∷ v.z ∷ []

-- "the determinant of three rows of three whole numbers"
abbrev pub det_of : List (List ℤ) → ℤ
det_of m = det (vec_of (get_or m 0 [])) (vec_of (get_or m 1 [])) (vec_of (get_or m 2 []))

abbrev pub cross_of : List ℤ → List ℤ → List ℤ
cross_of p q = list_of (cross ints (vec_of p) (vec_of q))

pub row_of : {N : ℕ} {x y z : ℤ} → x within N → y within N → z within N → BoundedRow N (x ∷ y ∷ z ∷ [])
row_of {N} {x} {y} {z} p q r = record { at = each }
  where
    each : (j : ℕ) → get_or (x ∷ y ∷ z ∷ []) j (pos 0) within N
    each zero = p
    each (suc zero) = q
    each (suc (suc zero)) = r
    each (suc (suc (suc j))) = record { abs = zero-le }

-- a row of differences may stand in the first place
pub row-wide : {r : List ℤ} → BoundedRow longest r → BoundedRow widest r
row-wide h = record { at = λ j. within-≤ (h.at j) (omega arith) }

pub pair_of : {N : ℕ} {x y : ℤ} → x within N → y within N → BoundedRow N (x ∷ y ∷ [])
pair_of {N} {x} {y} p q = record { at = each }
  where
    each : (j : ℕ) → get_or (x ∷ y ∷ []) j (pos 0) within N
    each zero = p
    each (suc zero) = q
    each (suc (suc j)) = record { abs = zero-le }

pub exact-pair : {N : ℕ} {a b x y : ℤ} → Exact N a x → Exact N b y → ExactRow N (a ∷ b ∷ []) (x ∷ y ∷ [])
exact-pair p q = record { is = λ i. p.is i ∷ q.is i ∷ []; small = pair_of p.small q.small }

pub exact-row : {N : ℕ} {a b c x y z : ℤ} → Exact N a x → Exact N b y → Exact N c z → ExactRow N (a ∷ b ∷ c ∷ []) (x ∷ y ∷ z ∷ [])
exact-row p q r = record { is = λ i. p.is i ∷ q.is i ∷ r.is i ∷ []; small = row_of p.small q.small r.small }
