-- A solid's tables in plain quantifiers, what the judge's numbers ask of them, and demand 2's sentence. Assumes nothing.
-- A record that cites a number says that the rule of that number refuses nothing. Vertices are "other than" each other by number, never by point.
use Rattle.std.specs.Prelude.{◌≡◌, ◌≢◌, cond, ℕ, suc, ◌≤◌, ◌<◌, eqb, ℤ, pos, ◌<ℤ◌}
use Rattle.whole.specs.Formula.{ints}
use Rattle.space.specs.Vec.{Vec, vec, cross}
use Rattle.space.specs.Vectors.{◌-ᵛ◌, det}
use Rattle.solid.specs.Reach.{Ring, Linked}
use Rattle.solid.specs.Box.{Box}

pub record Tables : Type 0 where
  -- V and F: vertices and facets are the numbers below them
  pub vertices : ℕ
  pub facets : ℕ
  -- "one facet's corners are a part of the run": the length of that part, and the vertex number at each position of it
  pub size : ℕ → ℕ
  pub corner : ℕ → ℕ → ℕ
  -- the point of each vertex, "three signed .. numbers x, y, z"
  pub at : ℕ → Vec ℤ

-- the position after i in a facet of k corners, "the last one wrapping to position 0"
unfoldable pub after : ℕ → ℕ → ℕ
after k i = cond (eqb (suc i) k) 0 (suc i)

module _ (t : Tables) where
  open t use {vertices, facets, size, corner, at}

  -- position i of facet f
  pub record Place (f i : ℕ) : Type 0 where
    pub facet : f < facets
    pub position : i < size f

  -- "Position p of a facet also names the directed edge from corner p to the next corner, the last one wrapping to position 0."
  abbrev pub next : ℕ → ℕ → ℕ
  next f i = corner f (after (size f) i)

  -- w is a corner of facet f
  pub record Corner (f w : ℕ) : Type 0 where
    pub i : ℕ
    pub place : Place f i
    pub names : corner f i ≡ w

  -- facet f has the directed edge from u to w
  pub record Edge (f u w : ℕ) : Type 0 where
    pub i : ℕ
    pub place : Place f i
    pub from : corner f i ≡ u
    pub to : next f i ≡ w

  -- ---- "Rules of geometry"

  -- "A facet's plane comes from its first three corners a, b, c. Its normal n is the cross product (b-a)×(c-a)."
  unfoldable pub normal : ℕ → Vec ℤ
  normal f = cross ints (at (corner f 1) -ᵛ at (corner f 0)) (at (corner f 2) -ᵛ at (corner f 0))

  -- "The six-fold volume of points a, b, c, d is the determinant of three rows of three whole numbers: b-a, c-a, d-a." Here d is vertex w
  abbrev pub volume : ℕ → ℕ → ℤ
  volume f w = det (at (corner f 1) -ᵛ at (corner f 0)) (at (corner f 2) -ᵛ at (corner f 0)) (at w -ᵛ at (corner f 0))

  -- "Point d is strictly inside when the determinant is negative, on the plane at zero"
  abbrev pub Inside : ℕ → ℕ → Type 0
  Inside f w = volume f w <ℤ pos 0

  abbrev pub OnPlane : ℕ → ℕ → Type 0
  OnPlane f w = volume f w ≡ pos 0

  -- ---- "a solid within the sheet's limits", as far as the theorems need them

  pub record Sized : Type 0 where
    -- 1 SIZE: there are 4 facets or more, and each has 3 corners or more
    pub many : 4 ≤ facets
    pub big : (f : ℕ) → f < facets → 3 ≤ size f
    -- 3 INDEX: each corner is the number of a vertex
    pub index : {f i : ℕ} → Place f i → corner f i < vertices

  -- 2 RANGE, whatever its limit: each coordinate is -limit to limit
  pub record Ranged (limit : ℕ) : Type 0 where
    pub range : (w : ℕ) → w < vertices → Box limit (at w)

  -- ---- demand 2

  -- "closed as its numbers 4 to 8 ask"
  pub record Closed : Type 0 where
    -- 4 REPEAT: no facet names a vertex again
    pub no_repeat : {f i j : ℕ} → Place f i → Place f j → corner f i ≡ corner f j → i ≡ j
    -- 5 UNUSED: some facet names each vertex
    pub used : (w : ℕ) → w < vertices → (f : ℕ) × Corner f w
    -- 6 PAIR: no directed edge occurs at two places, and the reverse of each occurs
    pub once : {f i g j : ℕ} → Place f i → Place g j → corner f i ≡ corner g j → next f i ≡ next g j → (f ≡ g) × (i ≡ j)
    pub reverse : {f i : ℕ} → Place f i → (g : ℕ) × Edge g (next f i) (corner f i)
    -- 7 RING: the facets at a vertex, stepped across edges at that vertex, make one ring
    pub ring : (v : ℕ) → v < vertices → Ring Corner Edge v
    -- 8 APART: each facet can be reached from facet 0 across edges
    pub reached : (f : ℕ) → f < facets → Linked Edge 0 f

  -- "flat convex facets"
  pub record Flat : Type 0 where
    -- 9 BENT: the first three corners are not in line, and each later corner is on the plane
    pub not_in_line : (f : ℕ) → f < facets → normal f ≢ vec (pos 0) (pos 0) (pos 0)
    pub on_plane : {f i : ℕ} → Place f i → 3 ≤ i → OnPlane f (corner f i)
    -- 10 TURN: for edge a to b, each corner c other than a, b has n·((b-a)×(c-a)) above 0
    pub turn : {f i j : ℕ} → Place f i → Place f j → corner f j ≢ corner f i → corner f j ≢ next f i
        → pos 0 <ℤ det (normal f) (at (next f i) -ᵛ at (corner f i)) (at (corner f j) -ᵛ at (corner f i))

  -- "every other corner strictly inside each facet's plane"
  pub record Outside : Type 0 where
    -- 12 OUTSIDE: each vertex that isn't a corner of the facet is strictly inside its plane
    pub inside : (f w : ℕ) → f < facets → w < vertices → ¬ Corner f w → Inside f w

  -- "the closed surface of a convex polytope as Devillers, Liotta, Preparata and Tamassia use the term, made strict by our rule sheet:
  -- closed as its numbers 4 to 8 ask, flat convex facets, every other corner strictly inside each facet's plane"
  pub record Convex : Type 0 where
    pub closed : Closed
    pub flat : Flat
    pub outside : Outside

  -- ---- what the judge asks besides

  -- no edge is reflex: every convex solid has this (Lemma R)
  pub record Reflex : Type 0 where
    -- 11 REFLEX: position j of g names the reverse of the edge at position i of f; each corner of g other than the edge's ends is strictly inside f's plane
    pub reflex : {f i g j m : ℕ} → Place f i → Place g j → corner g j ≡ next f i → next g j ≡ corner f i
        → Place g m → corner g m ≢ corner f i → corner g m ≢ next f i → Inside f (corner g m)

  -- N, which does the work of OUTSIDE with fewer tests
  pub record Neighbours : Type 0 where
    -- positions i of f and j of g have the same corner; its neighbour, the corner after position j, is a corner of f or strictly inside f's plane
    pub neighbour : {f i g j : ℕ} → Place f i → Place g j → corner g j ≡ corner f i → ¬ Corner f (next g j) → Inside f (next g j)
