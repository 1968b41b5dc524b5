-- Number 1, SIZE, and what tables that pass it have. Assumes nothing.
use Rattle.std.specs.Prelude.{◌≡◌, Bool, false, not, ◌||◌, List, ℕ, ◌+◌, ◌-◌, ◌/◌, ◌%◌, ◌≤◌, ◌<◌, eqb, ltb, ℤ, length, get_or}
use Rattle.std.proofs.Common.{arith, eqb-true, ltb-false}
use Rattle.std.proofs.lemmas.Bool.{not-false}
use Rattle.whole.specs.First.{any_below, any_false}
use Rattle.whole.specs.Count.{neither}
use Rattle.points.specs.Points.{vertices}
use Rattle.tables.specs.Tables.{least_vertices, most_vertices, least_facets, most_facets, most_corners, least_sides, most_sides, facets, begin, end}

-- "points not in threes; V, F or corners outside limits": by how many entries the three tables have
abbrev pub wrong_lengths : ℕ → ℕ → ℕ → Bool
wrong_lengths points corners begins =
    not (eqb (points % 3) 0)
    || (ltb (points / 3) least_vertices || (ltb most_vertices (points / 3)
    || (ltb begins (least_facets + 1) || (ltb (most_facets + 1) begins || ltb most_corners corners))))

-- "begins don't start at 0, end at the run's length"
abbrev pub wrong_ends : List ℕ → List ℕ → Bool
wrong_ends corners begins = not (eqb (begin begins 0) 0) || not (eqb (get_or begins (facets begins) 0) (length corners))

-- "or give a facet fewer than 3 or more than 12 corners"
abbrev pub wrong_sides : List ℕ → ℕ → Bool
wrong_sides begins f = ltb (end begins f) (begin begins f + least_sides) || ltb (begin begins f + most_sides) (end begins f)

unfoldable pub is_size : List ℤ → List ℕ → List ℕ → Bool
is_size points corners begins =
    wrong_lengths (length points) (length corners) (length begins) || (wrong_ends corners begins || any_below (wrong_sides begins) (facets begins))

-- ---- what tables that pass SIZE have

-- the run is cut into facets of 3 to 12 corners
pub record Laid (corners begins : List ℕ) : Type 0 where
  pub some : least_facets + 1 ≤ length begins
  pub most : length begins ≤ most_facets + 1
  pub short : length corners ≤ most_corners
  pub start : get_or begins 0 0 ≡ 0
  pub finish : get_or begins (length begins - 1) 0 ≡ length corners
  pub rise : (f : ℕ) → f + 1 < length begins → get_or begins f 0 + least_sides ≤ get_or begins (f + 1) 0
  pub narrow : (f : ℕ) → f + 1 < length begins → get_or begins (f + 1) 0 ≤ get_or begins f 0 + most_sides

-- n is V
pub record SizePassed (n : ℕ) (corners begins : List ℕ) : Type 0 where
  pub many : least_vertices ≤ n
  pub few : n ≤ most_vertices
  pub laid : Laid corners begins

-- the lengths by themselves
pub record Counted (points corners begins : ℕ) : Type 0 where
  pub many : least_vertices ≤ points / 3
  pub few : points / 3 ≤ most_vertices
  pub some : least_facets + 1 ≤ begins
  pub most : begins ≤ most_facets + 1
  pub short : corners ≤ most_corners

pub counted : (points corners begins : ℕ) → wrong_lengths points corners begins ≡ false → Counted points corners begins
counted points corners begins e =
    let few-v = ltb (points / 3) least_vertices in
    let many-v = ltb most_vertices (points / 3) in
    let few-f = ltb begins (least_facets + 1) in
    let many-f = ltb (most_facets + 1) begins in
    let many-c = ltb most_corners corners in
    let a = neither (not (eqb (points % 3) 0)) (few-v || (many-v || (few-f || (many-f || many-c)))) e in
    let b = neither few-v (many-v || (few-f || (many-f || many-c))) a.1 in
    let c = neither many-v (few-f || (many-f || many-c)) b.1 in
    let d = neither few-f (many-f || many-c) c.1 in
    let f = neither many-f many-c d.1 in
    record {
      many = ltb-false (points / 3) least_vertices b.0;
      few = ltb-false most_vertices (points / 3) c.0;
      some = ltb-false begins (least_facets + 1) d.0;
      most = ltb-false (most_facets + 1) begins f.0;
      short = ltb-false most_corners corners f.1;
    }

pub sized : (points : List ℤ) (corners begins : List ℕ) → is_size points corners begins ≡ false → SizePassed (vertices points) corners begins
unfolding is_size
sized points corners begins e =
    let facet = any_below (wrong_sides begins) (facets begins) in
    let lengths = neither (wrong_lengths (length points) (length corners) (length begins)) (wrong_ends corners begins || facet) e in
    let ends = neither (wrong_ends corners begins) facet lengths.1 in
    let start = eqb (begin begins 0) 0 in
    let finish = eqb (get_or begins (facets begins) 0) (length corners) in
    let tips = neither (not start) (not finish) ends.0 in
    let k = counted (length points) (length corners) (length begins) lengths.0 in
    record {
      many = k.many;
      few = k.few;
      laid = record {
        some = k.some;
        most = k.most;
        short = k.short;
        start = eqb-true (begin begins 0) 0 (not-false start tips.0);
        finish = eqb-true _ _ (not-false finish tips.1);
        rise = λ f l. (sides-right f ends.1 l).0;
        narrow = λ f l. (sides-right f ends.1 l).1;
      };
    }
  where
    sides-right : (f : ℕ) → any_below (wrong_sides begins) (facets begins) ≡ false → f + 1 < length begins
        → (begin begins f + least_sides ≤ end begins f) × (end begins f ≤ begin begins f + most_sides)
    sides-right f e l =
        let h = any_false (wrong_sides begins) (facets begins) e f (omega arith) in
        let k = neither (ltb (end begins f) (begin begins f + least_sides)) (ltb (begin begins f + most_sides) (end begins f)) h in
        (ltb-false _ _ k.0, ltb-false _ _ k.1)
