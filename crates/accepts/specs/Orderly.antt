-- 1 to 3 in plain quantifiers. SIZE: "points not in threes; V, F or corners outside limits; begins don't start at 0, end at the run's length, or give a
-- facet fewer than 3 or more than 12 corners". RANGE: "a coordinate is outside its limits". INDEX: "a corner number is V or more". Assumes nothing.
use Rattle.std.specs.Prelude.{◌≡◌, List, ℕ, ◌+◌, ◌-◌, ◌/◌, ◌%◌, ◌≤◌, ◌<◌, ℤ, pos, neg_ℤ, get_or, ◌≤ℤ◌}
use Rattle.std.proofs.Math.ListN.{length}

pub record Orderly (points : List ℤ) (corners begins : List ℕ) : Type 0 where
  -- "three .. numbers x, y, z for each vertex"
  pub threes : length points % 3 ≡ 0
  -- "Vertices V: 4 to 1,024"
  pub many_vertices : 4 ≤ length points / 3
  pub few_vertices : length points / 3 ≤ 1024
  -- "Facets F: 4 to 2,048"; the begins have one entry more
  pub many_facets : 4 + 1 ≤ length begins
  pub few_facets : length begins ≤ 2048 + 1
  -- "Corners in all: at most 6,144"
  pub few_corners : length corners ≤ 6144
  -- "for each facet the place in the run where it starts, then one last entry, the run's length"
  pub start : get_or begins 0 0 ≡ 0
  pub finish : get_or begins (length begins - 1) 0 ≡ length corners
  -- "facets of 3 to 12 corners"
  pub sides : (f : ℕ) → f + 1 < length begins → (get_or begins f 0 + 3 ≤ get_or begins (f + 1) 0) × (get_or begins (f + 1) 0 ≤ get_or begins f 0 + 12)
  -- "Coordinates: -8,191 to 8,191"
  pub coordinates : (i : ℕ) → i < length points → (neg_ℤ (pos 8191) ≤ℤ get_or points i (pos 0)) × (get_or points i (pos 0) ≤ℤ pos 8191)
  -- each corner is the number of a vertex
  pub numbers : (i : ℕ) → i < length corners → get_or corners i 0 < length points / 3
