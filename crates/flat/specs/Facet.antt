-- What the tests of one facet ask of its part of the run, and what they have where 1 to 3 pass. Assumes nothing.
use Rattle.std.specs.Prelude.{◌≡◌, List, ℕ, ◌+◌, ◌≤◌, ◌<◌, ℤ, length, get_or}
use Rattle.std.proofs.Common.{arith, eq-eqb, ne_eqb}
use Rattle.std.proofs.lemmas.List.{get_or_default}
use Rattle.std.proofs.Math.Decide.{ℕ_discrete}
use Rattle.points.specs.Points.{vertices, Ranged, Vertex}
use Rattle.sides.specs.Sides.{Three}
use Rattle.tables.specs.Tables.{most_sides, facets, sides, facet_of, next_position}
use Rattle.tables.specs.Places.{Sound, part_length, sides-some, sides-few, corner-at, place-below}

pub record Facet (points : List ℤ) (part : List ℕ) : Type 0 where
  pub ranged : Ranged points
  pub some : 3 ≤ length part
  pub few : length part ≤ most_sides
  pub named : (p : ℕ) → p < length part → Vertex points (get_or part p 0)

-- a corner that stands in the part is a vertex
pub corner_named : {points : List ℤ} {part : List ℕ} {c : ℕ} → Facet points part → (p : ℕ) → p < length part → c ≡ get_or part p c → Vertex points c
corner_named {points} {part} {c} f p l e = let v = f.named p l in rw (get_or_default part p 0 c l, ← e) at v

-- the corners that its plane comes from
pub first_three : {points : List ℤ} {part : List ℕ} → Facet points part → Three points (get_or part 0 0) (get_or part 1 0) (get_or part 2 0)
first_three f =
    record { ranged = f.ranged; first = f.named 0 (omega arith); second = f.named 1 (omega arith); third = f.named 2 (omega arith) }

-- the corner after position p, where the edge at p ends
abbrev pub corner_after : List ℕ → ℕ → ℕ
corner_after part p = get_or part (next_position (length part) p) 0

-- the last one wraps, and each other goes on
pub after_last : (part : List ℕ) (p : ℕ) → p + 1 ≡ length part → get_or part 0 0 ≡ corner_after part p
after_last part p e = rw (eq-eqb _ _ e)

pub after-other : (part : List ℕ) (p : ℕ) → (p + 1 ≡ length part → ⊥) → get_or part (p + 1) 0 ≡ corner_after part p
after-other part p e = rw (ne_eqb _ _ e)

pub after-named : {points : List ℤ} {part : List ℕ} (p : ℕ) → Facet points part → p < length part → Vertex points (corner_after part p)
after-named {points} {part} p f l = elim (ℕ_discrete (p + 1) (length part)) [
  | yes e ↦ rw (← after_last part p e) (f.named 0 (omega arith))
  | no e ↦ rw (← after-other part p e) (f.named (p + 1) (omega arith))
]

-- tables that pass 1 to 3
pub record Measured (points : List ℤ) (corners begins : List ℕ) : Type 0 where
  pub ranged : Ranged points
  pub sound : Sound (vertices points) corners begins

pub facet : {points : List ℤ} {corners begins : List ℕ} → Measured points corners begins → {f : ℕ} → f < facets begins
    → Facet points (facet_of corners begins f)
facet {points} {corners} {begins} m {f} l =
    let s = m.sound.laid in
    let e = part_length s l in
    record {
      ranged = m.ranged;
      some = rw e (sides-some s l);
      few = rw e (sides-few s l);
      named = λ p h. let k : p < sides begins f = rw e at h in rw (corner-at s l k) (m.sound.named.index _ (place-below s l k));
    }
