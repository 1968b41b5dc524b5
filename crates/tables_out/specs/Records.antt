-- What is asked of tables that are written, and what holds at each round of the loops that write them. Assumes nothing.
use Rattle.std.specs.Prelude.{◌≡◌, List, ℕ, ◌+◌, ◌*◌, ◌≤◌, ◌<◌, ℤ, length}
use Rattle.std.proofs.Common.{ap, sym, ◌∙◌, arith}
use Rattle.points.specs.Points.{vertices}
use Rattle.tables.specs.Tables.{most_sides, facets, begin, sides, facet_of}
use Rattle.tables.specs.Size.{Laid}
use Rattle.tables.specs.Places.{end-in_run, sides-few, sides-some, part_length}
use Rattle.whole.specs.Over.{over, window, back}
use Rattle.tape.specs.Records.{bytes, facet, point_of, point_bytes, facet_bytes, Fits16, divided, length-packed, length-points, length_facets}
use Rattle.tape.specs.SoFar.{SoFar, so_far_0, so_far_handed}

-- ---- points

abbrev pub all_points : List ℤ → List ℕ
all_points points = point_bytes points (vertices points)

pub record PutsPoints (points : List ℤ) (buffer : List ℕ) : Type 0 where
  pub placed : Fits16 points
  pub room : 7 * vertices points ≤ length buffer

pub record PointTurn (points : List ℤ) (old new : List ℕ) (v : ℕ) : Type 0 where
  pub asked : PutsPoints points old
  pub so_far : SoFar (λ v. bytes (point_of points v)) (vertices points) old new v

pub point-0 : {points : List ℤ} {buffer : List ℕ} → PutsPoints points buffer → PointTurn points buffer buffer 0
point-0 {points} {buffer} p = record { asked = p; so_far = so_far_0 buffer }

pub point-more : {points : List ℤ} {old new rest : List ℕ} {v : ℕ} → PointTurn points old new v → v < vertices points
    → rest ≡ over (bytes (point_of points v)) (window new (7 * v)) → PointTurn points old (back new (7 * v) rest) (v + 1)
point-more {points} {old} {new} {rest} {v} t l e = record {
  asked = t.asked;
  so_far = so_far_handed t.so_far (7 * v) l e (length-points points v) (rw length-packed (omega (arith, t.asked.room)));
}

-- ---- facets

abbrev pub all_facets : List ℕ → List ℕ → List ℕ
all_facets corners begins = facet_bytes corners begins (facets begins)

pub record PutsFacets (corners begins buffer : List ℕ) : Type 0 where
  pub laid : Laid corners begins
  pub room : facets begins + 2 * length corners ≤ length buffer

pub record FacetTurn (corners begins old new : List ℕ) (at f : ℕ) : Type 0 where
  pub asked : PutsFacets corners begins old
  pub here : at ≡ f + 2 * begin begins f
  pub so_far : SoFar (λ f. bytes (facet (facet_of corners begins f))) (facets begins) old new f

pub facet-0 : {corners begins buffer : List ℕ} → PutsFacets corners begins buffer → FacetTurn corners begins buffer buffer 0 0
facet-0 {corners} {begins} {buffer} p = record { asked = p; here = omega (arith, p.laid.start); so_far = so_far_0 buffer }

-- the part of this round's facet, whose record starts at `at`
pub record WritesFacet (corners begins part : List ℕ) (at f : ℕ) : Type 0 where
  pub few : length part ≤ most_sides
  pub next : at + (1 + 2 * length part) ≡ f + 1 + 2 * begin begins (f + 1)
  pub inside : at + (1 + 2 * length part) ≤ facets begins + 2 * length corners

module _ {corners begins old new : List ℕ} {at f : ℕ} (t : FacetTurn corners begins old new at f) (l : f < facets begins)
    {part : List ℕ} (q : part ≡ facet_of corners begins f) where
  pub writes_facet : WritesFacet corners begins part at f
  writes_facet =
      let h = t.asked.laid in
      let n : length part ≡ sides begins f = ap length q ∙ part_length h l in
      let s = sides-some h l in
      record {
        few = omega (arith, sides-few h l);
        next = omega (arith, t.here);
        inside = omega (arith, t.here, end-in_run h l);
      }

  pub facet_more : {rest : List ℕ} → rest ≡ over (bytes (facet part)) (window new at)
      → FacetTurn corners begins old (back new at rest) (at + (1 + 2 * length part)) (f + 1)
  facet_more {rest} e =
      let w = writes_facet in
      let cs = facet_of corners begins f in
      let e' : rest ≡ over (bytes (facet cs)) (window new at) = e ∙ ap (λ (l : List ℕ). over (bytes (facet l)) (window new at)) q in
      let before = length_facets (divided t.asked.laid) f (omega arith) ∙ sym t.here in
      let n : length part ≡ length cs = ap length q in
      record {
        asked = t.asked;
        here = w.next;
        so_far = so_far_handed t.so_far at l e' before (rw length-packed (omega (arith, w.inside, t.asked.room)));
      }
