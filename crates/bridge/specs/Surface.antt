-- The lent tables as `solid` has them: by facets and positions, and by places of the run. Assumes nothing.
use Rattle.std.specs.Prelude.{◌≡◌, List, ℕ, ◌+◌, ◌<◌, ℤ, length}
use Rattle.std.proofs.Common.{sym, ap, ◌∙◌, inl, inr, arith}
use Rattle.points.specs.Points.{vertices, point}
use Rattle.tables.specs.Tables.{facets, begin, sides, corner_of, home_of, next_of, from, to}
use Rattle.tables.specs.Size.{Laid}
use Rattle.tables.specs.Places.{Sound, home_is, next_up, next-wrap, sides-some, corner-at, place_in, place-below}
use Rattle.pair.specs.Flat.{position}
use Rattle.solid.specs.Tables.{Tables, Place, Corner, Edge, Sized, after, next}
use Rattle.solid.specs.Circuit.{after-cases, after-lt}

-- the one concrete instance
abbrev pub tables_of : List ℤ → List ℕ → List ℕ → Tables
tables_of points corners begins = record {
  vertices = vertices points;
  facets = facets begins;
  size = sides begins;
  corner = corner_of corners begins;
  at = point points;
}

-- place p is one of facet f and names v; its edge leads to w
pub record Names (corners begins : List ℕ) (f v p : ℕ) : Type 0 where
  pub below : p < length corners
  pub facet : home_of begins p ≡ f
  pub starts : from corners p ≡ v

pub record Runs (corners begins : List ℕ) (f v w p : ℕ) : Type 0 where
  pub names : Names corners begins f v p
  pub ends : to corners begins p ≡ w

module _ (points : List ℤ) {corners begins : List ℕ} (L : Laid corners begins) where
  abbrev T : Tables
  T = tables_of points corners begins

  -- the corner after position i of facet f is the end of the edge at its place
  follows : {f i : ℕ} → f < facets begins → i < sides begins f → next T f i ≡ to corners begins (begin begins f + i)
  follows {f} {i} l h = corner-at L l (after-lt (sides begins f) i h) ∙ ap (from corners) place
    where
      place : begin begins f + after (sides begins f) i ≡ next_of begins (begin begins f + i)
      place = elim (after-cases (sides begins f) i) [
        | inl c ↦ omega (arith, c.0, c.1, next-wrap L (place_in L l h) (omega arith))
        | inr c ↦ omega (arith, c.0, c.1, next_up L (place_in L l h) (omega arith))
      ]

  place-home : {f i : ℕ} → f < facets begins → i < sides begins f → home_of begins (begin begins f + i) ≡ f
  place-home l h = sym (home_is L (place_in L l h))

  -- from positions to places

  pub place-names : {f i : ℕ} → Place T f i → Names corners begins f (T.corner f i) (begin begins f + i)
  place-names p = record {
    below = place-below L p.facet p.position;
    facet = place-home p.facet p.position;
    starts = sym (corner-at L p.facet p.position);
  }

  pub place-runs : {f i : ℕ} → Place T f i → Runs corners begins f (T.corner f i) (next T f i) (begin begins f + i)
  place-runs p = record { names = place-names p; ends = sym (follows p.facet p.position) }

  pub corner-names : {f v : ℕ} → Corner T f v → (p : ℕ) × Names corners begins f v p
  corner-names {f} c = (begin begins f + c.i, rw c.names at (place-names c.place))

  pub edge-runs : {f v w : ℕ} → Edge T f v w → (p : ℕ) × Runs corners begins f v w p
  edge-runs {f} e = (begin begins f + e.i, rw (e.from, e.to) at (place-runs e.place))

  -- and back

  pub names_place : {f v p : ℕ} → Names corners begins f v p → (i : ℕ) × Place T f i × (begin begins f + i ≡ p)
  names_place n =
      let o = position L n.below in
      (o.at, record { facet = rw n.facet at o.facet; position = rw n.facet at o.side }, rw n.facet at o.is)

  pub names_corner : {f v p : ℕ} → Names corners begins f v p → Corner T f v
  names_corner n =
      let (i, t, e) = names_place n in
      record { i = i; place = t; names = sym (place-names t).starts ∙ ap (from corners) e ∙ n.starts }

  pub runs_edge : {f v w p : ℕ} → Runs corners begins f v w p → Edge T f v w
  runs_edge r =
      let (i, t, e) = names_place r.names in
      record {
        i = i;
        place = t;
        from = sym (place-names t).starts ∙ ap (from corners) e ∙ r.names.starts;
        to = sym (place-runs t).ends ∙ ap (to corners begins) e ∙ r.ends;
      }

-- ---- what `solid` asks of 1 and 3

pub sized_tables : (points : List ℤ) {corners begins : List ℕ} → Sound (vertices points) corners begins → Sized (tables_of points corners begins)
sized_tables points S = record {
  many = omega (arith, S.laid.some);
  big = λ f l. sides-some S.laid l;
  index = λ p. rw (corner-at S.laid p.facet p.position) (S.named.index _ (place-below S.laid p.facet p.position));
}
