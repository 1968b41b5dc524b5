-- REFLEX in plain quantifiers, where PAIR passes: it finds nothing exactly where no edge is reflex. Assumes nothing.
use Rattle.std.specs.Prelude.{◌≡◌, false, List, ℕ, ◌+◌, ◌-◌, ◌<◌, ℤ, length, None}
use Rattle.std.proofs.Math.Path.{sym}
use Rattle.std.proofs.Common.{ap, ◌∙◌, arith}
use Rattle.whole.specs.First.{any_false, any_none}
use Rattle.sides.specs.Sides.{inside_below, below_inside}
use Rattle.tables.specs.Tables.{facets, begin, sides, facet_of, corner_of, home_of, from, to}
use Rattle.tables.specs.Size.{Laid}
use Rattle.tables.specs.Places.{part_length, place_in, home, home_is}
use Rattle.tables.specs.Found.{no_place_is}
use Rattle.tables.specs.Search.{place_of, applies_never}
use Rattle.edges.specs.Edge.{across_of, facet_across}
use Rattle.pair.specs.Pair.{Paired}
use Rattle.pair.specs.Across.{across, edge-once}
use Rattle.bridge.specs.Surface.{tables_of, place-names, place-runs}
use Rattle.solid.specs.Tables.{Tables, Place, next, Reflex}
use Rattle.reflex.specs.Rules.{is_not_inside, is_reflex, reflex}
use Rattle.shape.specs.Flat.{other-than, passed, next-is}

module _ (points : List ℤ) {corners begins : List ℕ} (L : Laid corners begins) where
  abbrev t : Tables
  t = tables_of points corners begins

  from_is : {f i : ℕ} → Place t f i → from corners (begin begins f + i) ≡ corner_of corners begins f i
  from_is p = (place-names points L p).starts

  to_is : {f i : ℕ} → Place t f i → to corners begins (begin begins f + i) ≡ next t f i
  to_is p = (place-runs points L p).ends

  below : {f i : ℕ} → Place t f i → begin begins f + i < length corners
  below p = (place-names points L p).below

  -- the facet across the edge at position i of f
  abbrev pub facing : ℕ → ℕ → ℕ
  facing f i = facet_across corners begins (begin begins f + i)

  -- position j of g names the reverse of the edge at position i of f
  pub record Opposite (f i g j : ℕ) : Type 0 where
    pub start : corner_of corners begins g j ≡ next t f i
    pub end : next t g j ≡ corner_of corners begins f i

  module _ (P : Paired corners begins) where
    pub facing_is : {f i g j : ℕ} → Place t f i → Place t g j → Opposite f i g j → facing f i ≡ g
    facing_is {f} {i} {g} {j} p q o =
        let r = across P (below p) in
        let starts = r.starts ∙ to_is p ∙ sym o.start ∙ sym (from_is q) in
        let ends = r.ends ∙ from_is p ∙ sym o.end ∙ sym (to_is q) in
        ap (home_of begins) (edge-once P r.below (below q) starts ends) ∙ sym (home_is L (place_in L q.facet q.position))

    -- and there is such a position
    pub opposite : {f i : ℕ} → Place t f i → (j : ℕ) × Place t (facing f i) j × Opposite f i (facing f i) j
    opposite {f} {i} p =
        let r = across P (below p) in
        let g = facing f i in
        let h = home L r.below in
        let j = across_of corners begins (begin begins f + i) - begin begins g in
        let s : begin begins g + j ≡ across_of corners begins (begin begins f + i) = omega (arith, h.low) in
        let q : Place t g j = record { facet = omega (arith, h.facet); position = omega (arith, h.low, h.high) } in
        let start = sym (from_is q) ∙ ap (from corners) s ∙ r.starts ∙ to_is p in
        let end = sym (to_is q) ∙ ap (to corners begins) s ∙ r.ends ∙ from_is p in
        (j, q, record { start = start; end = end })

    -- REFLEX at position i of f
    facing_none : (f i : ℕ) → f < facets begins → is_reflex points corners begins f i ≡ false
        → (g : ℕ) → g < facets begins → facing f i ≡ g → (m : ℕ) → m < sides begins g
        → is_not_inside points (facet_of corners begins f) (corner_of corners begins f i) (next t f i) (corner_of corners begins g m) ≡ false
    unfolding is_reflex
    facing_none f i l e g k s m h =
        rw (next-is points L f i l) at (any_false _ (length (facet_of corners begins g)) (rw s at e) m (omega (arith, part_length L k)))

    pub no_reflex : place_of (reflex points corners begins) ≡ None → Reflex t
    no_reflex e =
        let R = applies_never (reflex points corners begins) e in
        record {
          reflex = λ {f} {i} {g} {j} {m} p q s z k ca cb.
              let h = R f i p.facet p.position in
              let b = facing_is p q (record { start = s; end = z }) in
              inside_below _ (other-than _ _ _ _ (facing_none f i p.facet h g q.facet b m k.position) ca cb);
        }

    pub reflex_none : Reflex t → place_of (reflex points corners begins) ≡ None
    unfolding is_reflex
    reflex_none R = no_place_is (λ f i l h.
        let p : Place t f i = record { facet = l; position = h } in
        let (j, q, o) = opposite p in
        any_none _ _ (λ m k.
        let r : Place t (facing f i) m = record { facet = q.facet; position = omega (arith, k, part_length L q.facet) } in
        passed _ _ _ _ (λ ca cb. below_inside (R.reflex p q o.start o.end r ca (λ z. cb (z ∙ sym (next-is points L f i l)))))))
