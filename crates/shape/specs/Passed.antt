-- The short way of OUTSIDE: where 1 to 11 pass, it is enough to test the neighbours of each facet's corners. Assumes nothing.
use Rattle.std.specs.Prelude.{◌≡◌, refl, Bool, true, false, List, ℕ, ◌+◌, ◌-◌, ◌<◌, ℤ, length, get_or, None}
use Rattle.std.proofs.Math.Path.{sym}
use Rattle.std.proofs.Common.{◌∙◌, true≢false, arith}
use borrow.Author.Tests.{ltb-true, ltb-false}
use Rattle.whole.specs.First.{first_below, any_false, first_holds}
use Rattle.whole.specs.Count.{last_below, last as lastPlace, both}
use Rattle.points.specs.Range.{limit}
use Rattle.tables.specs.Tables.{facets, begin, facet_of, corner_of, from, to}
use Rattle.tables.specs.Places.{part_length, next-below}
use Rattle.tables.specs.Search.{place_of, applies_never}
use Rattle.edges.specs.Chains.{leaves}
use Rattle.flat.specs.Facet.{Measured}
use Rattle.bridge.specs.Surface.{tables_of, sized_tables, place-names, place-runs}
use Rattle.solid.specs.Tables.{Tables, Ranged, Closed, Flat, Reflex, Neighbours}
use Rattle.solid.proofs.Theorems.{local_global}
use Rattle.scan.specs.Rules.{is_outside, outside}
use Rattle.near.specs.Near.{leads_out, is_near, near_part, near_facet, near, out_entry}
use Rattle.shape.specs.Outside.{inside_of, inside_outside}

-- tables that pass 1 to 11
pub record Passed (points : List ℤ) (corners begins : List ℕ) : Type 0 where
  pub measured : Measured points corners begins
  pub closed : Closed (tables_of points corners begins)
  pub flat : Flat (tables_of points corners begins)
  pub reflex : Reflex (tables_of points corners begins)

module _ {points : List ℤ} {corners begins : List ℕ} (M : Measured points corners begins) where
  abbrev t : Tables
  t = tables_of points corners begins

  pub ranged : Ranged t limit
  ranged = record { range = λ w l. record { x = M.ranged w 0 l (omega arith); y = M.ranged w 1 l (omega arith); z = M.ranged w 2 l (omega arith) } }

  -- no neighbour of v leads out
  none_out : (f v q : ℕ) → is_near points corners begins (facet_of corners begins f) v ≡ false → q < length corners → from corners q ≡ v
      → is_outside points (facet_of corners begins f) (to corners begins q) ≡ false
  unfolding is_near
  none_out f v q e l s =
      let part = facet_of corners begins f in
      let test = leads_out points corners begins part v in
      let z = ltb-false 0 (last_below test (length corners)) e in
      sym (out_entry points corners begins part v q (to corners begins q) s refl) ∙ (lastPlace test (length corners)).gap q (omega arith) l

  -- none of a corner of a facet
  none_near : near points corners begins ≡ false → (f i : ℕ) → f < facets begins → i < length (facet_of corners begins f)
      → is_near points corners begins (facet_of corners begins f) (corner_of corners begins f i) ≡ false
  unfolding near near_part
  none_near e f i l k =
      let part = facet_of corners begins f in
      any_false (λ i. is_near points corners begins part (get_or part i 0)) (length part)
      (any_false (near_facet points corners begins) (facets begins) e f l) i k

  pub neighbours : near points corners begins ≡ false → Neighbours t
  neighbours e = record {
    neighbour = λ {f} {i} {g} {j} p q s out.
        let laid = M.sound.laid in
        let x = none_near e f i p.facet (rw (part_length laid p.facet) p.position) in
        let n = place-names points laid q in
        let y = none_out f (corner_of corners begins f i) (begin begins g + j) x n.below (n.starts ∙ s) in
        inside_of points laid f _ p.facet (rw (place-runs points laid q).ends at y) out;
  }

-- so OUTSIDE finds nothing where the local test finds nothing
pub near-enough : {points : List ℤ} {corners begins : List ℕ} → Passed points corners begins → near points corners begins ≡ false
    → place_of (outside points corners begins) ≡ None
near-enough {points} p e =
    let m = p.measured in
    inside_outside points m.sound.laid
    (local_global (sized_tables points m.sound) (ranged m) p.closed p.flat p.reflex (neighbours m e))

-- and where the local test finds a vertex, OUTSIDE applies: no scan is made in vain
pub near-needed : {points : List ℤ} {corners begins : List ℕ} → Measured points corners begins → near points corners begins ≡ true
    → place_of (outside points corners begins) ≡ None → ⊥
unfolding near near_part is_near leads_out
near-needed {points} {corners} {begins} m e o =
    let facet : ℕ → Bool = near_facet points corners begins in
    let f = first_below facet (facets begins) in
    let lf = ltb-true f (facets begins) e in
    let part = facet_of corners begins f in
    let place : ℕ → Bool = λ i. is_near points corners begins part (get_or part i 0) in
    let i = first_below place (length part) in
    let li = ltb-true i (length part) (first_holds facet (facets begins) lf) in
    let v = get_or part i 0 in
    let test = leads_out points corners begins part v in
    let q = last_below test (length corners) in
    let lq = ltb-true 0 q (first_holds place (length part) li) in
    let k = lastPlace test (length corners) in
    let b : q - 1 < length corners = omega (arith, k.upto) in
    let (leaving, out) = both (leaves corners v (q - 1)) (is_outside points part (to corners begins (q - 1))) (k.holds (q - 1) (omega arith)) in
    let none = applies_never (outside points corners begins) o in
    true≢false (sym out ∙ none f _ lf (m.sound.named.index _ (next-below m.sound.laid b)))
