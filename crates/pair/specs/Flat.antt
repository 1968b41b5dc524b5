-- Places as positions of facets: a search over the run finds the lowest facet and then the lowest position. Assumes nothing.
use Rattle.std.specs.Prelude.{◌≡◌, Bool, List, ℕ, ◌+◌, ◌-◌, ◌<◌, length, Some, None}
use Rattle.std.proofs.Common.{sym, ap, ◌∙◌, arith}
use Rattle.std.proofs.Math.Decide.{dec_lt}
use Rattle.whole.specs.First.{Nowhere, Lowest}
use Rattle.tables.specs.Tables.{facets, begin, sides, corner_of, home_of, from}
use Rattle.tables.specs.Size.{Laid}
use Rattle.tables.specs.Places.{home, home_is, home_rise, corner-at, place_in, place-below}
use Rattle.tables.specs.Found.{first_is, no_place_is}
use Rattle.tables.specs.Search.{Search, of_places, place_of, applies_never}

-- place p is position `at` of its facet
pub record Position (corners begins : List ℕ) (p : ℕ) : Type 0 where
  pub at : ℕ
  pub facet : home_of begins p < facets begins
  pub side : at < sides begins (home_of begins p)
  pub is : begin begins (home_of begins p) + at ≡ p
  pub corner : corner_of corners begins (home_of begins p) at ≡ from corners p

pub position : {corners begins : List ℕ} → Laid corners begins → {p : ℕ} → p < length corners → Position corners begins p
position {corners} {begins} L {p} l =
    let i = home L l in
    let f = home_of begins p in
    let m : f < facets begins = omega (arith, i.facet) in
    let h : p - begin begins f < sides begins f = omega (arith, i.low, i.high) in
    let e : begin begins f + (p - begin begins f) ≡ p = omega (arith, i.low) in
    record { at = p - begin begins f; facet = m; side = h; is = e; corner = corner-at L m h ∙ ap (from corners) e }

-- at each place, facet by facet
abbrev pub by_facets : List ℕ → (ℕ → Bool) → Search
by_facets begins test = of_places (facets begins) (sides begins) (λ f p. test (begin begins f + p))

-- the places of an earlier facet are earlier
early : {corners begins : List ℕ} {p : ℕ} (L : Laid corners begins) (g q : ℕ) → p < length corners → g < home_of begins p
    → q < sides begins g → begin begins g + q < p
early {begins = begins} {p = p} L g q l k h =
    let m : g < facets begins = omega (arith, (home L l).facet) in
    elim (dec_lt (begin begins g + q) p) [
      | yes b ↦ b
      | no b ↦ absurd (omega (arith, home_is L (place_in L m h), home_rise L {p = p} {q = begin begins g + q} (omega arith) (place-below L m h)))
    ]

module _ {corners begins : List ℕ} (L : Laid corners begins) (test : ℕ → Bool) where
  pub flat_hit : {p : ℕ} → Lowest test (length corners) p → Some (home_of begins p, p - begin begins (home_of begins p)) ≡ place_of (by_facets begins test)
  flat_hit {p} w =
      let o = position L w.below in
      let z : p - begin begins (home_of begins p) ≡ o.at = omega (arith, o.is) in
      ap (λ q. Some (home_of begins p, q)) z ∙ sym (first_is (record {
        facet = o.facet;
        place = record { below = o.side; holds = rw o.is w.holds; before = λ q k. w.before _ (omega (arith, o.is)) };
        earlier = λ g q k h. w.before _ (early L g q w.below k h);
      }))

  pub flat_none : Nowhere test (length corners) → place_of (by_facets begins test) ≡ None
  flat_none h = no_place_is (λ f p l k. h _ (place-below L l k))

  pub none_flat : place_of (by_facets begins test) ≡ None → Nowhere test (length corners)
  none_flat e p l =
      let o = position L l in
      rw o.is at (applies_never (by_facets begins test) e (home_of begins p) o.at o.facet o.side)
