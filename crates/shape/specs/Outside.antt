-- OUTSIDE in plain quantifiers: it finds nothing exactly where every vertex is inside every facet of which it is no corner. Assumes nothing.
use Rattle.std.specs.Prelude.{◌≡◌, refl, Bool, true, false, cond, not, List, ℕ, ◌<◌, ℤ, None}
use Rattle.std.proofs.Common.{sym, ◌∙◌, arith}
use Rattle.std.proofs.Math.Bool.{true≢false}
use Rattle.std.proofs.Math.ListN.{length}
use borrow.Author.Tests.{eqb-true, eq-eqb, ltb-true}
use Rattle.whole.specs.First.{first_below, any_below, any_is, first_holds}
use Rattle.whole.specs.Count.{is_false}
use Rattle.sides.specs.Sides.{inside_below, below_inside}
use Rattle.tables.specs.Tables.{facets, facet_of}
use Rattle.names.specs.Rules.{is_at}
use Rattle.tables.specs.Size.{Laid}
use Rattle.tables.specs.Places.{part_length}
use Rattle.tables.specs.Found.{no_place_is}
use Rattle.tables.specs.Search.{place_of, applies_never}
use Rattle.bridge.specs.Surface.{tables_of}
use Rattle.solid.specs.Tables.{Tables, Corner, Outside, Inside}
use Rattle.scan.specs.Rules.{is_outside, outside}

-- a vertex that is no corner and passes
seen : (x y : Bool) → cond x false (not y) ≡ false → y ≡ false → x ≡ true
seen true y e s = refl
seen false true e s = absurd (true≢false s)
seen false false e s = absurd (true≢false e)

unseen : (x y : Bool) → (y ≡ false → x ≡ true) → cond x false (not y) ≡ false
unseen true y h = refl
unseen false true h = refl
unseen false false h = absurd (true≢false (sym (h refl)))

module _ (points : List ℤ) {corners begins : List ℕ} (L : Laid corners begins) where
  abbrev t : Tables
  t = tables_of points corners begins

  named? : ℕ → ℕ → Bool
  named? f w = any_below (is_at (facet_of corners begins f) w) (length (facet_of corners begins f))

  module _ (f w : ℕ) (l : f < facets begins) where
    corner_of_lem : named? f w ≡ true → Corner t f w
    unfolding named?
    corner_of_lem e =
        let test = is_at (facet_of corners begins f) w in
        let n = length (facet_of corners begins f) in
        let h = ltb-true (first_below test n) n e in
        record {
          i = first_below test n;
          place = record { facet = l; position = omega (arith, h, part_length L l) };
          names = eqb-true _ _ (first_holds test n h);
        }

    of_corner : Corner t f w → named? f w ≡ true
    unfolding named?
    of_corner c = any_is (is_at (facet_of corners begins f) w) _ c.i (rw (part_length L l) c.place.position) (eq-eqb _ _ c.names)

    pub inside_of : is_outside points (facet_of corners begins f) w ≡ false → ¬ Corner t f w → Inside t f w
    unfolding is_outside named?
    inside_of e out = inside_below _ (seen _ (named? f w) e (is_false _ (λ s. out (corner_of_lem s))))

    pub not_outside : (¬ Corner t f w → Inside t f w) → is_outside points (facet_of corners begins f) w ≡ false
    unfolding is_outside named?
    not_outside h = unseen _ (named? f w) (λ s. below_inside (h (λ c. true≢false (sym (of_corner c) ∙ s))))

  pub inside : place_of (outside points corners begins) ≡ None → Outside t
  inside e =
      let none = applies_never (outside points corners begins) e in
      record { inside = λ f w l k. inside_of f w l (none f w l k) }

  pub inside_outside : Outside t → place_of (outside points corners begins) ≡ None
  inside_outside O = no_place_is (λ f w l k. not_outside f w l (O.inside f w l k))
