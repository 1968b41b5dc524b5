-- Number 11, REFLEX, by its row of the sheet's table.
use Rattle.std.specs.Prelude.{◌≡◌, refl, Bool, false, cond, not, List, ℕ, ◌+◌, eqb, ℤ, length, get_or}
use Rattle.whole.specs.First.{any_below}
use Rattle.sides.specs.Sides.{is_inside}
use Rattle.tables.specs.Tables.{facets, begin, sides, facet_of}
use Rattle.tables.specs.Search.{Search, of_places}
use Rattle.edges.specs.Edge.{facet_across}
use Rattle.flat.specs.Facet.{corner_after}
use Rattle.flat.specs.Rules.{side_at}

-- corner c, "other than the edge's ends, isn't strictly inside this facet's plane"
abbrev pub is_not_inside : List ℤ → List ℕ → ℕ → ℕ → ℕ → Bool
is_not_inside points part a b c = cond (eqb c a) false (cond (eqb c b) false (not (is_inside (side_at points part c))))

-- "some corner of the facet across this edge": of the part `other`, the edge going from a to b
abbrev pub some_not_inside : List ℤ → List ℕ → List ℕ → ℕ → ℕ → Bool
some_not_inside points part other a b = any_below (λ r. is_not_inside points part a b (get_or other r 0)) (length other)

-- the edge at position p of a part
abbrev pub reflex_at : List ℤ → List ℕ → List ℕ → ℕ → Bool
reflex_at points part other p = some_not_inside points part other (get_or part p 0) (corner_after part p)

unfoldable pub is_reflex : List ℤ → List ℕ → List ℕ → ℕ → ℕ → Bool
is_reflex points corners begins f p =
    reflex_at points (facet_of corners begins f) (facet_of corners begins (facet_across corners begins (begin begins f + p))) p

-- the same, shut, and what is tested at position p of facet f
unfoldable pub folds : List ℤ → List ℕ → List ℕ → ℕ → Bool
folds points part other p = reflex_at points part other p

pub reflex_is : (points : List ℤ) (corners begins : List ℕ) (f p : ℕ) → is_reflex points corners begins f p
    ≡ folds points (facet_of corners begins f) (facet_of corners begins (facet_across corners begins (begin begins f + p))) p
unfolding is_reflex folds
reflex_is points corners begins f p = refl

abbrev pub reflex : List ℤ → List ℕ → List ℕ → Search
reflex points corners begins = of_places (facets begins) (sides begins) (is_reflex points corners begins)
