-- Number 10, TURN, by its row of the sheet's table. A facet is its part of the run.
use Rattle.std.specs.Prelude.{◌≡◌, refl, Bool, false, cond, not, List, ℕ, eqb, ℤ, length, get_or}
use Rattle.whole.specs.First.{any_below}
use Rattle.sides.specs.Sides.{normal_of, is_left}
use Rattle.flat.specs.Facet.{corner_after}
use Rattle.tables.specs.Facets.{in_facets}
use Rattle.tables.specs.Search.{Search}

abbrev pub normal_in : List ℤ → List ℕ → List ℤ
normal_in points part = normal_of points (get_or part 0 0) (get_or part 1 0) (get_or part 2 0)

-- "for edge a to b, a corner c other than a, b has n·((b-a)×(c-a)) not above 0"
abbrev pub strays : List ℤ → List ℤ → ℕ → ℕ → ℕ → Bool
strays points n a b c = cond (eqb c a) false (cond (eqb c b) false (not (is_left points n a b c)))

unfoldable pub is_turn : List ℤ → List ℕ → ℕ → Bool
is_turn points part p =
    any_below (λ q. strays points (normal_in points part) (get_or part p 0) (corner_after part p) (get_or part q 0)) (length part)

-- the test of the edge from a to b, with the facet's normal n
unfoldable pub some_stray : List ℤ → List ℕ → List ℤ → ℕ → ℕ → Bool
some_stray points part n a b = any_below (λ q. strays points n a b (get_or part q 0)) (length part)

pub turn_at : (points : List ℤ) (part : List ℕ) (p : ℕ)
    → is_turn points part p ≡ some_stray points part (normal_in points part) (get_or part p 0) (corner_after part p)
unfolding is_turn some_stray
turn_at points part p = refl

abbrev pub turn : List ℤ → List ℕ → List ℕ → Search
turn points corners begins = in_facets corners begins (is_turn points)
