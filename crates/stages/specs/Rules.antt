-- Numbers 1 to 10 in their order, each by its row of the sheet's table.
use Rattle.std.specs.Prelude.{List, [], ◌∷◌, ◌++◌, ℕ, ℤ}
use Rattle.points.specs.Points.{vertices}
use Rattle.names.specs.Rules.{repeat, unused}
use Rattle.answers.specs.Order.{Rule, rule}
use Rattle.limits.specs.InOrder.{limit_rules}
use Rattle.pair.specs.Pair.{pair}
use Rattle.ring.specs.Ring.{ring}
use Rattle.apart.specs.Apart.{apart}
use Rattle.flat.specs.Rules.{bent}
use Rattle.turn.specs.Rules.{turn}

abbrev pub rules_to_turn : List ℤ → List ℕ → List ℕ → List Rule
rules_to_turn points corners begins =
    limit_rules points corners begins
    -- "a facet names a vertex again"
    ++ rule 4 (repeat corners begins)
    -- "no facet names this vertex"
    ∷ rule 5 (unused (vertices points) corners)
    -- "a directed edge occurs more than once, or its reverse doesn't occur exactly once"
    ∷ rule 6 (pair corners begins)
    -- "the facets at a vertex, stepped across edges at that vertex, make more than one ring"
    ∷ rule 7 (ring (vertices points) corners begins)
    -- "facet can't be reached from facet 0 across edges"
    ∷ rule 8 (apart corners begins)
    -- "first three corners in line (position 2), or a later corner off the plane"
    ∷ rule 9 (bent points corners begins)
    -- "for edge a to b, a corner c other than a, b has n·((b-a)×(c-a)) not above 0"
    ∷ rule 10 (turn points corners begins)
    ∷ []
