-- "Answer numbers of the solid judge": the one answer to three tables.
use Rattle.std.specs.Prelude.{List, [], ◌∷◌, ◌++◌, ℕ, ℤ}
use Rattle.answers.specs.Answer.{answer_of}
use Rattle.answers.specs.Order.{Rule, rule, first_of}
use Rattle.answers.specs.declared.Answer.{Answer}
use Rattle.stages.specs.Rules.{rules_to_turn}
use Rattle.reflex.specs.Rules.{reflex}
use Rattle.scan.specs.Rules.{outside}

abbrev pub rules : List ℤ → List ℕ → List ℕ → List Rule
rules points corners begins =
    rules_to_turn points corners begins
    -- "some corner of the facet across this edge, other than the edge's ends, isn't strictly inside this facet's plane"
    ++ rule 11 (reflex points corners begins)
    -- "a vertex that isn't a corner of the facet isn't strictly inside its plane"
    ∷ rule 12 (outside points corners begins)
    ∷ []

-- "The lowest number that applies anywhere in the tables wins. Within it, the first place wins"; "accepted: none below applies: V, E, F"
unfoldable pub judged : List ℤ → List ℕ → List ℕ → Answer
judged points corners begins = answer_of points corners begins (first_of (rules points corners begins))
