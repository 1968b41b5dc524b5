-- Numbers 1 to 3 in their order, and "tables whose sizes, ranges and corner numbers are in order": those that pass them. Assumes nothing.
use Rattle.std.specs.Prelude.{◌≡◌, false, List, [], ◌∷◌, ℕ, ℤ, None}
use Rattle.std.proofs.Common.{◌∙◌}
use Rattle.points.specs.Points.{vertices}
use Rattle.tables.specs.Size.{is_size, Laid, sized}
use Rattle.tables.specs.Search.{of_all, place_of, applies_never, never_applies}
use Rattle.answers.specs.Order.{Rule, rule, Passes, passes_none, first_after, none_for}
use Rattle.limits.specs.Rules.{range, index}

-- "points not in threes; V, F or corners outside limits; begins don't start at 0, end at the run's length, or give a facet fewer than 3 or more
-- than 12 corners"; "a coordinate is outside its limits"; "a corner number is V or more"
abbrev pub limit_rules : List ℤ → List ℕ → List ℕ → List Rule
limit_rules points corners begins =
    rule 1 (of_all (is_size points corners begins))
    ∷ rule 2 (range points)
    ∷ rule 3 (index (vertices points) corners begins)
    ∷ []

pub record InOrder (points : List ℤ) (corners begins : List ℕ) : Type 0 where
  pub sizes : is_size points corners begins ≡ false
  pub ranges : place_of (range points) ≡ None
  pub numbers : place_of (index (vertices points) corners begins) ≡ None

-- exactly such tables pass
pub limits_none : (points : List ℤ) (corners begins : List ℕ) → Passes (limit_rules points corners begins) → InOrder points corners begins
limits_none points corners begins P =
    let none = none_for (limit_rules points corners begins) P in
    record { sizes = applies_never (of_all (is_size points corners begins)) (none 1); ranges = none 2; numbers = none 3 }

module _ {points : List ℤ} {corners begins : List ℕ} (o : InOrder points corners begins) where
  pub none_limits : Passes (limit_rules points corners begins)
  none_limits =
      let rs = limit_rules points corners begins in
      first_after rs 1 (never_applies (of_all (is_size points corners begins)) o.sizes)
      ∙ first_after rs 2 o.ranges
      ∙ first_after rs 3 o.numbers
      ∙ passes_none

  pub laid : Laid corners begins
  laid = (sized points corners begins o.sizes).laid
