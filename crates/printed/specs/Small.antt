-- What the judge answers of tables within the limits is small, so that it prints as it is. Assumes nothing.
use Rattle.std.specs.Prelude.{◌≡◌, List, [], ◌∷◌, ℕ, ◌≤◌, T, leb, ℤ, pos, length}
use Rattle.std.proofs.Common.{arith, lit≤}
use Rattle.points.specs.Points.{vertices}
use Rattle.tables.specs.Tables.{facets, sides, most_corners}
use Rattle.tables.specs.Search.{Search, of_all, of_each, of_places, AppliesFirst}
use Rattle.answers.specs.Answer.{Outcome, answer_of}
use Rattle.answers.specs.Order.{Rule, Given, here, after, none, given}
use Rattle.answers.specs.declared.Answer.{Answer}
use Rattle.judge.specs.Judge.{rules, judged}
use Rattle.lines.specs.Line.{number_of_lem}
use Rattle.answer_lines.specs.Lines.{places_of}

-- no more than there may be corners
abbrev Small : ℕ → Type 0
Small n = n ≤ most_corners

pub record SmallAnswer (a : Answer) : Type 0 where
  pub number : Small a.number
  pub first : Small a.first
  pub second : Small a.second
  pub third : Small a.third

-- tables that have no more of anything
pub record SmallTables (points : List ℤ) (corners begins : List ℕ) : Type 0 where
  pub few_points : Small (vertices points)
  pub few_corners : Small (length corners)
  pub few_facets : Small (facets begins)
  pub few_sides : (f : ℕ) → Small (sides begins f)

-- a rule is looked for at so few places
abbrev Few : Search → Type 0
Few (of_all test) = Unit {0}
Few (of_each n test) = Small n
Few (of_places n sizes test) = Small n × ((k : ℕ) → Small (sizes k))

small_place : (s : Search) {a b : ℕ} → Few s → AppliesFirst s a b → Small a × Small b
small_place (of_all test) f (t, (x, y)) = (omega arith, omega arith)
small_place (of_each n test) f (h, y) = (omega (arith, h.below), omega arith)
small_place (of_places n sizes test) {a} (f, g) h = (omega (arith, h.facet), omega (arith, h.place.below, g a))

abbrev EachFew : List Rule → Type 0
EachFew [] = Unit {0}
EachFew (r ∷ rs) = (T (leb r.number most_corners) × Few r.search) × EachFew rs

module _ {points : List ℤ} {corners begins : List ℕ} (S : SmallTables points corners begins) where
  small_answer : {rs : List Rule} {x : Outcome} → EachFew rs → Given rs x → SmallAnswer (answer_of points corners begins x)
  small_answer e (here {r} h) =
      let (a, b) = small_place r.search e.0.1 h in
      record { number = lit≤ e.0.0; first = a; second = b; third = omega arith }
  small_answer e (after _ g) = small_answer e.1 g
  small_answer e none = record { number = omega arith; first = S.few_points; second = omega (arith, S.few_corners); third = S.few_facets }

  pub small_judged : SmallAnswer (judged points corners begins)
  unfolding judged
  small_judged =
      let v = S.few_points in
      let f = S.few_facets in
      let p : Small (facets begins) × ((k : ℕ) → Small (sides begins k)) = (f, S.few_sides) in
      small_answer
      ((tt, tt), ((tt, v), ((tt, p), ((tt, p), ((tt, v), ((tt, p), ((tt, v), ((tt, f), ((tt, p), ((tt, p), ((tt, p), ((tt, (f, λ k. v)), tt))))))))))))
      (given (rules points corners begins))

-- so its numbers are printed as they are
pub places-are : {a : Answer} → SmallAnswer a → places_of a ≡ pos a.number ∷ pos a.first ∷ pos a.second ∷ pos a.third ∷ []
places-are {a} s =
    rw (
      number_of_lem a.number (omega (arith, s.number)),
      number_of_lem a.first (omega (arith, s.first)),
      number_of_lem a.second (omega (arith, s.second)),
      number_of_lem a.third (omega (arith, s.third)),
    )
