-- The sheet's table of answer numbers: each row's number is given exactly when the row says and no number below it applies, at its first place.
-- The rows are the entries of `rules` (judge/specs/Judge.antt), each under its sentence. Assumes nothing.
use Rattle.std.specs.Prelude.{◌≡◌, true, List, ℕ, ◌≤◌, ℤ, Some, Err}
use Rattle.std.proofs.Math.Path.{refl, ap}
use Rattle.answers.specs.Answer.{Outcome, breaks, answer_of}
use Rattle.answers.specs.Order.{Given, given, given_is, first_of, place_for, ascending, lowest-wins}
use Rattle.answers.specs.declared.Answer.{Answer}
use Rattle.judge.specs.Judge.{rules, judged}

module _ (points : List ℤ) (corners begins : List ℕ) where
  -- an entry of the list applies, first at its place, and none before it does; or none of them applies
  pub data Row : Answer → Type 0 where
    given_by : {fault : Outcome} → Given (rules points corners begins) fault → Row (answer_of points corners begins fault)

  -- the judge's answer is a row's ..
  pub row : Row (judged points corners begins)
  unfolding judged
  row = given_by (given (rules points corners begins))

  -- .. and no other
  pub row_is : {r : Answer} → Row r → r ≡ judged points corners begins
  unfolding judged
  row_is (given_by g) = ap (answer_of points corners begins) (given_is g)

  -- "The lowest number that applies anywhere in the tables wins"
  pub rules-ascend : ascending (rules points corners begins) ≡ true
  unfolding ascending
  rules-ascend = refl

  pub lowest-number : {number a b : ℕ} → first_of (rules points corners begins) ≡ Err (breaks number a b)
      → (k : ℕ) {c d : ℕ} → place_for (rules points corners begins) k ≡ Some (c, d) → number ≤ k
  lowest-number = lowest-wins (rules points corners begins) rules-ascend
