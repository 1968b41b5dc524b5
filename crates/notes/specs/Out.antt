-- What the functions for Rust and C tell of an answer: a number, and what they leave in `out`. Assumes nothing.
use Rattle.std.specs.Prelude.{◌≡◌, List, [], ◌∷◌, ℕ, ℤ}
use Rattle.answers.specs.declared.Answer.{Answer}
use Rattle.reading.specs.Answer.{Reading, first_value, second_value, third_value}
use Rattle.outline.specs.declared.Verdict.{Verdict}
use Rattle.walk.specs.declared.Walked.{Walked}
use Rattle.lines.specs.Line.{number_of}
use Rattle.out.specs.Noted.{noted, three}

-- the number is returned, and the numbers are noted in `out`
pub record NumberAndNotes (number : ℕ) (numbers old new : List ℤ) (r : ℕ) : Type 0 where
  pub number_is : r ≡ number
  pub out_is : new ≡ noted numbers old

abbrev pub places : Answer → List ℤ
places a = three a.first a.second a.third

-- "the record's places, then vertex, height, moves"
abbrev pub course : Walked → List ℤ
course w =
    let a = w.answer in
    number_of a.first ∷ number_of a.second ∷ number_of a.third ∷ number_of w.vertex ∷ w.height ∷ number_of w.moves ∷ []

abbrev pub counts : Reading → List ℤ
counts r = three (first_value r) (second_value r) (third_value r)

abbrev pub place : Verdict → List ℤ
place v = number_of v.place ∷ []

-- a part of a run: where it begins, and how many entries it has
abbrev pub extent : ℕ → ℕ → List ℤ
extent begin entries = number_of begin ∷ number_of entries ∷ []
