-- What the writer answers, and what it leaves in the lent buffer.
use Rattle.std.specs.Prelude.{cond, List, ℕ, ltb, eqb, ℤ, length}
use Rattle.answers.specs.Answer.{refused, of_length, judged_or}
use Rattle.answers.specs.Order.{first_of}
use Rattle.limits.specs.InOrder.{limit_rules}
use Rattle.answers.specs.declared.Answer.{Answer}
use Rattle.whole.specs.Over.{over}
use Rattle.tape.specs.Tape.{tape}

-- "then 23 SPACE, places 0, exactly when the lent buffer is shorter than the tape. Otherwise it gives the length"
abbrev pub spaced : List ℕ → List ℕ → Answer
spaced bytes buffer = cond (ltb (length buffer) (length bytes)) (refused 23) (of_length (length bytes))

-- "The writer refuses with 1, 2 or 3 as the judge does"
abbrev pub written : List ℤ → List ℕ → List ℕ → List ℕ → Answer
written points corners begins buffer =
    judged_or points corners begins (first_of (limit_rules points corners begins)) (spaced (tape points corners begins) buffer)

-- "and later bytes keep their values"; a refusal alters nothing
abbrev pub buffer_after : List ℤ → List ℕ → List ℕ → List ℕ → List ℕ
buffer_after points corners begins buffer =
    cond (eqb (written points corners begins buffer).number 0) (over (tape points corners begins) buffer) buffer
