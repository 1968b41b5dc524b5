-- Numbers from entry 0 on where `out` is long enough, else nothing. Assumes nothing.
use Rattle.std.specs.Prelude.{cond, List, [], ◌∷◌, ℕ, ltb, ℤ, length}
use Rattle.whole.specs.Over.{over}
use Rattle.lines.specs.Line.{number_of}

unfoldable pub noted : List ℤ → List ℤ → List ℤ
noted numbers out = cond (ltb (length out) (length numbers)) out (over numbers out)

-- places as numbers
abbrev pub three : ℕ → ℕ → ℕ → List ℤ
three first second third = number_of first ∷ number_of second ∷ number_of third ∷ []
