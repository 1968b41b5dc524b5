-- What the walk program makes of a tape: it reads it, then walks. Assumes nothing.
use Rattle.std.specs.Prelude.{List, ℕ, ℤ, replicate}
use Rattle.tables.specs.Tables.{most_vertices}
use Rattle.answers.specs.Answer.{refused}
use Rattle.tape.specs.Reading.{read_tape}
use Rattle.direction.specs.declared.Direction.{Direction}
use Rattle.walk.specs.Walk.{walked, halted}
use Rattle.walk.specs.declared.Walked.{Walked}
use Rattle.load.specs.Tape.{of_tape}

-- "The second program prints a walk"; it is lent a trail of as many entries as a solid has vertices at most
abbrev pub trail : List ℕ
trail = replicate most_vertices 0

abbrev pub walked_from : Direction → ℕ → List ℤ → List ℕ → List ℕ → Walked
walked_from d start points corners begins = walked points corners begins d start trail

-- "On a refusal, the reader's included, the other three print 0."
abbrev pub at_nothing : ℕ → ℕ → Walked
at_nothing number offset = halted (refused number)

unfoldable pub walked_tape : List ℕ → Direction → ℕ → Walked
walked_tape tape d start = of_tape (walked_from d start) at_nothing tape (read_tape tape)
