-- What the judging program makes of a tape: it reads it, then judges. Assumes nothing.
use Rattle.std.specs.Prelude.{List, ℕ}
use Rattle.answers.specs.Answer.{at_offset}
use Rattle.answers.specs.declared.Answer.{Answer}
use Rattle.judge.specs.Judge.{judged}
use Rattle.tape.specs.Reading.{read_tape}
use Rattle.load.specs.Tape.{of_tape}

-- "reads, then judges"
unfoldable pub judged_tape : List ℕ → Answer
judged_tape tape = of_tape judged at_offset tape (read_tape tape)
