-- The four numbers of each program's line.
use Rattle.std.specs.Prelude.{List, ℕ, ℤ}
use Rattle.judge_tape.specs.Tape.{judged_tape}
use Rattle.walk_tape.specs.Tape.{walked_tape}
use Rattle.input.specs.Input.{start_in, direction_in}
use Rattle.answer_lines.specs.Lines.{places_of, moves_of}

abbrev pub judge_numbers : List ℕ → List ℤ
judge_numbers tape = places_of (judged_tape tape)

abbrev pub walk_numbers : List ℕ → List ℕ → List ℤ
walk_numbers tape input = moves_of (walked_tape tape (direction_in input) (start_in input))
