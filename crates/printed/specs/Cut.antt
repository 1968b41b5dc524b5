-- What is read of the two inputs settles what is printed: of a tape 21,510 bytes, of the walk program's other input 257. Assumes nothing.
use Rattle.std.specs.Prelude.{◌≡◌, refl, List, ℕ, ◌+◌, ◌<◌, ltb, ℤ, length, take, Ok, Err}
use Rattle.std.proofs.Common.{ap, ap₂, ◌∙◌, arith, length-take, take_all, take-take, lt-ltb, le-ltb}
use Rattle.std.proofs.Math.Decide.{dec_lt}
use Rattle.reading.specs.Answer.{Reading}
use Rattle.tape.specs.Reading.{read_tape}
use Rattle.longest.specs.Longest.{tape_room, read_short}
use Rattle.longest.proofs.Sure.{read-cut}
use Rattle.load.specs.Tape.{of_tape}
use Rattle.judge.specs.Judge.{judged}
use Rattle.answers.specs.Answer.{at_offset}
use Rattle.judge_tape.specs.Tape.{judged_tape}
use Rattle.direction.specs.declared.Direction.{Direction}
use Rattle.walk_tape.specs.Tape.{walked_from, at_nothing, walked_tape}
use Rattle.input.specs.Input.{longest, split, start_in, direction_in}
use Rattle.answer_lines.specs.Lines.{places_of, moves_of}
use Rattle.programs.specs.Lines.{judge_numbers, walk_numbers}

-- what a program makes of a tape: a tape that is read is not cut, and of one that isn't the number and offset are the same
of_tape-cut : {A : Type 0} (solid : List ℤ → List ℕ → List ℕ → A) (refusal : ℕ → ℕ → A) (tape : List ℕ)
    → of_tape solid refusal (take tape_room tape) (read_tape (take tape_room tape)) ≡ of_tape solid refusal tape (read_tape tape)
of_tape-cut solid refusal tape = elim (dec_lt tape_room (length tape)) [
  | yes l ↦ rw (read-cut tape) (go l (read_tape tape) refl)
  | no l ↦ ap (λ s. of_tape solid refusal s (read_tape s)) (take_all tape_room tape (omega arith))
]
  where
    go : tape_room < length tape → (r : Reading) → read_tape tape ≡ r → of_tape solid refusal (take tape_room tape) r ≡ of_tape solid refusal tape r
    go l (Ok read) e = absurd (omega (arith, read_short tape e))
    go l (Err refused) e = refl

pub judged-cut : (tape : List ℕ) → judged_tape (take tape_room tape) ≡ judged_tape tape
unfolding judged_tape
judged-cut tape = of_tape-cut judged at_offset tape

pub walked-cut : (tape : List ℕ) (d : Direction) (start : ℕ) → walked_tape (take tape_room tape) d start ≡ walked_tape tape d start
unfolding walked_tape
walked-cut tape d start = of_tape-cut (walked_from d start) at_nothing tape

-- "more than 256 bytes, of which the first 256 are split into words": one more tells that there are more
abbrev pub input_room : ℕ
input_room = longest + 1

pub input_room_lem : input_room ≡ 257
input_room_lem = refl

module _ (input : List ℕ) where
  long_cut : ltb longest (length (take input_room input)) ≡ ltb longest (length input)
  long_cut =
      let n = length (take input_room input) in
      let e = length-take input_room input in
      elim (dec_lt longest (length input)) [
        | yes l ↦ rw (lt-ltb longest (length input) l) (lt-ltb longest n (omega arith))
        | no l ↦ rw (le-ltb longest (length input) (omega arith)) (le-ltb longest n (omega arith))
      ]

  split-cut : split (take input_room input) ≡ split input
  split-cut = take-take longest input_room input (omega arith)

  start-cut : start_in (take input_room input) ≡ start_in input
  start-cut = rw split-cut

  direction-cut : direction_in (take input_room input) ≡ direction_in input
  unfolding direction_in
  direction-cut = rw (long_cut, split-cut)

-- ---- the numbers that the programs print

pub judge_cut : (tape : List ℕ) → judge_numbers (take tape_room tape) ≡ judge_numbers tape
judge_cut tape = ap places_of (judged-cut tape)

pub input_cut : (tape input : List ℕ) → walk_numbers tape (take input_room input) ≡ walk_numbers tape input
input_cut tape input = ap₂ (λ d start. moves_of (walked_tape tape d start)) (direction-cut input) (start-cut input)

pub walk-cut : (tape input : List ℕ) → walk_numbers (take tape_room tape) (take input_room input) ≡ walk_numbers tape input
walk-cut tape input = input_cut (take tape_room tape) input ∙ ap moves_of (walked-cut tape (direction_in input) (start_in input))
