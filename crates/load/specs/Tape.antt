-- What a program makes of a tape, by what the tape is read as. Assumes nothing.
use Rattle.std.specs.Prelude.{List, ℕ, ◌+◌, ◌*◌, ℤ, Ok, Err}
use Rattle.tape.specs.Reading.{points_at, corners_at, begins_at}
use Rattle.reading.specs.Answer.{Reading}

-- of the tables of a tape that is read, or of the reader's number and offset
abbrev pub of_tape : {A : Type 0} → (List ℤ → List ℕ → List ℕ → A) → (ℕ → ℕ → A) → List ℕ → Reading → A
of_tape solid refusal tape (Ok read) =
    solid (points_at tape 0 read.vertices) (corners_at tape (7 * read.vertices) read.facets) (begins_at tape (7 * read.vertices) (read.facets + 1))
of_tape solid refusal tape (Err refused) = refusal refused.number refused.offset
