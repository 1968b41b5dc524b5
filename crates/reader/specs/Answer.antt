-- What the reader answers, and what it leaves in each lent table.
use Rattle.std.specs.Prelude.{List, ℕ, ◌+◌, ◌*◌, ℤ}
use Rattle.reading.specs.Room.{room_first}
use Rattle.reading.specs.Filled.{filled_by}
use Rattle.reading.specs.Answer.{Reading}
use Rattle.tape.specs.Reading.{read_tape, points_at, corners_at, begins_at}

-- each table, by what the tape is read as
abbrev pub points_of : List ℕ → List ℤ → Reading → List ℤ
points_of tape old = filled_by (λ v f c. points_at tape 0 v) old

abbrev pub corners_of : List ℕ → List ℕ → Reading → List ℕ
corners_of tape old = filled_by (λ v f c. corners_at tape (7 * v) f) old

abbrev pub begins_of : List ℕ → List ℕ → Reading → List ℕ
begins_of tape old = filled_by (λ v f c. begins_at tape (7 * v) (f + 1)) old

-- ---- of a tape and the lent tables

abbrev pub reading : List ℕ → List ℤ → List ℕ → List ℕ → Reading
reading tape points corners begins = room_first points corners begins (read_tape tape)

abbrev pub points_after : List ℕ → List ℤ → List ℕ → List ℕ → List ℤ
points_after tape points corners begins = points_of tape points (reading tape points corners begins)

abbrev pub corners_after : List ℕ → List ℤ → List ℕ → List ℕ → List ℕ
corners_after tape points corners begins = corners_of tape corners (reading tape points corners begins)

abbrev pub begins_after : List ℕ → List ℤ → List ℕ → List ℕ → List ℕ
begins_after tape points corners begins = begins_of tape begins (reading tape points corners begins)
