-- The walk program's line, in the sheet's words: which refusal, or which walk, is printed. Assumes nothing.
use Rattle.std.specs.Prelude.{◌≡◌, ◌≢◌, List, [], ◌∷◌, ℕ, ◌≤◌, ℤ, pos, Ok, Err}
use Rattle.tables.specs.Tables.{most_vertices}
use Rattle.reading.specs.Answer.{counted, refused_at}
use Rattle.tape.specs.Reading.{read_tape}
use Rattle.tape.specs.Whole.{read_whole}
use Rattle.direction.specs.Direction.{direction}
use Rattle.walk.specs.declared.Walked.{Walked}
use Rattle.printed.specs.Tables.{judged_at, walked_at}
use Rattle.printed.specs.Meaning.{NamesStart, NamesDirection}

-- "On a refusal, the reader's included, the other three print 0."
abbrev pub refusal : ℕ → List ℤ
refusal number = pos number ∷ pos 0 ∷ pos 0 ∷ pos 0 ∷ []

-- "prints a walk: number, vertex, height, moves"
abbrev pub moved : Walked → List ℤ
moved w = pos 0 ∷ pos w.vertex ∷ w.height ∷ pos w.moves ∷ []

-- a tape that is read has no more points than a solid has vertices at most
pub few_points : (tape : List ℕ) {v f c : ℕ} → read_tape tape ≡ Ok (counted v f c) → v ≤ most_vertices
few_points tape read = (read_whole read).records.few

module _ (tape input : List ℕ) where
  pub data WalkLine : List ℤ → Type 0 where
    -- "the reader's included"
    UNREAD : {number offset : ℕ} → read_tape tape ≡ Err (refused_at number offset) → WalkLine (refusal number)
    -- "After the judge's refusals"
    JUDGED : {v f c : ℕ} → read_tape tape ≡ Ok (counted v f c) → (judged_at tape v f).number ≢ 0 → WalkLine (refusal (judged_at tape v f).number)
    -- "a start that is missing, malformed or below 0 is 13", and so is one of V or more
    START : {v f c : ℕ} → read_tape tape ≡ Ok (counted v f c) → (judged_at tape v f).number ≡ 0
        → ((start : ℕ) → ¬ NamesStart input v start) → WalkLine (refusal 13)
    -- "a part that is missing or malformed is 14; so is a fifth word or more than 256 bytes", and so is a part outside -32,767 to 32,767
    DIRECTION : {v f c start : ℕ} → read_tape tape ≡ Ok (counted v f c) → (judged_at tape v f).number ≡ 0 → NamesStart input v start
        → ((x y z : ℤ) → ¬ NamesDirection input x y z) → WalkLine (refusal 14)
    -- "the start and the three parts of the direction as decimal numbers"
    WALKED : {v f c start : ℕ} {x y z : ℤ} → read_tape tape ≡ Ok (counted v f c) → (judged_at tape v f).number ≡ 0 → NamesStart input v start
        → NamesDirection input x y z → WalkLine (moved (walked_at tape v f (direction x y z) start))
