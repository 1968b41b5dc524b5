-- The four numbers of an answer's line and of a walk's, and that they are what is printed. Assumes nothing.
use Rattle.std.specs.Prelude.{◌≡◌, List, [], ◌∷◌, ◌≤◌, ℤ, length, take, replicate}
use Rattle.std.proofs.Math.Seq.{length-sets}
use Rattle.whole.specs.Begin.{Begin, is_begin}
use Rattle.answers.specs.declared.Answer.{Answer}
use Rattle.walk.specs.declared.Walked.{Walked}
use Rattle.lines.specs.Line.{number_of, line_of, line_in, room, line_bytes}
use Rattle.lines.specs.declared.Line.{Line}

-- "number and three places"
abbrev pub places_of : Answer → List ℤ
places_of a = number_of a.number ∷ number_of a.first ∷ number_of a.second ∷ number_of a.third ∷ []

-- "number, vertex, height, moves"
abbrev pub moves_of : Walked → List ℤ
moves_of w = number_of w.answer.number ∷ number_of w.vertex ∷ w.height ∷ number_of w.moves ∷ []

-- the first `len` bytes are the line
abbrev pub Prints : Line → List ℤ → Type 0
Prints l zs = (take l.len l.bytes ≡ line_of zs) × Begin l.len l.bytes

prints : (zs : List ℤ) → length (line_of zs) ≤ room → Prints (line_in zs) zs
prints zs h = (line_bytes zs h, is_begin _ _ (rw (length-sets (replicate room 0) 0 (line_of zs)) h))

-- a line that has room
pub printed : {l : Line} (zs : List ℤ) → (l ≡ line_in zs) × (length (line_of zs) ≤ room) → (l ≡ line_in zs) × Prints l zs
printed zs (e, h) = (e, rw e (prints zs h))
