-- How long a tape is that is read. Assumes nothing.
use Rattle.std.specs.Prelude.{◌≡◌, List, ℕ, zero, suc, ◌+◌, ◌*◌, ◌≤◌, length, Ok}
use Rattle.std.proofs.Common.{arith, length-append}
use Rattle.whole.specs.Joined.{joined}
use Rattle.tables.specs.Tables.{most_vertices, most_facets, most_corners}
use Rattle.tape.specs.Reading.{read_tape, place, corners_at}
use Rattle.tape.specs.Whole.{length_from, read_whole}
use Rattle.reading.specs.Answer.{counted}

-- the records of as many points, facets and corners as there may be, and the end
abbrev pub longest_tape : ℕ
longest_tape = 7 * most_vertices + most_facets + 2 * most_corners + 5

-- "up to 21,510 bytes (one above the longest tape; the answer is already sure)"
abbrev pub tape_room : ℕ
tape_room = longest_tape + 1

-- where the records of n facets end
place_is : (s : List ℕ) (at n : ℕ) → place s at n ≡ at + n + 2 * length (corners_at s at n)
unfolding place joined
place_is s at zero = omega arith
place_is s at (suc n) = simp length-append (omega (arith, place_is s at n, length_from s at n))

module _ (s : List ℕ) {v f c : ℕ} (e : read_tape s ≡ Ok (counted v f c)) where
  pub length-read : length s ≡ 7 * v + f + 2 * c + 5
  length-read = let w = read_whole e in omega (arith, w.ends.last, w.corners, place_is s (7 * v) f)

  pub read_short : length s ≤ longest_tape
  read_short = let w = read_whole e in omega (arith, length-read, w.corners, w.records.few, w.records.facets.few, w.records.facets.short)
