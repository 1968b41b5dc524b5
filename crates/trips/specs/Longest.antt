-- The longest tape is one that is read: as many points, facets and corners as there may be. Assumes nothing.
use Rattle.std.specs.Prelude.{◌≡◌, List, ℕ, ◌+◌, ◌*◌, ◌≤◌, ◌<◌, ℤ, pos, length, get_or, take, drop, replicate, Ok}
use Rattle.std.proofs.Common.{ap, ◌∙◌, mul-div_cancel, arith, lit<, length-take, get_or-take, get_or-drop}
use Rattle.std.proofs.Math.Decide.{dec_lt}
use Rattle.std.proofs.Math.ListN.{length-replicate, get_or-eq_default}
use Rattle.std.proofs.lemmas.List.{get_or-replicate}
use Rattle.std.proofs.Math.Facts.{sfits_lit}
use Rattle.whole.specs.Joined.{listed, length-listed, get_d_listed}
use Rattle.points.specs.Points.{vertices, coord_of}
use Rattle.tables.specs.Tables.{most_vertices, most_facets, facets, begin}
use Rattle.tape.specs.Tape.{tape}
use Rattle.tape.specs.Reading.{read_tape}
use Rattle.tape.specs.Whole.{whole_read}
use Rattle.reading.specs.declared.Counts.{Counts}
use Rattle.reading.specs.Answer.{counted}
use Rattle.longest.specs.Longest.{longest_tape, length-read}
use Rattle.trips.specs.Taped.{Holds}
use Rattle.trips.specs.TapeIsRead.{holds_whole}

-- the entries of a list of one value, and of a part of it
same : {A : Type 0} (n : ℕ) (a : A) (i : ℕ) → get_or (replicate n a) i a ≡ a
same n a i = elim (dec_lt i n) [
  | yes l ↦ get_or-replicate n i a a l
  | no l ↦ get_or-eq_default (replicate n a) a {n = i} (rw length-replicate (omega arith))
]

same-part : (n a m k i : ℕ) → get_or (take m (drop k (replicate n a))) i a ≡ a
same-part n a m k i = elim (dec_lt i m) [
  | yes l ↦ get_or-take m (drop k (replicate n a)) i a l ∙ get_or-drop k (replicate n a) i a ∙ same n a (k + i)
  | no l ↦ get_or-eq_default (take m (drop k (replicate n a))) a {n = i} (rw length-take (omega arith))
]

-- v points at 0, 0, 0, and f triangles 0, 0, 0: the reader doesn't judge
module _ (v f : ℕ) where
  abbrev points : List ℤ
  points = replicate (v * 3) (pos 0)

  abbrev corners : List ℕ
  corners = replicate (f * 3) 0

  abbrev begins : List ℕ
  begins = listed (λ k. k * 3) (f + 1)

  count_points : vertices points ≡ v
  count_points = rw (length-replicate, mul-div_cancel v {n = 3} (lit< tt))

  count_facets : facets begins ≡ f
  count_facets = rw length-listed (omega arith)

  begin-is : (k : ℕ) → k ≤ f → begin begins k ≡ k * 3
  begin-is k l = get_d_listed (λ k. k * 3) (f + 1) k 0 (omega arith)

  holds : v ≤ most_vertices → f ≤ most_facets → Holds points corners begins
  unfolding coord_of
  holds a b = record {
    threes = rw count_points (length-replicate (v * 3) (pos 0));
    placed = record { few = rw count_points a; fits = λ u k l m. rw (same (v * 3) (pos 0) (u * 3 + k)) (sfits_lit tt) };
    divided = record {
      some = rw length-listed (omega arith);
      most = rw length-listed (omega arith);
      short = rw length-replicate (omega arith);
      start = begin-is 0 (omega arith);
      finish = rw (count_facets, length-replicate) (begin-is f (omega arith));
      rise = λ k l. let m : k < f = rw count_facets at l in rw (begin-is k (omega arith), begin-is (k + 1) (omega arith)) (omega arith);
      narrow = λ k l. let m : k < f = rw count_facets at l in rw (begin-is k (omega arith), begin-is (k + 1) (omega arith)) (omega arith);
    };
    numbers = λ k l. record { small = λ i. rw (same-part (f * 3) 0 _ (begin begins k) i) (lit< tt) };
  }

  read : v ≤ most_vertices → f ≤ most_facets → read_tape (tape points corners begins) ≡ Ok (counted v f (f * 3))
  read a b =
      let e : counted (vertices points) (facets begins) (length corners) ≡ counted v f (f * 3) = rw (count_points, count_facets, length-replicate) in
      whole_read (holds_whole (holds a b)) ∙ ap (λ (r : Counts). Ok r) e

unfoldable pub longest : List ℕ
longest = tape (points most_vertices most_facets) (corners most_vertices most_facets) (begins most_vertices most_facets)

pub longest-read : read_tape longest ≡ Ok (counted 1024 2048 6144)
unfolding longest
longest-read = read most_vertices most_facets (omega arith) (omega arith)

pub length-longest : length longest ≡ longest_tape
length-longest = length-read longest longest-read
