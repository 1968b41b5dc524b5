-- "The table of sixteen": cases A to P in the sheet's order, each with its question and the sheet's answer, and the one statement over them all.
use Rattle.std.specs.Prelude.{◌≡◌, refl, ℕ, ℤ, pos, neg_ℤ, take, replicate, get_or, Ok, Err}
use mathlib.Core.List.{List, [], ◌∷◌, ◌++◌, map}
use Rattle.whole.specs.First.{first_below}
use Rattle.whole.specs.Count.{count_below, last_below}
use Rattle.whole.specs.Orbit.{iterate}
use Rattle.whole.specs.Rounds.{tab, rounds}
use Rattle.points.specs.Range.{is_out}
use Rattle.space.specs.Plane.{det as det²}
use Rattle.space.specs.Vectors.{◌-ᵛ◌, ◌·◌, det}
use Rattle.space.specs.Rows.{vec_of}
use Rattle.points.specs.Points.{coord_of, point}
use Rattle.sides.specs.Sides.{normal_of}
use Rattle.tables.specs.Tables.{home_of, next_of, facet_of}
use Rattle.tables.specs.Size.{is_size}
use Rattle.answers.specs.Answer.{accepted, fault, passed, of_length}
use Rattle.answers.specs.Order.{first_of}
use Rattle.answers.specs.declared.Answer.{Answer}
use Rattle.edges.specs.Edge.{across_of}
use Rattle.ring.specs.Step.{round_of}
use Rattle.apart.specs.Apart.{flooded}
use Rattle.flat.specs.Rules.{is_bent}
use Rattle.turn.specs.Rules.{is_turn}
use Rattle.reflex.specs.Rules.{is_reflex}
use Rattle.scan.specs.Rules.{is_outside}
use Rattle.judge.specs.Judge.{judged}
use Rattle.direction.specs.Direction.{direction, is_steep}
use Rattle.climb.specs.Move.{step}
use Rattle.climb.specs.Course.{after, stood}
use Rattle.walk.specs.Walk.{walked, trail_after}
use Rattle.direction.specs.declared.Direction.{Direction}
use Rattle.walk.specs.declared.Walked.{Walked}
use Rattle.once_round.specs.Words.{coord_of as coordOf², before, after as after², few, is_greater}
use Rattle.outline.specs.Outline.{verdict, judged_turns, judged_outline}
use Rattle.outline.specs.declared.Verdict.{Verdict}
use Rattle.tape.specs.Little.{bytes_of, number_at, bits, signed}
use Rattle.whole.specs.Joined.{joined}
use Rattle.whole.specs.Over.{over}
use Rattle.tape.specs.Records.{packed}
use Rattle.tape.specs.Reading.{look_at, run, read_tape, place}
use Rattle.reader.specs.Answer.{reading, points_after, corners_after, begins_after}
use Rattle.reading.specs.Answer.{Reading, counted, refused_at}
use Rattle.writer.specs.Answer.{written, buffer_after}

-- ---- what can be asked, and what is answered

-- the three tables of a solid
pub record Drawn : Type 0 where
  pub points : List ℤ
  pub corners : List ℕ
  pub begins : List ℕ

abbrev pub tables : List ℤ → List ℕ → List ℕ → Drawn
tables points corners begins = record { points = points; corners = corners; begins = begins }

-- a plane is asked by its facet and a vertex, the walk with a direction, a start and a lent trail, the writer with a lent buffer, the reader with a
-- tape and lent tables
pub data Question : Type 0 where
  judge : Drawn → Question
  plane : Drawn → ℕ → ℕ → Question
  walk : Drawn → Direction → ℕ → List ℕ → Question
  outline : List ℤ → Question
  write : Drawn → List ℕ → Question
  read : List ℕ → Drawn → Question

-- the answer, and what the lent trail, buffer or tables then hold; of a plane its normal, its value, and what the vertex gives
pub data Reply : Type 0 where
  of_judge : Answer → Reply
  of_plane : List ℤ → ℤ → ℤ → Reply
  of_walk : Walked → List ℕ → Reply
  of_outline : Verdict → Reply
  of_writer : Answer → List ℕ → Reply
  of_reader : Reading → Drawn → Reply

-- "A facet's plane comes from its first three corners a, b, c": the normal of facet f, its product with a, and with vertex v
abbrev measured : Drawn → ℕ → ℕ → Reply
measured s f v =
    let part = facet_of s.corners s.begins f in
    let n = normal_of s.points (get_or part 0 0) (get_or part 1 0) (get_or part 2 0) in
    of_plane n (vec_of n · point s.points (get_or part 0 0)) (vec_of n · point s.points v)

-- what the functions promise to answer
abbrev pub answer : Question → Reply
answer (judge s) = of_judge (judged s.points s.corners s.begins)
answer (plane s f v) = measured s f v
answer (walk s d start trail) =
    of_walk (walked s.points s.corners s.begins d start trail)
    (trail_after s.points s.corners s.begins d start trail)
answer (outline points) = of_outline (judged_outline points)
answer (write s buffer) = of_writer (written s.points s.corners s.begins buffer) (buffer_after s.points s.corners s.begins buffer)
answer (read bytes s) =
    of_reader (reading bytes s.points s.corners s.begins)
    (tables (points_after bytes s.points s.corners s.begins)
    (corners_after bytes s.points s.corners s.begins)
    (begins_after bytes s.points s.corners s.begins))

-- the walk's "vertex, height, moves"
abbrev arrived : ℕ → ℤ → ℕ → Walked
arrived vertex height moves = record { answer = passed; vertex = vertex; height = height; moves = moves }

-- ---- the solids, outlines and tapes

abbrev minus : ℕ → ℤ
minus n = neg_ℤ (pos n)

abbrev xyz : ℤ → ℤ → ℤ → List ℤ
xyz x y z = x ∷ y ∷ z ∷ []

abbrev xy : ℤ → ℤ → List ℤ
xy x y = x ∷ y ∷ []

abbrev facet : ℕ → ℕ → ℕ → List ℕ
facet a b c = a ∷ b ∷ c ∷ []

-- "vertices (0,0,0), (1,0,0), (0,1,0), (0,0,1)": these, with vertex 1 at (x,0,0) and vertex 3 at (0,0,z)
abbrev vertices : ℤ → ℤ → List ℤ
vertices x z = xyz (pos 0) (pos 0) (pos 0) ++ xyz x (pos 0) (pos 0) ++ xyz (pos 0) (pos 1) (pos 0) ++ xyz (pos 0) (pos 0) z

-- "facets (0,2,1), (0,1,3), (0,3,2), (1,2,3)": the first three
abbrev three : List ℕ
three = facet 0 2 1 ++ facet 0 1 3 ++ facet 0 3 2

abbrev T : Drawn
T = tables (vertices (pos 1) (pos 1)) (three ++ facet 1 2 3) (0 ∷ 3 ∷ 6 ∷ 9 ∷ 12 ∷ [])

abbrev without_last : Drawn
without_last = tables T.points three (0 ∷ 3 ∷ 6 ∷ 9 ∷ [])

abbrev with_points : List ℤ → Drawn
with_points points = tables points T.corners T.begins

abbrev with_last : List ℕ → Drawn
with_last last = tables T.points (three ++ last) T.begins

-- case I's
abbrev star : Drawn
star = tables
    (xyz (pos 4) (pos 0) (pos 0) ++ xyz (minus 3) (pos 2) (pos 0) ++ xyz (pos 1) (minus 4) (pos 0)
    ++ xyz (pos 1) (pos 4) (pos 0) ++ xyz (minus 3) (minus 2) (pos 0)
    ++ xyz (pos 0) (pos 0) (pos 3) ++ xyz (pos 0) (pos 0) (minus 3))
    (facet 0 1 5 ++ facet 1 2 5 ++ facet 2 3 5 ++ facet 3 4 5 ++ facet 4 0 5 ++ facet 1 0 6 ++ facet 2 1 6 ++ facet 3 2 6 ++ facet 4 3 6 ++ facet 0 4 6)
    (0 ∷ 3 ∷ 6 ∷ 9 ∷ 12 ∷ 15 ∷ 18 ∷ 21 ∷ 24 ∷ 27 ∷ 30 ∷ [])

-- case P's tape: 61 bytes, its last record 00 04 00 04 00
abbrev tape_t : List ℕ
tape_t =
    (1 ∷ 0 ∷ 0 ∷ 0 ∷ 0 ∷ 0 ∷ 0 ∷ []) ++ (1 ∷ 1 ∷ 0 ∷ 0 ∷ 0 ∷ 0 ∷ 0 ∷ [])
    ++ (1 ∷ 0 ∷ 0 ∷ 1 ∷ 0 ∷ 0 ∷ 0 ∷ []) ++ (1 ∷ 0 ∷ 0 ∷ 0 ∷ 0 ∷ 1 ∷ 0 ∷ [])
    ++ (3 ∷ 0 ∷ 0 ∷ 2 ∷ 0 ∷ 1 ∷ 0 ∷ []) ++ (3 ∷ 0 ∷ 0 ∷ 1 ∷ 0 ∷ 3 ∷ 0 ∷ [])
    ++ (3 ∷ 0 ∷ 0 ∷ 3 ∷ 0 ∷ 2 ∷ 0 ∷ []) ++ (3 ∷ 1 ∷ 0 ∷ 2 ∷ 0 ∷ 3 ∷ 0 ∷ [])
    ++ (0 ∷ 4 ∷ 0 ∷ 4 ∷ 0 ∷ [])

-- lent tables full of nines, just large enough for any tape; and the same once T is read into them
abbrev lent : Drawn
lent = tables (replicate 3072 (pos 9)) (replicate 6144 9) (replicate 2049 9)

abbrev lent-T : Drawn
lent-T = tables (T.points ++ replicate 3060 (pos 9)) (T.corners ++ replicate 6132 9) (T.begins ++ replicate 2044 9)

-- ---- the table

pub data Letter : Type 0 where
  A B C D E F G H I J K L M N O P : Letter

pub record Case : Type 0 where
  pub letter : Letter
  pub question : Question
  pub reply : Reply

abbrev row : Letter → Question → Reply → Case
row letter question reply = record { letter = letter; question = question; reply = reply }

abbrev pub table : List Case
table =
    row A (judge T) (of_judge (accepted 4 6 4))
    ∷ row B (judge without_last) (of_judge (fault 1 0 0))
    ∷ row C (judge (with_points (vertices (pos 8191) (pos 1)))) (of_judge (accepted 4 6 4))
    ∷ row C (judge (with_points (vertices (pos 8192) (pos 1)))) (of_judge (fault 2 1 0))
    ∷ row D (judge (with_last (facet 1 2 4))) (of_judge (fault 3 3 2))
    ∷ row E (judge (with_last (facet 1 2 2))) (of_judge (fault 4 3 2))
    ∷ row F (judge (with_points (T.points ++ xyz (pos 1) (pos 1) (pos 1)))) (of_judge (fault 5 4 0))
    ∷ row G (judge (with_last (facet 1 3 2))) (of_judge (fault 6 0 1))
    ∷ row H (judge (with_points (vertices (pos 1) (pos 0)))) (of_judge (fault 9 1 2))
    ∷ row H (judge (with_points (vertices (pos 1) (minus 1)))) (of_judge (fault 11 0 0))
    ∷ row I (judge star) (of_judge (fault 12 0 3))
    ∷ row I (plane star 0 3) (of_plane (xyz (pos 6) (pos 21) (pos 8)) (pos 24) (pos 90))
    ∷ row J (walk T (direction (pos 1) (pos 1) (pos 1)) 0 (replicate 4 9)) (of_walk (arrived 1 (pos 1) 1) (0 ∷ 1 ∷ 9 ∷ 9 ∷ []))
    ∷ row K (walk T (direction (pos 0) (pos 0) (pos 0)) 3 (replicate 4 9)) (of_walk (arrived 3 (pos 0) 0) (3 ∷ 9 ∷ 9 ∷ 9 ∷ []))
    ∷ row L (walk T (direction (pos 0) (pos 0) (minus 1)) 3 (replicate 4 9)) (of_walk (arrived 0 (pos 0) 1) (3 ∷ 0 ∷ 9 ∷ 9 ∷ []))
    ∷ row M (outline (xy (pos 0) (pos 0) ++ xy (pos 2) (pos 0) ++ xy (pos 2) (pos 2) ++ xy (pos 0) (pos 2))) (of_outline (verdict 0 4))
    ∷ row N (outline (xy (pos 0) (pos 0) ++ xy (pos 1) (pos 0) ++ xy (pos 2) (pos 0) ++ xy (pos 2) (pos 2) ++ xy (pos 0) (pos 2))) (of_outline (verdict 25 1))
    ∷ row O (outline (xy (pos 4) (pos 0) ++ xy (minus 3) (pos 2) ++ xy (pos 1) (minus 4) ++ xy (pos 1) (pos 4) ++ xy (minus 3) (minus 2)))
    (of_outline (verdict 26 3))
    ∷ row P (write T (replicate 64 9)) (of_writer (of_length 61) (tape_t ++ (9 ∷ 9 ∷ 9 ∷ [])))
    ∷ row P (read tape_t lent) (of_reader (Ok (counted 4 4 12)) lent-T)
    ∷ row P (read (take 60 tape_t) lent) (of_reader (Err (refused_at 20 56)) lent)
    ∷ []

-- the sheet's letters in its order: C, H and I have two rows, P three
pub letters : map (λ r. r.letter) table
    ≡ A ∷ B ∷ C ∷ C ∷ D ∷ E ∷ F ∷ G ∷ H ∷ H ∷ I ∷ I ∷ J ∷ K ∷ L ∷ M ∷ N ∷ O ∷ P ∷ P ∷ P ∷ []
letters = refl

-- "Cases A to P stand together as a single table with a single proved statement"
pub all_sixteen : map (λ r. answer r.question) table ≡ map (λ r. r.reply) table
unfolding judged first_of is_size is_out coord_of first_below count_below last_below
    iterate tab rounds home_of next_of across_of round_of flooded is_bent is_turn
    is_reflex is_outside ◌-ᵛ◌ ◌·◌ det walked trail_after is_steep step after stood
    judged_outline judged_turns few coordOf² before after² is_greater det² joined packed
    bytes_of bits over read_tape run look_at number_at signed place
all_sixteen = refl
