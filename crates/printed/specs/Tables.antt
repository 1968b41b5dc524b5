-- The tables of a tape that is read: the judge's answer to them, the walk on them, and that they are small. Assumes nothing.
use Rattle.std.specs.Prelude.{◌≡◌, List, ℕ, ◌+◌, ◌*◌, ◌≤◌, length, get_or, Ok}
use Rattle.std.proofs.Math.Decide.{dec_lt}
use Rattle.std.proofs.Common.{mul-div_cancel, arith, lit<}
use Rattle.std.proofs.Math.ListN.{get_or-eq_default}
use Rattle.whole.specs.Joined.{length-listed, get_d_listed}
use Rattle.points.specs.Points.{vertices}
use Rattle.tables.specs.Tables.{most_corners}
use Rattle.answers.specs.declared.Answer.{Answer}
use Rattle.judge.specs.Judge.{judged}
use Rattle.tape.specs.Reading.{read_tape, points_at, corners_at, begins_at, length-points_at}
use Rattle.tape.specs.Whole.{Whole, read_whole, corners_rise}
use Rattle.reading.specs.Answer.{counted}
use Rattle.direction.specs.declared.Direction.{Direction}
use Rattle.walk.specs.Walk.{walked}
use Rattle.walk.specs.declared.Walked.{Walked}
use Rattle.walk_tape.specs.Tape.{trail}
use Rattle.printed.specs.Small.{SmallTables, SmallAnswer, small_judged}

module _ (tape : List ℕ) (v f : ℕ) where
  abbrev pub judged_at : Answer
  judged_at = judged (points_at tape 0 v) (corners_at tape (7 * v) f) (begins_at tape (7 * v) (f + 1))

  abbrev pub walked_at : Direction → ℕ → Walked
  walked_at d start = walked (points_at tape 0 v) (corners_at tape (7 * v) f) (begins_at tape (7 * v) (f + 1)) d start trail

  pub count_points : vertices (points_at tape 0 v) ≡ v
  count_points = rw (length-points_at, mul-div_cancel v {n = 3} (lit< tt))

  module _ {c : ℕ} (w : Whole tape v f c) where
    few_corners : (k : ℕ) → k ≤ f → length (corners_at tape (7 * v) k) ≤ most_corners
    few_corners k l = elim (dec_lt k f) [
      | yes m ↦ omega (arith, corners_rise tape (7 * v) k f m, w.records.facets.short)
      | no m ↦ let e : k ≡ f = omega arith in rw e w.records.facets.short
    ]

    small_begin : (k : ℕ) → get_or (begins_at tape (7 * v) (f + 1)) k 0 ≤ most_corners
    small_begin k = elim (dec_lt k (f + 1)) [
      | yes l ↦ rw (get_d_listed (λ k. length (corners_at tape (7 * v) k)) (f + 1) k 0 l) (few_corners k (omega arith))
      | no l ↦ rw (get_or-eq_default (begins_at tape (7 * v) (f + 1)) 0 {n = k} (rw length-listed (omega arith))) (omega arith)
    ]

    small_tables : SmallTables (points_at tape 0 v) (corners_at tape (7 * v) f) (begins_at tape (7 * v) (f + 1))
    small_tables = record {
      few_points = rw count_points (omega (arith, w.records.few));
      few_corners = w.records.facets.short;
      few_facets = rw length-listed (omega (arith, w.records.facets.few));
      few_sides = λ k. omega (arith, small_begin (k + 1));
    }

pub small_at : (tape : List ℕ) {v f c : ℕ} → read_tape tape ≡ Ok (counted v f c) → SmallAnswer (judged_at tape v f)
small_at tape {v} {f} read = small_judged (small_tables tape v f (read_whole read))
