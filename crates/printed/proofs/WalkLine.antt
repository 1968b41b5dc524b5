-- The walk program's line is one of those that the sheet's words name, and no other. Assumes nothing.
use Rattle.std.specs.Prelude.{◌≡◌, refl, Bool, true, false, List, ℕ, ◌+◌, ◌*◌, ◌≤◌, ◌<◌, ℤ, Ok, Err}
use Rattle.std.proofs.Math.Path.{sym, ap}
use Rattle.std.proofs.Common.{◌∙◌, subst}
use Rattle.std.proofs.Math.Decide.{ℕ_discrete, dec_lt}
use native.Mathlib.Omega.{arith}
use Rattle.tables.specs.Tables.{most_vertices}
use Rattle.reading.specs.Answer.{Reading, counted}
use Rattle.tape.specs.Reading.{read_tape, points_at, corners_at, begins_at}
use Rattle.accepts.specs.Meaning.{is_measured}
use Rattle.direction.specs.Direction.{direction, is_wrong, permitted, wrong_exactly}
use Rattle.direction.specs.declared.Direction.{Direction}
use Rattle.walk.specs.Meaning.{Granted, WalkEnd, walk-end_is}
use Rattle.walk.specs.Meaning as Walk
use Rattle.walk.specs.declared.Walked.{Walked}
use Rattle.farthest.proofs.Demand3.{demand_3}
use Rattle.lines.specs.Line.{number_of_lem}
use Rattle.input.specs.Input.{start_in, direction_in}
use Rattle.walk_tape.specs.Tape.{trail, walked_tape}
use Rattle.answer_lines.specs.Lines.{moves_of}
use Rattle.programs.specs.Lines.{walk_numbers}
use Rattle.printed.specs.Tables.{judged_at, walked_at, count_points, small_at}
use Rattle.printed.specs.Meaning.{NamesStart, says_start, start_says, NamesDirection}
use Rattle.printed.specs.JudgeLine.{early}
use Rattle.printed.proofs.Meaning.{named_direction, direction-named}
use Rattle.printed.specs.WalkLine.{moved, few_points, WalkLine, UNREAD, JUDGED, START, DIRECTION, WALKED}

module _ (tape input : List ℕ) where
  -- ---- the walk that is made on a tape that is read

  few : {v f c : ℕ} → read_tape tape ≡ Ok (counted v f c) → v ≤ most_vertices
  few e = few_points tape e

  module _ {v f c : ℕ} (read : read_tape tape ≡ Ok (counted v f c)) where
    is_walked : (d : Direction) (start : ℕ) → walked_at tape v f d start ≡ walked_tape tape d start
    unfolding walked_tape
    is_walked d start = rw read

    abbrev End : Walked → List ℕ → Type 0
    End = WalkEnd (points_at tape 0 v) (corners_at tape (7 * v) f) (begins_at tape (7 * v) (f + 1)) (direction_in input) (start_in input) trail

    by_end : {r : Walked} {t : List ℕ} → End r t → moves_of r ≡ walk_numbers tape input
    by_end x = ap moves_of ((walk-end_is _ _ _ _ _ _ x).0 ∙ is_walked (direction_in input) (start_in input))

    start-named : start_in input < v → NamesStart input v (start_in input)
    start-named l = record { says = start_says (few read) _ l; below = l }

    module _ (accepted : (judged_at tape v f).number ≡ 0) {start : ℕ} {x y z : ℤ} (n : NamesStart input v start) (m : NamesDirection input x y z) where
      -- the trail has room, so 15 is never given
      granted : Granted (points_at tape 0 v) (corners_at tape (7 * v) f) (begins_at tape (7 * v) (f + 1)) (direction x y z) start trail
      granted = record {
        accepted = accepted;
        permitted = m.permitted;
        corner = rw (count_points tape v f) n.below;
        room = (is_measured _ _ _ accepted).sound.named.few;
      }

      is_moved : moves_of (walked_at tape v f (direction x y z) start) ≡ moved (walked_at tape v f (direction x y z) start)
      is_moved =
          let d = demand_3 _ _ _ _ _ _ granted in
          let w = walked_at tape v f (direction x y z) start in
          let e = count_points tape v f in
          rw (
            d.answered,
            number_of_lem w.vertex (omega (arith, d.vertex, few read)),
            number_of_lem w.moves (omega (arith, d.few, few read)),
          )

      as_named : walked_at tape v f (direction x y z) start ≡ walked_tape tape (direction_in input) (start_in input)
      as_named = rw (named_direction m, says_start (few read) n.says n.below) (is_walked (direction x y z) start)

  -- each of them is printed ..
  pub walk-line_is : {zs : List ℤ} → WalkLine tape input zs → zs ≡ walk_numbers tape input
  unfolding walked_tape
  walk-line_is (UNREAD {number} e) = rw (e, number_of_lem number (omega (arith, (early tape e).most)))
  walk-line_is (JUDGED {v} {f} e n) =
      rw (← number_of_lem (judged_at tape v f).number (omega (arith, (small_at tape e).number))) (by_end e (Walk.JUDGED n))
  walk-line_is (START {v} {f} e a none) =
      let l : v ≤ start_in input = elim (dec_lt (start_in input) v) [ yes l ↦ absurd (none _ (start-named e l)) | no l ↦ omega arith ] in
      by_end e (Walk.START a (rw (count_points tape v f) l))
  walk-line_is (DIRECTION {v} {f} e a n none) =
      let l : start_in input < v = rw (says_start (few e) n.says n.below) n.below in
      by_end e (Walk.DIRECTION a (rw (count_points tape v f) l) (λ p. none _ _ _ (direction-named input p)))
  walk-line_is (WALKED e a n m) = sym (is_moved e a n m) ∙ ap moves_of (as_named e a n m)

  -- .. and one of them is
  pub walk-line : WalkLine tape input (walk_numbers tape input)
  walk-line = go (read_tape tape) refl
    where
      given : {zs : List ℤ} → WalkLine tape input zs → WalkLine tape input (walk_numbers tape input)
      given x = subst (WalkLine tape input) (walk-line_is x) x

      from-direction : (t : Bool) {v f c : ℕ} → is_wrong (direction_in input) ≡ t → read_tape tape ≡ Ok (counted v f c) → (judged_at tape v f).number ≡ 0
          → NamesStart input v (start_in input) → WalkLine tape input (walk_numbers tape input)
      from-direction true w e a n = given (DIRECTION e a n (λ x y z m. (wrong_exactly (direction_in input)).0 w (rw (named_direction m) m.permitted)))
      from-direction false w e a n = given (WALKED e a n (direction-named input (permitted (direction_in input) w)))

      go : (r : Reading) → read_tape tape ≡ r → WalkLine tape input (walk_numbers tape input)
      go (Err refused) e = given (UNREAD e)
      go (Ok read) e = elim (ℕ_discrete (judged_at tape read.vertices read.facets).number 0) [
        | no n ↦ given (JUDGED e n)
        | yes a ↦ elim (dec_lt (start_in input) read.vertices) [
          | no l ↦ given (START e a (λ start n. absurd (omega (arith, says_start (few e) n.says n.below, n.below))))
          | yes l ↦ from-direction (is_wrong (direction_in input)) refl e a (start-named e l)
        ]
      ]
