-- What the filling pass needs, and what lent room gives. Assumes nothing.
use Rattle.std.specs.Prelude.{◌≡◌, Bool, true, false, cond, List, ℕ, ◌+◌, ◌*◌, ◌≤◌, ℤ, length, Ok, Err}
use Rattle.std.proofs.Common.{arith}
use Rattle.reading.specs.Room.{no_room, Roomy}
use Rattle.reading.specs.declared.Counts.{Counts}
use Rattle.reading.specs.Answer.{refused_at}
use Rattle.tape.specs.Reading.{read_tape}
use Rattle.tape.specs.Whole.{Whole, place_0, place_rises}
use Rattle.facets_in.specs.Filling.{Fillable}
use Rattle.reader.specs.Answer.{reading}

-- what the filling pass needs
module _ {tape : List ℕ} {v f c : ℕ} (w : Whole tape v f c) where
  pub points-inside : 7 * v ≤ length tape
  points-inside = omega (arith, place_rises tape (7 * v) 0 f (omega arith), place_0 tape (7 * v), w.records.facets.inside)

  module _ {points : List ℤ} {corners begins : List ℕ} (r : Roomy points corners begins) where
    pub for_points : (0 + 7 * v ≤ length tape) × (v * 3 ≤ length points)
    for_points = (omega (arith, points-inside), omega (arith, w.records.few, r.point_room))

    pub for_facets : Fillable tape (7 * v) f corners begins
    for_facets = record {
      facets = w.records.facets;
      run_room = r.corner_room;
      begin_room = omega (arith, w.records.facets.few, r.begin_room);
    }

module _ (tape : List ℕ) (points : List ℤ) (corners begins : List ℕ) where
  pub no_room_lem : no_room (length points) (length corners) (length begins) ≡ true → reading tape points corners begins ≡ Err (refused_at 16 0)
  no_room_lem e = rw e

  pub with_room : no_room (length points) (length corners) (length begins) ≡ false → reading tape points corners begins ≡ read_tape tape
  with_room e = rw e

  -- an acceptance is the tape's
  pub read-accepted : {read : Counts} → reading tape points corners begins ≡ Ok read → read_tape tape ≡ Ok read
  read-accepted {read} e = go (no_room (length points) (length corners) (length begins)) e
    where
      go : (t : Bool) → cond t (Err (refused_at 16 0)) (read_tape tape) ≡ Ok read → read_tape tape ≡ Ok read
      go true q = let z : ◌≡◌ {A = ℕ} 0 1 = cc in absurd (omega arith)
      go false q = q
