-- The room that must be lent to a reader, and what it gives. Assumes nothing.
use Rattle.std.specs.Prelude.{◌≡◌, Bool, false, cond, ◌||◌, List, ℕ, ◌≤◌, ltb, ℤ, length, Err}
use Rattle.std.proofs.Common.{ltb-false}
use Rattle.whole.specs.Count.{neither}
use Rattle.reading.specs.Answer.{Reading, refused_at}

-- "fewer than 3,072 point, 6,144 corner or 2,049 begin entries lent"
abbrev pub point_room : ℕ
point_room = 3072

abbrev pub corner_room : ℕ
corner_room = 6144

abbrev pub begin_room : ℕ
begin_room = 2049

abbrev pub no_room : ℕ → ℕ → ℕ → Bool
no_room points corners begins = ltb points point_room || (ltb corners corner_room || ltb begins begin_room)

-- "16 ROOM (offset 0), before anything else"
abbrev pub room_first : List ℤ → List ℕ → List ℕ → Reading → Reading
room_first points corners begins read = cond (no_room (length points) (length corners) (length begins)) (Err (refused_at 16 0)) read

-- tables with room
pub record Roomy (points : List ℤ) (corners begins : List ℕ) : Type 0 where
  pub point_room : point_room ≤ length points
  pub corner_room : corner_room ≤ length corners
  pub begin_room : begin_room ≤ length begins

pub roomy : {points : List ℤ} {corners begins : List ℕ} → no_room (length points) (length corners) (length begins) ≡ false → Roomy points corners begins
roomy {points} {corners} {begins} e =
    let a = neither (ltb (length points) point_room) (ltb (length corners) corner_room || ltb (length begins) begin_room) e in
    let b = neither (ltb (length corners) corner_room) (ltb (length begins) begin_room) a.1 in
    record { point_room = ltb-false _ _ a.0; corner_room = ltb-false _ _ b.0; begin_room = ltb-false _ _ b.1 }
