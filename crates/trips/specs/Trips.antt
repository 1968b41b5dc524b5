-- Both round trips, said of what the reader and the writer promise. Assumes nothing.
use Rattle.std.specs.Prelude.{◌≡◌, refl, Bool, true, false, not, ◌||◌, List, ℕ, ◌+◌, ◌*◌, ◌/◌, ◌%◌, ◌≤◌, ◌<◌, eqb, ℤ, length, get_or, take, Ok, Err}
use Rattle.std.proofs.Common.{ap, ◌∙◌, arith, lit<}
use Rattle.std.proofs.Math.Nat.{div-add-mod'}
use Rattle.std.proofs.Math.Dec.{ltb}
use Rattle.std.proofs.Math.ListN.{get_or-eq_default}
use Rattle.std.proofs.Math.Decide.{dec_lt}
use borrow.Author.Tests.{le-ltb, eqb-true, ne_eqb, leb-false, not-false}
use Rattle.whole.specs.First.{any_below}
use Rattle.whole.specs.Count.{neither}
use Rattle.points.specs.Points.{vertices}
use Rattle.tables.specs.Tables.{least_vertices, most_vertices, least_facets, most_facets, most_corners, facets, sides, facet_of}
use Rattle.tables.specs.Size.{is_size, wrong_lengths, wrong_ends, wrong_sides}
use Rattle.tables.specs.Search.{applies_never}
use Rattle.limits.specs.Rules.{index}
use Rattle.answers.specs.Answer.{of_length}
use Rattle.tape.specs.Little.{Bytes}
use Rattle.whole.specs.Joined.{length-listed}
use Rattle.whole.specs.Over.{over, take_over}
use Rattle.tape.specs.Records.{divided, length_facet}
use Rattle.tape.specs.Tape.{tape}
use Rattle.tape.specs.Reading.{read_tape, points_at, corners_at, begins_at, length-points_at}
use Rattle.tape.specs.Whole.{read_whole, whole_read, refused-number}
use Rattle.reading.specs.Answer.{Reading, counted, answer_number, first_value, second_value, third_value}
use Rattle.reading.specs.Room.{no_room}
use Rattle.reader.specs.Answer.{reading, points_after, corners_after, begins_after}
use Rattle.reader.specs.Room.{with_room}
use Rattle.writer.specs.Answer.{written, buffer_after}
use Rattle.limits.specs.InOrder.{InOrder, none_limits, laid}
use Rattle.writer.specs.Owed.{placed}
use Rattle.trips.specs.Taped.{Sixteen, Holds, Taped}
use Rattle.trips.specs.ReadIsTape.{whole_taped}
use Rattle.trips.specs.TapeIsRead.{holds_whole, points-are, corners-are, begins-are}

-- ---- the tape of tables is read as those tables, and no other bytes are

module _ {s : List ℕ} where
  -- what a reading means: the bytes are the tape of the tables that their records hold
  pub read-taped : Bytes s → {v f c : ℕ} → read_tape s ≡ Ok (counted v f c) → Taped s (points_at s 0 v) (corners_at s (7 * v) f) (begins_at s (7 * v) (f + 1))
  read-taped b e = whole_taped b (read_whole e)

  pub taped_read : {points : List ℤ} {corners begins : List ℕ} → Taped s points corners begins
      → read_tape s ≡ Ok (counted (vertices points) (facets begins) (length corners))
  taped_read t = rw t.same (whole_read (holds_whole t.holds))

-- ---- what the reader leaves, cut to the need

module _ (tape : List ℕ) (points : List ℤ) (corners begins : List ℕ) where
  abbrev pub filled_points : List ℤ
  filled_points = take (first_value (reading tape points corners begins) * 3) (points_after tape points corners begins)

  abbrev pub filled_corners : List ℕ
  filled_corners = take (third_value (reading tape points corners begins)) (corners_after tape points corners begins)

  abbrev pub filled_begins : List ℕ
  filled_begins = take (second_value (reading tape points corners begins) + 1) (begins_after tape points corners begins)

  -- a number 0 is an acceptance
  record Accepts : Type 0 where
    v : ℕ
    f : ℕ
    c : ℕ
    is : reading tape points corners begins ≡ Ok (counted v f c)
    read : read_tape tape ≡ Ok (counted v f c)

  accepts : answer_number (reading tape points corners begins) ≡ 0 → Accepts
  accepts n = go (no_room (length points) (length corners) (length begins)) refl (read_tape tape) refl
    where
      go : (t : Bool) → no_room (length points) (length corners) (length begins) ≡ t → (o : Reading) → read_tape tape ≡ o → Accepts
      go true e o q = let z : ◌≡◌ {A = ℕ} 16 0 = rw e at n in absurd (omega arith)
      go false e (Ok read) q = record {
        v = read.vertices;
        f = read.facets;
        c = read.corners;
        is = with_room tape points corners begins e ∙ q;
        read = q;
      }
      go false e (Err refused) q = let z : refused.number ≡ 0 = rw (e, q) at n in absurd (omega (arith, refused-number tape q))

  -- every tape that the reader accepts is the tape of the tables that it filled
  pub accepted-taped : Bytes tape → answer_number (reading tape points corners begins) ≡ 0 → Taped tape filled_points filled_corners filled_begins
  accepted-taped b n =
      let a = accepts n in
      let w = read_whole a.read in
      let p = points_at tape 0 a.v in
      let c = corners_at tape (7 * a.v) a.f in
      let g = begins_at tape (7 * a.v) (a.f + 1) in
      rw (
        a.is,
        take_over p points (a.v * 3) (length-points_at tape 0 a.v),
        take_over c corners a.c w.corners,
        take_over g begins (a.f + 1) (length-listed _ (a.f + 1)),
      )
      (read-taped b a.read)

  -- "Each refusal .. alters no byte of what was lent"
  pub record Unchanged : Type 0 where
    pub same_points : points_after tape points corners begins ≡ points
    pub same_corners : corners_after tape points corners begins ≡ corners
    pub same_begins : begins_after tape points corners begins ≡ begins

  pub refused-unchanged : (answer_number (reading tape points corners begins) ≡ 0 → ⊥) → Unchanged
  refused-unchanged n = go (reading tape points corners begins) refl
    where
      go : (o : Reading) → reading tape points corners begins ≡ o → Unchanged
      go (Ok read) e = absurd (n (ap answer_number e))
      go (Err refused) e = record { same_points = rw e; same_corners = rw e; same_begins = rw e }

pub refused-unwritten : (points : List ℤ) (corners begins buffer : List ℕ) → ((written points corners begins buffer).number ≡ 0 → ⊥)
    → buffer_after points corners begins buffer ≡ buffer
refused-unwritten points corners begins buffer n = rw (ne_eqb (written points corners begins buffer).number 0 n)

-- ---- tables in order are tables that a tape holds

module _ {points : List ℤ} {corners begins : List ℕ} (o : InOrder points corners begins) where
  threes : length points ≡ vertices points * 3
  unfolding is_size
  threes =
      let begun = ltb (length begins) (least_facets + 1) || (ltb (most_facets + 1) (length begins) || ltb most_corners (length corners)) in
      let rest = ltb (length points / 3) least_vertices || (ltb most_vertices (length points / 3) || begun) in
      let uneven = wrong_ends corners begins || any_below (wrong_sides begins) (facets begins) in
      let a = neither (wrong_lengths (length points) (length corners) (length begins)) uneven o.sizes in
      let b = neither (not (eqb (length points % 3) 0)) rest a.0 in
      let e = eqb-true (length points % 3) 0 (not-false (eqb (length points % 3) 0) b.0) in
      omega (arith, div-add-mod' (length points) 3)

  numbers : (f : ℕ) → f < facets begins → Sixteen (facet_of corners begins f)
  numbers f l = record {
    small = λ k. elim (dec_lt k (sides begins f)) [
      | yes h ↦
          let n = vertices points in
          let e = applies_never (index n corners begins) o.numbers f k l h in
          omega (arith, leb-false n (get_or (facet_of corners begins f) k 0) e, (placed o).few)
      | no h ↦
          let e = get_or-eq_default (facet_of corners begins f) 0 {n = k} (rw (length_facet (divided (laid o)) f l) (omega arith)) in
          rw e (lit< tt)
    ];
  }

  pub in_order_holds : Holds points corners begins
  in_order_holds = record { threes = threes; placed = placed o; divided = divided (laid o); numbers = numbers }

  -- what the writer answers and leaves, with space
  module _ (buffer : List ℕ) (room : length (tape points corners begins) ≤ length buffer) where
    pub answer-written : written points corners begins buffer ≡ of_length (length (tape points corners begins))
    answer-written = rw (none_limits o, le-ltb (length buffer) (length (tape points corners begins)) room)

    pub buffer-written : buffer_after points corners begins buffer ≡ over (tape points corners begins) buffer
    buffer-written = rw answer-written

-- ---- "a tape read to such tables and written again has the same bytes"

-- the writer answers the length of s, and leaves s over the beginning of the buffer
pub record SameBytes (s : List ℕ) (points : List ℤ) (corners begins buffer : List ℕ) : Type 0 where
  pub answer : written points corners begins buffer ≡ of_length (length s)
  pub left : buffer_after points corners begins buffer ≡ over s buffer
  pub same : take (written points corners begins buffer).first (buffer_after points corners begins buffer) ≡ s

taped_written : {s : List ℕ} {points : List ℤ} {corners begins : List ℕ} → Taped s points corners begins → InOrder points corners begins
    → (buffer : List ℕ) → length s ≤ length buffer → SameBytes s points corners begins buffer
taped_written {s} {points} {corners} {begins} t o buffer h =
    let bytes = tape points corners begins in
    let room : length bytes ≤ length buffer = rw t.same at h in
    rw t.same
    (record {
      answer = answer-written o buffer room;
      left = buffer-written o buffer room;
      same = rw (buffer-written o buffer room, answer-written o buffer room) (take_over bytes buffer (length bytes) refl);
    })

pub read-then_written : (s : List ℕ) (points : List ℤ) (corners begins buffer : List ℕ) → Bytes s → answer_number (reading s points corners begins) ≡ 0
    → InOrder (filled_points s points corners begins) (filled_corners s points corners begins) (filled_begins s points corners begins)
    → length s ≤ length buffer
    → SameBytes s (filled_points s points corners begins) (filled_corners s points corners begins) (filled_begins s points corners begins) buffer
read-then_written s points corners begins buffer b n o h = taped_written (accepted-taped s points corners begins b n) o buffer h

-- ---- "such tables written in the sheet's layout and read again are the same"

-- the reader answers the tables' counts, and leaves the tables over the beginnings of those lent
pub record SameTables (s : List ℕ) (points : List ℤ) (corners begins : List ℕ) (lentPoints : List ℤ) (lentCorners lentBegins : List ℕ) : Type 0 where
  pub answer : reading s lentPoints lentCorners lentBegins ≡ Ok (counted (vertices points) (facets begins) (length corners))
  pub left_points : points_after s lentPoints lentCorners lentBegins ≡ over points lentPoints
  pub left_corners : corners_after s lentPoints lentCorners lentBegins ≡ over corners lentCorners
  pub left_begins : begins_after s lentPoints lentCorners lentBegins ≡ over begins lentBegins
  pub same_points : filled_points s lentPoints lentCorners lentBegins ≡ points
  pub same_corners : filled_corners s lentPoints lentCorners lentBegins ≡ corners
  pub same_begins : filled_begins s lentPoints lentCorners lentBegins ≡ begins

holds_read : {points : List ℤ} {corners begins : List ℕ} → Holds points corners begins → (lentPoints : List ℤ) (lentCorners lentBegins : List ℕ)
    → no_room (length lentPoints) (length lentCorners) (length lentBegins) ≡ false
    → SameTables (tape points corners begins) points corners begins lentPoints lentCorners lentBegins
holds_read {points} {corners} {begins} h p c b room =
    let s = tape points corners begins in
    let out : reading s p c b ≡ Ok (counted (vertices points) (facets begins) (length corners)) = with_room s p c b room ∙ whole_read (holds_whole h) in
    let last : length begins ≡ facets begins + 1 = omega (arith, h.divided.some) in
    record {
      answer = out;
      left_points = rw (out, points-are h);
      left_corners = rw (out, corners-are h);
      left_begins = rw (out, begins-are h);
      same_points = rw (out, points-are h) (take_over points p (vertices points * 3) h.threes);
      same_corners = rw (out, corners-are h) (take_over corners c (length corners) refl);
      same_begins = rw (out, begins-are h) (take_over begins b (facets begins + 1) last);
    }

pub written-then_read : (points : List ℤ) (corners begins buffer : List ℕ) (lentPoints : List ℤ) (lentCorners lentBegins : List ℕ)
    → InOrder points corners begins → length (tape points corners begins) ≤ length buffer
    → no_room (length lentPoints) (length lentCorners) (length lentBegins) ≡ false
    → SameTables (take (written points corners begins buffer).first (buffer_after points corners begins buffer)) points corners begins
    lentPoints lentCorners lentBegins
written-then_read points corners begins buffer p c b o room lent =
    let h = in_order_holds o in
    rw (taped_written (record { holds = h; same = refl }) o buffer room).same (holds_read h p c b lent)
