-- What `load` answers, and what a program reads of it. Assumes nothing.
use Rattle.std.specs.Prelude.{◌≡◌, refl, List, ℕ, ◌+◌, ◌*◌, ℤ, pos, take, replicate, Result, Ok, Err}
use Rattle.std.proofs.Common.{arith}
use Rattle.std.proofs.lemmas.List.{length-replicate}
use Rattle.whole.specs.Begin.{Begin, is_begin}
use Rattle.whole.specs.Joined.{length-listed}
use Rattle.whole.specs.Over.{take_over, wrote}
use Rattle.reading.specs.Room.{point_room, corner_room, begin_room, Roomy}
use Rattle.reading.specs.declared.Counts.{Counts}
use Rattle.reading.specs.declared.Refused.{Refused}
use Rattle.reading.specs.Answer.{Reading}
use Rattle.tape.specs.Reading.{read_tape, points_at, corners_at, begins_at, length-points_at}
use Rattle.tape.specs.Whole.{read_whole}
use Rattle.reader.specs.Answer.{points_of, corners_of, begins_of}
use Rattle.load.specs.Tape.{of_tape}
use Rattle.load.specs.declared.Loaded.{Loaded}

-- how many entries of each table are the tape's; or the reader's refusal
abbrev pub lengths_of : Counts → Loaded
lengths_of read = record { points = read.vertices * 3; corners = read.corners; begins = read.facets + 1 }

abbrev pub loaded_of : Reading → Result Loaded Refused
loaded_of (Ok read) = Ok (lengths_of read)
loaded_of (Err refused) = Err refused

-- as many entries as are told stand in the tables
pub record HasEntries (r : Loaded) (p : List ℤ) (c b : List ℕ) : Type 0 where
  pub points : Begin r.points p
  pub corners : Begin r.corners c
  pub begins : Begin r.begins b

-- the tables that a program lends
pub blank : Roomy (replicate point_room (pos 0)) (replicate corner_room 0) (replicate begin_room 0)
blank =
    let p = length-replicate {A = ℤ} point_room (pos 0) in
    let c = length-replicate {A = ℕ} corner_room 0 in
    let b = length-replicate {A = ℕ} begin_room 0 in
    record { point_room = omega (arith, p); corner_room = omega (arith, c); begin_room = omega (arith, b) }

module _ (tape : List ℕ) (points : List ℤ) (corners begins : List ℕ) where
  -- the tables as they are left, by what the tape is read as
  abbrev TablesAfter : Reading → List ℤ → List ℕ → List ℕ → Type 0
  TablesAfter read p c b = (p ≡ points_of tape points read) × ((c ≡ corners_of tape corners read) × (b ≡ begins_of tape begins read))

  -- what `load` promises
  abbrev pub Loads : Result Loaded Refused → List ℤ → List ℕ → List ℕ → Type 0
  Loads r p c b = (r ≡ loaded_of (read_tape tape)) × TablesAfter (read_tape tape) p c b

  module _ {r : Result Loaded Refused} {p : List ℤ} {c b : List ℕ} (l : Loads r p c b) where
    pub has_entries : {lengths : Loaded} → r ≡ Ok lengths → Roomy points corners begins → HasEntries lengths p c b
    has_entries {lengths} loaded room = go (read_tape tape) refl l.0 l.1
      where
        go : (read : Reading) → read_tape tape ≡ read → r ≡ loaded_of read → TablesAfter read p c b → HasEntries lengths p c b
        go (Ok read) e q (x, (y, z)) =
            let h : lengths ≡ lengths_of read = cc in
            let w = read_whole e in
            let few-v = w.records.few in
            let few-f = w.records.facets.few in
            let few-c = w.records.facets.short in
            let wp = wrote x (rw length-points_at (omega (arith, few-v, room.point_room))) in
            let wc = wrote y (omega (arith, few-c, room.corner_room)) in
            let wb = wrote z (rw length-listed (omega (arith, few-f, room.begin_room))) in
            rw h (record {
              points = is_begin _ p (omega (arith, few-v, wp.long, room.point_room));
              corners = is_begin _ c (omega (arith, w.corners, few-c, wc.long, room.corner_room));
              begins = is_begin _ b (omega (arith, few-f, wb.long, room.begin_room));
            })
        go (Err refused) e q _ = let z : ◌≡◌ {A = ℕ} 0 1 = cc in absurd (omega arith)

    -- what a program makes of those entries, or of the refusal, is what it makes of the tape
    module _ {A : Type 0} (solid : List ℤ → List ℕ → List ℕ → A) (refusal : ℕ → ℕ → A) where
      pub of_tables : {lengths : Loaded} → r ≡ Ok lengths
          → solid (take lengths.points p) (take lengths.corners c) (take lengths.begins b) ≡ of_tape solid refusal tape (read_tape tape)
      of_tables {lengths} loaded = go (read_tape tape) refl l.0 l.1
        where
          go : (read : Reading) → read_tape tape ≡ read → r ≡ loaded_of read → TablesAfter read p c b
              → solid (take lengths.points p) (take lengths.corners c) (take lengths.begins b) ≡ of_tape solid refusal tape read
          go (Ok read) e q (x, (y, z)) =
              let h : lengths ≡ lengths_of read = cc in
              let v = read.vertices in
              let f = read.facets in
              rw (
                h,
                x,
                y,
                z,
                take_over (points_at tape 0 v) points (v * 3) (length-points_at tape 0 v),
                take_over (corners_at tape (7 * v) f) corners read.corners (read_whole e).corners,
                take_over (begins_at tape (7 * v) (f + 1)) begins (f + 1) (length-listed _ (f + 1)),
              )
          go (Err refused) e q _ = let z : ◌≡◌ {A = ℕ} 0 1 = cc in absurd (omega arith)

      pub of_refusal : {refused : Refused} → r ≡ Err refused → refusal refused.number refused.offset ≡ of_tape solid refusal tape (read_tape tape)
      of_refusal {refused} e = go (read_tape tape) l.0
        where
          go : (read : Reading) → r ≡ loaded_of read → refusal refused.number refused.offset ≡ of_tape solid refusal tape read
          go (Ok read) q = let z : ◌≡◌ {A = ℕ} 0 1 = cc in absurd (omega arith)
          go (Err other) q = let h : refused ≡ other = cc in rw h
