-- The reader's answer is noted. Assumes nothing.
use Rattle.exports.proofs.solid_read_tape.Goals as goal

pub returns : goal.returns
returns c =
    let e = c.read_tape.ensures in
    let t = rw e.answer at c.note_reading.ensures in
    record { number = t.number_is; points = e.points; corners = e.corners; begins = e.begins; out = t.out_is }
