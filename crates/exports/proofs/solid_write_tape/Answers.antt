-- The writer's answer is noted. Assumes nothing.
use Rattle.exports.proofs.solid_write_tape.Goals as goal

pub returns : goal.returns
returns c =
    let e = c.write_tape.ensures in
    let t = rw e.answer at c.note_answer.ensures in
    record { number = t.number_is; buffer = e.buffer; out = t.out_is }
