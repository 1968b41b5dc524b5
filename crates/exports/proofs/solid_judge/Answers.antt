-- The judge's answer is noted. Assumes nothing.
use Rattle.exports.proofs.solid_judge.Goals as goal

pub returns : goal.returns
returns c =
    let t = rw c.judge.ensures at c.note_answer.ensures in
    record { number = t.number_is; out = t.out_is }
