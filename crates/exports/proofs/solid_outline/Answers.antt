-- The outline judge's answer is noted. Assumes nothing.
use Rattle.exports.proofs.solid_outline.Goals as goal

pub returns : goal.returns
returns c =
    let t = rw c.judge_outline.ensures at c.note_verdict.ensures in
    record { number = t.number_is; out = t.out_is }
