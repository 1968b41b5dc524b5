-- What is judged is what the tape has, and what is refused is its refusal. Assumes nothing.
use Rattle.std.proofs.Common.{◌∙◌, pos, replicate}
use Rattle.answers.specs.Answer.{at_offset}
use Rattle.judge.specs.Judge.{judged}
use Rattle.reading.specs.Room.{point_room, corner_room, begin_room}
use Rattle.load.specs.Loaded.{of_tables, of_refusal}
use Rattle.judge_tape.specs.Tape.{judged_tape}
use Rattle.judge_tape.proofs.judge_tape.Goals as goal

pub returns-in-Ok : goal.returns-in-Ok
unfolding judged_tape
returns-in-Ok c =
    let e = c.load.ensures in
    c.judge.ensures ∙ of_tables c.args.tape.now (replicate point_room (pos 0)) (replicate corner_room 0) (replicate begin_room 0)
    (e.answer, (e.points, (e.corners, e.begins))) judged at_offset c.in-Ok.is

pub returns-in-Err : goal.returns-in-Err
unfolding judged_tape
returns-in-Err c =
    let e = c.load.ensures in
    c.at_offset.ensures ∙ of_refusal c.args.tape.now (replicate point_room (pos 0)) (replicate corner_room 0) (replicate begin_room 0)
    (e.answer, (e.points, (e.corners, e.begins))) judged at_offset c.in-Err.is
