-- What is walked on is what the tape has, and what is refused is its refusal. Assumes nothing.
use Rattle.std.proofs.Common.{◌∙◌, pos, replicate}
use Rattle.reading.specs.Room.{point_room, corner_room, begin_room}
use Rattle.load.specs.Loaded.{of_tables, of_refusal}
use Rattle.walk_tape.specs.Tape.{walked_tape, walked_from, at_nothing}
use Rattle.walk_tape.proofs.walk_tape.Goals as goal

pub returns-in-Ok : goal.returns-in-Ok
unfolding walked_tape
returns-in-Ok c =
    let a = c.args in
    let e = c.load.ensures in
    c.walk.ensures.answer ∙ of_tables a.tape.now (replicate point_room (pos 0)) (replicate corner_room 0) (replicate begin_room 0)
    (e.answer, (e.points, (e.corners, e.begins))) (walked_from a.direction a.start) at_nothing c.in-Ok.is

pub returns-in-Err : goal.returns-in-Err
unfolding walked_tape
returns-in-Err c =
    let a = c.args in
    let e = c.load.ensures in
    c.refused.ensures ∙ of_refusal a.tape.now (replicate point_room (pos 0)) (replicate corner_room 0) (replicate begin_room 0)
    (e.answer, (e.points, (e.corners, e.begins))) (walked_from a.direction a.start) at_nothing c.in-Err.is
