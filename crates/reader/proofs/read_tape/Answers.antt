-- With room, a tape that is read has the records that the filling pass needs. Assumes nothing.
use Rattle.std.proofs.Common.{sym, ◌∙◌, arith}
use Rattle.reading.specs.Room.{roomy}
use Rattle.tape.specs.Whole.{read_whole}
use Rattle.reader.specs.Room.{points-inside, for_points, for_facets}
use Rattle.reader.proofs.read_tape.Goals as goal

pub fill_points-requires : goal.fill_points-requires
fill_points-requires c =
    let a = c.args in
    let room = roomy {points = a.points.now} {corners = a.corners.now} {begins = a.begins.now} (sym c.no_room.ensures ∙ c.if-no_room.false) in
    for_points (read_whole (sym c.decide.ensures ∙ c.in_ok-read.was)) room

pub overflow_mul-read : goal.overflow_mul-read
overflow_mul-read c = omega (arith, points-inside (read_whole (sym c.decide.ensures ∙ c.in_ok-read.was)))

pub fill_facets-requires : goal.fill_facets-requires
fill_facets-requires c =
    let a = c.args in
    let room = roomy {points = a.points.now} {corners = a.corners.now} {begins = a.begins.now} (sym c.no_room.ensures ∙ c.if-no_room.false) in
    for_facets (read_whole (sym c.decide.ensures ∙ c.in_ok-read.was)) room
