-- The walk's answer is noted. Assumes nothing.
use Rattle.std.proofs.Common.{to_z-of_z}
use Rattle.exports.proofs.solid_walk.Goals as goal

pub returns : goal.returns
returns c =
    let d = rw (to_z-of_z c.ranges.dx, to_z-of_z c.ranges.dy, to_z-of_z c.ranges.dz) at c.new-direction.ensures in
    let e = rw d at c.walk.ensures in
    let t = rw e.answer at c.note_walked.ensures in
    record { number = t.number_is; trail = e.trail; out = t.out_is }
