-- `points_in::fill_points` meets its contract: the points below v are stored; at the end all of them are. Assumes nothing.
use Rattle.std.proofs.Common.{◌*◌, arith}
use Rattle.tape.specs.Reading.{length-points_at}
use Rattle.tape.specs.SoFar.{so_far_0, so_far_more}
use Rattle.points_in.proofs.fill_points.Goals as goal

pub loop-v-init : goal.loop-v-init
loop-v-init c = so_far_0 _

pub loop-v-preserved : goal.loop-v-preserved
loop-v-preserved c =
    let a = c.args in
    let v = c.loop-v.v in
    so_far_more c.loop-v.invariant (v * 3) (omega arith) c.keep_point.ensures (length-points_at a.tape.now a.at v) (omega arith)
