-- The records of the points below v are written, whose coordinates the machine reads as they are. Assumes nothing.
use Rattle.std.proofs.Common.{◌≡◌, lit<, ℤ, w16, w32, SFits, to_z, of_z}
use Rattle.tape.specs.Little.{read_back}
use Rattle.tables_out.specs.Records.{point-0, point-more}
use Rattle.tables_out.proofs.put_points.Goals as goal

-- a coordinate, as the machine reads it
read : (z : ℤ) {r : ℤ} → SFits w16 z → r ≡ z → to_z w32 (of_z w32 r) ≡ z
read z h e = rw e (read_back h)

pub loop-v-init : goal.loop-v-init
loop-v-init c = point-0 c.requires

pub loop-v-preserved : goal.loop-v-preserved
loop-v-preserved c =
    let fits = c.loop-v.invariant.asked.placed.fits c.loop-v.v in
    let x = read _ (fits 0 c.loop-v-test.true (lit< tt)) c.coord-x.ensures in
    let y = read _ (fits 1 c.loop-v-test.true (lit< tt)) c.coord-y.ensures in
    let z = read _ (fits 2 c.loop-v-test.true (lit< tt)) c.coord-z.ensures in
    point-more c.loop-v.invariant c.loop-v-test.true (rw (x, y, z) at c.put_point.ensures)
