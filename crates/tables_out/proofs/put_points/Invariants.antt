-- `tables_out::put_points` meets its contract. Assumes nothing.
use Rattle.tables_out.specs.Records.{PointTurn}
use Rattle.tables_out.proofs.put_points.Given as goal

abbrev pub invariant-loop-v : goal.invariant-loop-v
invariant-loop-v l = PointTurn l.points l.initial.buffer l.buffer l.v
