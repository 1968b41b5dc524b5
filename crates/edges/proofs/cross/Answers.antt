-- `edges::cross` meets its contract. The loop's invariant: the places below p have their places across. Assumes nothing.
use Rattle.std.proofs.Common.{arith}
use Rattle.edges.specs.Index.{crossing_end, crossing_fits, crossing_more}
use Rattle.edges.proofs.cross.Goals as goal

pub last_edge-q-requires-clause-vertex : goal.last_edge-q-requires-clause-vertex
last_edge-q-requires-clause-vertex c = crossing_end c.loop-p.invariant (omega arith) c.end-end.ensures

pub overflow_cast-index : goal.overflow_cast-index
overflow_cast-index c =
    omega (arith, crossing_fits c.loop-p.invariant (omega arith) c.end-end.ensures c.last_edge-q.ensures c.unwrap_or.ensures)

pub loop-p-preserved : goal.loop-p-preserved
loop-p-preserved c =
    crossing_more c.loop-p.invariant (omega arith) c.end-end.ensures c.last_edge-q.ensures c.unwrap_or.ensures
