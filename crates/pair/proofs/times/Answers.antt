-- `pair::times` meets its contract: the count along a chain, at the test that the edge ends at b. Assumes nothing.
use Rattle.std.proofs.Common.{◌<◌, arith, eqb}
use Rattle.whole.specs.Count.{bit_le}
use Rattle.edges.specs.Edge.{edge-within}
use Rattle.edges.specs.Index.{edge-entry}
use Rattle.edges.specs.Along.{counting_0, counting_more, counting_few, counting_all, counted_below, counted_leaves, counted_falls}
use Rattle.pair.proofs.times.Goals as goal

pub loop-q-init : goal.loop-q-init
loop-q-init c =
    rw (c.head-q.ensures, c.from.ensures)
    (counting_0 c.requires.leaving (edge-within c.args.corners.now c.args.begins.now c.args.a c.args.b) c.requires.vertex)

pub overflow_add-n : goal.overflow_add-n
overflow_add-n c =
    omega (arith, c.from-n.ensures, bit_le (eqb c.end.result c.args.b), counting_few c.loop-q.invariant)

pub loop-q-preserved : goal.loop-q-preserved
loop-q-preserved c =
    let l = c.loop-q in
    let i = l.invariant in
    let h : 0 < l.q = omega arith in
    rw c.back-q.ensures
    (counting_more i h (rw (edge-entry _ i.leaving (counted_below i h) (counted_leaves i h), ← c.end.ensures) c.from-n.ensures))

pub loop-q-smaller : goal.loop-q-smaller
loop-q-smaller c = rw c.back-q.ensures (counted_falls c.loop-q.invariant (omega arith))

pub returns : goal.returns
returns c = counting_all c.loop-q.invariant (omega arith)
