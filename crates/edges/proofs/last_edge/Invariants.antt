-- `edges::last_edge` meets its contract: the search along a chain, at the test that the edge ends at b. Assumes nothing.
use Rattle.edges.specs.Edge.{is_edge}
use Rattle.edges.specs.Along.{Seeking}
use Rattle.edges.proofs.last_edge.Given as goal

abbrev pub invariant-loop-q : goal.invariant-loop-q
invariant-loop-q l = Seeking l.corners l.begins l.index.edges l.index.heads l.a (is_edge l.corners l.begins l.a l.b) l.q

abbrev pub decreases-loop-q : goal.decreases-loop-q
decreases-loop-q l = l.q
