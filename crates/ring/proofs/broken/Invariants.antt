-- `ring::broken` meets its contract. The loop's invariant: `Circling`. The measure: links fall. Assumes nothing.
use Rattle.ring.specs.Circling.{Circling}
use Rattle.ring.proofs.broken.Given as goal

abbrev pub invariant-loop-k : goal.invariant-loop-k
invariant-loop-k l = Circling l.corners l.begins l.index.edges l.index.heads l.v l.p l.q l.k

abbrev pub decreases-loop-k : goal.decreases-loop-k
decreases-loop-k l = l.k
