-- `edges::cross` meets its contract. The loop's invariant: the places below p have their places across. Assumes nothing.
use Rattle.edges.specs.Index.{Crossing}
use Rattle.edges.proofs.cross.Given as goal

abbrev pub invariant-loop-p : goal.invariant-loop-p
invariant-loop-p l = Crossing l.corners l.begins l.index.edges l.index.heads l.p
