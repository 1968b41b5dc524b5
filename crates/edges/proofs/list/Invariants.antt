-- `edges::list` meets its contract. The loop's invariant: the places below p are listed. Assumes nothing.
use Rattle.edges.specs.Index.{Listing}
use Rattle.edges.proofs.list.Given as goal

abbrev pub invariant-loop-p : goal.invariant-loop-p
invariant-loop-p l = Listing l.corners l.begins l.index.edges l.index.heads l.f l.p
