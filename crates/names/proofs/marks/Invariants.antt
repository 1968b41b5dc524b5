-- `names::marks` meets its contract. The loop's invariant: the first corners are marked. Assumes nothing.
use Rattle.names.specs.Marks.{Marks}
use Rattle.names.proofs.marks.Given as goal

abbrev pub invariant-loop-corner : goal.invariant-loop-corner
invariant-loop-corner l = Marks l.corners l.named l.corner-index
