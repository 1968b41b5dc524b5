-- `pair::first_unpaired` meets its contract: the law of searches over the places of the run, at the test `unpaired`. Assumes nothing.
use Rattle.std.proofs.Common.{length}
use Rattle.whole.specs.First.{NoneYet}
use Rattle.pair.specs.Pair.{unpaired}
use Rattle.pair.proofs.first_unpaired.Given as goal

abbrev pub invariant-loop-p : goal.invariant-loop-p
invariant-loop-p l = NoneYet (unpaired l.corners l.begins) (length l.corners) l.p
