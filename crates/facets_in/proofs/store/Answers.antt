-- The numbers below k are stored. Assumes nothing.
use Rattle.std.proofs.Common.{arith}
use Rattle.facets_in.specs.Filling.{store_0, store_more}
use Rattle.facets_in.proofs.store.Goals as goal

pub loop-k-init : goal.loop-k-init
loop-k-init c = store_0 _ _ _ _

pub loop-k-preserved : goal.loop-k-preserved
loop-k-preserved c = store_more c.loop-k.invariant (omega arith) (omega arith)
