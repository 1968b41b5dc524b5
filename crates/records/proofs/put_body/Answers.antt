-- The numbers below k are stored. Assumes nothing.
use Rattle.std.proofs.Common.{arith}
use Rattle.records.specs.Records.{body-0, body_more}
use Rattle.records.proofs.put_body.Goals as goal

pub loop-k-init : goal.loop-k-init
loop-k-init c = body-0 _ _

pub loop-k-preserved : goal.loop-k-preserved
loop-k-preserved c = body_more c.loop-k.invariant (omega arith) c.put_unsigned.ensures
