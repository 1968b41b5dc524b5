-- `apart::Flood::reach` meets its contract. The loop's invariant: the queue's first `head` facets were visited. Assumes nothing.
use Rattle.std.proofs.Common.{arith}
use Rattle.apart.specs.Flooding.{reaching_0, reaching_small, reaching_less, reaching_more, reaching_end}
use Rattle.apart.proofs.Flood.reach.Goals as goal

pub loop-head-init : goal.loop-head-init
loop-head-init c = reaching_0 c.requires.crossed c.requires.unmarked (rw c.requires.empty at c.push.ensures)

pub bounds-self-head : goal.bounds-self-head
bounds-self-head c = reaching_small c.loop-head.invariant (omega arith)

pub offset_bounds-self-head : goal.offset_bounds-self-head
offset_bounds-self-head c = omega (arith, reaching_small c.loop-head.invariant (omega arith))

pub loop-head-smaller : goal.loop-head-smaller
loop-head-smaller c =
    reaching_less c.loop-head.invariant (omega arith)

pub loop-head-preserved : goal.loop-head-preserved
loop-head-preserved c =
    reaching_more c.loop-head.invariant (omega arith) c.from-f.ensures c.spread.ensures

pub returns : goal.returns
returns c = reaching_end c.loop-head.invariant (omega arith)
