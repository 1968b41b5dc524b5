-- `climb::highest` meets its contract. The loop's invariant: `best` is the best of the vertex and the ends at links that were passed. Assumes nothing.
use Rattle.std.proofs.Common.{rules, arith}
use Rattle.climb.specs.Best.{searching_0, link_falls, end-spot, searching_more}
use Rattle.climb.proofs.highest.Goals as goal

pub at-next-requires : goal.at-next-requires
at-next-requires c = end-spot c.loop-q.invariant (omega arith) (search rules)

pub loop-q-init : goal.loop-q-init
loop-q-init c = rw (c.head-q.ensures, c.from.ensures) (searching_0 c.requires)

pub loop-q-smaller : goal.loop-q-smaller
loop-q-smaller c = rw c.back-q.ensures (link_falls c.loop-q.invariant (omega arith))

pub loop-q-preserved : goal.loop-q-preserved
loop-q-preserved c =
    rw (c.back-q.ensures, c.better-best.ensures, c.at-next.ensures) (searching_more c.loop-q.invariant (omega arith) c.end.ensures)
