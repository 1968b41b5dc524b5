-- `climb::highest` meets its contract. The loop's invariant: `best` is the best of the vertex and the ends at links that were passed. Assumes nothing.
use Rattle.climb.specs.Best.{Searching}
use Rattle.climb.proofs.highest.Given as goal

abbrev pub invariant-loop-q : goal.invariant-loop-q
invariant-loop-q l = Searching l.points l.corners l.begins l.index.edges l.index.heads l.here.direction l.initial.best.vertex l.q l.best

-- links fall
abbrev pub decreases-loop-q : goal.decreases-loop-q
decreases-loop-q l = l.q
