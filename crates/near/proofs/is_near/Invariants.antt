-- `near::is_near` meets its contract: the search along a chain, at the test `leads_out`. Assumes nothing.
use Rattle.edges.specs.Along.{Seeking}
use Rattle.near.specs.Near.{leads_out}
use Rattle.near.proofs.is_near.Given as goal

abbrev pub invariant-loop-q : goal.invariant-loop-q
invariant-loop-q l = Seeking l.corners l.begins l.index.edges l.index.heads l.v (leads_out l.points l.corners l.begins l.part l.v) l.q

abbrev pub decreases-loop-q : goal.decreases-loop-q
decreases-loop-q l = l.q
