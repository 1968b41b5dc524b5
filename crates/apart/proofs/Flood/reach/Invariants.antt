-- `apart::Flood::reach` meets its contract. The loop's invariant: the queue's first `head` facets were visited. Assumes nothing.
use Rattle.std.proofs.Common.{◌-◌}
use Rattle.tables.specs.Tables.{facets}
use Rattle.apart.specs.Flooding.{Reaching}
use Rattle.apart.proofs.Flood.reach.Given as goal

abbrev pub invariant-loop-head : goal.invariant-loop-head
invariant-loop-head l = Reaching l.corners l.begins l.index.edges l.index.heads l.self.marks l.self.queue l.head l.self.tail

abbrev pub decreases-loop-head : goal.decreases-loop-head
decreases-loop-head l = facets l.begins - l.head
