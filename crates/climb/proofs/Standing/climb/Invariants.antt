-- `climb::Standing::climb` meets its contract. The loop's invariant is `Climbing`; the measure: the moves that are left to make. Assumes nothing.
use Rattle.std.proofs.Common.{◌-◌}
use Rattle.points.specs.Points.{vertices}
use Rattle.climb.specs.Climb.{Climbing}
use Rattle.climb.proofs.Standing.climb.Given as goal

abbrev pub invariant-loop-next : goal.invariant-loop-next
invariant-loop-next l = Climbing l.points l.corners l.begins l.index.edges l.index.heads l.initial.here l.initial.trail l.trail l.here l.here.moves

abbrev pub decreases-loop-next : goal.decreases-loop-next
decreases-loop-next l = vertices l.points - l.here.moves
