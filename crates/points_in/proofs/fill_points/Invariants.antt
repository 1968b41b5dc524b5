-- `points_in::fill_points` meets its contract. Assumes nothing.
use Rattle.std.proofs.Common.{◌+◌, ◌*◌}
use Rattle.tape.specs.Reading.{coords_at}
use Rattle.tape.specs.SoFar.{SoFar}
use Rattle.points_in.proofs.fill_points.Given as goal

abbrev pub invariant-loop-v : goal.invariant-loop-v
invariant-loop-v l = SoFar (λ v'. coords_at l.tape (l.at + 7 * v' + 1)) l.n l.initial.points l.points l.v
