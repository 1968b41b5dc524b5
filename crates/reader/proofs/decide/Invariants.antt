-- `reader::decide` meets its contract: the loop stands at a place of the reading. Assumes nothing.
use Rattle.std.proofs.Common.{◌-◌, length}
use Rattle.tape.specs.Reading.{look_at, read_tape}
use Rattle.reader.specs.Deciding.{Stands}
use Rattle.reader.proofs.decide.Given as goal

abbrev pub invariant-loop-at : goal.invariant-loop-at
invariant-loop-at l = Stands l.tape (look_at l.tape) (read_tape l.tape) l.at l.read.vertices l.read.facets l.read.corners

abbrev pub decreases-loop-at : goal.decreases-loop-at
decreases-loop-at l = length l.tape - l.at
