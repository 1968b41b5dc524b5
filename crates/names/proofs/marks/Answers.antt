-- `names::marks` meets its contract. The loop's invariant: the first corners are marked. Assumes nothing.
use Rattle.std.proofs.Common.{arith}
use Rattle.names.specs.Marks.{marks_0, marks_more}
use Rattle.names.proofs.marks.Goals as goal

pub loop-corner-init : goal.loop-corner-init
loop-corner-init c = marks_0 _

pub loop-corner-preserved : goal.loop-corner-preserved
loop-corner-preserved c =
    rw c.from.ensures (marks_more c.loop-corner.invariant (c.requires.index c.loop-corner.corner-index (omega arith)))
