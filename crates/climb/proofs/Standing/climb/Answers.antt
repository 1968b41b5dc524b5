-- `climb::Standing::climb` meets its contract. The loop's invariant is `Climbing`; the measure: the moves that are left to make. Assumes nothing.
use Rattle.std.proofs.Common.{arith}
use Rattle.climb.specs.Climb.{climbing_0, climbing_ready, climbing_room, climbing_few, climbing_more, climbing_end, climbed}
use Rattle.climb.proofs.Standing.climb.Goals as goal

pub loop-next-init : goal.loop-next-init
loop-next-init c = climbing_0 c.requires

pub step-requires : goal.step-requires
step-requires c = climbing_ready c.loop-next.invariant

pub offset_bounds-trail-here : goal.offset_bounds-trail-here
offset_bounds-trail-here c = omega (arith, climbing_few c.loop-next.invariant c.in-Some.ensures)

pub bounds-trail-here : goal.bounds-trail-here
bounds-trail-here c = climbing_room c.loop-next.invariant c.in-Some.ensures

pub loop-next-preserved : goal.loop-next-preserved
loop-next-preserved c = climbing_more c.loop-next.invariant c.in-Some.ensures

pub returns : goal.returns
returns c = climbed _ (climbing_end c.loop-next.invariant c.in_default.ensures)
