-- `apart::Flood::spread` meets its contract. The loop's invariant: the facets across the edges before place p were pushed. Assumes nothing.
use Rattle.std.proofs.Common.{arith}
use Rattle.apart.specs.Flooding.{visit_small, visit_across, visit_pushing, visiting_more}
use Rattle.apart.proofs.Flood.spread.Goals as goal

pub across-q-requires : goal.across-q-requires
across-q-requires c = visit_small c.loop-p.invariant (omega arith)

pub home-g-requires : goal.home-g-requires
home-g-requires c = visit_across c.loop-p.invariant (omega arith) c.across-q.ensures

pub push-requires : goal.push-requires
push-requires c =
    visit_pushing c.loop-p.invariant (omega arith) c.across-q.ensures c.home-g.ensures

pub loop-p-preserved : goal.loop-p-preserved
loop-p-preserved c =
    visiting_more c.loop-p.invariant (omega arith) c.across-q.ensures c.home-g.ensures c.push.ensures
