-- The records of the facets below f are written. Assumes nothing.
use Rattle.std.proofs.Common.{arith}
use Rattle.whole.specs.Over.{length-window}
use Rattle.tables_out.specs.Records.{facet-0, facet_more, writes_facet}
use Rattle.tables_out.proofs.put_facets.Goals as goal

pub loop-f-init : goal.loop-f-init
loop-f-init c = facet-0 c.requires

pub slice_bounds-put_facet-count : goal.slice_bounds-put_facet-count
slice_bounds-put_facet-count c = let t = writes_facet c.loop-f.invariant c.loop-f-test.true c.part-part.ensures.is in omega arith

pub slice_bounds-put_facet-start : goal.slice_bounds-put_facet-start
slice_bounds-put_facet-start c = let t = writes_facet c.loop-f.invariant c.loop-f-test.true c.part-part.ensures.is in omega arith

pub put_facet-requires : goal.put_facet-requires
put_facet-requires c =
    let t = writes_facet c.loop-f.invariant c.loop-f-test.true c.part-part.ensures.is in
    rw length-window (omega arith, omega arith)

pub loop-f-preserved : goal.loop-f-preserved
loop-f-preserved c = facet_more c.loop-f.invariant c.loop-f-test.true c.part-part.ensures.is c.put_facet.ensures
