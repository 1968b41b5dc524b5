-- Facet after facet, by the tray. Assumes nothing.
use Rattle.std.proofs.Common.{refl, arith}
use Rattle.facets_in.specs.Filling.{filling_0, filling_more, trayed, reads_facet, filled}
use Rattle.facets_in.proofs.fill_facets.Goals as goal

pub loop-f-init : goal.loop-f-init
loop-f-init c = filling_0 c.requires refl

pub gather-requires : goal.gather-requires
gather-requires c = let t = reads_facet c.loop-f.invariant c.loop-f-test.true in (omega arith, omega arith)

pub store-requires : goal.store-requires
store-requires c =
    let t = reads_facet c.loop-f.invariant c.loop-f-test.true in
    let w = trayed c.args.tape.now _ _ c.gather.ensures c.loop-f.invariant.twelve (omega arith) in
    (omega arith, omega arith)

pub loop-f-preserved : goal.loop-f-preserved
loop-f-preserved c =
    let t = reads_facet c.loop-f.invariant c.loop-f-test.true in
    let w = trayed c.args.tape.now _ _ c.gather.ensures c.loop-f.invariant.twelve (omega arith) in
    filling_more c.loop-f.invariant c.loop-f-test.true c.from-sides.ensures w c.store.ensures

pub returns : goal.returns
returns c =
    let both = filled c.loop-f.invariant (omega arith) in
    record { corners = both.0; begins = both.1 }
