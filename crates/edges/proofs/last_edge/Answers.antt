-- `edges::last_edge` meets its contract: the search along a chain, at the test that the edge ends at b. Assumes nothing.
use Rattle.std.proofs.Common.{eq-eqb, ne_eqb, arith, ◌<◌}
use Rattle.edges.specs.Edge.{edge-within, some_place, no_place}
use Rattle.edges.specs.Index.{edge-entry}
use Rattle.edges.specs.Along.{seeking_0, seeking_more, seeking_here, seeking_none, place-below, place-leaves, link_falls}
use Rattle.edges.proofs.last_edge.Goals as goal

pub loop-q-init : goal.loop-q-init
loop-q-init c =
    rw (c.head-q.ensures, c.from.ensures)
    (seeking_0 c.requires.leaving (edge-within c.args.corners.now c.args.begins.now c.args.a c.args.b) c.requires.vertex)

pub returns-then-end-b : goal.returns-then-end-b
returns-then-end-b c =
    let l = c.loop-q in
    let i = l.invariant in
    let h : 0 < l.q = omega arith in
    some_place h (seeking_here i h (rw (edge-entry _ i.leaving (place-below i h) (place-leaves i h), ← c.end.ensures) (eq-eqb _ _ c.if-end-b.true)))

pub loop-q-preserved : goal.loop-q-preserved
loop-q-preserved c =
    let l = c.loop-q in
    let i = l.invariant in
    let h : 0 < l.q = omega arith in
    rw c.back-q.ensures
    (seeking_more i h (rw (edge-entry _ i.leaving (place-below i h) (place-leaves i h), ← c.end.ensures) (ne_eqb _ _ c.if-end-b.false)))

pub loop-q-smaller : goal.loop-q-smaller
loop-q-smaller c = rw c.back-q.ensures (link_falls c.loop-q.invariant (omega arith))

pub returns : goal.returns
returns c = no_place (seeking_none c.loop-q.invariant (omega arith))
