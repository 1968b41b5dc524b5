-- `near::is_near` meets its contract: the search along a chain, at the test `leads_out`. Assumes nothing.
use Rattle.std.proofs.Common.{refl, sym, ◌∙◌, arith, ◌<◌, lt-ltb}
use Rattle.edges.specs.Index.{leaves-each}
use Rattle.edges.specs.Along.{seeking_0, seeking_more, seeking_here, seeking_none, place-below, place-leaves, link_falls}
use Rattle.near.specs.Near.{is_near, vertex_small, end_named, out_here, out_within}
use Rattle.near.proofs.is_near.Goals as goal

pub loop-q-init : goal.loop-q-init
loop-q-init c =
    let a = c.args in
    rw (c.head-q.ensures, c.from.ensures)
    (seeking_0 (leaves-each c.requires.neighboured.indexed) (out_within a.points.now a.corners.now a.begins.now a.part.now a.v)
    (vertex_small c.requires.neighboured c.requires.vertex))

pub returns-then-is_outside : goal.returns-then-is_outside
unfolding is_near
returns-then-is_outside c =
    let i = c.loop-q.invariant in
    let h : 0 < c.loop-q.q = omega arith in
    let e = out_here c.requires.neighboured (place-below i h) c.args.part.now (place-leaves i h) (rw c.end.ensures at c.is_outside.ensures) in
    sym (lt-ltb 0 _ (rw (seeking_here i h (e ∙ c.if-is_outside.true)) at h))

pub loop-q-preserved : goal.loop-q-preserved
loop-q-preserved c =
    let i = c.loop-q.invariant in
    let h : 0 < c.loop-q.q = omega arith in
    let e = out_here c.requires.neighboured (place-below i h) c.args.part.now (place-leaves i h) (rw c.end.ensures at c.is_outside.ensures) in
    rw c.back-q.ensures (seeking_more i h (e ∙ c.if-is_outside.false))

pub is_outside-requires : goal.is_outside-requires
is_outside-requires c = (c.requires.facet, rw c.end.ensures (end_named c.requires.neighboured (place-below c.loop-q.invariant (omega arith))))

pub loop-q-smaller : goal.loop-q-smaller
loop-q-smaller c = rw c.back-q.ensures (link_falls c.loop-q.invariant (omega arith))

pub returns : goal.returns
unfolding is_near
returns c = rw (← seeking_none c.loop-q.invariant (omega arith)) refl
