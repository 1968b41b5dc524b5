-- `pair::first_unpaired` meets its contract: the law of searches over the places of the run, at the test `unpaired`. Assumes nothing.
use Rattle.std.proofs.Common.{sym, ◌∙◌, ◌<◌, arith, length}
use Rattle.whole.specs.First.{yet_lowest, yet_nowhere}
use Rattle.edges.specs.Index.{home_is, home_at-in}
use Rattle.pair.specs.Flat.{flat_hit, flat_none}
use Rattle.pair.specs.Pair.{unpaired}
use Rattle.pair.proofs.first_unpaired.Goals as goal

pub offset_bounds-begins-f : goal.offset_bounds-begins-f
offset_bounds-begins-f c =
    omega (arith, c.home-f.ensures, (home_at-in c.requires {p = c.loop-p.p} (omega arith)).facet, c.requires.tables.laid.most)

pub bounds-begins-f : goal.bounds-begins-f
bounds-begins-f c =
    rw c.home-f.ensures (omega (arith, (home_at-in c.requires {p = c.loop-p.p} (omega arith)).facet))

pub overflow_sub-result : goal.overflow_sub-result
overflow_sub-result c = rw (c.from.ensures, c.home-f.ensures) (home_at-in c.requires {p = c.loop-p.p} (omega arith)).low

pub returns-then-unpaired : goal.returns-then-unpaired
returns-then-unpaired c =
    let a = c.args in
    let below : c.loop-p.p < length a.corners.now = omega arith in
    rw (c.from.ensures, c.home-f.ensures, home_is c.requires below)
    (flat_hit c.requires.tables.laid (unpaired a.corners.now a.begins.now) (yet_lowest c.loop-p.invariant (sym c.unpaired.ensures ∙ c.if-unpaired.true) below))

pub returns : goal.returns
returns c =
    let a = c.args in
    sym (flat_none c.requires.tables.laid (unpaired a.corners.now a.begins.now) (yet_nowhere c.loop-p.invariant (omega arith)))
