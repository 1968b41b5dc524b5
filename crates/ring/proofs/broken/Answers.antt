-- `ring::broken` meets its contract. The loop's invariant: `Circling`. The measure: links fall. Assumes nothing.
use Rattle.std.proofs.Common.{sym, ◌∙◌, ◌<◌, arith}
use Rattle.index.specs.Entries.{head_at}
use Rattle.ring.specs.Circling.{first_small, circling_0, circling_none, circling_more, circling_back, circling_end, turn_falls}
use Rattle.ring.proofs.broken.Goals as goal

pub returns-then-head-eq0 : goal.returns-then-head-eq0
returns-then-head-eq0 c =
    circling_none c.requires.crossed c.requires.vertex (sym c.head-head.ensures ∙ c.if-head-eq0.true)

-- some edge leaves v
pub back-k-requires : goal.back-k-requires
back-k-requires c =
    let some : 0 < head_at c.args.index.now.heads c.args.v = omega (arith, c.head-head.ensures, c.if-head-eq0.false) in
    rw c.head-head.ensures (first_small c.requires.crossed c.requires.vertex some)

pub loop-k-init : goal.loop-k-init
loop-k-init c =
    let some : 0 < head_at c.args.index.now.heads c.args.v = omega (arith, c.head-head.ensures, c.if-head-eq0.false) in
    rw (c.back-k.ensures, c.head-head.ensures) (circling_0 c.requires.crossed c.requires.vertex some)

pub returns-then-q-p : goal.returns-then-q-p
returns-then-q-p c =
    circling_back c.loop-k.invariant (omega arith) c.round-q.ensures c.if-q-p.true

pub loop-k-smaller : goal.loop-k-smaller
loop-k-smaller c =
    rw c.back-k-in-loop-k.ensures (turn_falls c.loop-k.invariant (omega arith))

pub loop-k-preserved : goal.loop-k-preserved
loop-k-preserved c =
    rw c.back-k-in-loop-k.ensures (circling_more c.loop-k.invariant (omega arith) c.round-q.ensures c.if-q-p.false)

pub returns : goal.returns
returns c = circling_end c.loop-k.invariant (omega arith)
