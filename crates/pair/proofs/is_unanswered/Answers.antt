-- `pair::is_unanswered` meets its contract. Assumes nothing.
use Rattle.std.proofs.Common.{◌<◌, length, arith}
use Rattle.std.proofs.lemmas.Bool.Decides.{nat_tests}
use Rattle.edges.specs.Index.{across_at-below, small}
use Rattle.pair.specs.Answered.{unlike-entry}
use Rattle.pair.proofs.is_unanswered.Goals as goal

pub across-requires : goal.across-requires
across-requires c =
    rw c.across-q.ensures (small c.requires.indexed (across_at-below c.requires.indexed c.requires.place))

pub bounds-corners-q : goal.bounds-corners-q
bounds-corners-q c = rw c.across-q.ensures (across_at-below c.requires.indexed c.requires.place)

pub offset_bounds-corners-q : goal.offset_bounds-corners-q
offset_bounds-corners-q c =
    let below : c.across-q.result < length c.args.corners.now = rw c.across-q.ensures (across_at-below c.requires.indexed c.requires.place) in
    omega arith

pub end-requires-else-corners-q : goal.end-requires-else-corners-q
end-requires-else-corners-q c =
    rw c.across-q.ensures (small c.requires.indexed (across_at-below c.requires.indexed c.requires.place))

pub returns-then-corners-q : goal.returns-then-corners-q
returns-then-corners-q c =
    let e = unlike-entry c.requires.indexed c.requires.place c.across-q.ensures in
    grind (arith, nat_tests)

pub returns-else-corners-q : goal.returns-else-corners-q
returns-else-corners-q c =
    let e = unlike-entry c.requires.indexed c.requires.place c.across-q.ensures in
    grind (arith, nat_tests)
