-- `edges::list` meets its contract. The loop's invariant: the places below p are listed. Assumes nothing.
use Rattle.std.proofs.Common.{refl, arith}
use Rattle.edges.specs.Index.{listing_0, listing_more, next-read}
use Rattle.edges.proofs.list.Goals as goal

pub loop-p-init : goal.loop-p-init
loop-p-init c = listing_0 c.requires.indexable c.requires.fresh

pub bounds-corners-next_in : goal.bounds-corners-next_in
bounds-corners-next_in c =
    next-read c.loop-p.invariant (omega arith) c.home_on-f.ensures c.next_in.ensures

pub loop-p-preserved : goal.loop-p-preserved
loop-p-preserved c =
    rw c.from-v.ensures (listing_more c.loop-p.invariant (omega arith) c.home_on-f.ensures c.next_in.ensures refl)
