-- `apart::Flood::spread` meets its contract. The loop's invariant: the facets across the edges before place p were pushed. Assumes nothing.
use Rattle.apart.specs.Flooding.{Visiting}
use Rattle.apart.proofs.Flood.spread.Given as goal

abbrev pub invariant-loop-p : goal.invariant-loop-p
invariant-loop-p l =
    Visiting l.begins l.index.edges l.initial.self.marks l.initial.self.queue l.initial.self.tail l.f l.end l.self.marks l.self.queue l.self.tail l.p
