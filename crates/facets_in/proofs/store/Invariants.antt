-- `facets_in::store` meets its contract. Assumes nothing.
use Rattle.facets_in.specs.Filling.{TraySoFar}
use Rattle.facets_in.proofs.store.Given as goal

abbrev pub invariant-loop-k : goal.invariant-loop-k
invariant-loop-k l = TraySoFar l.tray l.c l.n l.initial.corners l.corners l.k
